-- Laws of the orders: a place is one of the B × M, it has one block and one coefficient, what is laid in an order is found there again, and reordering there and back is the identity.
use Rattle.std.specs.Prelude.{◌≡◌, ◌≢◌, ◌⊎◌, Bool, true, false, leb, ltb, take, drop, set, replicate, pos, nat_abs}
use Rattle.std.proofs.Math.Path.{refl, sym, ap, ap₂}
use Rattle.std.proofs.Common.{◌∙◌, inl, inr, le_refl, mod-eq_of_lt, leb→le, length-set, length-append, length-drop, length-take-le, take_at, get_or-append-add, get_or-take, get_or-drop, get_or-set_same, get_or-set_other, le-leb, lt-ltb, le-ltb}
use Rattle.std.proofs.Math.Bool.{cond}
use mathlib.Core.List.{List, ◌++◌}
use Prim.Native.Nat.{ℕ, ◌+◌, ◌-◌, ◌*◌, ◌/◌, ◌%◌, ◌≤◌, ◌<◌}
use Rattle.std.proofs.Math.Nat.{mul_comm, mul-add-div_right, div-eq_of_lt, mul-add-mod_self_right}
use native.Mathlib.Omega.{arith}
use Rattle.std.proofs.Math.Decide.{ℕ_discrete, dec_lt}
use Rattle.std.proofs.Math.Dec.{ltb→lt}
use Rattle.std.proofs.Math.ListN.{length, get_or-append}
use Rattle.std.proofs.lemmas.List.{length-replicate}
use Rattle.std.proofs.Math.Seq.{ext_get_or}
use Rattle.std.proofs.lemmas.Bool.{lt-leb}
use Rattle.std.proofs.Math.IntN.{ℤ}
use Rattle.arithmetic.specs.Lists.{at, table, Small, joined}
use Rattle.arithmetic.specs.ListLaws as L
use Rattle.arithmetic.specs.ListLaws.{length-table, get_d_table, table_ext, table_at, part_length}
use Rattle.arithmetic.specs.TestLaws.{both_left, both_right, is_T}
use Rattle.arithmetic.specs.JoinLaws.{Place, place_of, within, joined_length, joined_at}
use Rattle.orders.specs.declared.Order.{Order}
use Rattle.orders.specs.declared.Order.TheVariants.{ByBlock, ByFrequency}
use Rattle.orders.specs.Orders.{place, block_at, coefficient_at, part, laid, among, tiled, other, reordered}

clash : {A : Type 0} → true ≡ false → A
clash e = let z : ◌≡◌ {A = ℕ} 0 1 = cc in absurd (omega arith)

-- ---- count blocks from the first on
among_yes : (first count b : ℕ) → first ≤ b → b < first + count → among first count b ≡ true
unfolding among
among_yes first count b p q = rw (le-leb first b p, lt-ltb b (first + count) q)

among_below : (first count b : ℕ) → b < first → among first count b ≡ false
unfolding among
among_below first count b p = rw (lt-leb first b p)

among_above : (first count b : ℕ) → first + count ≤ b → among first count b ≡ false
unfolding among
among_above first count b p = rw (le-leb first b (omega arith), le-ltb b (first + count) p)

among-other : (b c : ℕ) → c ≢ b → among b 1 c ≡ false
among-other b c n = go (dec_lt c b)
  where
    go : Dec (c < b) → among b 1 c ≡ false
    go (yes p) = among_below b 1 c p
    go (no p) = among_above b 1 c (omega (arith, n, p))

-- ---- a list with a part of it written over
module _ (out : List ℤ) (p : ℕ) (ys : List ℤ) (c : ℕ) (same : length ys ≡ c) (fits : p + c ≤ length out) where
  abbrev spliced : List ℤ
  spliced = take p out ++ (ys ++ drop c (drop p out))

  front : length (take p out) ≡ p
  front = length-take-le p out (omega arith)

  splice_long : length spliced ≡ length out
  splice_long = length-append (take p out) (ys ++ drop c (drop p out)) ∙ omega (arith, front, length-append ys (drop c (drop p out)), same, length-drop c (drop p out), length-drop p out)

  splice_in : (i : ℕ) → i < length ys → at spliced (p + i) ≡ at ys i
  splice_in i l = rw front at (get_or-append-add (take p out) (ys ++ drop c (drop p out)) i (pos 0)) ∙ get_or-append ys (drop c (drop p out)) (pos 0) i l

  splice_out : (i : ℕ) → (i < p) ⊎ (p + c ≤ i) → at spliced i ≡ at out i
  splice_out i (inl l) = get_or-append (take p out) (ys ++ drop c (drop p out)) (pos 0) i (omega (arith, front, l)) ∙ get_or-take p out i (pos 0) l
  splice_out i (inr l) =
      let r = i - p - c in
      let e : i ≡ p + (c + r) = omega (arith, l) in
      ap (at spliced) e
      ∙ rw front at (get_or-append-add (take p out) (ys ++ drop c (drop p out)) (c + r) (pos 0))
      ∙ rw same at (get_or-append-add ys (drop c (drop p out)) r (pos 0))
      ∙ get_or-drop c (drop p out) r (pos 0)
      ∙ get_or-drop p out (c + r) (pos 0)
      ∙ ap (at out) (sym e)

-- ---- rows of m: place r × m + c is in row r and column c
module _ (m r c : ℕ) (h : c < m) where
  row_is : (r * m + c) / m ≡ r
  row_is = mul-add-div_right {m = m} (omega arith) r c ∙ omega (arith, div-eq_of_lt h)

  column_is : (r * m + c) % m ≡ c
  column_is = mul-add-mod_self_right r m c ∙ mod-eq_of_lt h

  -- within R rows
  inside : (R : ℕ) → r < R → r * m + c < R * m
  inside R q = omega (arith, within r R m q)

module _ (M B : ℕ) where
  -- ---- the place of a coefficient, and what lies at a place
  module _ (b k : ℕ) (p : b < B) (q : k < M) where
    pub place-less : (order : Order) → place order M B b k < B * M
    unfolding place
    place-less ByBlock = inside M b k q B p
    place-less ByFrequency = omega (arith, inside B k b p M q, mul_comm M B)

    pub block_is : (order : Order) → block_at order M B (place order M B b k) ≡ b
    unfolding place block_at
    block_is ByBlock = row_is M b k q
    block_is ByFrequency = column_is B k b p

    pub coefficient_is : (order : Order) → coefficient_at order M B (place order M B b k) ≡ k
    unfolding place coefficient_at
    coefficient_is ByBlock = column_is M b k q
    coefficient_is ByFrequency = row_is B k b p

  -- one of the B × M
  module _ (i : ℕ) (h : i < B * M) where
    rows : 0 < M → Place M B i
    rows s = place_of M B i s h

    bands : 0 < B → Place B M i
    bands s = place_of B M i s (omega (arith, h, mul_comm M B))

    some-M : 0 < M
    some-M = go (ℕ_discrete M 0)
      where
        go : Dec (M ≡ 0) → 0 < M
        go (yes z) = absurd (omega (arith, h, ap (λ (m : ℕ). B * m) z))
        go (no n) = omega (arith, n)

    some-B : 0 < B
    some-B = go (ℕ_discrete B 0)
      where
        go : Dec (B ≡ 0) → 0 < B
        go (yes z) = absurd (omega (arith, h, ap (λ (m : ℕ). m * M) z))
        go (no n) = omega (arith, n)

    pub block-less : (order : Order) → block_at order M B i < B
    unfolding block_at
    block-less ByBlock = (rows some-M).before
    block-less ByFrequency = (bands some-B).less

    pub coefficient_less : (order : Order) → coefficient_at order M B i < M
    unfolding coefficient_at
    coefficient_less ByBlock = (rows some-M).less
    coefficient_less ByFrequency = (bands some-B).before

    pub place_is : (order : Order) → place order M B (block_at order M B i) (coefficient_at order M B i) ≡ i
    unfolding place block_at coefficient_at
    place_is ByBlock = (rows some-M).is
    place_is ByFrequency = (bands some-B).is

  -- ---- what is laid is found again, block by block ..
  pub laid_long : (order : Order) (f : ℕ → List ℤ) → length (laid order M B f) ≡ B * M
  unfolding laid
  laid_long order f = length-table (λ i. at (f (block_at order M B i)) (coefficient_at order M B i)) (B * M)

  pub laid-at : (order : Order) (f : ℕ → List ℤ) (b k : ℕ) → b < B → k < M → at (laid order M B f) (place order M B b k) ≡ at (f b) k
  unfolding laid
  laid-at order f b k p q =
      get_d_table (λ i. at (f (block_at order M B i)) (coefficient_at order M B i)) (pos 0) (B * M) (place order M B b k) (place-less b k p q order)
      ∙ ap₂ (λ (c j : ℕ). at (f c) j) (block_is b k p q order) (coefficient_is b k p q order)

  pub part_long : (order : Order) (X : List ℤ) (b : ℕ) → length (part order M B X b) ≡ M
  unfolding part
  part_long order X b = length-table (λ k. at X (place order M B b k)) M

  pub part_at : (order : Order) (X : List ℤ) (b k : ℕ) → k < M → at (part order M B X b) k ≡ at X (place order M B b k)
  unfolding part
  part_at order X b k q = get_d_table (λ k. at X (place order M B b k)) (pos 0) M k q

  pub part_small : (order : Order) (X : List ℤ) → length X ≡ B * M → (bound : ℕ) → Small X bound → (b : ℕ) → b < B → Small (part order M B X b) bound
  part_small order X l bound r b p = record { small = λ k h. each k (omega (arith, h, part_long order X b)) }
    where
      each : (k : ℕ) → k < M → nat_abs (at (part order M B X b) k) ≤ bound
      each k q = rw (part_at order X b k q) (r.small (place order M B b k) (omega (arith, place-less b k p q order, l)))

  pub part-laid : (order : Order) (f : ℕ → List ℤ) (b : ℕ) → b < B → length (f b) ≡ M → part order M B (laid order M B f) b ≡ f b
  unfolding part
  part-laid order f b p l = table_ext M (λ k. at (laid order M B f) (place order M B b k)) (at (f b)) (λ k q. laid-at order f b k p q) ∙ table_at (f b) M l

  -- .. and so is every coefficient of a recording, laid from its blocks
  pub laid-part : (order : Order) (X : List ℤ) → length X ≡ B * M → laid order M B (part order M B X) ≡ X
  unfolding laid
  laid-part order X l =
      table_ext (B * M) (λ i. at (part order M B X (block_at order M B i)) (coefficient_at order M B i)) (at X)
      (λ i h. part_at order X (block_at order M B i) (coefficient_at order M B i) (coefficient_less i h order) ∙ ap (at X) (place_is i h order))
      ∙ table_at X (B * M) l

  -- blocks alike are laid alike
  pub laid_ext : (order : Order) (f g : ℕ → List ℤ) → ((b : ℕ) → b < B → f b ≡ g b) → laid order M B f ≡ laid order M B g
  unfolding laid
  laid_ext order f g e =
      table_ext (B * M) (λ i. at (f (block_at order M B i)) (coefficient_at order M B i)) (λ i. at (g (block_at order M B i)) (coefficient_at order M B i))
      (λ i h. ap (λ (x : List ℤ). at x (coefficient_at order M B i)) (e (block_at order M B i) (block-less i h order)))

  -- ---- reordered: the same blocks in the other order, and there and back the same list
  other-other : (order : Order) → other (other order) ≡ order
  unfolding other
  other-other ByBlock = refl
  other-other ByFrequency = refl

  pub reordered-part : (to : Order) (X : List ℤ) (b : ℕ) → b < B → part to M B (reordered to M B X) b ≡ part (other to) M B X b
  unfolding reordered
  reordered-part to X b p = part-laid to (part (other to) M B X) b p (part_long (other to) X b)

  pub there_and_back : (to : Order) (X : List ℤ) → length X ≡ B * M → reordered (other to) M B (reordered to M B X) ≡ X
  unfolding reordered
  there_and_back to X l =
      ap (λ (o : Order). laid (other to) M B (part o M B (laid to M B (part (other to) M B X)))) (other-other to)
      ∙ laid_ext (other to) (part to M B (laid to M B (part (other to) M B X))) (part (other to) M B X) (λ b p. part-laid to (part (other to) M B X) b p (part_long (other to) X b))
      ∙ laid-part (other to) X l

  -- ---- by block: the lists one after the other, and a part of the list
  pub laid-joined : (f : ℕ → List ℤ) → ((b : ℕ) → b < B → length (f b) ≡ M) → laid ByBlock M B f ≡ joined B f
  unfolding laid block_at coefficient_at
  laid-joined f l =
      table_ext (B * M) (λ i. at (f (block_at ByBlock M B i)) (coefficient_at ByBlock M B i)) (at (joined B f))
      (λ i h.
      let o = rows i h (some-M i h) in
      sym (joined_at f M B l (pos 0) B (i / M) (i % M) (le_refl B) o.before o.less) ∙ ap (at (joined B f)) o.is)
      ∙ table_at (joined B f) (B * M) (joined_length f M B l B (le_refl B))

  pub part_of : (X : List ℤ) → length X ≡ B * M → (b : ℕ) → b < B → part ByBlock M B X b ≡ take M (drop (b * M) X)
  unfolding part place
  part_of X l b p =
      let r = within b B M p in
      table_ext M (λ k. at X (b * M + k)) (at (take M (drop (b * M) X))) (λ k q. sym (L.part_at X (b * M) M M refl (omega (arith, l, r)) k q))
      ∙ table_at (take M (drop (b * M) X)) M (part_length X (b * M) M M refl (omega (arith, l, r)))

  -- ---- a block's coefficients, as the code reads them: by block in place ..
  module _ (X : List ℤ) (l : length X ≡ B * M) (b : ℕ) (p : b < B) where
    pub covered : b * M + M ≤ length X
    covered = omega (arith, within b B M p, l)

    pub lent-part : take (b * M + M - b * M) (drop (b * M) X) ≡ part ByBlock M B X b
    lent-part = let e : b * M + M - b * M ≡ M = omega arith in ap (λ (k : ℕ). take k (drop (b * M) X)) e ∙ sym (part_of X l b p)

  -- .. and by frequency gathered in the front of a room
  module _ (order : Order) (X : List ℤ) (b : ℕ) (small : M ≤ 108) (room : List ℤ) (e : room ≡ part order M B X b ++ replicate (108 - M) (pos 0)) where
    pub front_part : take M room ≡ part order M B X b
    front_part = ap (take M) e ∙ take_at (part order M B X b) (replicate (108 - M) (pos 0)) M (part_long order X b)

    pub room_long : length room ≡ 108
    room_long = ap length e ∙ length-append (part order M B X b) (replicate (108 - M) (pos 0)) ∙ omega (arith, part_long order X b, length-replicate (108 - M) (pos 0), small)

  -- ---- a block put in its places
  module _ (order : Order) (b : ℕ) (block out₀ : List ℤ) where
    -- the first k of its coefficients are there, and nothing else has moved
    pub record Put (k : ℕ) (out : List ℤ) : Type 0 where
      pub long : length out ≡ length out₀
      pub there : (j : ℕ) → j < k → at out (place order M B b j) ≡ at block j
      pub kept : (i : ℕ) → i < B * M → ¬ ((block_at order M B i ≡ b) × (coefficient_at order M B i < k)) → at out i ≡ at out₀ i

    pub put_none : Put 0 out₀
    put_none = record { long = refl; there = λ j p. absurd (omega (arith, p)); kept = λ i h n. refl }

    module _ (p : b < B) (room : length out₀ ≡ B * M) where
      pub put_more : (k : ℕ) (out : List ℤ) (v : ℤ) → k < M → Put k out → v ≡ at block k → Put (k + 1) (set out (place order M B b k) v)
      put_more k out v q o e =
          record {
            long = length-set out here v ∙ o.long;
            there = λ j l. there j l (ℕ_discrete j k);
            kept = λ i h n. kept i h n (ℕ_discrete i here);
          }
        where
          here : ℕ
          here = place order M B b k

          less : here < length out
          less = omega (arith, place-less b k p q order, o.long, room)

          -- no two coefficients have one place
          apart : (j : ℕ) → j < M → place order M B b j ≡ here → j ≡ k
          apart j l z = sym (coefficient_is b j p l order) ∙ ap (coefficient_at order M B) z ∙ coefficient_is b k p q order

          there : (j : ℕ) → j < k + 1 → Dec (j ≡ k) → at (set out (place order M B b k) v) (place order M B b j) ≡ at block j
          there j l (yes z) = ap (λ (t : ℕ). at (set out here v) (place order M B b t)) z ∙ get_or-set_same out here v (pos 0) less ∙ e ∙ ap (at block) (sym z)
          there j l (no n) = get_or-set_other out here (place order M B b j) v (pos 0) (λ z. n (apart j (omega arith) z)) ∙ o.there j (omega (arith, n))

          kept : (i : ℕ) → i < B * M → ¬ ((block_at order M B i ≡ b) × (coefficient_at order M B i < k + 1)) → Dec (i ≡ place order M B b k) → at (set out (place order M B b k) v) i ≡ at out₀ i
          kept i h n (yes z) = absurd (n (ap (block_at order M B) z ∙ block_is b k p q order, omega (arith, ap (coefficient_at order M B) z ∙ coefficient_is b k p q order)))
          kept i h n (no m) = get_or-set_other out here i v (pos 0) m ∙ o.kept i h (λ t. n (t.0, omega (arith, t.1)))

      pub put_all : (out : List ℤ) → Put M out → out ≡ tiled order M B b 1 block out₀
      unfolding tiled
      put_all out o = ext_get_or (pos 0) out (tiled order M B b 1 block out₀) (o.long ∙ room ∙ sym (length-table entry (B * M))) (λ i h. each i (omega (arith, h, o.long, room)) (ℕ_discrete (block_at order M B i) b))
        where
          entry : ℕ → ℤ
          entry i = cond (among b 1 (block_at order M B i)) (at block ((block_at order M B i - b) * M + coefficient_at order M B i)) (at out₀ i)

          each : (i : ℕ) → i < B * M → Dec (block_at order M B i ≡ b) → at out i ≡ at (tiled order M B b 1 block out₀) i
          each i h (yes z) =
              let k = coefficient_at order M B i in
              let is : place order M B b k ≡ i = ap (λ (c : ℕ). place order M B c k) (sym z) ∙ place_is i h order in
              let d : block_at order M B i - b ≡ 0 = omega (arith, z) in
              let e : (block_at order M B i - b) * M + k ≡ k = ap (λ (t : ℕ). t * M + k) d ∙ omega arith in
              ap (at out) (sym is) ∙ o.there k (coefficient_less i h order) ∙ sym (get_d_table entry (pos 0) (B * M) i h ∙ rw (among_yes b 1 (block_at order M B i) (omega (arith, z)) (omega (arith, z)), e))
          each i h (no n) = o.kept i h (λ t. n t.0) ∙ sym (get_d_table entry (pos 0) (B * M) i h ∙ rw (among-other b (block_at order M B i) n))

  -- ---- a tile put in its places by frequency, band after band
  module _ (first count : ℕ) (tile out₀ : List ℤ) where
    -- the bands before k are there, and nothing else has moved
    pub record Banded (k : ℕ) (out : List ℤ) : Type 0 where
      pub long : length out ≡ B * M
      pub there : (j h : ℕ) → j < count → h < k → at out (place ByFrequency M B (first + j) h) ≡ at tile (j * M + h)
      pub kept : (b h : ℕ) → b < B → h < M → (h < k → among first count b ≡ false) → at out (place ByFrequency M B b h) ≡ at out₀ (place ByFrequency M B b h)

    pub banded_none : length out₀ ≡ B * M → Banded 0 out₀
    banded_none l = record { long = l; there = λ j h p q. absurd (omega (arith, q)); kept = λ b h p q n. refl }

    among_no : (b : ℕ) → among first count b ≡ false → ¬ ((first ≤ b) × (b < first + count))
    among_no b e p = clash (sym (among_yes first count b p.0 p.1) ∙ e)

    among-is : (b : ℕ) → among first count b ≡ true → (first ≤ b) × (b < first + count)
    unfolding among
    among-is b e = let t = is_T e in (leb→le first b (both_left (leb first b) (ltb b (first + count)) t), ltb→lt b (first + count) (both_right (leb first b) (ltb b (first + count)) t))

    module _ (fits : first + count ≤ B) where
      pub banded_more : (k : ℕ) (out ys : List ℤ) (c : ℕ) → k < M → c ≡ count → Banded k out → ys ≡ table count (λ j. at tile (j * M + k)) →
          Banded (k + 1) (take (k * B + first) out ++ (ys ++ drop c (drop (k * B + first) out)))
      unfolding place
      banded_more k out ys c q e o is =
          record {
            long = splice_long out (k * B + first) ys c (omega (arith, ys_long, e)) inside ∙ o.long;
            there = λ j h l r. there j h l r (ℕ_discrete h k);
            kept = λ b h l r n. kept b h l r n (ℕ_discrete h k);
          }
        where
          ys_long : length ys ≡ count
          ys_long = ap length is ∙ length-table (λ j. at tile (j * M + k)) count

          inside : k * B + first + c ≤ length out
          inside = omega (arith, o.long, within k M B q, mul_comm M B, e, fits)

          there : (j h : ℕ) → j < count → h < k + 1 → Dec (h ≡ k) → at (take (k * B + first) out ++ (ys ++ drop c (drop (k * B + first) out))) (h * B + (first + j)) ≡ at tile (j * M + h)
          there j h l r (yes z) =
              let p : h * B + (first + j) ≡ k * B + first + j = omega (arith, ap (λ (t : ℕ). t * B) z) in
              ap (at (take (k * B + first) out ++ (ys ++ drop c (drop (k * B + first) out)))) p
              ∙ splice_in out (k * B + first) ys c (omega (arith, ys_long, e)) inside j (omega (arith, ys_long, l))
              ∙ ap (λ (t : List ℤ). at t j) is
              ∙ get_d_table (λ j. at tile (j * M + k)) (pos 0) count j l
              ∙ ap (λ (t : ℕ). at tile (j * M + t)) (sym z)
          there j h l r (no n) =
              splice_out out (k * B + first) ys c (omega (arith, ys_long, e)) inside (h * B + (first + j)) (inl (omega (arith, within h k B (omega (arith, r, n)), l, fits)))
              ∙ o.there j h l (omega (arith, r, n))

          kept : (b h : ℕ) → b < B → h < M → (h < k + 1 → among first count b ≡ false) → Dec (h ≡ k) →
              at (take (k * B + first) out ++ (ys ++ drop c (drop (k * B + first) out))) (h * B + b) ≡ at out₀ (h * B + b)
          kept b h l r n (yes z) =
              let f = among_no b (n (omega arith)) in
              splice_out out (k * B + first) ys c (omega (arith, ys_long, e)) inside (h * B + b) (beside f (dec_lt b first))
              ∙ o.kept b h l r (λ p. absurd (omega (arith, p, z)))
            where
              beside : ¬ ((first ≤ b) × (b < first + count)) → Dec (b < first) → (h * B + b < k * B + first) ⊎ (k * B + first + c ≤ h * B + b)
              beside f (yes p) = inl (omega (arith, p, ap (λ (t : ℕ). t * B) z))
              beside f (no p) = go (dec_lt b (first + count))
                where
                  go : Dec (b < first + count) → (h * B + b < k * B + first) ⊎ (k * B + first + c ≤ h * B + b)
                  go (yes u) = absurd (f (omega (arith, p), u))
                  go (no u) = inr (omega (arith, u, e, ap (λ (t : ℕ). t * B) z))
          kept b h l r n (no m) =
              splice_out out (k * B + first) ys c (omega (arith, ys_long, e)) inside (h * B + b) (apart (dec_lt h k))
              ∙ o.kept b h l r (λ p. n (omega (arith, p)))
            where
              apart : Dec (h < k) → (h * B + b < k * B + first) ⊎ (k * B + first + c ≤ h * B + b)
              apart (yes p) = inl (omega (arith, within h k B p, l))
              apart (no p) = inr (omega (arith, within k h B (omega (arith, p, m)), fits, e))

      pub banded_all : (out : List ℤ) → Banded M out → out ≡ tiled ByFrequency M B first count tile out₀
      unfolding tiled
      banded_all out o =
          ext_get_or (pos 0) out (tiled ByFrequency M B first count tile out₀) (o.long ∙ sym (length-table entry (B * M))) (λ i h. each i (omega (arith, h, o.long)))
        where
          entry : ℕ → ℤ
          entry i = cond (among first count (block_at ByFrequency M B i)) (at tile ((block_at ByFrequency M B i - first) * M + coefficient_at ByFrequency M B i)) (at out₀ i)

          each : (i : ℕ) → i < B * M → at out i ≡ at (tiled ByFrequency M B first count tile out₀) i
          each i h = go (among first count (block_at ByFrequency M B i)) refl ∙ sym (get_d_table entry (pos 0) (B * M) i h)
            where
              b : ℕ
              b = block_at ByFrequency M B i

              k : ℕ
              k = coefficient_at ByFrequency M B i

              go : (t : Bool) → among first count (block_at ByFrequency M B i) ≡ t → at out i ≡ entry i
              go true e =
                  let m = among-is b e in
                  let j = b - first in
                  let is : first + j ≡ b = omega (arith, m.0) in
                  ap (at out) (sym (place_is i h ByFrequency) ∙ ap (λ (c : ℕ). place ByFrequency M B c k) (sym is))
                  ∙ o.there j k (omega (arith, m.1, m.0)) (coefficient_less i h ByFrequency)
                  ∙ sym (rw e)
              go false e =
                  ap (at out) (sym (place_is i h ByFrequency))
                  ∙ o.kept b k (block-less i h ByFrequency) (coefficient_less i h ByFrequency) (λ p. e)
                  ∙ ap (at out₀) (place_is i h ByFrequency)
                  ∙ sym (rw e)

  -- ---- block after block put in their places: the first b of them are there
  module _ (order : Order) (f : ℕ → List ℤ) where
    pub record Laid (b : ℕ) (out : List ℤ) : Type 0 where
      pub long : length out ≡ B * M
      pub there : (c k : ℕ) → c < b → k < M → at out (place order M B c k) ≡ at (f c) k

    pub laid_none : (out : List ℤ) → length out ≡ B * M → Laid 0 out
    laid_none out l = record { long = l; there = λ c k p. absurd (omega (arith, p)) }

    -- .. and with them a tile of those that follow
    pub laid_tile : (b count : ℕ) (out : List ℤ) → b + count ≤ B → ((c : ℕ) → c < B → length (f c) ≡ M) → Laid b out → Laid (b + count) (tiled order M B b count (joined count (λ j. f (b + j))) out)
    unfolding tiled
    laid_tile b count out p l o = record { long = length-table entry (B * M); there = λ c k q r. there c k q r (dec_lt c b) }
      where
        entry : ℕ → ℤ
        entry i = cond (among b count (block_at order M B i)) (at (joined count (λ j. f (b + j))) ((block_at order M B i - b) * M + coefficient_at order M B i)) (at out i)

        found : (c k : ℕ) → c < B → k < M →
            at (tiled order M B b count (joined count (λ j. f (b + j))) out) (place order M B c k) ≡ cond (among b count c) (at (joined count (λ j. f (b + j))) ((c - b) * M + k)) (at out (place order M B c k))
        found c k q r = get_d_table entry (pos 0) (B * M) (place order M B c k) (place-less c k q r order) ∙ rw (block_is c k q r order, coefficient_is c k q r order)

        there : (c k : ℕ) → c < b + count → k < M → Dec (c < b) → at (tiled order M B b count (joined count (λ j. f (b + j))) out) (place order M B c k) ≡ at (f c) k
        there c k q r (yes u) = found c k (omega (arith, q, p)) r ∙ rw (among_below b count c u) (o.there c k u r)
        there c k q r (no u) =
            let e : b + (c - b) ≡ c = omega (arith, u) in
            found c k (omega (arith, q, p)) r
            ∙ rw (among_yes b count c (omega (arith, u)) q) (joined_at (λ j. f (b + j)) M count (λ j w. l (b + j) (omega (arith, w, p))) (pos 0) count (c - b) k (le_refl count) (omega (arith, q, u)) r ∙ ap (λ (d : ℕ). at (f d) k) e)

    pub laid_more : (b : ℕ) (out : List ℤ) → b < B → ((c : ℕ) → c < B → length (f c) ≡ M) → Laid b out → Laid (b + 1) (tiled order M B b 1 (f b) out)
    unfolding joined
    laid_more b out p l o = let e : b + 0 ≡ b = omega arith in rw e at (laid_tile b 1 out (omega arith) l o)

    pub laid-all : (out : List ℤ) → Laid B out → out ≡ laid order M B f
    laid-all out o = ext_get_or (pos 0) out (laid order M B f) (o.long ∙ sym (laid_long order f)) (λ i h. each i (omega (arith, h, o.long)))
      where
        each : (i : ℕ) → i < B * M → at out i ≡ at (laid order M B f) i
        each i h =
            let b = block_at order M B i in
            let k = coefficient_at order M B i in
            let p = block-less i h order in
            let q = coefficient_less i h order in
            ap (at out) (sym (place_is i h order)) ∙ o.there b k p q ∙ sym (laid-at order f b k p q) ∙ ap (at (laid order M B f)) (place_is i h order)
