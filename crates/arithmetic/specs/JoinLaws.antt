-- Laws of lists joined from parts, and of code that fills a list part by part.
use Rattle.std.specs.Prelude.{◌≡◌, take, drop}
use Rattle.std.proofs.Math.Path.{refl, sym, ap}
use Rattle.std.proofs.Common.{◌∙◌, div-lt_iff_lt-mul, mod-lt, mul_comm, not-suc-le-zero, mul-le-mul_right, add-mul, one-mul, zero-mul, add-one, drop_of_length-le, take_at, drop_at, drop-drop}
use mathlib.Core.List.{List, ◌++◌, append_assoc, append-nil}
use Rattle.std.proofs.Math.Logic.{dite}
use Prim.Native.Nat.{ℕ, zero, suc, ◌+◌, ◌-◌, ◌*◌, ◌/◌, ◌%◌, ◌≤◌, ◌<◌}
use Rattle.std.proofs.Math.Nat.{div-add-mod, suc-mul}
use native.Mathlib.Omega.{arith}
use Rattle.std.proofs.Math.Decide.{dec_lt}
use Rattle.std.proofs.Math.ListN.{length, get_or, length-append, length-drop, get_or-append}
use Rattle.std.proofs.Math.Seq.{take_all, take-append-le, get_or-append-add}
use Rattle.std.proofs.lemmas.List.{drop-append-le}
use Rattle.arithmetic.specs.Lists.{joined}

-- part b of m lies within B parts
pub within : (b B m : ℕ) → b < B → b * m + m ≤ B * m
within b B m h = let q : b + 1 ≤ B = omega arith in omega (arith, mul-le-mul_right m q, add-mul b 1 m)

-- entry i of B parts of m: its part, and its place there
pub record Place (m B i : ℕ) : Type 0 where
  pub before : i / m < B
  pub less : i % m < m
  pub is : i / m * m + i % m ≡ i

pub place_of : (m B i : ℕ) → 0 < m → i < B * m → Place m B i
place_of m B i some p = record {
  before = (div-lt_iff_lt-mul {x = i} {y = B} some).1 p;
  less = mod-lt i some;
  is = omega (arith, div-add-mod i m, mul_comm (i / m) m);
}

module _ {A : Type 0} where
  -- the first part in front
  pub joined_front : (b : ℕ) (g : ℕ → List A) → joined (suc b) g ≡ g 0 ++ joined b (λ j. g (suc j))
  unfolding joined
  joined_front zero g = sym (append-nil (g 0))
  joined_front (suc b) g = ap (λ (l : List A). l ++ g (suc b)) (joined_front b g) ∙ append_assoc (g 0) (joined b (λ j. g (suc j))) (g (suc b))

  pub joined_same : (b : ℕ) (f g : ℕ → List A) → ((j : ℕ) → j < b → f j ≡ g j) → joined b f ≡ joined b g
  unfolding joined
  joined_same zero f g e = refl
  joined_same (suc b) f g e = rw (joined_same b f g (λ j p. e j (omega arith)), e b (omega arith))

  -- a list of three parts, each written in its place: X in front, Y from m on, Z from e on
  module _ (X Y Z d : List A) (m e : ℕ) (front : length X ≡ m) (middle : m + length Y ≡ e) (rest : length d ≡ e + length Z) where
    abbrev one : List A
    one = X ++ drop m d

    abbrev two : List A
    two = take m one ++ (Y ++ drop (e - m) (drop m one))

    pub two_is : two ≡ (X ++ Y) ++ drop e d
    two_is =
        let f : m + (e - m) ≡ e = omega arith in
        rw (take_at X (drop m d) m front, drop_at X (drop m d) m front, drop-drop (e - m) m d, f) (sym (append_assoc X Y (drop e d)))

    ends : length (X ++ Y) ≡ e
    ends = length-append X Y ∙ omega arith

    pub two_long : length two ≡ length d
    two_long = ap length two_is ∙ length-append (X ++ Y) (drop e d) ∙ omega (arith, ends, length-drop e d)

    pub three-parts : (k : ℕ) → k ≡ length Z → take e two ++ (Z ++ drop k (drop e two)) ≡ X ++ (Y ++ Z)
    three-parts k is =
        rw (
          two_is,
          take_at (X ++ Y) (drop e d) e ends,
          drop_at (X ++ Y) (drop e d) e ends,
          drop_of_length-le (drop e d) {i = k} (omega (arith, length-drop e d)),
          append-nil Z,
        )
        (append_assoc X Y Z)

module _ {A : Type 0} (g : ℕ → List A) (m : ℕ) where
  -- the first b parts are written, and the rest is as it was
  pub record Joined (b : ℕ) (out out₀ : List A) : Type 0 where
    pub is : out ≡ joined b g ++ drop (b * m) out₀
    pub room : length out ≡ length out₀

  pub joined-none : (d : List A) → Joined 0 d d
  unfolding joined
  joined-none d = record { is = rw (zero-mul m); room = refl }

  joined-next : (b : ℕ) → joined (b + 1) g ≡ joined b g ++ g b
  unfolding joined
  joined-next b = rw (add-one b)

  pub joined-all : (b : ℕ) (out out₀ : List A) → Joined b out out₀ → length out₀ ≡ b * m → out ≡ joined b g
  joined-all b out out₀ so e = so.is ∙ rw (drop_of_length-le out₀ {i = b * m} (omega arith)) (append-nil (joined b g))

  -- the first B parts are of one length
  module _ (B : ℕ) (size : (j : ℕ) → j < B → length (g j) ≡ m) where
    pub joined_length : (b : ℕ) → b ≤ B → length (joined b g) ≡ b * m
    unfolding joined
    joined_length zero p = sym (zero-mul m)
    joined_length (suc b) p = length-append (joined b g) (g b) ∙ omega (arith, joined_length b (omega arith), size b p, suc-mul b m)

    module _ (b k : ℕ) (less : b < B) (out out₀ ys : List A) (so : Joined b out out₀) (fits : b * m + m ≤ length out₀) (isk : k ≡ m) (isg : ys ≡ g b) where
      pub joined-more : Joined (b + 1) (take (b * m) out ++ (ys ++ drop k (drop (b * m) out))) out₀
      joined-more = record { is = eq; room = ap length eq ∙ long }
        where
          front : length (joined b g) ≡ b * m
          front = joined_length b (omega arith)

          place : (b + 1) * m ≡ b * m + m
          place = add-mul b 1 m ∙ omega (arith, one-mul m)

          eq : take (b * m) out ++ (ys ++ drop k (drop (b * m) out)) ≡ joined (b + 1) g ++ drop ((b + 1) * m) out₀
          eq =
              rw (
                so.is,
                take_at (joined b g) (drop (b * m) out₀) (b * m) front,
                drop_at (joined b g) (drop (b * m) out₀) (b * m) front,
                isk,
                drop-drop m (b * m) out₀,
                isg,
                joined-next b,
                place,
              )
              (sym (append_assoc (joined b g) (g b) (drop (b * m + m) out₀)))

          long : length (joined (b + 1) g ++ drop ((b + 1) * m) out₀) ≡ length out₀
          long = length-append (joined (b + 1) g) (drop ((b + 1) * m) out₀) ∙ omega (arith, joined_length (b + 1) (omega arith), length-drop ((b + 1) * m) out₀, place)

    -- entry i of part b, of those before K
    pub joined_at : (d : A) (K b i : ℕ) → K ≤ B → b < K → i < m → get_or (joined K g) (b * m + i) d ≡ get_or (g b) i d
    unfolding joined
    joined_at d zero b i most p q = absurd (not-suc-le-zero p)
    joined_at d (suc K) b i most p q =
        let front = joined_length K (omega arith) in
        dite
        (dec_lt b K)
        (λ l. get_or-append (joined K g) (g K) d (b * m + i) (omega (arith, front, within b K m l)) ∙ joined_at d K b i (omega arith) l q)
        (λ h. let e : b ≡ K = omega arith in rw e (ap (λ (k : ℕ). get_or (joined K g ++ g K) (k + i) d) (sym front) ∙ get_or-append-add (joined K g) (g K) i d))

    -- part b, cut out again
    pub joined-part : (K b : ℕ) → K ≤ B → b < K → take m (drop (b * m) (joined K g)) ≡ g b
    unfolding joined
    joined-part zero b most p = absurd (not-suc-le-zero p)
    joined-part (suc K) b most p =
        let front = joined_length K (omega arith) in
        dite
        (dec_lt b K)
        (λ l.
        let f : b * m + m ≤ length (joined K g) = omega (arith, front, within b K m l) in
        ap (take m) (drop-append-le (b * m) (joined K g) (g K) (omega arith))
        ∙ take-append-le m (drop (b * m) (joined K g)) (g K) (omega (arith, length-drop (b * m) (joined K g)))
        ∙ joined-part K b (omega arith) l)
        (λ h.
        let e : b ≡ K = omega arith in
        rw e (ap (take m) (drop_at (joined K g) (g K) (K * m) front) ∙ take_all m (g K) (omega (arith, size K most))))
