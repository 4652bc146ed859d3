-- Laws of lists by their entries, and of a loop that fills a list from the front.
use Rattle.std.specs.Prelude.{◌≡◌, ℤ, pos, take, length, set, drop, get_or}
use Rattle.std.proofs.Math.Path.{refl, sym, ap}
use Rattle.std.proofs.Common.{◌∙◌, not-suc-le-zero, le_refl, add-one, length-drop, drop_of_length-le, length-set, length-take-le, get_or-take, get_or-drop, get_or-append-add, ext_get_or}
use mathlib.Core.List.{List, [], ◌∷◌, ◌++◌, append-nil}
use Rattle.std.proofs.Math.Logic.{dite}
use Prim.Native.Nat.{ℕ, zero, suc, ◌+◌, ◌*◌, ◌≤◌, ◌<◌}
use native.Mathlib.Omega.{arith}
use Rattle.std.proofs.Math.Decide.{dec_lt}
use Rattle.std.proofs.Math.ListN.{length-append, get_or-append}
use Rattle.std.proofs.lemmas.List.{set_at}
use Rattle.std.proofs.Math.Seq.{drop-cons, append_snoc, get_or_at}
use Rattle.arithmetic.specs.Lists.{at, Small, table}

module _ {A : Type 0} (f : ℕ → A) where
  pub length-table : (m : ℕ) → length (table m f) ≡ m
  unfolding table
  length-table zero = refl
  length-table (suc m) = length-append (table m f) (f m ∷ []) ∙ omega (arith, length-table m)

  -- the entry at i
  pub get_d_table : (d : A) (m i : ℕ) → i < m → get_or (table m f) i d ≡ f i
  unfolding table
  get_d_table d zero i h = absurd (not-suc-le-zero h)
  get_d_table d (suc m) i h =
      dite
      (dec_lt i m)
      (λ l. get_or-append (table m f) (f m ∷ []) d i (omega (arith, length-table m)) ∙ get_d_table d m i l)
      (λ g. let e : i ≡ m = omega arith in get_or_at (table m f) (f m) [] d i (length-table m ∙ sym e) ∙ ap f (sym e))

  -- a store of f k at k, where the first k are written
  table_more : (k : ℕ) (d : List A) → k < length d → set (table k f ++ drop k d) k (f k) ≡ table (k + 1) f ++ drop (k + 1) d
  unfolding table
  table_more k [] h = absurd (not-suc-le-zero h)
  table_more k (x ∷ d) h =
      rw
      (add-one k, drop-cons (x ∷ d) k x h)
      (set_at (table k f) (get_or (x ∷ d) k x) (drop (suc k) (x ∷ d)) (f k) k (length-table k) ∙ sym (append_snoc (table k f) (f k) (drop (suc k) (x ∷ d))))

pub table_ext : {A : Type 0} (m : ℕ) (f g : ℕ → A) → ((i : ℕ) → i < m → f i ≡ g i) → table m f ≡ table m g
unfolding table
table_ext zero f g h = refl
table_ext (suc m) f g h = rw (table_ext m f g (λ i p. h i (omega arith)), h m (le_refl (suc m)))

-- a list is the table of its entries
pub table_at : (xs : List ℤ) (m : ℕ) → length xs ≡ m → table m (at xs) ≡ xs
table_at xs m e =
    ext_get_or (pos 0) (table m (at xs)) xs (length-table (at xs) m ∙ sym e)
    (λ i h. get_d_table (at xs) (pos 0) m i (omega (arith, length-table (at xs) m)))

-- the first k entries of out are f 0 .. f (k - 1), and the rest is as it was in out₀
pub record Filled {A : Type 0} (f : ℕ → A) (k : ℕ) (out out₀ : List A) : Type 0 where
  pub is : out ≡ table k f ++ drop k out₀
  pub room : length out ≡ length out₀

module _ {A : Type 0} (f : ℕ → A) where
  pub filled_none : (d : List A) → Filled f 0 d d
  unfolding table
  filled_none d = record { is = refl; room = refl }

  pub filled_more : (k : ℕ) (out out₀ : List A) (v : A) → Filled f k out out₀ → k < length out → v ≡ f k → Filled f (k + 1) (set out k v) out₀
  filled_more k out out₀ v so less e =
      record { is = rw (e, so.is) (table_more f k out₀ (omega (arith, so.room))); room = length-set out k v ∙ so.room }

  pub filled-all : (k : ℕ) (out out₀ : List A) → Filled f k out out₀ → length out₀ ≡ k → out ≡ table k f
  filled-all k out out₀ so e = so.is ∙ rw (drop_of_length-le out₀ {i = k} (omega arith)) (append-nil (table k f))

  -- the next place is as it was
  pub filled-rest : (k : ℕ) (out out₀ : List A) (d : A) → Filled f k out out₀ → get_or out k d ≡ get_or out₀ k d
  filled-rest k out out₀ d so =
      let e : length (table k f) + 0 ≡ k = omega (arith, length-table f k) in
      let n : k + 0 ≡ k = omega arith in
      ap (λ (l : List A). get_or l k d) so.is
      ∙ rw e at (get_or-append-add (table k f) (drop k out₀) 0 d)
      ∙ rw n at (get_or-drop k out₀ 0 d)

-- three more entries at once
pub filled-three : {A : Type 0} (f : ℕ → A) (k : ℕ) (out out₀ : List A) (u v w : A) → Filled f (3 * k) out out₀ → 3 * k + 2 < length out → u ≡ f (3 * k) → v ≡ f (3 * k + 1) → w ≡ f (3 * k + 2) →
    Filled f (3 * (k + 1)) (set (set (set out (3 * k) u) (3 * k + 1) v) (3 * k + 2) w) out₀
filled-three f k out out₀ u v w so less eu ev ew =
    let next : 3 * k + 1 + 1 ≡ 3 * k + 2 = omega arith in
    let last : 3 * k + 2 + 1 ≡ 3 * (k + 1) = omega arith in
    let first = filled_more f (3 * k) out out₀ u so (omega arith) eu in
    let second = filled_more f (3 * k + 1) (set out (3 * k) u) out₀ v first (omega (arith, length-set out (3 * k) u)) ev in
    rw last at
    (filled_more f (3 * k + 2) (set (set out (3 * k) u) (3 * k + 1) v) out₀ w (rw next at second)
    (omega (arith, length-set out (3 * k) u, length-set (set out (3 * k) u) (3 * k + 1) v)) ew)

-- ---- values stored one after the other, from place k on
abbrev pub stored : {A : Type 0} → List A → ℕ → List A → List A
stored xs k [] = xs
stored xs k (v ∷ vs) = stored (set xs k v) (suc k) vs

-- the entry in front of them stays
stored-behind : {A : Type 0} (x : A) (xs : List A) (k : ℕ) (vs : List A) → stored (x ∷ xs) (suc k) vs ≡ x ∷ stored xs k vs
stored-behind x xs k [] = refl
stored-behind x xs k (v ∷ vs) = stored-behind x (set xs k v) (suc k) vs

-- as many as there are entries: the list is theirs
pub stored-all : {A : Type 0} (xs vs : List A) → length xs ≡ length vs → stored xs 0 vs ≡ vs
stored-all [] [] e = refl
stored-all [] (v ∷ vs) e = absurd (omega (arith, e))
stored-all (x ∷ xs) [] e = absurd (omega (arith, e))
stored-all (x ∷ xs) (v ∷ vs) e = stored-behind v xs 0 vs ∙ ap (λ l. v ∷ l) (stored-all xs vs (omega (arith, e)))

-- ---- a part of a list: m entries from place p
pub part_length : {A : Type 0} (xs : List A) (p n m : ℕ) → n ≡ m → p + m ≤ length xs → length (take n (drop p xs)) ≡ m
part_length xs p n m is fits = length-take-le n (drop p xs) (omega (arith, length-drop p xs)) ∙ is

module _ (xs : List ℤ) (p n m : ℕ) (is : n ≡ m) (fits : p + m ≤ length xs) where
  pub part_at : (i : ℕ) → i < m → at (take n (drop p xs)) i ≡ at xs (p + i)
  part_at i h = get_or-take n (drop p xs) i (pos 0) (omega arith) ∙ get_or-drop p xs i (pos 0)

  pub part_small : (B : ℕ) → Small xs B → Small (take n (drop p xs)) B
  part_small B s = record { small = λ i h. rw (part_at i (omega (arith, part_length xs p n m is fits))) (s.small (p + i) (omega (arith, part_length xs p n m is fits))) }
