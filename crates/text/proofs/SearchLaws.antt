-- Laws of the library's searches through a list, in the words of this crate's definitions.
use Rattle.std.specs.Prelude.{◌≡◌, refl, Bool, true, false, not, cond, ◌&&◌, Some, None, List, [], ◌∷◌, ℕ, suc, ◌+◌, length, ltb, eqb}
use Rattle.std.proofs.Common.{ap, ◌∙◌, arith}
use borrow.Author.Tests.{ltb-false}
use Rattle.std.specs.List.{list_all, position, position_or_len, slice_split, onto_first}
use Rattle.std.specs.Option.{unwrap_or}
use Rattle.arithmetic.specs.Lists.{every}
use Rattle.text.specs.Lines.{index_of, in_front, split}
use Rattle.text.specs.LineLaws.{index_of-most}

pub all_every : {A : Type 0} (p : A → Bool) (xs : List A) → list_all p xs ≡ every p xs
unfolding every
all_every p [] = refl
all_every p (x ∷ xs) = go (p x) (all_every p xs)
  where
    go : (b : Bool) {u v : Bool} → u ≡ v → (b && u) ≡ cond b v false
    go true e = e
    go false e = refl

-- so many bytes stand in front of the first b, or are all where there is none
passed : (b : ℕ) (s : List ℕ) → position_or_len (λ x. eqb x b) s ≡ index_of b s
unfolding index_of
passed b [] = refl
passed b (x ∷ s) = go (eqb x b) (passed b s)
  where
    go : (t : Bool) → position_or_len (λ x. eqb x b) s ≡ index_of b s → cond (not t) (1 + position_or_len (λ x. eqb x b) s) 0 ≡ cond t 0 (suc (index_of b s))
    go true e = refl
    go false e = omega (arith, e)

pub position_index : (b : ℕ) (s : List ℕ) → unwrap_or (position (λ x. eqb x b) s) (length s) ≡ index_of b s
position_index b s = rw (passed b s) (go (ltb (index_of b s) (length s)) refl)
  where
    go : (t : Bool) → ltb (index_of b s) (length s) ≡ t → unwrap_or (cond t (Some (index_of b s)) None) (length s) ≡ index_of b s
    go true e = refl
    go false e = omega (arith, index_of-most b s, ltb-false (index_of b s) (length s) e)

-- the parts that `split` hands out one by one
pub split_parts : (p : ℕ) (s : List ℕ) → slice_split (λ b. eqb b p) s ≡ split p s
unfolding split in_front
split_parts p [] = refl
split_parts p (b ∷ s) = go (eqb b p) (slice_split (λ x. eqb x p) s) (split p s) (split_parts p s)
  where
    onto : (fs : List (List ℕ)) → onto_first b fs ≡ in_front b fs
    onto [] = refl
    onto (f ∷ fs) = refl

    go : (t : Bool) (fs gs : List (List ℕ)) → fs ≡ gs → cond t ([] ∷ fs) (onto_first b fs) ≡ cond t ([] ∷ gs) (in_front b gs)
    go true fs gs e = ap (λ (hs : List (List ℕ)). [] ∷ hs) e
    go false fs gs e = onto fs ∙ ap (in_front b) e
