-- Laws of the lengths of a part: one that divides by 12 is a length of the short route, and its third is a part's length again, with room for five times the inputs.
use Rattle.std.specs.Prelude.{◌≡◌, Bool, cond, List, ℕ, zero, suc, ◌*◌, ◌/◌, ◌%◌, ◌^◌, ◌≤◌, ◌<◌, eqb, leb, ltb, length, ℤ}
use Rattle.std.proofs.Math.Path.{subst}
use Rattle.std.proofs.Common.{sym, le_refl, arith, eqb→eq, leb→le}
use Rattle.std.proofs.Math.Bool.{true, false}
use Rattle.std.proofs.Math.Dec.{T, ltb→lt}
use Rattle.arithmetic.specs.Lists.{every, Small}
use Rattle.cosine.specs.Kernels.{short_lengths, short_tabled}
use Rattle.cosine.specs.LengthLaws.{Length, tabled_length, of_short, short_is_tabled}
use Rattle.split.specs.ShortRoute as R
use Rattle.split.specs.OfferLaws.{offered-most}
use Rattle.split.specs.TurnLaws.{limit}
use Rattle.double_route.specs.Double.{offered, splits}

-- ---- the lengths of a part: those that are split, and their last parts
unfoldable pub last : ℕ → Bool
last N = cond (eqb N 4) true (eqb N 8)

unfoldable pub piece : ℕ → Bool
piece N = cond (last N) true (short_tabled N)

-- the largest input of a part, so that no sum overflows at any depth: a split makes inputs at most five times as large
unfoldable pub room_in : ℕ → ℕ → ℕ
room_in zero N = 2 ^ 28
room_in (suc f) N = cond (splits N) (room_in f (N / 3) / 5) (2 ^ 28)

unfoldable pub room : ℕ → ℕ
room N = room_in N N

-- N inputs y of a part that is split, with room
pub record Piece (N : ℕ) (y : List ℤ) : Type 0 where
  pub short : T (short_tabled N)
  pub all : length y ≡ N
  pub small : Small y (room N)

module _ (N : ℕ) (t : T (short_tabled N)) where
  pub short-length : Length N
  short-length = tabled_length N (short_is_tabled N t)

  pub short-most : N ≤ 72
  unfolding R.offered
  short-most = offered-most N t

module _ (N : ℕ) where
  -- a last part is not split
  last-plain : T (last N) → ¬ (N % 12 ≡ 0)
  unfolding last
  last-plain = go (eqb N 4) (eqb→eq N 4)
    where
      go : (b : Bool) → (T b → N ≡ 4) → T (cond b true (eqb N 8)) → ¬ (N % 12 ≡ 0)
      go true e t = rw (e tt) (λ q. omega arith)
      go false e t = rw (eqb→eq N 8 t) (λ q. omega arith)

  -- a part that is split has a length of the short route
  pub split-short : T (piece N) → N % 12 ≡ 0 → T (short_tabled N)
  unfolding piece
  split-short t e = go (last N) (λ l. last-plain l) t
    where
      go : (b : Bool) → (T b → ¬ (N % 12 ≡ 0)) → T (cond b true (short_tabled N)) → T (short_tabled N)
      go true h u = absurd (h tt e)
      go false h u = u

-- ---- by computing, of every length that is split
piece-test : T (every piece short_lengths)
unfolding every short_lengths piece last short_tabled
piece-test = tt

third-test : T (every (λ N. piece (N / 3)) short_lengths)
unfolding every short_lengths piece last short_tabled
third-test = tt

room-test : T (every (λ N. leb (5 * room N) (room (N / 3))) short_lengths)
unfolding every short_lengths room room_in splits
room-test = tt

limit-test : T (every (λ N. leb (room N) (limit N)) short_lengths)
unfolding every short_lengths room room_in splits limit
limit-test = tt

end : ℕ → Bool
end N = cond (splits (N / 3)) true (ltb N 36)

end_test : T (every end short_lengths)
unfolding every short_lengths end splits
end_test = tt

module _ (N : ℕ) (t : T (short_tabled N)) where
  pub short-piece : T (piece N)
  short-piece = of_short piece piece-test N t

  pub third-piece : T (piece (N / 3))
  third-piece = of_short (λ N. piece (N / 3)) third-test N t

  pub room-third : 5 * room N ≤ room (N / 3)
  room-third = leb→le (5 * room N) (room (N / 3)) (of_short (λ N. leb (5 * room N) (room (N / 3))) room-test N t)

  -- a rotation takes as much
  pub room-limit : room N ≤ limit N
  room-limit = leb→le (room N) (limit N) (of_short (λ N. leb (room N) (limit N)) limit-test N t)

  -- a third is split again, from 36 on, or it is a last part
  pub third-short : N / 3 % 12 ≡ 0 → T (short_tabled (N / 3))
  third-short e = split-short (N / 3) third-piece e

  pub third-more : N / 3 % 12 ≡ 0 → 36 ≤ N
  third-more e = let l = tabled_length N (short_is_tabled N t) in omega (arith, l.twelve, l.some)

  pub third_last : ¬ (N / 3 % 12 ≡ 0) → N < 36
  unfolding end splits
  third_last h = ltb→lt N 36 (go (eqb (N / 3 % 12) 0) (λ e. h (eqb→eq (N / 3 % 12) 0 e)) (of_short end end_test N t))
    where
      go : (b : Bool) → ¬ T b → T (cond b true (ltb N 36)) → T (ltb N 36)
      go true k u = absurd (k tt)
      go false k u = u

in_most : (f N : ℕ) → room_in f N ≤ 2 ^ 28
unfolding room_in
in_most zero N = le_refl (2 ^ 28)
in_most (suc f) N = go (splits N) (in_most f (N / 3))
  where
    go : (b : Bool) → room_in f (N / 3) ≤ 2 ^ 28 → cond b (room_in f (N / 3) / 5) (2 ^ 28) ≤ 2 ^ 28
    go true h = omega arith
    go false h = le_refl (2 ^ 28)

pub room_most : (N : ℕ) → room N ≤ 2 ^ 28
unfolding room
room_most N = in_most N N

-- ---- the lengths at which the route is offered: a windowed block has room
room_36 : 2 ^ 23 ≤ room 36
unfolding room room_in splits
room_36 = leb→le (2 ^ 23) (room 36) tt

room_72 : 2 ^ 23 ≤ room 72
unfolding room room_in splits
room_72 = leb→le (2 ^ 23) (room 72) tt

module _ (N : ℕ) (t : T (offered N)) where
  pub either : (P : ℕ → Type 0) → P 36 → P 72 → P N
  unfolding offered
  either P a b = go (eqb N 36) (eqb→eq N 36) t
    where
      go : (b : Bool) → (T b → N ≡ 36) → T (cond b true (eqb N 72)) → P N
      go true e u = subst P (sym (e tt)) a
      go false e u = subst P (sym (eqb→eq N 72 u)) b

  pub offered-short : T (short_tabled N)
  unfolding short_tabled every short_lengths
  offered-short = either (λ n. T (short_tabled n)) tt tt

  pub offered-room : 2 ^ 23 ≤ room N
  offered-room = either (λ n. 2 ^ 23 ≤ room n) room_36 room_72
