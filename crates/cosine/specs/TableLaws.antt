-- Laws of the table: its 217 numbers follow the series, lie in 0 .. 67,108,864 and never increase, by one computed test.
use Rattle.std.specs.Prelude.{◌≡◌, Bool, false, cond, List, [], ◌∷◌, ℕ, zero, suc, ◌+◌, ◌≤◌, ◌^◌, T, leb, ℤ, pos, nat_abs, ◌≤ℤ◌}
use Rattle.std.proofs.Common.{arith, leb→le}
use Rattle.std.specs.Int.Signed.{le_z, le_z_yes, ≤ℤ_refl}
use Rattle.arithmetic.specs.Rounding.{floor, rnd}
use Rattle.arithmetic.specs.Sums.{sum}
use Rattle.arithmetic.specs.Lists.{at, all}
use Rattle.arithmetic.specs.OrderLaws.{≤ℤ_trans}
use Rattle.arithmetic.specs.TestLaws.{same, same-is, all-at, both_left, both_right}
use Rattle.cosine.specs.Cosine.{quarter, top, bottom, factorial, denominator, term, signed, series, first_quarter}

-- C(0) .. C(216), the numbers of the code's table
unfoldable pub numbers : List ℤ
numbers =
    pos 67108864 ∷ pos 67107089 ∷ pos 67101766 ∷ pos 67092894 ∷ pos 67080474 ∷ pos 67064506 ∷ pos 67044991 ∷ pos 67021931 ∷
    pos 66995326 ∷ pos 66965179 ∷ pos 66931490 ∷ pos 66894261 ∷ pos 66853495 ∷ pos 66809193 ∷ pos 66761357 ∷ pos 66709992 ∷
    pos 66655098 ∷ pos 66596679 ∷ pos 66534738 ∷ pos 66469279 ∷ pos 66400304 ∷ pos 66327818 ∷ pos 66251824 ∷ pos 66172327 ∷
    pos 66089330 ∷ pos 66002837 ∷ pos 65912855 ∷ pos 65819386 ∷ pos 65722437 ∷ pos 65622011 ∷ pos 65518116 ∷ pos 65410756 ∷
    pos 65299936 ∷ pos 65185663 ∷ pos 65067943 ∷ pos 64946781 ∷ pos 64822185 ∷ pos 64694161 ∷ pos 64562715 ∷ pos 64427855 ∷
    pos 64289588 ∷ pos 64147921 ∷ pos 64002861 ∷ pos 63854417 ∷ pos 63702595 ∷ pos 63547405 ∷ pos 63388854 ∷ pos 63226951 ∷
    pos 63061704 ∷ pos 62893122 ∷ pos 62721214 ∷ pos 62545989 ∷ pos 62367457 ∷ pos 62185626 ∷ pos 62000506 ∷ pos 61812107 ∷
    pos 61620440 ∷ pos 61425514 ∷ pos 61227339 ∷ pos 61025926 ∷ pos 60821286 ∷ pos 60613429 ∷ pos 60402367 ∷ pos 60188111 ∷
    pos 59970671 ∷ pos 59750060 ∷ pos 59526289 ∷ pos 59299370 ∷ pos 59069315 ∷ pos 58836137 ∷ pos 58599846 ∷ pos 58360457 ∷
    pos 58117981 ∷ pos 57872432 ∷ pos 57623822 ∷ pos 57372164 ∷ pos 57117473 ∷ pos 56859761 ∷ pos 56599042 ∷ pos 56335330 ∷
    pos 56068638 ∷ pos 55798981 ∷ pos 55526373 ∷ pos 55250829 ∷ pos 54972363 ∷ pos 54690990 ∷ pos 54406724 ∷ pos 54119581 ∷
    pos 53829576 ∷ pos 53536724 ∷ pos 53241041 ∷ pos 52942543 ∷ pos 52641244 ∷ pos 52337162 ∷ pos 52030311 ∷ pos 51720709 ∷
    pos 51408372 ∷ pos 51093316 ∷ pos 50775559 ∷ pos 50455115 ∷ pos 50132004 ∷ pos 49806241 ∷ pos 49477845 ∷ pos 49146831 ∷
    pos 48813219 ∷ pos 48477025 ∷ pos 48138267 ∷ pos 47796964 ∷ pos 47453133 ∷ pos 47106792 ∷ pos 46757960 ∷ pos 46406656 ∷
    pos 46052897 ∷ pos 45696702 ∷ pos 45338091 ∷ pos 44977083 ∷ pos 44613695 ∷ pos 44247949 ∷ pos 43879862 ∷ pos 43509455 ∷
    pos 43136746 ∷ pos 42761757 ∷ pos 42384506 ∷ pos 42005013 ∷ pos 41623299 ∷ pos 41239384 ∷ pos 40853288 ∷ pos 40465031 ∷
    pos 40074635 ∷ pos 39682119 ∷ pos 39287504 ∷ pos 38890812 ∷ pos 38492063 ∷ pos 38091278 ∷ pos 37688479 ∷ pos 37283687 ∷
    pos 36876923 ∷ pos 36468209 ∷ pos 36057566 ∷ pos 35645017 ∷ pos 35230582 ∷ pos 34814284 ∷ pos 34396145 ∷ pos 33976187 ∷
    pos 33554432 ∷ pos 33130903 ∷ pos 32705621 ∷ pos 32278610 ∷ pos 31849892 ∷ pos 31419489 ∷ pos 30987425 ∷ pos 30553722 ∷
    pos 30118403 ∷ pos 29681492 ∷ pos 29243010 ∷ pos 28802982 ∷ pos 28361431 ∷ pos 27918381 ∷ pos 27473853 ∷ pos 27027873 ∷
    pos 26580463 ∷ pos 26131648 ∷ pos 25681450 ∷ pos 25229895 ∷ pos 24777005 ∷ pos 24322805 ∷ pos 23867319 ∷ pos 23410570 ∷
    pos 22952583 ∷ pos 22493383 ∷ pos 22032993 ∷ pos 21571437 ∷ pos 21108741 ∷ pos 20644929 ∷ pos 20180025 ∷ pos 19714053 ∷
    pos 19247039 ∷ pos 18779007 ∷ pos 18309982 ∷ pos 17839989 ∷ pos 17369052 ∷ pos 16897197 ∷ pos 16424448 ∷ pos 15950830 ∷
    pos 15476369 ∷ pos 15001090 ∷ pos 14525017 ∷ pos 14048176 ∷ pos 13570592 ∷ pos 13092290 ∷ pos 12613296 ∷ pos 12133635 ∷
    pos 11653332 ∷ pos 11172413 ∷ pos 10690903 ∷ pos 10208828 ∷ pos 9726212 ∷ pos 9243083 ∷ pos 8759464 ∷ pos 8275383 ∷
    pos 7790864 ∷ pos 7305932 ∷ pos 6820615 ∷ pos 6334936 ∷ pos 5848923 ∷ pos 5362600 ∷ pos 4875994 ∷ pos 4389130 ∷
    pos 3902033 ∷ pos 3414731 ∷ pos 2927248 ∷ pos 2439609 ∷ pos 1951842 ∷ pos 1463972 ∷ pos 976024 ∷ pos 488025 ∷
    pos 0 ∷ []

-- ---- one test of the whole table: each number is the rounded series, in range, and not below the next one
numbered : ℕ → Bool
numbered t = same (first_quarter t) (at numbers t)

lies_in_range : ℕ → Bool
lies_in_range t = cond (le_z (pos 0) (at numbers t)) (leb (nat_abs (at numbers t)) (2 ^ 26)) false

falling : ℕ → Bool
falling t = le_z (at numbers (suc t)) (at numbers t)

right : ℕ → Bool
right t = cond (numbered t) (cond (lies_in_range t) (falling t) false) false

test : T (all (suc quarter) right)
unfolding all right numbered lies_in_range falling same first_quarter rnd floor series sum signed term denominator factorial bottom top numbers
test = tt

module _ (t : ℕ) (h : t ≤ quarter) where
  tested : T (right t)
  tested = all-at (suc quarter) right test t (omega arith)

  -- the rule of the series
  pub series_rule : first_quarter t ≡ at numbers t
  unfolding right numbered
  series_rule = same-is (first_quarter t) (at numbers t) (both_left (numbered t) (cond (lies_in_range t) (falling t) false) tested)

  rest : T (cond (lies_in_range t) (falling t) false)
  unfolding right
  rest = both_right (numbered t) (cond (lies_in_range t) (falling t) false) tested

  bounds : T (lies_in_range t)
  bounds = both_left (lies_in_range t) (falling t) rest

  -- the range
  pub low : pos 0 ≤ℤ first_quarter t
  unfolding lies_in_range
  low = rw series_rule (le_z_yes (both_left (le_z (pos 0) (at numbers t)) (leb (nat_abs (at numbers t)) (2 ^ 26)) bounds))

  pub size : nat_abs (first_quarter t) ≤ 2 ^ 26
  unfolding lies_in_range
  size = rw series_rule (leb→le (nat_abs (at numbers t)) (2 ^ 26) (both_right (le_z (pos 0) (at numbers t)) (leb (nat_abs (at numbers t)) (2 ^ 26)) bounds))

  falls : at numbers (suc t) ≤ℤ at numbers t
  unfolding falling
  falls = le_z_yes (both_right (lies_in_range t) (falling t) rest)

-- the table never increases
pub monotone : (r t : ℕ) → r + t ≤ quarter → first_quarter (r + t) ≤ℤ first_quarter r
monotone r zero h = let e : r + 0 ≡ r = omega arith in rw e (≤ℤ_refl (first_quarter r))
monotone r (suc t) h =
    let e : r + suc t ≡ suc (r + t) = omega arith in
    let f : first_quarter (suc (r + t)) ≤ℤ first_quarter (r + t) = rw (series_rule (suc (r + t)) (omega arith), series_rule (r + t) (omega arith)) (falls (r + t) (omega arith)) in
    rw e (≤ℤ_trans f (monotone r t (omega arith)))

-- the last number
pub at-quarter : first_quarter quarter ≡ pos 0
unfolding numbers
at-quarter = series_rule quarter (omega arith)
