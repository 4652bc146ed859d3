-- Laws of a list that fills the front of a scratch array, and of what the split's calls ask and give of such fronts.
use Rattle.std.specs.Prelude.{◌≡◌, List, ◌++◌, ℕ, ◌*◌, ◌/◌, ◌%◌, ◌^◌, ◌≤◌, ◌<◌, length, take, ℤ}
use Rattle.std.proofs.Common.{sym, ap, ◌∙◌, arith, length-append, length-take-le}
use Rattle.std.proofs.Math.Seq.{take-append_seam}
use Rattle.arithmetic.specs.Lists.{at, table, Small}
use Rattle.split.specs.PartLaws.{third, third_length}
use Rattle.double_route.specs.Double.{joined, scaled}
use Rattle.double_route.specs.PieceLaws.{Piece, short-length}
use Rattle.double_route.specs.StepLaws.{part_sums, Sums, third_again, split-sums, a_long, b_long, g_long, a_small, b_small, g_small, half, join_sums}

pub front_long : (t : ℕ) (z : List ℤ) → t ≤ length z → t ≡ length (take t z)
front_long t z h = sym (length-take-le t z h)

module _ (t : ℕ) (l d : List ℤ) (e : length l ≡ t) where
  pub front_is : take t (l ++ d) ≡ l
  front_is = rw (← e) (take-append_seam l d)

  pub front_room : t ≤ length (l ++ d)
  front_room = omega (arith, length-append l d)

-- a call for part k: l, in the front of a scratch array, has its inputs, and z is the scratch array of its sums
module _ (N : ℕ) (y : List ℤ) (p : Piece N y) (k : ℕ) (l d : List ℤ) (e : l ≡ third k N (at y)) where
  long : length l ≡ N / 3
  long = ap length e ∙ third_length k N (at y)

  pub call_asks : N / 3 % 12 ≡ 0 → (t : ℕ) → N ≡ t → (z : List ℤ) → N / 6 ≤ length z →
      (length (take (N / 3) (l ++ d)) < t) × (Piece (length (take (N / 3) (l ++ d))) (take (N / 3) (l ++ d)) × (length (take (N / 6) z) ≡ length (take (N / 3) (l ++ d)) / 2))
  call_asks again t i z r =
      rw (front_is (N / 3) l d long)
      (omega (arith, long, (short-length N p.short).some), (third_again N y p k again l e, length-take-le (N / 6) z r ∙ omega (arith, long)))

  pub call_gives : (x : List ℤ) → x ≡ table (length (take (N / 3) (l ++ d)) / 2) (scaled (length (take (N / 3) (l ++ d))) (at (take (N / 3) (l ++ d)))) → x ≡ part_sums k N y
  call_gives x h = split-sums N y p k l e x (rw (front_is (N / 3) l d long) at h)

-- the join of the three lists of sums
module _ (N : ℕ) (y a b g da db dg : List ℤ) (s : Sums N y a b g) where
  fa : take (N / 6) (a ++ da) ≡ a
  fa = front_is (N / 6) a da (a_long N y a b g s)

  fb : take (N / 6) (b ++ db) ≡ b
  fb = front_is (N / 6) b db (b_long N y a b g s)

  fg : take (N / 6) (g ++ dg) ≡ g
  fg = front_is (N / 6) g dg (g_long N y a b g s)

  pub join_asks : (out : List ℤ) → length out ≡ N / 2 →
      (length (take (N / 6) (b ++ db)) ≡ length (take (N / 6) (a ++ da)))
      × ((length (take (N / 6) (g ++ dg)) ≡ length (take (N / 6) (a ++ da)))
      × ((length out ≡ 3 * length (take (N / 6) (a ++ da)))
      × (Small (take (N / 6) (a ++ da)) (2 ^ 61) × (Small (take (N / 6) (b ++ db)) (2 ^ 61) × Small (take (N / 6) (g ++ dg)) (2 ^ 61)))))
  join_asks out e =
      rw (fa, fb, fg)
      (b_long N y a b g s ∙ sym (a_long N y a b g s), (g_long N y a b g s ∙ sym (a_long N y a b g s), (e ∙ sym (half N y a b g s), (a_small N y a b g s, (b_small N y a b g s, g_small N y a b g s)))))

  pub join_gives : (out : List ℤ) →
      out ≡ table (3 * length (take (N / 6) (a ++ da))) (joined (6 * length (take (N / 6) (a ++ da))) (at (take (N / 6) (a ++ da))) (at (take (N / 6) (b ++ db))) (at (take (N / 6) (g ++ dg)))) →
      out ≡ table (N / 2) (scaled N (at y))
  join_gives out h = join_sums N y a b g s out (rw (fa, fb, fg) at h)
