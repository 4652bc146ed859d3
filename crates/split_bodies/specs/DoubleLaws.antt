-- Laws of the double route by its lengths.
use Rattle.std.specs.Prelude.{◌≡◌, refl, List, ℕ, T, ℤ}
use Rattle.cosine.specs.Kernels.{rising, falling}
use Rattle.transform.specs.Analysis.{y}
use Rattle.double_route.specs.Double as D
use Rattle.double_route.specs.Double.{double}
use Rattle.double_route.specs.PieceLaws as P

-- what is not its first length is its last
pub last-double : (N : ℕ) → T (D.offered N) → ¬ (N ≡ 36) → N ≡ 72
last-double N o = P.either N o (λ n. ¬ (n ≡ 36) → n ≡ 72) (λ h. absurd (h refl)) (λ h. refl)

-- the same at a length under another name
pub double-at : (n N l r : ℕ) (x out : List ℤ) → n ≡ N → out ≡ double N (y N (rising l N) (falling r N) x) → out ≡ double n (y n (rising l n) (falling r n) x)
double-at n N l r x out e h = rw e h
