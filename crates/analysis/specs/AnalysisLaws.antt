-- Laws of a block by a route: a route is offered at tabled lengths only, and gives M coefficients.
use Rattle.std.specs.Prelude.{◌≡◌, List, ℕ, ◌/◌, T, length, ℤ}
use Rattle.arithmetic.specs.ListLaws.{length-table}
use Rattle.cosine.specs.Kernels.{tabled, rising, falling}
use Rattle.cosine.specs.LengthLaws.{short_is_tabled}
use Rattle.transform.specs.Analysis.{y, X, direct}
use Rattle.split.specs.ShortRoute.{short_x, short}
use Rattle.split.specs.OfferLaws as O
use Rattle.double_route.specs.Double.{double_x, double}
use Rattle.double_route.specs.PieceLaws as P
use Rattle.analysis.specs.declared.Route.{Route}
use Rattle.analysis.specs.declared.Route.TheVariants.{Direct, Short, Double}
use Rattle.analysis.specs.Analysis.{offered, spectrum, coefficients}

-- a route is offered at tabled lengths only
pub offered-tabled : (route : Route) (N : ℕ) → T (offered route N) → T (tabled N)
unfolding offered
offered-tabled Direct N o = o
offered-tabled Short N o = O.offered-tabled N o
offered-tabled Double N o = short_is_tabled N (P.offered-short N o)

-- M coefficients by each route
spectrum-length : (route : Route) (N : ℕ) (u : ℕ → ℤ) → length (spectrum route N u) ≡ N / 2
unfolding spectrum direct short double
spectrum-length Direct N u = length-table (X N u) (N / 2)
spectrum-length Short N u = length-table (short_x N u) (N / 2)
spectrum-length Double N u = length-table (double_x N u) (N / 2)

pub coefficients-length : (route : Route) (N l r : ℕ) (x : List ℤ) → length (coefficients route N l r x) ≡ N / 2
unfolding coefficients
coefficients-length route N l r x = spectrum-length route N (y N (rising l N) (falling r N) x)
