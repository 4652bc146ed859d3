-- A block's coefficients by a route: definitions. Document 01, 'Analysis' and 'Short route', and document 02, P7 and P12.
use Rattle.std.specs.Prelude.{Bool, List, ℕ, ℤ}
use Rattle.cosine.specs.Kernels.{tabled, rising, falling}
use Rattle.transform.specs.Analysis.{y, direct}
use Rattle.split.specs.ShortRoute as R
use Rattle.double_route.specs.Double as D
use Rattle.analysis.specs.declared.Route.{Route}
use Rattle.analysis.specs.declared.Route.TheVariants.{Direct, Short, Double}

-- the lengths at which a route is offered
unfoldable pub offered : Route → ℕ → Bool
offered Direct N = tabled N
offered Short N = R.offered N
offered Double N = D.offered N

-- the M coefficients of a windowed block, by a route
unfoldable pub spectrum : Route → ℕ → (ℕ → ℤ) → List ℤ
spectrum Direct N y = direct N y
spectrum Short N y = R.short N y
spectrum Double N y = D.double N y

-- the M coefficients of a block x of N samples, by a route, with joints of the shapes left and right
unfoldable pub coefficients : Route → (N left right : ℕ) → List ℤ → List ℤ
coefficients route N left right x = spectrum route N (y N (rising left N) (falling right N) x)

-- how far a route's coefficients may lie from the definition's, in units
unfoldable pub units_of : Route → ℕ
units_of Direct = 0
units_of Short = R.units
units_of Double = D.units
