-- The route that a number names for C: definitions. Document 02, P8.
use Rattle.std.specs.Prelude.{cond, ℕ, Result, Ok, Err, eqb}
use Rattle.analysis.specs.declared.Route.{Route}
use Rattle.analysis.specs.declared.Route.TheVariants.{Direct, Short, Double}
use Rattle.analysis.specs.declared.UnknownRoute.{UnknownRoute}

-- 0 is direct, 1 short, 2 double, and any other is none
abbrev pub route_of : ℕ → Result Route UnknownRoute
route_of number =
    cond (eqb number 0) (Ok Direct)
    (cond (eqb number 1) (Ok Short)
    (cond (eqb number 2) (Ok Double) (Err (record { 0 = number }))))
