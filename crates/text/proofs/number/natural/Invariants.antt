-- n is the number of the digits passed, so those that are left follow those of n.
use Rattle.std.proofs.Common.{◌≡◌, drop}
use Rattle.text.specs.Number.{natural, natural_from}
use Rattle.text.proofs.number.natural.Given as goal

abbrev pub invariant-loop-b : goal.invariant-loop-b
invariant-loop-b l = natural l.s ≡ natural_from l.n (drop l.b-index l.s)
