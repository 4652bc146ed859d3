use Rattle.std.proofs.Common.{◌+ℤ◌, ◌-ℤ◌}
use Rattle.arithmetic.specs.ListLaws.{Filled}
use Rattle.level.specs.Places.{signed_at}
use Rattle.level.specs.Levels.{place_at}
use Rattle.level.proofs.gather.Given as goal

abbrev pub invariant-loop-i : goal.invariant-loop-i
invariant-loop-i g l = record {
  sums : Filled (λ i. signed_at l.z (place_at l.near i) +ℤ signed_at l.z (place_at l.far i)) l.i l.a l.initial.a;
  differences : Filled (λ i. signed_at l.z (place_at l.near i) -ℤ signed_at l.z (place_at l.far i)) l.i l.b l.initial.b;
}
