use Rattle.std.specs.Prelude.{ℕ, ◌<◌, ◌≤◌, ◌^◌, length, nat_abs}
use Rattle.arithmetic.specs.ListLaws.{Filled}
use Rattle.transform.specs.HopLaws.{hops}
use Rattle.transform.proofs.fold.fold.Given as goal

abbrev pub invariant-loop-j : goal.invariant-loop-j
invariant-loop-j l =
    let f = hops (length l.initial.z) l.rise l.fall l.x in
    Filled f l.j l.z l.initial.z × ((i : ℕ) → i < l.j → nat_abs (f i) ≤ 2 ^ 24)
