use Rattle.std.specs.Prelude.{ℕ, ◌<◌, ◌≤◌, ◌^◌, nat_abs}
use Rattle.arithmetic.specs.ListLaws.{Filled}
use Rattle.transform.specs.HopLaws.{windowed}
use Rattle.split.proofs.block.window_hop.Given as goal

abbrev pub invariant-loop-n : goal.invariant-loop-n
invariant-loop-n l = Filled (λ n. windowed l.half n l.x n) l.n l.out l.initial.out × ((i : ℕ) → i < l.n → nat_abs (windowed l.half i l.x i) ≤ 2 ^ 23)
