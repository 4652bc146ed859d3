-- The verdict on all the lines is the verdict on those from `at` on, behind the hops counted.
use Rattle.std.specs.Prelude.{◌≡◌, ◌-◌, ◌≤◌, length}
use Rattle.listing.specs.VerdictLaws.{left}
use Rattle.listing.proofs.verdict.verify_hops.Given as goal

abbrev pub invariant-loop-at : goal.invariant-loop-at
invariant-loop-at l = record {
  within : l.at ≤ length l.text;
  few : l.hops ≤ l.at;
  is : left l.n 0 0 l.text ≡ left l.n l.hops l.at l.text;
}

abbrev pub decreases-loop-at : goal.decreases-loop-at
decreases-loop-at l = length l.text - l.at
