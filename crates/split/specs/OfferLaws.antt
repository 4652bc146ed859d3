-- Laws: a length at which the short route is offered is tabled, and at most 72.
use Rattle.std.specs.Prelude.{Bool, ℕ, ◌≤◌, T, leb}
use Rattle.std.proofs.Common.{leb→le}
use Rattle.arithmetic.specs.Lists.{every}
use Rattle.cosine.specs.Kernels.{tabled, short_lengths, short_tabled}
use Rattle.cosine.specs.LengthLaws.{of_short, short_is_tabled}
use Rattle.split.specs.ShortRoute.{offered}

pub offered-tabled : (N : ℕ) → T (offered N) → T (tabled N)
unfolding offered
offered-tabled N o = short_is_tabled N o

pub offered-short : (N : ℕ) → T (offered N) → T (short_tabled N)
unfolding offered
offered-short N o = o

few : ℕ → Bool
few N = leb N 72

few-test : T (every few short_lengths)
unfolding every few short_lengths
few-test = tt

pub offered-most : (N : ℕ) → T (offered N) → N ≤ 72
unfolding few
offered-most N o = leb→le N 72 (of_short few few-test N (offered-short N o))
