-- Sparse changes of Example's single hop: one of its coefficients is moved by 1,000 units, and both distances are computed; and one is moved by 47, which moves no sample. `SparseExamples` is the contract of the function
-- `sparse_examples`, by SparseExampleLaws.
use Rattle.std.specs.Prelude.{◌≡◌, ℕ, suc, ◌+◌, ◌/◌, ◌%◌, ◌≤◌, ◌<◌, length, nat_abs, ◌-ℤ◌}
use Rattle.arithmetic.specs.Lists.{at}
use Rattle.analysis.specs.declared.Route.TheVariants.{Direct}
use Rattle.orders.specs.declared.Order.TheVariants.{ByBlock}
use Rattle.recording_calls.specs.Recordings.{played_code, played_out}
use Rattle.stream_calls.specs.States.{fresh_state}
use Rattle.demands.specs.Steps.{Turn, taken, turns, final, Entry, Numbered, change}
use Rattle.demands.specs.Chains.{calls, held}
use Rattle.demands.specs.Sparse.{SparseNumbered, SparseOnce, SparseBlocks, sparse_distance, SparselyReturned, SparselyBack}
use Rattle.demands.specs.Example.{knock, directly, totals, largests, slight_totals, room, sparse_offers, slight_offers, sparse_whole}
use Rattle.demands.specs.ListExamples.{nines}

pub record SparseExamples : Type 0 where
  -- ---- one coefficient moved by 1,000 units
  pub sparse_numbered : SparseNumbered 12 1 totals directly knock (turns 12 sparse_offers)
  pub sparsely : SparselyReturned 12 1 totals directly knock (turns 12 sparse_offers) (final 12 sparse_offers)
  pub by_largest : Numbered 12 1 largests directly knock (turns 12 sparse_offers)
  -- the bound both ways: 10 by the sum of the changes, 63 by the largest
  pub by_the_sum : sparse_distance 12 1000 26 ≡ 10
  pub by_the_largest : (change 1000 7 Direct Direct + 8) / 16 ≡ 63
  -- so of each of the six samples, once both blocks are taken
  pub sparse_all : length (taken (turns 12 sparse_offers)) ≡ 2
  pub within_10 : (i : ℕ) → i < 6 → (t : Turn) × Entry (taken (turns 12 sparse_offers)) (suc (i / 6)) t × (nat_abs (at t.output (i % 6) -ℤ at knock i) ≤ 10)
  pub within_63 : (i : ℕ) → i < 6 → (t : Turn) × Entry (taken (turns 12 sparse_offers)) (suc (i / 6)) t × (nat_abs (at t.output (i % 6) -ℤ at knock i) ≤ 63)
  -- on a state that held nines
  pub sparsely_on_a_state : SparselyReturned 12 1 totals directly knock (calls (fresh_state 12 nines) sparse_offers) (held (fresh_state 12 nines) sparse_offers)
  -- ---- one coefficient moved by 47, below 4N: every sample comes back as it was, where the largest change alone tells 3
  pub slight_numbered : SparseNumbered 12 1 slight_totals directly knock (turns 12 slight_offers)
  pub slight_all : length (taken (turns 12 slight_offers)) ≡ 2
  pub as_it_was : (i : ℕ) → i < 6 → (t : Turn) × Entry (taken (turns 12 slight_offers)) (suc (i / 6)) t × (at t.output (i % 6) ≡ at knock i)
  -- ---- the calls over whole recordings: analysed by one call, which filled by frequency; what is synthesised lies by block
  pub sparse_played : played_code 12 1 sparse_whole room ≡ 0
  pub by_one_call : SparseOnce 12 1 totals ByBlock knock sparse_whole
  pub once : SparselyBack 12 1 totals (λ b. Direct) knock (played_out ByBlock 12 1 sparse_whole room)
  pub once_within_10 : (i : ℕ) → i < 6 → nat_abs (at (played_out ByBlock 12 1 sparse_whole room) i -ℤ at knock i) ≤ 10
  pub by_blocks : SparseBlocks 12 1 totals directly ByBlock knock sparse_whole
  pub blocks : SparselyBack 12 1 totals directly knock (played_out ByBlock 12 1 sparse_whole room)
