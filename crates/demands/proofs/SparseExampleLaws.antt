-- The theorems of SparseLaws applied to Example's single hop: one of its coefficients is moved by 1,000 units, and both distances are computed; and one is moved by 47, which moves no sample. All is computed from
-- the definitions.
use Rattle.std.specs.Prelude.{◌≡◌, refl, List, [], ◌∷◌, ◌++◌, ℕ, suc, ◌+◌, ◌/◌, ◌%◌, ◌≤◌, ◌<◌, T as Holds, eqb, leb, length, ℤ, nat_abs, ◌-ℤ◌}
use Rattle.std.proofs.Common.{arith, eqb→eq, leb→le, lit<, lit≤}
use Rattle.arithmetic.specs.Lists.{at, all}
use Rattle.arithmetic.specs.Sums.{sum_ℕ}
use Rattle.arithmetic.specs.TestLaws.{all-at}
use Rattle.analysis.specs.declared.Route.TheVariants.{Direct}
use Rattle.analysis.specs.Analysis.{units_of, coefficients}
use Rattle.orders.specs.declared.Order.TheVariants.{ByBlock, ByFrequency}
use Rattle.orders.specs.Orders.{part}
use Rattle.recording.specs.Recordings.{block}
use Rattle.block_calls.specs.Analysis.{analyse_code, analyse_out}
use Rattle.recording_calls.specs.Recordings.{recorded_out, played_code, played_out}
use Rattle.stream_calls.specs.States.{fresh_state}
use Rattle.demands.specs.Steps.{Offer, Turn, taken, offers_of, turns, final, Entry, Brought, Numbered, change}
use Rattle.demands.specs.Steps.Entry.{first, later}
use Rattle.demands.proofs.RunLaws.{no_entry, entry-offer}
use Rattle.demands.specs.Chains.{calls, held}
use Rattle.demands.proofs.ChainLaws.{fresh-calls}
use Rattle.demands.specs.Sparse.{changes, SparseBlock, SparseNumbered, SparseOnce, SparseBlocks, sparse_distance, SparselyReturned, SparselyBack}
use Rattle.demands.proofs.SparseLaws.{sparse_list, sparse_calls, sparse_once, sparse_blocks}
use Rattle.demands.specs.Example.{knock, directly, sparse_0, slight_0, knock_1, totals, largests, slight_totals, room, offer, sparse_offers, slight_offers, sparse_whole}
use Rattle.demands.proofs.ExampleLaws.{computed, answers, twelve, knock_recorded, near, knock_near_1, brought, made}
use Rattle.demands.specs.ListExamples.{nines}
use Rattle.demands.proofs.RecordingExampleLaws.{knock-analysed}

-- ---- the blocks that the taken steps bring
abbrev brought_offers : List ℤ → List Offer
brought_offers c = offer 0 0 0 c room ∷ offer 1 0 0 knock_1 room ∷ []

sparse_taken : offers_of (taken (turns 12 sparse_offers)) ≡ brought_offers sparse_0
unfolding computed
sparse_taken = refl

slight_taken : offers_of (taken (turns 12 slight_offers)) ≡ brought_offers slight_0
unfolding computed
slight_taken = refl

-- how much each is changed in all
changed_by : ℕ → List ℤ → ℕ
changed_by b c = changes 6 c (coefficients Direct 12 0 0 (block 12 knock b))

sparse_total : changed_by 0 sparse_0 ≡ 1000
unfolding computed sum_ℕ changes changed_by
sparse_total = refl

slight_total : changed_by 0 slight_0 ≡ 47
unfolding computed sum_ℕ changes changed_by
slight_total = refl

second-total : changed_by 1 knock_1 ≡ 26
unfolding computed sum_ℕ changes changed_by
second-total = refl

brings : (totals : ℕ → ℕ) (b : ℕ) (c : List ℤ) → b ≤ 1 → length c ≡ 6 → changed_by b c ≡ totals b → SparseBlock 12 1 totals directly knock b 0 0 c
unfolding directly changed_by
brings totals b c p l e = record { exists = p; offers = unfold answers in tt; long = l; all = omega (arith, e) }

numbered : (totals : ℕ → ℕ) (offers : List Offer) (c : List ℤ) → offers_of (taken (turns 12 offers)) ≡ brought_offers c → length c ≡ 6 → changed_by 0 c ≡ totals 0 → changed_by 1 knock_1 ≡ totals 1 →
    SparseNumbered 12 1 totals directly knock (turns 12 offers)
numbered totals offers c are l e f = record { each = λ j t g. go (rw are at (entry-offer g)) }
  where
    go : {j : ℕ} {o : Offer} → Entry (brought_offers c) j o → SparseBlock 12 1 totals directly knock o.number o.left o.right o.brought
    go first = brings totals 0 c (lit≤ tt) l e
    go (later first) = brings totals 1 knock_1 (lit≤ tt) (unfold computed in refl) f
    go (later (later e)) = absurd (no_entry e refl)

-- ---- one coefficient moved by 1,000 units
pub sparse_numbered : SparseNumbered 12 1 totals directly knock (turns 12 sparse_offers)
unfolding totals
sparse_numbered = numbered totals sparse_offers sparse_0 sparse_taken (unfold computed in refl) sparse_total second-total

pub sparsely : SparselyReturned 12 1 totals directly knock (turns 12 sparse_offers) (final 12 sparse_offers)
sparsely = sparse_list 12 twelve 1 totals directly knock knock_recorded sparse_offers sparse_numbered

-- the largest changes of the same list: 1,000 and 7
near_sparse : Holds (near 1000 directly knock 0 0 0 sparse_0)
unfolding computed near
near_sparse = tt

pub by-largest : Numbered 12 1 largests directly knock (turns 12 sparse_offers)
by-largest = record { each = λ j t g. go (rw sparse_taken at (entry-offer g)) }
  where
    go : {j : ℕ} {o : Offer} → Entry (brought_offers sparse_0) j o → Brought 12 1 largests directly knock o.number o.left o.right o.brought
    go first = brought largests directly 1 knock 0 0 0 sparse_0 (lit≤ tt) (unfold answers in tt) (unfold computed in refl) (unfold largests in near_sparse)
    go (later first) = brought largests directly 1 knock 1 0 0 knock_1 (lit≤ tt) (unfold answers in tt) (unfold computed in refl) (unfold largests in knock_near_1)
    go (later (later e)) = absurd (no_entry e refl)

-- the bound both ways: 10 by the sum of the changes, 63 by the largest
pub by_the_sum : sparse_distance 12 1000 26 ≡ 10
unfolding sparse_distance
by_the_sum = refl

pub by_the_largest : (change 1000 7 Direct Direct + 8) / 16 ≡ 63
unfolding change units_of
by_the_largest = refl

-- so of each of the six samples, once both blocks are taken
pub sparse_all : length (taken (turns 12 sparse_offers)) ≡ 2
unfolding computed
sparse_all = refl

pub within_10 : (i : ℕ) → i < 6 → (t : Turn) × Entry (taken (turns 12 sparse_offers)) (suc (i / 6)) t × (nat_abs (at t.output (i % 6) -ℤ at knock i) ≤ 10)
unfolding directly totals
within_10 i p =
    let h : i / 6 ≡ 0 = omega arith in
    let (t, e, f, r) = sparsely.whole sparse_all i p in
    (t, e, rw (h, by_the_sum) at (r.near refl refl))

pub within_63 : (i : ℕ) → i < 6 → (t : Turn) × Entry (taken (turns 12 sparse_offers)) (suc (i / 6)) t × (nat_abs (at t.output (i % 6) -ℤ at knock i) ≤ 63)
unfolding directly largests
within_63 i p =
    let h : i / 6 ≡ 0 = omega arith in
    let (t, e, f, r) = (sparsely.beside largests by-largest).1.near sparse_all i p in
    (t, e, rw (h, by_the_largest) at r)

-- on a state that held nines
pub sparsely_on_a_state : SparselyReturned 12 1 totals directly knock (calls (fresh_state 12 nines) sparse_offers) (held (fresh_state 12 nines) sparse_offers)
sparsely_on_a_state = sparse_calls 12 nines made 1 totals directly knock knock_recorded sparse_offers (rw (fresh-calls 12 nines made sparse_offers) sparse_numbered)

-- ---- one coefficient moved by 47, below 4N: every sample comes back as it was, where the largest change alone tells 3
pub slight_numbered : SparseNumbered 12 1 slight_totals directly knock (turns 12 slight_offers)
unfolding slight_totals
slight_numbered = numbered slight_totals slight_offers slight_0 slight_taken (unfold computed in refl) slight_total second-total

pub slight_all : length (taken (turns 12 slight_offers)) ≡ 2
unfolding computed
slight_all = refl

pub as_it_was : (i : ℕ) → i < 6 → (t : Turn) × Entry (taken (turns 12 slight_offers)) (suc (i / 6)) t × (at t.output (i % 6) ≡ at knock i)
unfolding directly slight_totals
as_it_was i p =
    let h : i / 6 ≡ 0 = omega arith in
    let (t, e, f, r) = (sparse_list 12 twelve 1 slight_totals directly knock knock_recorded slight_offers slight_numbered).whole slight_all i p in
    (t, e, r.same refl refl (rw h (lit< tt)) (lit< tt))

-- ---- the calls over whole recordings: analysed by one call, which filled by frequency; what is synthesised lies by block
pub sparse_played : played_code 12 1 sparse_whole room ≡ 0
unfolding answers
sparse_played = refl

abbrev off : ℕ → ℕ
off b = changes 6 (part ByBlock 6 2 sparse_whole b) (part ByFrequency 6 2 (recorded_out Direct ByFrequency 12 1 knock (room ++ room)) b)

offs : Holds (all 2 (λ b. leb (off b) (totals b)))
unfolding answers sum_ℕ changes totals
offs = tt

pub by_one_call : SparseOnce 12 1 totals ByBlock knock sparse_whole
by_one_call = record {
  filled = ByFrequency;
  buffer = room ++ room;
  analysed = knock-analysed;
  all = λ b p. leb→le (off b) (totals b) (all-at 2 (λ b. leb (off b) (totals b)) offs b (omega arith));
}

pub once : SparselyBack 12 1 totals (λ b. Direct) knock (played_out ByBlock 12 1 sparse_whole room)
once = sparse_once 12 1 totals ByBlock knock sparse_whole by_one_call room knock_recorded.sample sparse_played

pub once_within_10 : (i : ℕ) → i < 6 → nat_abs (at (played_out ByBlock 12 1 sparse_whole room) i -ℤ at knock i) ≤ 10
unfolding totals
once_within_10 i p =
    let h : i / 6 ≡ 0 = omega arith in
    rw (h, by_the_sum) at ((once.each i p).near refl refl)

-- and block by block
blocks-taken : Holds (all 2 (λ b. eqb (analyse_code Direct 12 0 0 (block 12 knock b) room) 0))
unfolding answers
blocks-taken = tt

abbrev off_block : ℕ → ℕ
off_block b = changes 6 (part ByBlock 6 2 sparse_whole b) (analyse_out Direct 12 0 0 (block 12 knock b) room)

off-blocks : Holds (all 2 (λ b. leb (off_block b) (totals b)))
unfolding answers sum_ℕ changes totals
off-blocks = tt

pub by_blocks : SparseBlocks 12 1 totals directly ByBlock knock sparse_whole
unfolding directly
by_blocks = record {
  buffer = λ b. room;
  analysed = λ b p. eqb→eq (analyse_code Direct 12 0 0 (block 12 knock b) room) 0 (all-at 2 (λ b. eqb (analyse_code Direct 12 0 0 (block 12 knock b) room) 0) blocks-taken b (omega arith));
  all = λ b p. leb→le (off_block b) (totals b) (all-at 2 (λ b. leb (off_block b) (totals b)) off-blocks b (omega arith));
}

pub blocks : SparselyBack 12 1 totals directly knock (played_out ByBlock 12 1 sparse_whole room)
blocks = sparse_blocks 12 1 totals directly ByBlock knock sparse_whole by_blocks room knock_recorded sparse_played
