-- The three demands, proved: `demand_1`, `demand_2` and `demand_3` are the records of Demands, `either_order` is that of orders, `levels_kept` is that of levels, `sparse_kept` that of sparse changes, `coarsest_found` that of the coarsest step, `floats_exact` that of floats, and `beyond` what is proved beyond the third.
use Rattle.std.specs.Prelude.{◌+◌, ◌*◌}
use Rattle.analysis.specs.declared.Route.TheVariants.{Direct}
use Rattle.step_search.specs.Search.{sure}
use Rattle.recording_calls.specs.Recordings.{played_out}
use Rattle.demands.specs.Demands.{Demand1, Demand2, EitherOrder, OneQ, Demand3, LevelsKept, SparseKept, CoarsestFound, FloatsExact, Beyond}
use Rattle.demands.proofs.RecordingLaws.{proved_one}
use Rattle.demands.proofs.AnswerLaws as Answers
use Rattle.demands.proofs.DefinitionLaws as Definitions
use Rattle.demands.proofs.OrderLaws as Orders
use Rattle.demands.proofs.ThereAndBackLaws.{every_list, there_and_back, whole-returned, returned-one, there_and_back_sharper}
use Rattle.demands.proofs.ChainLaws.{calls_answered, calls_there_and_back, calls-whole, calls-one, calls_sharper}
use Rattle.demands.proofs.MovedLaws as Moved
use Rattle.demands.proofs.StoredLaws as Stored
use Rattle.demands.proofs.StoredListLaws as StoredLists
use Rattle.demands.proofs.SparseLaws as Sparse
use Rattle.demands.proofs.CoarseLaws as Coarse
use Rattle.demands.proofs.CoarseTableLaws as CoarseTables
use Rattle.demands.proofs.FloatValueLaws as Floats
use Rattle.demands.proofs.BackLaws.{back_one, back_by_one_call, back_block_by_block}

pub demand_1 : Demand1
demand_1 = Answers.demand_1

pub demand_2 : Demand2
demand_2 = Definitions.demand_2

pub either_order : EitherOrder
either_order = Orders.either_order

one_Q : OneQ
one_Q = record {
  list = returned-one;
  calls = λ N state z H Q routes x rec offers numbered. calls-one N state z offers H Q routes x rec numbered;
  once = λ N H Q route order x c out s g e. back_one N H Q (λ b. route) x (played_out order N H c out) (back_by_one_call N H (λ b. Q) route order x c out s g e).0;
  blocks = λ N H Q routes order x c out r g e. back_one N H Q routes x (played_out order N H c out) (back_block_by_block N H (λ b. Q) routes order x c out r g e).0;
}

pub demand_3 : Demand3
demand_3 = record {
  answered = every_list;
  calls_answered = λ N state z offers. calls_answered N state z offers;
  list = there_and_back;
  whole = whole-returned;
  calls = λ N state z H Q routes x rec offers numbered. (calls_there_and_back N state z offers H Q routes x rec numbered, calls-whole N state z offers H Q routes x rec numbered);
  once = λ N H Q route order x c out s g e. (back_by_one_call N H Q route order x c out s g e).0;
  blocks = λ N H Q routes order x c out r g e. (back_block_by_block N H Q routes order x c out r g e).0;
  one_Q = one_Q;
}

pub levels_kept : LevelsKept
levels_kept = record {
  moved = Moved.moved;
  goes_back = Moved.dequantise_takes;
  always_taken = Moved.always_taken;
  list = Stored.told-kept;
  calls = Stored.told_kept_calls;
  answered = StoredLists.loads_answered;
  calls_answered = λ N state z offers. StoredLists.load_calls_answered N state z offers;
  levels = λ N t H tables routes x rec offers given. StoredLists.loads_kept N t offers H tables routes x rec given;
  level_calls = λ N state z H tables routes x rec offers given. StoredLists.load_calls_kept N state z offers H tables routes x rec given;
  once = Stored.stored_once;
  blocks = λ N H tables routes order x c out z rec given. Stored.stored_back N H tables routes order x c out z rec given;
}

pub sparse_kept : SparseKept
sparse_kept = record {
  list = Sparse.sparse_list;
  calls = Sparse.sparse_calls;
  once = λ N H T order x c out s g e. (Sparse.sparse_once N H T order x c g out s e, λ Q h. (back_by_one_call N H Q Direct order x c out s h e).0);
  blocks = λ N H T routes order x c out r g e. (Sparse.sparse_blocks N H T routes order x c g out r e, λ Q h. (back_block_by_block N H Q routes order x c out r h e).0);
  one = Sparse.sparse_one;
}

pub coarsest_found : CoarsestFound
coarsest_found = record {
  found = Coarse.found_on;
  sure_keeps = λ N H x D s t c l. Coarse.passes_keeps N H x s D (sure D) (Coarse.sure-passes N H x s t c l D);
  told = λ N H x D step s t c l p q. Coarse.passes_keeps N H x s D step (Coarse.told-passes N H x s t c l D step p q);
  next = λ N H x D s t c l. Coarse.passes_keeps N H x s D (32 * D + 16) (Coarse.next-passes N H x s t c l D);
  trial = λ N H x D step s e. Coarse.passes_keeps N H x s D step e;
  trial_fails = λ N H x D step s e. Coarse.fails_beyond N H x s D step e;
  stored = CoarseTables.stored_once;
  told_is = CoarseTables.told_is;
  at_32 = Coarse.answer_32;
  at_31 = Coarse.answer_31;
  at_0 = Coarse.answer_0;
}

pub floats_exact : FloatsExact
floats_exact = record { exactly = Floats.exactly; floats = Floats.floats_on; ends = Floats.ends_on }

pub beyond : Beyond
beyond = record {
  list = there_and_back_sharper;
  calls = λ N state z H Q routes x rec offers numbered. calls_sharper N state z offers H Q routes x rec numbered;
  once = λ N H Q route order x c out s g e. (back_by_one_call N H Q route order x c out s g e).1;
  blocks = λ N H Q routes order x c out r g e. (back_block_by_block N H Q routes order x c out r g e).1;
  one = proved_one;
}
