-- The coarsest step and step tables (P8): one step on every coefficient is what `quantise` and `dequantise` make of them by a table of that step, and what is told of a table with the sure step.
use Rattle.std.specs.Prelude.{◌≡◌, List, ℕ, ◌+◌, ◌*◌, ◌/◌, ◌^◌, ◌≤◌, ◌<◌, length, replicate, ℤ, pos}
use Rattle.std.proofs.Math.Path.{sym, ap}
use Rattle.std.proofs.Common.{◌∙◌, arith}
use Rattle.std.proofs.Math.Logic.{dite}
use Rattle.std.proofs.Math.Decide.{dec_lt}
use Rattle.std.proofs.lemmas.List.{length-replicate}
use Rattle.arithmetic.specs.Rounding.{Sample}
use Rattle.arithmetic.specs.Lists.{at}
use Rattle.arithmetic.specs.ListLaws.{get_d_table, table_ext}
use Rattle.analysis.specs.declared.Route.TheVariants.{Direct}
use Rattle.analysis.specs.Analysis.{offered, units_of}
use Rattle.orders.specs.declared.Order.{Order}
use Rattle.orders.specs.Orders.{place, part}
use Rattle.orders.specs.OrderLaws.{place-less, part_long, part_at, part_small}
use Rattle.levels.specs.Levels.{level, back, levelled, restored}
use Rattle.steps.specs.Table.{step_at, coarsest}
use Rattle.level_calls.specs.LevelCalls.{levels_by, back_by, quantise_code, quantise_out, dequantise_code, told}
use Rattle.recording_calls.specs.Recordings.{recorded_code, recorded_out}
use Rattle.recording_calls.specs.RecordingLaws.{Played, played_facts}
use Rattle.step_search.specs.Search.{top, sure}
use Rattle.step_search.specs.SearchLaws.{sure_below, sure-top}
use Rattle.coarsest.specs.Coarsest.{stepped}
use Rattle.coarsest.specs.SteppedLaws.{stepped-at}
use Rattle.demands.specs.Answers.{Tabled, Ruled}
use Rattle.demands.proofs.AnswerLaws.{demand_1}
use Rattle.demands.proofs.MovedLaws.{quantised_is, dequantised_is, dequantise_takes}
use Rattle.demands.proofs.UnchangedLaws.{unchanged_taken}
use Rattle.demands.specs.Stored.{Through, StoredOnce}

-- ---- one block: coefficients in range, by a table with one step
module _ (N : ℕ) (text : List ℕ) (step : ℕ) (one : (k : ℕ) → k < N / 2 → step_at (N / 2) text k ≡ step) (X : List ℤ) where
  -- what comes back at place k
  pub by_one_step : (k : ℕ) → k < N / 2 → at (back_by N text (levels_by N text X)) k ≡ back step (level step (at X k))
  unfolding back_by levels_by levelled restored
  by_one_step k p =
      get_d_table (λ k. back (step_at (N / 2) text k) (at (levels_by N text X) k)) (pos 0) (N / 2) k p
      ∙ ap (back (step_at (N / 2) text k)) (get_d_table (λ k. level (step_at (N / 2) text k) (at X k)) (pos 0) (N / 2) k p)
      ∙ rw (one k p)

-- ---- a recording's coefficients
module _ (N H : ℕ) (x : List ℤ) (samples : (i : ℕ) → i < length x → Sample (at x i)) (room : List ℤ) (taken : recorded_code Direct N H x room ≡ 0) (order : Order) where
  module _ (text : List ℕ) (ruled : Ruled N text) (step : ℕ) (one : (k : ℕ) → k < N / 2 → step_at (N / 2) text k ≡ step) where
    abbrev M : ℕ
    M = N / 2

    abbrev X : List ℤ
    X = recorded_out Direct order N H x room

    -- buffers that the calls take
    abbrev zeros : List ℤ
    zeros = replicate M (pos 0)

    zeros_long : length zeros ≡ M
    zeros_long = length-replicate M (pos 0)

    facts : Played N H X (replicate (H * M) (pos 0))
    facts = let l = length-replicate (H * M) (pos 0) in played_facts N H X (replicate (H * M) (pos 0)) (unchanged_taken Direct order N H x room samples taken (replicate (H * M) (pos 0)) l)

    module _ (b : ℕ) (p : b ≤ H) where
      abbrev own : List ℤ
      own = part order M (H + 1) X b

      quantises : quantise_code N text own zeros ≡ 0
      quantises =
          let r = part_small M (H + 1) order X facts.long (2 ^ 29) facts.range b (omega (arith, p)) in
          (demand_1.quantised N text own zeros).taken facts.length_is ruled (part_long M (H + 1) order X b) zeros_long (record { each = λ k q. r.small k q })

      dequantises : dequantise_code N text (quantise_out N text own zeros) zeros ≡ 0
      dequantises = dequantise_takes N text own zeros zeros quantises zeros_long

      comes_back : part order M (H + 1) (stepped step X) b ≡ back_by N text (levels_by N text own)
      unfolding part back_by restored
      comes_back =
          table_ext M (λ k. at (stepped step X) (place order M (H + 1) b k)) (λ k. back (step_at M text k) (at (levels_by N text own) k))
          (λ k q.
          stepped-at step X (place order M (H + 1) b k) (omega (arith, facts.long, place-less M (H + 1) b k (omega (arith, p)) q order))
          ∙ ap (λ (z : ℤ). back step (level step z)) (sym (part_at M (H + 1) order X b k q))
          ∙ sym (by_one_step N text step one own k q)
          ∙ get_d_table (λ k. back (step_at M text k) (at (levels_by N text own) k)) (pos 0) M k q)

      through : Through N text own (part order M (H + 1) (stepped step X) b)
      through = record {
        levels = zeros;
        buffer = zeros;
        quantised = quantises;
        dequantised = dequantises;
        is = comes_back ∙ sym (dequantised_is N text (quantise_out N text own zeros) zeros dequantises ∙ ap (back_by N text) (quantised_is N text own zeros quantises));
      }

    pub stored_once : StoredOnce N H (λ b. text) Direct order x (stepped step X)
    stored_once = record { filled = order; buffer = room; analysed = taken; through = through }

-- ---- a table whose coarsest step is the sure one is told D
pub told_is : (N : ℕ) (text : List ℕ) (D : ℕ) → Tabled N → Ruled N text → coarsest (N / 2) text ≡ sure D → D ≤ 32 → told Direct N text ≡ record { code = 0; distance = D }
unfolding offered units_of
told_is N text D t ruled e few =
    (demand_1.told_first Direct N text).taken t ruled
    ∙ ap (λ (d : ℕ). record { code = 0; distance = d })
    (dite (dec_lt (32 * D + 15) top) (λ (h : 32 * D + 15 < top). omega (arith, e, sure_below D h)) (λ n. omega (arith, n, few, e, sure-top D (omega (arith, n)))))
