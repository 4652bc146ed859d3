-- Laws of the calls on step tables and levels: what they answer by their causes; and a step on levels is `step` on what comes back from them.
use Rattle.std.proofs.Math.Path.{◌≡◌, refl, sym, ap}
use Rattle.std.proofs.Common.{◌∙◌, arith}
use Rattle.std.specs.Prelude.{◌≢◌, Bool, List, [], ◌∷◌, T, take, ℤ}
use Rattle.std.proofs.Math.Bool.{true, false, cond}
use Prim.Native.Nat.{ℕ, ◌/◌, ◌^◌, ◌≤◌, ◌<◌}
use borrow.Author.Tests.{eq-eqb, ne_eqb}
use Rattle.std.proofs.Math.Dec.{eqb, eqb→eq}
use Rattle.std.proofs.Math.ListN.{length}
use Rattle.arithmetic.specs.Lists.{at, table, Small}
use Rattle.arithmetic.specs.ListLaws.{length-table, get_d_table, table_ext}
use Rattle.arithmetic.specs.TestLaws.{is_true}
use Rattle.cosine.specs.Kernels.{tabled}
use Rattle.cosine.specs.LengthLaws.{tabled_length}
use Rattle.stream.specs.declared.Stream.{Stream}
use Rattle.analysis.specs.declared.Route.{Route}
use Rattle.analysis.specs.Analysis.{offered}
use Rattle.analysis.specs.AnalysisLaws.{offered-tabled}
use Rattle.checks.specs.Limits.{in_range}
use Rattle.checks.specs.LimitLaws.{small_range}
use Rattle.checks.specs.Causes.{First, first_cause}
use Rattle.checks.specs.CauseLaws.{first_is, leaves, passed, spared, Passed}
use Rattle.stream_calls.specs.Streams as S
use Rattle.stream_calls.specs.StreamLaws.{sound-tabled}
use Rattle.stream_calls.specs.States as C
use Rattle.levels.specs.Levels as L
use Rattle.levels.specs.Levels.{Stepping, level, back, levelled, restored}
use Rattle.levels.specs.LevelLaws.{restored_long, restored_small}
use Rattle.steps.specs.Table.{Verdict, taken, verdict, table_code, step_at, coarsest}
use Rattle.steps.specs.StepLaws.{step-least, step-most, coarsest-most}
use Rattle.level_calls.specs.Brought.{Each}
use Rattle.level_calls.specs.LevelCalls.{levels_by, back_by, quantise_causes, quantise_code, quantise_out, dequantise_causes, dequantise_code, dequantise_out, told_causes, told_code, told, distance, tell_code, tell_out, brought_causes, brought_code, step_causes, step_code, step_levels, step_out, state_causes, state_code, state_after, state_out}

-- ---- a hop of a tabled length
pub hop_some : (N : ℕ) → T (tabled N) → 0 < N / 2
hop_some N t = omega (arith, (tabled_length N t).twelve, (tabled_length N t).some)

pub hop_most : (N : ℕ) → T (tabled N) → N / 2 ≤ 108
hop_most N t = omega (arith, (tabled_length N t).most)

-- the largest step of a table that is taken, for a search
pub coarse : (N : ℕ) → T (tabled N) → (text : List ℕ) → table_code (N / 2) text ≡ 0 → coarsest (N / 2) text ≤ 65536
coarse N t text is = coarsest-most (N / 2) (hop_some N t) text is

-- a route is offered at tabled lengths only
pub offered_tabled : (route : Route) (N : ℕ) → T (offered route N) → T (tabled N)
offered_tabled = offered-tabled

-- ---- the steps of a table that is taken, in front of room for those of the longest block
module _ (N : ℕ) (t : T (tabled N)) (text : List ℕ) (is : table_code (N / 2) text ≡ 0) (each : List ℕ) (given : each ≡ table (N / 2) (step_at (N / 2) text)) where
  each_at : (k : ℕ) → k < N / 2 → L.step_at each k ≡ step_at (N / 2) text k
  each_at k p = rw given (get_d_table (step_at (N / 2) text) 0 (N / 2) k p)

  each_long : length each ≡ N / 2
  each_long = ap length given ∙ length-table (step_at (N / 2) text) (N / 2)

  each_step : Stepping each
  each_step = record {
    each = λ k p.
        let q : k < N / 2 = omega (arith, each_long) in
        rw (each_at k q) (record { least = step-least (N / 2) (hop_some N t) text is k q; most = step-most (N / 2) (hop_some N t) text is k q });
  }

  each-levels : (x : List ℤ) → levelled (L.step_at each) (N / 2) x ≡ levels_by N text x
  unfolding levels_by levelled
  each-levels x = table_ext (N / 2) (λ k. level (L.step_at each k) (at x k)) (λ k. level (step_at (N / 2) text k) (at x k)) (λ k p. ap (λ (s : ℕ). level s (at x k)) (each_at k p))

  each_back : (l : List ℤ) → restored (L.step_at each) (N / 2) l ≡ back_by N text l
  unfolding back_by restored
  each_back l = table_ext (N / 2) (λ k. back (L.step_at each k) (at l k)) (λ k. back (step_at (N / 2) text k) (at l k)) (λ k p. ap (λ (s : ℕ). back s (at l k)) (each_at k p))

-- as `read` leaves them
pub each_of : (N : ℕ) → T (tabled N) → (text each : List ℕ) → taken ≡ verdict (N / 2) text → N / 2 ≤ length each → take (N / 2) each ≡ table (N / 2) (step_at (N / 2) text) → Each N text each
each_of N t text each read room front =
    let is : table_code (N / 2) text ≡ 0 = ap (λ (v : Verdict). v.code) (sym read) in
    record {
      room = room;
      long = each_long N t text is (take (N / 2) each) front;
      stepping = each_step N t text is (take (N / 2) each) front;
      levels_are = each-levels N t text is (take (N / 2) each) front;
      back_is = each_back N t text is (take (N / 2) each) front;
    }

-- ---- a block's levels, and back
module _ (N : ℕ) (text : List ℕ) (x levels : List ℤ) where
  pub quantise-answer : {k : ℕ} → First (quantise_causes N text x levels) k → (k ≡ quantise_code N text x levels) × (cond (eqb k 0) (levels_by N text x) levels ≡ quantise_out N text x levels)
  unfolding quantise_code quantise_out
  quantise-answer f = (sym (first_is (quantise_causes N text x levels) f), leaves (quantise_causes N text x levels) (levels_by N text x) levels f)

  pub quantise-refused : {k : ℕ} → First (quantise_causes N text x levels) k → k ≢ 0 → (k ≡ quantise_code N text x levels) × (levels ≡ quantise_out N text x levels)
  quantise-refused {k} f n = let q = quantise-answer f in (q.0, rw (ne_eqb k 0 n) at q.1)

module _ (N : ℕ) (text : List ℕ) (levels out : List ℤ) where
  pub dequantise-answer : {k : ℕ} → First (dequantise_causes N text levels out) k → (k ≡ dequantise_code N text levels out) × (cond (eqb k 0) (back_by N text levels) out ≡ dequantise_out N text levels out)
  unfolding dequantise_code dequantise_out
  dequantise-answer f = (sym (first_is (dequantise_causes N text levels out) f), leaves (dequantise_causes N text levels out) (back_by N text levels) out f)

  pub dequantise-refused : {k : ℕ} → First (dequantise_causes N text levels out) k → k ≢ 0 → (k ≡ dequantise_code N text levels out) × (out ≡ dequantise_out N text levels out)
  dequantise-refused {k} f n = let q = dequantise-answer f in (q.0, rw (ne_eqb k 0 n) at q.1)

-- ---- the told distance
module _ (route : Route) (N : ℕ) (text : List ℕ) where
  pub told-refused : {k : ℕ} → First (told_causes route N text) k → k ≢ 0 → record { code = k; distance = 0 } ≡ told route N text
  unfolding told told_code
  told-refused {k} f n = rw (first_is (told_causes route N text) f, ne_eqb k 0 n)

  pub told_taken : First (told_causes route N text) 0 → record { code = 0; distance = distance route N text } ≡ told route N text
  unfolding told told_code
  told_taken f = rw (first_is (told_causes route N text) f)

-- into room for one number
module _ (route : Route) (N : ℕ) (text room : List ℕ) where
  pub tell-refused : {k : ℕ} → (told route N text).code ≡ k → k ≢ 0 → (k ≡ tell_code route N text room) × (room ≡ tell_out route N text room)
  unfolding told tell_code tell_out
  tell-refused {k} e n = let z = ne_eqb k 0 n in (rw (e, z), rw (e, z, z))

  pub tell_long : (told route N text).code ≡ 0 → length room ≢ 1 → (2 ≡ tell_code route N text room) × (room ≡ tell_out route N text room)
  unfolding told tell_code tell_out
  tell_long e n = let z = ne_eqb (length room) 1 n in (rw (e, z), rw (e, z))

  pub tell-taken : (told route N text).code ≡ 0 → length room ≡ 1 → (0 ≡ tell_code route N text room) × ((told route N text).distance ∷ [] ≡ tell_out route N text room)
  unfolding told tell_code tell_out
  tell-taken e l = let z = eq-eqb (length room) 1 l in (rw (e, z), rw (e, z))

-- ---- a step on levels
-- what comes back from levels is M coefficients that synthesis takes
pub back_long : (N : ℕ) (text : List ℕ) (levels : List ℤ) → length (back_by N text levels) ≡ N / 2
unfolding back_by
back_long N text levels = restored_long (step_at (N / 2) text) (N / 2) levels

pub back_small : (N : ℕ) (text : List ℕ) (levels : List ℤ) → Small (back_by N text levels) (2 ^ 29)
unfolding back_by
back_small N text levels = restored_small (step_at (N / 2) text) (N / 2) levels

pub back-ranged : (N : ℕ) (text : List ℕ) (levels : List ℤ) → in_range (N / 2) (back_by N text levels) ≡ true
back-ranged N text levels = small_range (back_by N text levels) (N / 2) (back_long N text levels) (back_small N text levels)

-- three tests, and what is behind them; then the table's number and one more
tests : (a b c : Bool) → ℕ → ℕ
tests a b c rest = cond a (cond b (cond c rest 8) 7) 4

three : (a b c : Bool) (rest : ℕ) → tests a b c 0 ≡ 0 → tests a b c rest ≡ rest
unfolding tests
three true true true rest e = refl
three true true false rest e = absurd (omega (arith, e))
three true false c rest e = absurd (omega (arith, e))
three false b c rest e = absurd (omega (arith, e))

three_stop : (a b c : Bool) (rest : ℕ) → tests a b c 0 ≢ 0 → tests a b c rest ≡ tests a b c 0
unfolding tests
three_stop true true true rest n = absurd (n refl)
three_stop true true false rest n = refl
three_stop true false c rest n = refl
three_stop false b c rest n = refl

behind : ℕ → Bool → ℕ → ℕ
behind t c rest = cond (eqb t 0) (cond c rest 2) t

two : (t : ℕ) (c : Bool) (rest : ℕ) → behind t c 0 ≡ 0 → behind t c rest ≡ rest
unfolding behind
two t c rest = go (eqb t 0) c refl
  where
    clash : true ≡ false → ⊥
    clash e = let z : ◌≡◌ {A = ℕ} 0 1 = cc in omega arith

    go : (b c : Bool) → eqb t 0 ≡ b → cond b (cond c 0 2) t ≡ 0 → cond b (cond c rest 2) t ≡ rest
    go true true q e = refl
    go true false q e = absurd (omega (arith, e))
    go false c q e = absurd (clash (sym (eq-eqb t 0 e) ∙ q))

two_stop : (t : ℕ) (c : Bool) (rest : ℕ) → behind t c 0 ≢ 0 → behind t c rest ≡ behind t c 0
unfolding behind
two_stop t c rest = go (eqb t 0) c
  where
    go : (b c : Bool) → cond b (cond c 0 2) t ≢ 0 → cond b (cond c rest 2) t ≡ cond b (cond c 0 2) t
    go true true n = absurd (n refl)
    go true false n = refl
    go false c n = refl

-- where what is brought is taken, the table is, and there are M levels
module _ (N : ℕ) (text : List ℕ) (levels : List ℤ) (z : brought_code N text levels ≡ 0) where
  pub brought_table : table_code (N / 2) text ≡ 0
  unfolding brought_code brought_causes first_cause
  brought_table = go (eqb (table_code (N / 2) text) 0) refl z
    where
      go : (b : Bool) → eqb (table_code (N / 2) text) 0 ≡ b → cond b (cond (eqb (length levels) (N / 2)) 0 2) (table_code (N / 2) text) ≡ 0 → table_code (N / 2) text ≡ 0
      go true e q = eqb→eq (table_code (N / 2) text) 0 (rw e tt)
      go false e q = q

  pub brought_long : length levels ≡ N / 2
  unfolding brought_code brought_causes first_cause
  brought_long = go (eqb (length levels) (N / 2)) refl (rw (eq-eqb (table_code (N / 2) text) 0 brought_table) at z)
    where
      go : (b : Bool) → eqb (length levels) (N / 2) ≡ b → ◌≡◌ {A = ℕ} (cond b 0 2) 0 → length levels ≡ N / 2
      go true e q = eqb→eq (length levels) (N / 2) (rw e tt)
      go false e q = absurd (omega (arith, q))

module _ (s : Stream) (number l r : ℕ) (text : List ℕ) (levels out : List ℤ) where
  abbrev x : List ℤ
  x = back_by s.n text levels

  -- the table, and the number of its bytes' verdict; the length of what is handed in
  abbrev t : ℕ
  t = table_code (s.n / 2) text

  abbrev enough : Bool
  enough = eqb (length levels) (s.n / 2)

  abbrev room : ℕ
  room = cond (eqb (length out) (s.n / 2)) 0 2

  -- turned away before the table is read
  pub early : S.admit_code s number l r ≢ 0 → step_code s number l r text levels out ≡ S.admit_code s number l r
  unfolding step_code step_causes S.admit_code S.admit_causes first_cause tests behind
  early n = three_stop (S.sound s) (eqb number s.expected) (S.fits l r s.shape) (behind t enough room) n

  -- for what is brought
  pub brought : S.admit_code s number l r ≡ 0 → brought_code s.n text levels ≢ 0 → step_code s number l r text levels out ≡ brought_code s.n text levels
  unfolding step_code step_causes S.admit_code S.admit_causes brought_code brought_causes first_cause tests behind
  brought z n = three (S.sound s) (eqb number s.expected) (S.fits l r s.shape) (behind t enough room) z ∙ two_stop t enough room n

  -- the same of numbers that are tested
  pub early_is : eqb (S.admit_code s number l r) 0 ≡ false → step_code s number l r text levels out ≡ S.admit_code s number l r
  early_is e = early (tested e)
    where
      clash : true ≡ false → ⊥
      clash e = let z : ◌≡◌ {A = ℕ} 0 1 = cc in omega arith

      tested : {k : ℕ} → eqb k 0 ≡ false → k ≢ 0
      tested {k} e z = clash (sym (eq-eqb k 0 z) ∙ e)

  pub brought_is : S.admit_code s number l r ≡ 0 → eqb (brought_code s.n text levels) 0 ≡ false → step_code s number l r text levels out ≡ brought_code s.n text levels
  brought_is z e = brought z (tested e)
    where
      clash : true ≡ false → ⊥
      clash e = let z : ◌≡◌ {A = ℕ} 0 1 = cc in omega arith

      tested : {k : ℕ} → eqb k 0 ≡ false → k ≢ 0
      tested {k} e z = clash (sym (eq-eqb k 0 z) ∙ e)

  -- and then it answers as `step` on the coefficients that come back
  pub same_code : S.admit_code s number l r ≡ 0 → brought_code s.n text levels ≡ 0 → step_code s number l r text levels out ≡ S.step_code s number l r x out
  unfolding step_code step_causes S.admit_code S.admit_causes brought_code brought_causes first_cause S.step_code S.step_causes tests behind
  same_code z y =
      let a = S.sound s in
      let b = eqb number s.expected in
      let c = S.fits l r s.shape in
      let long : ℕ = cond (eqb (length x) (s.n / 2)) (cond (eqb (length out) (s.n / 2)) (cond (in_range (s.n / 2) x) 0 3) 2) 2 in
      let e : long ≡ room = rw (eq-eqb (length x) (s.n / 2) (back_long s.n text levels), back-ranged s.n text levels) in
      three a b c (behind t enough room) z ∙ two t enough room y ∙ sym (three a b c long z ∙ e)

  -- the room for the hop is what is left to decide
  pub last_code : S.admit_code s number l r ≡ 0 → brought_code s.n text levels ≡ 0 → step_code s number l r text levels out ≡ room
  unfolding step_code step_causes S.admit_code S.admit_causes brought_code brought_causes first_cause tests behind
  last_code z y = three (S.sound s) (eqb number s.expected) (S.fits l r s.shape) (behind t enough room) z ∙ two t enough room y

  pub same_step : S.admit_code s number l r ≡ 0 → brought_code s.n text levels ≡ 0 → S.step s number l r x out ≡ step_levels s number l r text levels out
  unfolding S.step step_levels
  same_step z y = rw (same_code z y)

  pub same_out : S.admit_code s number l r ≡ 0 → brought_code s.n text levels ≡ 0 → S.step_out s number l r x out ≡ step_out s number l r text levels out
  unfolding S.step_out step_out
  same_out z y = rw (same_code z y)

  -- refused, with the number k
  pub refused-step : {k : ℕ} → k ≢ 0 → step_code s number l r text levels out ≡ k → record { code = k; stream = s } ≡ step_levels s number l r text levels out
  unfolding step_levels
  refused-step {k} n e = rw (e, ne_eqb k 0 n)

  pub refused-out : {k : ℕ} → k ≢ 0 → step_code s number l r text levels out ≡ k → out ≡ step_out s number l r text levels out
  unfolding step_out
  refused-out {k} n e = rw (e, ne_eqb k 0 n)

  -- the stream is of a tabled length where it takes the block
  pub admitted_tabled : S.admit_code s number l r ≡ 0 → T (tabled s.n)
  unfolding S.admit_code S.admit_causes spared Passed
  admitted_tabled z = sound-tabled s (is_true (passed (S.admit_causes s number l r) tt z).0)

-- ---- the same on the stream that a state holds
module _ (state : List ℤ) (number l r : ℕ) (text : List ℕ) (levels out : List ℤ) where
  abbrev held : Stream
  held = C.stream_in state

  abbrev whole : Bool
  whole = eqb (length state) C.entries

  pub state_admitted : C.admit_code state number l r ≡ 0 → (length state ≡ C.entries) × (S.admit_code held number l r ≡ 0)
  unfolding C.admit_code C.admit_causes S.admit_code first_cause
  state_admitted = go whole refl
    where
      go : (b : Bool) → whole ≡ b → cond b (first_cause (S.admit_causes held number l r)) 2 ≡ 0 → (length state ≡ C.entries) × (first_cause (S.admit_causes held number l r) ≡ 0)
      go true e z = (eqb→eq (length state) C.entries (rw e tt), z)
      go false e z = absurd (omega (arith, z))

  pub state-early : C.admit_code state number l r ≢ 0 → state_code state number l r text levels out ≡ C.admit_code state number l r
  unfolding C.admit_code C.admit_causes S.admit_code first_cause state_code state_causes step_code
  state-early = go whole
    where
      go : (b : Bool) → cond b (first_cause (S.admit_causes held number l r)) 2 ≢ 0 →
          cond b (first_cause (step_causes held number l r text levels out)) 2 ≡ cond b (first_cause (S.admit_causes held number l r)) 2
      go true n = early held number l r text levels out n
      go false n = refl

  -- a state of the right length: as the stream that it holds
  state_code_is : length state ≡ C.entries → state_code state number l r text levels out ≡ step_code held number l r text levels out
  unfolding first_cause state_code state_causes step_code
  state_code_is e = rw (eq-eqb (length state) C.entries e)

  pub state_brought : C.admit_code state number l r ≡ 0 → brought_code held.n text levels ≢ 0 → state_code state number l r text levels out ≡ brought_code held.n text levels
  state_brought z n = let a = state_admitted z in state_code_is a.0 ∙ brought held number l r text levels out a.1 n

  abbrev y : List ℤ
  y = back_by held.n text levels

  state_same_code : C.admit_code state number l r ≡ 0 → brought_code held.n text levels ≡ 0 → state_code state number l r text levels out ≡ C.step_code state number l r y out
  unfolding C.step_code C.step_causes S.step_code first_cause
  state_same_code z q = let a = state_admitted z in state_code_is a.0 ∙ same_code held number l r text levels out a.1 q ∙ rw (eq-eqb (length state) C.entries a.0)

  pub state-same : C.admit_code state number l r ≡ 0 → brought_code held.n text levels ≡ 0 →
      (C.step_code state number l r y out ≡ state_code state number l r text levels out) ×
      ((C.step_state state number l r y out ≡ state_after state number l r text levels out) × (C.step_out state number l r y out ≡ state_out state number l r text levels out))
  unfolding C.step_state C.step_out state_after state_out
  state-same z q = let e = state_same_code z q in (sym e, (rw e, rw e))

  -- by the room for the hop
  pub state-room : C.admit_code state number l r ≡ 0 → brought_code held.n text levels ≡ 0 → length out ≢ held.n / 2 → state_code state number l r text levels out ≡ 2
  state-room z q n = let a = state_admitted z in state_code_is a.0 ∙ last_code held number l r text levels out a.1 q ∙ rw (ne_eqb (length out) (held.n / 2) n)

  pub state-taken : C.admit_code state number l r ≡ 0 → brought_code held.n text levels ≡ 0 → length out ≡ held.n / 2 → state_code state number l r text levels out ≡ 0
  state-taken z q e = let a = state_admitted z in state_code_is a.0 ∙ last_code held number l r text levels out a.1 q ∙ rw (eq-eqb (length out) (held.n / 2) e)

  pub state-refused : {k : ℕ} → k ≢ 0 → state_code state number l r text levels out ≡ k →
      (state ≡ state_after state number l r text levels out) × (out ≡ state_out state number l r text levels out)
  unfolding state_after state_out
  state-refused {k} n e = (rw (e, ne_eqb k 0 n), rw (e, ne_eqb k 0 n))

  -- the same of numbers that are tested
  clash : true ≡ false → ⊥
  clash e = let z : ◌≡◌ {A = ℕ} 0 1 = cc in omega arith

  tested : {a b : ℕ} → eqb a b ≡ false → a ≢ b
  tested {a} {b} e z = clash (sym (eq-eqb a b z) ∙ e)

  pub early_in : eqb (C.admit_code state number l r) 0 ≡ false → state_code state number l r text levels out ≡ C.admit_code state number l r
  early_in e = state-early (tested e)

  pub brought_in : C.admit_code state number l r ≡ 0 → eqb (brought_code held.n text levels) 0 ≡ false → state_code state number l r text levels out ≡ brought_code held.n text levels
  brought_in z e = state_brought z (tested e)

  pub room_in : C.admit_code state number l r ≡ 0 → brought_code held.n text levels ≡ 0 → eqb (length out) (held.n / 2) ≡ false → state_code state number l r text levels out ≡ 2
  room_in z q e = state-room z q (tested e)

  pub taken_in : C.admit_code state number l r ≡ 0 → brought_code held.n text levels ≡ 0 → length out ≡ held.n / 2 → state_code state number l r text levels out ≡ 0
  taken_in = state-taken

  pub taken_step : C.admit_code state number l r ≡ 0 → brought_code held.n text levels ≡ 0 → length out ≡ held.n / 2 → C.step_code state number l r y out ≡ 0
  taken_step z q e = (state-same z q).0 ∙ state-taken z q e

  pub same_state : C.admit_code state number l r ≡ 0 → brought_code held.n text levels ≡ 0 → C.step_state state number l r y out ≡ state_after state number l r text levels out
  same_state z q = (state-same z q).1.0

  pub same_state_out : C.admit_code state number l r ≡ 0 → brought_code held.n text levels ≡ 0 → C.step_out state number l r y out ≡ state_out state number l r text levels out
  same_state_out z q = (state-same z q).1.1

  pub tabled_in : C.admit_code state number l r ≡ 0 → T (tabled held.n)
  tabled_in z = admitted_tabled held number l r text levels out (state_admitted z).1
