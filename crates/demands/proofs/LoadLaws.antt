-- Laws of one call of `step` or of `step_levels` as a step on what it brings, and of lists of them: `alikes`, that the two lists answer alike.
use Rattle.std.specs.Prelude.{◌≡◌, ◌≢◌, Bool, true, false, List, [], ◌∷◌, eqb, length, take, ℤ}
use Rattle.std.proofs.Math.Path.{refl}
use Rattle.std.proofs.Common.{sym, ap, ◌∙◌, arith, ne_eqb, eq-eqb}
use Rattle.std.proofs.Math.Bool.{cond}
use Prim.Native.Nat.{ℕ, zero, suc, ◌/◌}
use Rattle.std.proofs.Math.Decide.{ℕ_discrete}
use Rattle.stream.specs.declared.Stream.{Stream}
use Rattle.checks.specs.Causes.{first_cause}
use Rattle.checks.specs.Limits.{in_range}
use Rattle.stream_calls.specs.Answers.{Stepped}
use Rattle.stream_calls.specs.Streams as S
use Rattle.stream_calls.specs.StreamLaws.{sound-tabled}
use Rattle.steps.specs.Table.{table_code}
use Rattle.level_calls.specs.LevelCalls as L
use Rattle.level_calls.specs.LevelCalls.{back_by, brought_causes, brought_code, step_levels}
use Rattle.level_calls.specs.LevelCallLaws.{hop_some, refused-step, refused-out}
use Rattle.demands.specs.Steps.{Offer, Turn, Entry, answered, run, after, taken, Answered}
use Rattle.demands.specs.Steps.Entry.{first, later}
use Rattle.demands.proofs.RunLaws.{refused_stream, refused_buffer, taken_yes, taken_no}
use Rattle.demands.proofs.TableAnswerLaws.{table_no_four, table_no_seven}
use Rattle.demands.specs.LevelStepLaws.{levels-step}
use Rattle.demands.specs.StoredLists.{Load, LoadOffer, step_by_load, output_by, load_answered, load_run, load_after, brought_by, bringing, as_turn, as_turns}
use Rattle.demands.specs.StoredLists.Load.{spectrum, levels}

-- two turns that answer alike: taken, they are the same; refused, they leave the same, and 4 and 7 are told by both
pub record Alike (t u : Turn) : Type 0 where
  pub offer_is : t.offer ≡ u.offer
  pub handed_is : t.handed ≡ u.handed
  pub stream_is : t.answer.stream ≡ u.answer.stream
  pub output_is : t.output ≡ u.output
  pub taken_is : u.answer.code ≡ 0 → t ≡ u
  pub refused_is : u.answer.code ≢ 0 → t.answer.code ≢ 0
  pub four : t.answer.code ≡ 4 → u.answer.code ≡ 4
  pub seven : u.answer.code ≡ 7 → t.answer.code ≡ 7
  pub only_seven : t.answer.code ≡ 7 → u.answer.code ≡ 7

same_alike : {t u : Turn} → t ≡ u → Alike t u
same_alike e = record {
  offer_is = ap (λ (v : Turn). v.offer) e;
  handed_is = ap (λ (v : Turn). v.handed) e;
  stream_is = ap (λ (v : Turn). v.answer.stream) e;
  output_is = ap (λ (v : Turn). v.output) e;
  taken_is = λ z. e;
  refused_is = λ n z. n (sym (ap (λ (v : Turn). v.answer.code) e) ∙ z);
  four = λ z. sym (ap (λ (v : Turn). v.answer.code) e) ∙ z;
  seven = λ z. ap (λ (v : Turn). v.answer.code) e ∙ z;
  only_seven = λ z. sym (ap (λ (v : Turn). v.answer.code) e) ∙ z;
}

-- ---- levels whose table or whose number is refused
-- the numbers of two refusals with the same first three tests: the same, or 2 where the other is the table's or 2
pub record Both (p q : ℕ) : Type 0 where
  pub refused : p ≢ 0
  pub refused_too : q ≢ 0
  pub four : p ≡ 4 → q ≡ 4
  pub seven : q ≡ 7 → p ≡ 7
  pub only_seven : p ≡ 7 → q ≡ 7

both_same : (p : ℕ) → p ≢ 0 → Both p p
both_same p n = record { refused = n; refused_too = n; four = λ z. z; seven = λ z. z; only_seven = λ z. z }

module _ (s : Stream) (number l r : ℕ) (text : List ℕ) (x out : List ℤ) (n : brought_code s.n text x ≢ 0) where
  -- the table's number, or 2
  rest : ℕ
  rest = cond (eqb (table_code (s.n / 2) text) 0) (cond (eqb (length x) (s.n / 2)) (cond (eqb (length out) (s.n / 2)) 0 2) 2) (table_code (s.n / 2) text)

  rest-is : (rest ≢ 0) × ((rest ≢ 4) × (rest ≢ 7))
  unfolding rest brought_code brought_causes first_cause
  rest-is = go (ℕ_discrete (table_code (s.n / 2) text) 0) (eqb (length x) (s.n / 2)) n
    where
      t : ℕ
      t = table_code (s.n / 2) text

      go : Dec (t ≡ 0) → (b : Bool) → cond (eqb t 0) (cond b 0 2) t ≢ 0 →
          (cond (eqb t 0) (cond b (cond (eqb (length out) (s.n / 2)) 0 2) 2) t ≢ 0) ×
          ((cond (eqb t 0) (cond b (cond (eqb (length out) (s.n / 2)) 0 2) 2) t ≢ 4) × (cond (eqb t 0) (cond b (cond (eqb (length out) (s.n / 2)) 0 2) 2) t ≢ 7))
      go (yes z) true m = absurd (m (rw (eq-eqb t 0 z)))
      go (yes z) false m = rw (eq-eqb t 0 z) ((λ e. omega (arith, e)), ((λ e. omega (arith, e)), (λ e. omega (arith, e))))
      go (no k) b m = rw (ne_eqb t 0 k) (k, (table_no_four (s.n / 2) text, table_no_seven (s.n / 2) text))

  both : Both (L.step_code s number l r text x out) (S.step_code s number l r [] out)
  unfolding L.step_code L.step_causes S.step_code S.step_causes first_cause rest
  both = go (S.sound s) (eqb number s.expected) (S.fits l r s.shape) refl
    where
      none : ℕ
      none = cond (eqb (length {A = ℤ} []) (s.n / 2)) (cond (eqb (length out) (s.n / 2)) (cond (in_range (s.n / 2) []) 0 3) 2) 2

      none_is : S.sound s ≡ true → none ≡ 2
      none_is t = rw (ne_eqb (length {A = ℤ} []) (s.n / 2) (λ (e : length {A = ℤ} [] ≡ s.n / 2). omega (arith, e, hop_some s.n (sound-tabled s t))))

      go : (a b c : Bool) → S.sound s ≡ a → Both (cond a (cond b (cond c rest 8) 7) 4) (cond a (cond b (cond c none 8) 7) 4)
      go true true true e =
          let z = none_is e in
          rw z (record { refused = rest-is.0; refused_too = λ k. omega (arith, k); four = λ k. absurd (rest-is.1.0 k); seven = λ k. absurd (omega (arith, k)); only_seven = λ k. absurd (rest-is.1.1 k) })
      go true true false e = both_same 8 (λ k. omega (arith, k))
      go true false c e = both_same 7 (λ k. omega (arith, k))
      go false b c e = both_same 4 (λ k. omega (arith, k))

-- ---- one call
turn_is : (s : Stream) (q : Offer) {a c : Stepped} {u v : List ℤ} → a ≡ c → u ≡ v →
    ◌≡◌ {A = Turn} (record { handed = s; offer = q; answer = a; output = u }) (record { handed = s; offer = q; answer = c; output = v })
turn_is s q {a = a} {c = c} {u = u} {v = v} e f =
    ap (λ (k : Stepped). record { handed = s; offer = q; answer = k; output = u }) e ∙ ap (λ (k : List ℤ). record { handed = s; offer = q; answer = c; output = k }) f

pub alike : (s : Stream) (number l r : ℕ) (w : Load) (out : List ℤ) →
    let o : LoadOffer = record { number = number; left = l; right = r; load = w; buffer = out } in Alike (as_turn (load_answered s o)) (answered s (bringing s o))
unfolding as_turn load_answered step_by_load output_by answered bringing brought_by step_levels S.step
alike s number l r (spectrum x) out = same_alike refl
alike s number l r (levels text x) out = go (ℕ_discrete (brought_code s.n text x) 0)
  where
    q : List ℤ → Offer
    q c = record { number = number; left = l; right = r; brought = c; buffer = out }

    goal : List ℤ → Type 0
    goal c = Alike (record { handed = s; offer = q c; answer = step_levels s number l r text x out; output = L.step_out s number l r text x out })
        (record { handed = s; offer = q c; answer = S.step s number l r c out; output = S.step_out s number l r c out })

    yes_goal : brought_code s.n text x ≡ 0 → goal (back_by s.n text x)
    yes_goal b = let e = levels-step s number l r text x out b in same_alike (turn_is s (q (back_by s.n text x)) e.0 e.1)

    no_goal : brought_code s.n text x ≢ 0 → goal []
    no_goal n =
        let d = both s number l r text x out n in
        let e = sym (refused-step s number l r text x out d.refused refl) in
        let f = sym (refused-out s number l r text x out d.refused refl) in
        record {
          offer_is = refl;
          handed_is = refl;
          stream_is = ap (λ (v : Stepped). v.stream) e ∙ sym (refused_stream s (q []) d.refused_too);
          output_is = f ∙ sym (refused_buffer s (q []) d.refused_too);
          taken_is = λ z. absurd (d.refused_too z);
          refused_is = λ m. d.refused;
          four = d.four;
          seven = d.seven;
          only_seven = d.only_seven;
        }

    go : Dec (brought_code s.n text x ≡ 0) → goal (cond (eqb (brought_code s.n text x) 0) (back_by s.n text x) [])
    go (yes b) = rw (eq-eqb (brought_code s.n text x) 0 b) (yes_goal b)
    go (no n) = rw (ne_eqb (brought_code s.n text x) 0 n) (no_goal n)

-- ---- a list of calls
pub data Alikes : List Turn → List Turn → Type 0 where
  none : Alikes [] []
  more : {t u : Turn} {ts us : List Turn} → Alike t u → Alikes ts us → Alikes (t ∷ ts) (u ∷ us)

unfoldable pub bringings : Stream → List LoadOffer → List Offer
bringings s [] = []
bringings s (o ∷ offers) = bringing s o ∷ bringings (load_answered s o).answer.stream offers

next-is : (s : Stream) (o : LoadOffer) → (load_answered s o).answer.stream ≡ (answered s (bringing s o)).answer.stream
unfolding as_turn
next-is s o = (alike s o.number o.left o.right o.load o.buffer).stream_is

pub alikes : (offers : List LoadOffer) (s : Stream) → Alikes (as_turns (load_run s offers)) (run s (bringings s offers))
unfolding load_run as_turns bringings run
alikes [] s = none
alikes (o ∷ offers) s =
    let s' = (load_answered s o).answer.stream in
    let ih = alikes offers s' in
    more {ts = as_turns (load_run s' offers)} {us = run (answered s (bringing s o)).answer.stream (bringings s' offers)} (alike s o.number o.left o.right o.load o.buffer) (rw (sym (next-is s o)) ih)

pub after_is : (offers : List LoadOffer) (s : Stream) → load_after s offers ≡ after s (bringings s offers)
unfolding load_after after bringings
after_is [] s = refl
after_is (o ∷ offers) s = after_is offers (load_answered s o).answer.stream ∙ ap (λ (q : Stream). after q (bringings (load_answered s o).answer.stream offers)) (next-is s o)

-- what two lists that answer alike have in common
module _ where
  entry_alike : {ts us : List Turn} {i : ℕ} {t : Turn} → Alikes ts us → Entry ts i t → (u : Turn) × Entry us i u × Alike t u
  entry_alike {i = i} {t = t} none x4 = elim x4 [ ]
  entry_alike (more {u = u} a as') first = (u, first, a)
  entry_alike (more a as') (later e) = let (u, f, b) = entry_alike as' e in (u, later f, b)

  pub taken_alike : {ts us : List Turn} → Alikes ts us → taken ts ≡ taken us
  taken_alike none = refl
  taken_alike (more {t = t} {u = u} {ts = ts} {us = us} a as') = go (ℕ_discrete u.answer.code 0) (taken_alike as')
    where
      go : Dec (u.answer.code ≡ 0) → taken ts ≡ taken us → taken (t ∷ ts) ≡ taken (u ∷ us)
      go (yes z) ih =
          let e = a.taken_is z in
          taken_yes t ts (ap (λ (v : Turn). v.answer.code) e ∙ z) ∙ ap (λ (v : Turn). v ∷ taken ts) e ∙ ap (λ (vs : List Turn). u ∷ vs) ih ∙ sym (taken_yes u us z)
      go (no n) ih = taken_no t ts (a.refused_is n) ∙ ih ∙ sym (taken_no u us n)

  take_alike : (i : ℕ) {ts us : List Turn} → Alikes ts us → Alikes (take i ts) (take i us)
  take_alike zero a = none
  take_alike (suc i) none = none
  take_alike (suc i) (more a as') = more a (take_alike i as')

-- so what is claimed of every list of steps is claimed of such a list
pub answered_alike : {ts us : List Turn} (N : ℕ) (last : Stream) → Alikes ts us → Answered N us last → Answered N ts last
answered_alike {ts} {us} N last a w =
    let e = taken_alike a in
    record {
      made = w.made;
      no_four = λ i t f z. let (u, g, b) = entry_alike a f in w.no_four i u g (b.four z);
      numbers = rw e w.numbers;
      first_joint = rw e w.first_joint;
      joints = rw e w.joints;
      seven = λ i t f n. let (u, g, b) = entry_alike a f in b.seven (w.seven i u g (λ z. n (ap (λ (o : Offer). o.number) b.offer_is ∙ z ∙ sym (ap length (taken_alike (take_alike i a))))));
      only_seven = λ i t f z m. let (u, g, b) = entry_alike a f in
          w.only_seven i u g (b.only_seven z) (sym (ap (λ (o : Offer). o.number) b.offer_is) ∙ m ∙ ap length (taken_alike (take_alike i a)));
      refused_stream = λ i t f n. let (u, g, b) = entry_alike a f in b.stream_is ∙ w.refused_stream i u g (refused i t u b n) ∙ sym b.handed_is;
      refused_buffer = λ i t f n. let (u, g, b) = entry_alike a f in b.output_is ∙ w.refused_buffer i u g (refused i t u b n) ∙ sym (ap (λ (o : Offer). o.buffer) b.offer_is);
      hop_long = rw e w.hop_long;
      final_n = w.final_n;
      final_expected = rw e w.final_expected;
      final_shape = rw e w.final_shape;
      final_none = rw e w.final_none;
      final_long = w.final_long;
      final_zero = w.final_zero;
    }
  where
    refused : (i : ℕ) (t u : Turn) → Alike t u → t.answer.code ≢ 0 → u.answer.code ≢ 0
    refused i t u b n z = n (ap (λ (v : Turn). v.answer.code) (b.taken_is z) ∙ z)
