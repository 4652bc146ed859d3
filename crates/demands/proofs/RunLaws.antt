-- Laws of a list of steps: its turns one by one, the taken ones, and their entries.
use Rattle.std.specs.Prelude.{◌≡◌, ◌≢◌, List, [], ◌∷◌, ℕ, zero, suc, ◌<◌, length}
use Rattle.std.proofs.Math.Path.{refl, ap}
use Rattle.std.proofs.Common.{◌∙◌, not-suc-le-zero, le_of_suc-le-suc, arith}
use Rattle.std.proofs.Math.Decide.{ℕ_discrete}
use Rattle.stream.specs.declared.Stream.{Stream}
use Rattle.stream_calls.specs.Streams.{step_code, step}
use Rattle.demands.specs.Steps.{Offer, Turn, answered, run, after, taken, offers_of, Entry}
use Rattle.demands.specs.Steps.Entry.{first, later}
use Rattle.demands.specs.StepLaws as L

-- ---- of one step
module _ (s : Stream) (o : Offer) where
  abbrev pub code : ℕ
  code = step_code s o.number o.left o.right o.brought o.buffer

  pub answered-code : (answered s o).answer.code ≡ code
  unfolding answered step
  answered-code = refl

  pub refused_stream : code ≢ 0 → (answered s o).answer.stream ≡ s
  unfolding answered
  refused_stream r = L.refused_stream s o.number o.left o.right o.brought o.buffer r

  pub refused_buffer : code ≢ 0 → (answered s o).output ≡ o.buffer
  unfolding answered
  refused_buffer r = L.refused_buffer s o.number o.left o.right o.brought o.buffer r

-- ---- of a list
pub taken_yes : (t : Turn) (ts : List Turn) → t.answer.code ≡ 0 → taken (t ∷ ts) ≡ t ∷ taken ts
unfolding taken
taken_yes t ts e = L.code-zero t.answer.code (t ∷ taken ts) (taken ts) e

pub taken_no : (t : Turn) (ts : List Turn) → t.answer.code ≢ 0 → taken (t ∷ ts) ≡ taken ts
unfolding taken
taken_no t ts e = L.code_other t.answer.code (t ∷ taken ts) (taken ts) e

module _ (s : Stream) (o : Offer) (offers : List Offer) where
  pub run-taken : code s o ≡ 0 → taken (run s (o ∷ offers)) ≡ answered s o ∷ taken (run (answered s o).answer.stream offers)
  unfolding run
  run-taken e = taken_yes (answered s o) (run (answered s o).answer.stream offers) (answered-code s o ∙ e)

  pub run-refused : code s o ≢ 0 → taken (run s (o ∷ offers)) ≡ taken (run s offers)
  unfolding run
  run-refused r =
      taken_no (answered s o) (run (answered s o).answer.stream offers) (rw (answered-code s o) r)
      ∙ ap (λ (q : Stream). taken (run q offers)) (refused_stream s o r)

  pub after-refused : code s o ≢ 0 → after s (o ∷ offers) ≡ after s offers
  unfolding after
  after-refused r = ap (λ (q : Stream). after q offers) (refused_stream s o r)

-- what holds of the taken turns of a list, us, and of the stream after it, last: it holds of none, and with one more in front. A refused step is passed over
pub of_taken : (P : Stream → List Turn → Stream → Type 0) → ((s : Stream) → P s [] s) →
    ((s : Stream) (o : Offer) (us : List Turn) (last : Stream) → code s o ≡ 0 → P (answered s o).answer.stream us last → P s (answered s o ∷ us) last) →
    (offers : List Offer) (s : Stream) → P s (taken (run s offers)) (after s offers)
unfolding run taken after
of_taken P none more [] s = none s
of_taken P none more (o ∷ offers) s = go (ℕ_discrete (code s o) 0) (of_taken P none more offers)
  where
    go : Dec (code s o ≡ 0) → ((s : Stream) → P s (taken (run s offers)) (after s offers)) → P s (taken (run s (o ∷ offers))) (after s (o ∷ offers))
    go (yes z) ih =
        let s' = (answered s o).answer.stream in
        rw (run-taken s o offers z) (more s o (taken (run s' offers)) (after s' offers) z (ih s'))
    go (no r) ih = rw (run-refused s o offers r, after-refused s o offers r) (ih s)

-- ---- entries
pub no_entry : {A : Type 0} {l : List A} {i : ℕ} {a : A} → Entry l i a → l ≡ [] → ⊥
no_entry first e = let z : ◌≡◌ {A = ℕ} 0 1 = cc in omega arith
no_entry (later h) e = let z : ◌≡◌ {A = ℕ} 0 1 = cc in omega arith

-- a list has as many entries as its length says
pub entry_at : {A : Type 0} (l : List A) (i : ℕ) → i < length l → (a : A) × Entry l i a
entry_at [] i p = absurd (not-suc-le-zero p)
entry_at (a ∷ l) zero p = (a, first)
entry_at (a ∷ l) (suc i) p = let (b, e) = entry_at l i (le_of_suc-le-suc p) in (b, later e)

-- a turn by what was offered, and the other way
pub entry-offer : {us : List Turn} {i : ℕ} {u : Turn} → Entry us i u → Entry (offers_of us) i u.offer
unfolding offers_of
entry-offer first = first
entry-offer (later e) = later (entry-offer e)

pub entry-turn : (us : List Turn) {i : ℕ} {o : Offer} → Entry (offers_of us) i o → (u : Turn) × Entry us i u × (u.offer ≡ o)
unfolding offers_of
entry-turn [] e = absurd (no_entry e refl)
entry-turn (u ∷ us) first = (u, first, refl)
entry-turn (u ∷ us) (later e) = let (v, f, g) = entry-turn us e in (v, later f, g)

-- a taken turn is one of the list, and returned 0
pub record Found (us : List Turn) (u : Turn) : Type 0 where
  pub place : ℕ
  pub entry : Entry us place u
  pub zero_code : u.answer.code ≡ 0

found-later : (v : Turn) {us : List Turn} {u : Turn} → Found us u → Found (v ∷ us) u
found-later v f = record { place = suc f.place; entry = later f.entry; zero_code = f.zero_code }

pub entry-taken : (us : List Turn) (j : ℕ) (u : Turn) → Entry (taken us) j u → Found us u
unfolding taken
entry-taken [] j u e = absurd (no_entry e refl)
entry-taken (v ∷ us) j u e = go (ℕ_discrete v.answer.code 0) (entry-taken us)
  where
    cases : v.answer.code ≡ 0 → ((j : ℕ) (u : Turn) → Entry (taken us) j u → Found us u) → (j : ℕ) (u : Turn) → Entry (v ∷ taken us) j u → Found (v ∷ us) u
    cases z ih j u first = record { place = 0; entry = first; zero_code = z }
    cases z ih j u (later {i = k} f) = found-later v (ih k u f)

    go : Dec (v.answer.code ≡ 0) → ((j : ℕ) (u : Turn) → Entry (taken us) j u → Found us u) → Found (v ∷ us) u
    go (yes z) ih = cases z ih j u (rw (taken_yes v us z) at e)
    go (no r) ih = found-later v (ih j u (rw (taken_no v us r) at e))
