-- Laws of what `reorder`, an order's number and the calls on shares over recordings answer, by their causes.
use Rattle.std.proofs.Math.Path.{◌≡◌, refl, sym, ap}
use Rattle.std.proofs.Common.{◌∙◌, arith, lt-ltb, le-ltb}
use Rattle.std.specs.Prelude.{◌≢◌, Bool, List, [], ◌∷◌, ℕ, ◌+◌, ◌*◌, ◌/◌, ◌<◌, length, ℤ}
use Rattle.std.proofs.Math.Bool.{true, false, cond}
use Rattle.std.proofs.Math.Decide.{ℕ_discrete, dec_lt}
use Rattle.arithmetic.specs.TestLaws.{is_true, is_false}
use Rattle.orders.specs.declared.Order.{Order}
use Rattle.orders.specs.Orders.{order_of, hops_in, reordered}
use Rattle.checks.specs.Limits.{in_range}
use Rattle.checks.specs.Causes.{First}
use Rattle.checks.specs.Causes.First.{none, stop, pass}
use Rattle.checks.specs.CauseLaws.{first_is, same, differs, beside}
use Rattle.recording_calls.specs.Recordings.{reorder_causes, reorder_code, reorder_out}
use Rattle.share_calls.specs.Answers.{Share}
use Rattle.share_calls.specs.ShareCalls.{answered_with, refused_with, numbers_of}
use Rattle.share_calls.specs.RecordingShares.{share_at, numbered_from, place_causes, place_code, both_ranged, recording_share, recording_name_code, recording_name_out}
use Rattle.share_calls.specs.RecordingShareLaws.{placed_away, out_of_range, share_taken, name_placed_away, name_long, name_out_of_range, name-taken}
use Rattle.demands.specs.StepLaws.{code_other}
use Rattle.demands.specs.CauseTestLaws.{counts, counts_not, ranges, of_ranges, recording_causes}
use Rattle.demands.specs.Answers.{Tabled, Counted, InRange, ReorderAnswers, NumberAnswers, PlacedIn, RecordingShareAnswers, RecordingNameAnswers}

pub reorder_answers : (to : Order) (N H : ℕ) (x out : List ℤ) → ReorderAnswers to N H x out
unfolding reorder_causes reorder_code reorder_out
reorder_answers to N H x out =
    let r = recording_causes N H x ((H + 1) * (N / 2)) (length out) ((H + 1) * (N / 2)) in
    record {
      one = r.one;
      two_hops = r.two_hops;
      two_in = r.two_in;
      two_out = r.two_out;
      three = r.three;
      taken = r.taken;
      kept = λ n. code_other (reorder_code N H x out) (reordered to (N / 2) (H + 1) x) out n;
    }

pub number-answers : (order H : ℕ) → NumberAnswers order H
unfolding order_of hops_in
number-answers order H = record {
  by_block = λ e. rw e (refl, refl);
  by_frequency = λ e. rw e (refl, refl);
  other = λ h. rw (le-ltb order 2 (omega arith)) (λ (c : Counted 0). omega (arith, c.some));
}

-- ---- shares over a recording
module _ (N H : ℕ) (X X' : List ℤ) (hop place : ℕ) where
  abbrev size : ℕ
  size = place_code N H X X' hop place

  by_size : {k : ℕ} → First (place_causes N H X X' hop place) k → size ≡ k
  unfolding place_code
  by_size f = first_is (place_causes N H X X' hop place) f

  size_1 : ¬ Tabled N → size ≡ 1
  unfolding place_causes
  size_1 n = by_size (stop (is_false n))

  module _ (t : Tabled N) where
    size-hops : ¬ Counted H → size ≡ 2
    unfolding place_causes
    size-hops n = by_size (pass (is_true t) (stop (counts_not H n)))

    -- whichever of the four fails, and whether or not the hops do
    size_2 : ¬ PlacedIn N H X X' hop place → size ≡ 2
    unfolding place_causes
    size_2 n = by_size (go (ℕ_discrete (length X) ((H + 1) * (N / 2))) (ℕ_discrete (length X') ((H + 1) * (N / 2))) (dec_lt hop H) (dec_lt place (N / 2)))
      where
        go : Dec (length X ≡ (H + 1) * (N / 2)) → Dec (length X' ≡ (H + 1) * (N / 2)) → Dec (hop < H) → Dec (place < N / 2) → First (place_causes N H X X' hop place) 2
        go (no a) b c d = pass (is_true t) (beside (differs a))
        go (yes a) (no b) c d = pass (is_true t) (beside (beside (differs b)))
        go (yes a) (yes b) (no c) d = pass (is_true t) (beside (beside (beside (stop (le-ltb hop H (omega (arith, c)))))))
        go (yes a) (yes b) (yes c) (no d) = pass (is_true t) (beside (beside (beside (beside (stop (le-ltb place (N / 2) (omega (arith, d))))))))
        go (yes a) (yes b) (yes c) (yes d) = absurd (n (record { original_is = a; changed_is = b; hop_is = c; place_is = d }))

    size_0 : Counted H → PlacedIn N H X X' hop place → size ≡ 0
    unfolding place_causes
    size_0 k s = by_size (pass (is_true t) (pass (counts H k) (same s.original_is (same s.changed_is (pass (lt-ltb hop H s.hop_is) (pass (lt-ltb place (N / 2) s.place_is) none))))))

  module _ (s : PlacedIn N H X X' hop place) where
    ranged_yes : InRange X → InRange X' → both_ranged N H X X' ≡ true
    unfolding both_ranged
    ranged_yes r r' = let a = ranges X ((H + 1) * (N / 2)) s.original_is r in let b = ranges X' ((H + 1) * (N / 2)) s.changed_is r' in rw (a, b)

    ranged_no : ¬ (InRange X × InRange X') → both_ranged N H X X' ≡ false
    unfolding both_ranged
    ranged_no n = go (in_range ((H + 1) * (N / 2)) X) (in_range ((H + 1) * (N / 2)) X') refl refl
      where
        go : (a b : Bool) → in_range ((H + 1) * (N / 2)) X ≡ a → in_range ((H + 1) * (N / 2)) X' ≡ b → cond a b false ≡ false
        go false b e f = refl
        go true false e f = refl
        go true true e f = absurd (n (of_ranges X ((H + 1) * (N / 2)) s.original_is e, of_ranges X' ((H + 1) * (N / 2)) s.changed_is f))

  module _ (order : Order) where
    refused : {k : ℕ} → size ≡ k → k ≢ 0 → recording_share order N H X X' hop place ≡ refused_with k
    refused e n = sym (placed_away N H X X' hop place order (λ z. n (sym e ∙ z))) ∙ ap refused_with e

    pub recording_share_answers : RecordingShareAnswers order N H X X' hop place
    recording_share_answers = record {
      one = λ n. refused (size_1 n) (λ e. omega (arith, e));
      two_hops = λ t n. refused (size-hops t n) (λ e. omega (arith, e));
      two = λ t n. refused (size_2 t n) (λ e. omega (arith, e));
      three = λ t k s n. sym (out_of_range N H X X' hop place order (size_0 t k s) (ranged_no s n));
      taken = λ t k s r r'. sym (share_taken N H X X' hop place order (size_0 t k s) (ranged_yes s r r'));
    }

    -- the answer where the number is 0
    module _ (z : (recording_share order N H X X' hop place).code ≡ 0) where
      pub taken-tests : (size ≡ 0) × (both_ranged N H X X' ≡ true)
      taken-tests = go (ℕ_discrete size 0) (both_ranged N H X X') refl
        where
          go : Dec (size ≡ 0) → (b : Bool) → both_ranged N H X X' ≡ b → (size ≡ 0) × (both_ranged N H X X' ≡ true)
          go (no n) b e = absurd (n (ap (λ (a : Share). a.code) (placed_away N H X X' hop place order n) ∙ z))
          go (yes s) true e = (s, e)
          go (yes s) false e = let k : ◌≡◌ {A = ℕ} 3 0 = ap (λ (a : Share). a.code) (out_of_range N H X X' hop place order s e) ∙ z in absurd (omega (arith, k))

      pub taken_is : recording_share order N H X X' hop place ≡ answered_with (numbered_from hop (share_at order N H X X' hop place))
      taken_is = sym (share_taken N H X X' hop place order taken-tests.0 taken-tests.1)

    -- into room for three numbers
    module _ (room : List ℕ) where
      abbrev code : ℕ
      code = recording_name_code N H X X' hop place room

      abbrev Names : Type 0
      Names = let a = recording_share order N H X X' hop place in (a.code ≡ 0) × (recording_name_out order N H X X' hop place room ≡ cond a.any 1 0 ∷ a.block ∷ a.coefficient ∷ [])

      names_it : code ≡ 0 → Names
      unfolding numbers_of
      names_it z = go (ℕ_discrete size 0) (ℕ_discrete (length room) 3) (both_ranged N H X X') refl
        where
          go : Dec (size ≡ 0) → Dec (length room ≡ 3) → (b : Bool) → both_ranged N H X X' ≡ b → Names
          go (no n) l b e = absurd (n ((name_placed_away N H X X' hop place order room n).0 ∙ z))
          go (yes s) (no n) b e = let k : ◌≡◌ {A = ℕ} 2 0 = (name_long N H X X' hop place order room s n).0 ∙ z in absurd (omega (arith, k))
          go (yes s) (yes l) false e = let k : ◌≡◌ {A = ℕ} 3 0 = (name_out_of_range N H X X' hop place order room s l e).0 ∙ z in absurd (omega (arith, k))
          go (yes s) (yes l) true e =
              let t = share_taken N H X X' hop place order s e in
              (ap (λ (a : Share). a.code) (sym t), sym (name-taken N H X X' hop place order room s l e).1 ∙ ap (λ (a : Share). cond a.any 1 0 ∷ a.block ∷ a.coefficient ∷ []) t)

      placed_name : {k : ℕ} → size ≡ k → k ≢ 0 → code ≡ k
      placed_name e n = sym (name_placed_away N H X X' hop place order room (λ z. n (sym e ∙ z))).0 ∙ e

      pub recording_name_answers : RecordingNameAnswers order N H X X' hop place room
      unfolding recording_name_out
      recording_name_answers = record {
        one = λ n. placed_name (size_1 n) (λ e. omega (arith, e));
        two_hops = λ t n. placed_name (size-hops t n) (λ e. omega (arith, e));
        two = λ t n. placed_name (size_2 t n) (λ e. omega (arith, e));
        two_room = λ t k s n. sym (name_long N H X X' hop place order room (size_0 t k s) n).0;
        three = λ t k s l n. sym (name_out_of_range N H X X' hop place order room (size_0 t k s) l (ranged_no s n)).0;
        taken = λ t k s l r r'. sym (name-taken N H X X' hop place order room (size_0 t k s) l (ranged_yes s r r')).0;
        names = names_it;
        kept = λ n. code_other code (numbers_of (numbered_from hop (share_at order N H X X' hop place))) room n;
      }
