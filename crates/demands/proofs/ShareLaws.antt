-- Laws of what `largest_share` and `name_share` answer, by their causes.
use Rattle.std.proofs.Math.Path.{◌≡◌, refl, sym, ap}
use Rattle.std.proofs.Common.{◌∙◌, arith, le-leb, lt-ltb, le-ltb}
use Rattle.std.specs.Prelude.{◌≢◌, Bool, List, [], ◌∷◌, ℕ, ◌/◌, ◌≤◌, ◌<◌, length, ℤ}
use Rattle.std.proofs.Math.Bool.{true, false, cond}
use Rattle.std.proofs.Math.Decide.{ℕ_discrete, dec_lt}
use Rattle.std.proofs.lemmas.Bool.{lt-leb}
use Rattle.arithmetic.specs.TestLaws.{is_true, is_false}
use Rattle.checks.specs.Limits.{in_range}
use Rattle.checks.specs.Causes.{First}
use Rattle.checks.specs.Causes.First.{none, stop, pass}
use Rattle.checks.specs.CauseLaws.{first_is, same, differs}
use Rattle.shares.specs.Shares.{largest_share}
use Rattle.share_calls.specs.Answers.{Share}
use Rattle.share_calls.specs.ShareCalls.{size_causes, size_code, ranged, answered_with, refused_with, share_answer, name_code, name_out, numbers_of}
use Rattle.share_calls.specs.ShareCallLaws.{sized_away, out_of_range, share_taken, name_sized_away, name_long, name_out_of_range, name-taken}
use Rattle.demands.specs.StepLaws.{code_other}
use Rattle.demands.specs.CauseTestLaws.{ranges, of_ranges}
use Rattle.demands.specs.Answers.{Tabled, Sized, InRanges, ShareAnswers, NameAnswers}

-- ---- the numbers
module _ (N shape : ℕ) (first first' second second' : List ℤ) (place : ℕ) where
  abbrev size : ℕ
  size = size_code N shape first first' second second' place

  abbrev inside : Bool
  inside = ranged (N / 2) first first' second second'

  by_size : {k : ℕ} → First (size_causes N shape first first' second second' place) k → size ≡ k
  unfolding size_code
  by_size f = first_is (size_causes N shape first first' second second' place) f

  size_1 : ¬ Tabled N → size ≡ 1
  unfolding size_causes
  size_1 n = by_size (stop (is_false n))

  module _ (t : Tabled N) where
    size_8 : 1 < shape → size ≡ 8
    unfolding size_causes
    size_8 h = by_size (pass (is_true t) (stop (lt-leb shape 1 h)))

    module _ (h : shape ≤ 1) where
      -- whichever of the five fails
      size_2 : ¬ Sized N first first' second second' place → size ≡ 2
      unfolding size_causes
      size_2 n = by_size (go (ℕ_discrete (length first) (N / 2)) (ℕ_discrete (length first') (N / 2)) (ℕ_discrete (length second) (N / 2)) (ℕ_discrete (length second') (N / 2)) (dec_lt place (N / 2)))
        where
          go : Dec (length first ≡ N / 2) → Dec (length first' ≡ N / 2) → Dec (length second ≡ N / 2) → Dec (length second' ≡ N / 2) → Dec (place < N / 2) →
              First (size_causes N shape first first' second second' place) 2
          go (no a) b c d e = pass (is_true t) (pass (le-leb shape 1 h) (differs a))
          go (yes a) (no b) c d e = pass (is_true t) (pass (le-leb shape 1 h) (same a (differs b)))
          go (yes a) (yes b) (no c) d e = pass (is_true t) (pass (le-leb shape 1 h) (same a (same b (differs c))))
          go (yes a) (yes b) (yes c) (no d) e = pass (is_true t) (pass (le-leb shape 1 h) (same a (same b (same c (differs d)))))
          go (yes a) (yes b) (yes c) (yes d) (no e) = pass (is_true t) (pass (le-leb shape 1 h) (same a (same b (same c (same d (stop (le-ltb place (N / 2) (omega (arith, e)))))))))
          go (yes a) (yes b) (yes c) (yes d) (yes e) = absurd (n (record { first_is = a; first_changed_is = b; second_is = c; second_changed_is = d; place_is = e }))

      size_0 : Sized N first first' second second' place → size ≡ 0
      unfolding size_causes
      size_0 s =
          by_size (pass (is_true t) (pass (le-leb shape 1 h) (same s.first_is (same s.first_changed_is (same s.second_is (same s.second_changed_is
          (pass (lt-ltb place (N / 2) s.place_is) none)))))))

  -- the ranges, of coefficients as many as they should be
  module _ (s : Sized N first first' second second' place) where
    ranged_yes : InRanges first first' second second' → inside ≡ true
    unfolding ranged
    ranged_yes r =
        let a = ranges first (N / 2) s.first_is r.first_is in
        let b = ranges first' (N / 2) s.first_changed_is r.first_changed_is in
        let c = ranges second (N / 2) s.second_is r.second_is in
        let d = ranges second' (N / 2) s.second_changed_is r.second_changed_is in
        rw (a, b, c, d)

    ranged_no : ¬ InRanges first first' second second' → inside ≡ false
    unfolding ranged
    ranged_no n = go (in_range (N / 2) first) (in_range (N / 2) first') (in_range (N / 2) second) (in_range (N / 2) second') refl refl refl refl
      where
        go : (a b c d : Bool) → in_range (N / 2) first ≡ a → in_range (N / 2) first' ≡ b → in_range (N / 2) second ≡ c → in_range (N / 2) second' ≡ d → cond a (cond b (cond c d false) false) false ≡ false
        go false b c d e f g h = refl
        go true false c d e f g h = refl
        go true true false d e f g h = refl
        go true true true false e f g h = refl
        go true true true true e f g h = absurd (n (record {
          first_is = of_ranges first (N / 2) s.first_is e;
          first_changed_is = of_ranges first' (N / 2) s.first_changed_is f;
          second_is = of_ranges second (N / 2) s.second_is g;
          second_changed_is = of_ranges second' (N / 2) s.second_changed_is h;
        }))

  refused : {k : ℕ} → size ≡ k → k ≢ 0 → share_answer N shape first first' second second' place ≡ refused_with k
  refused e n = sym (sized_away N shape first first' second second' place (λ z. n (sym e ∙ z))) ∙ ap refused_with e

  pub share_answers : ShareAnswers N shape first first' second second' place
  share_answers = record {
    one = λ n. refused (size_1 n) (λ e. omega (arith, e));
    eight = λ t h. refused (size_8 t h) (λ e. omega (arith, e));
    two = λ t h n. refused (size_2 t h n) (λ e. omega (arith, e));
    three = λ t h s n. sym (out_of_range N shape first first' second second' place (size_0 t h s) (ranged_no s n));
    taken = λ t h s r. sym (share_taken N shape first first' second second' place (size_0 t h s) (ranged_yes s r));
  }

  -- the answer where the number is 0
  module _ (z : (share_answer N shape first first' second second' place).code ≡ 0) where
    pub taken-tests : (size ≡ 0) × (inside ≡ true)
    taken-tests = go (ℕ_discrete size 0) inside refl
      where
        go : Dec (size ≡ 0) → (b : Bool) → inside ≡ b → (size ≡ 0) × (inside ≡ true)
        go (no n) b e = absurd (n (ap (λ (a : Share). a.code) (sized_away N shape first first' second second' place n) ∙ z))
        go (yes s) true e = (s, e)
        go (yes s) false e = let k : ◌≡◌ {A = ℕ} 3 0 = ap (λ (a : Share). a.code) (out_of_range N shape first first' second second' place s e) ∙ z in absurd (omega (arith, k))

    pub taken_is : share_answer N shape first first' second second' place ≡ answered_with (largest_share N shape place first first' second second')
    taken_is = sym (share_taken N shape first first' second second' place taken-tests.0 taken-tests.1)

  -- into room for three numbers
  module _ (room : List ℕ) where
    abbrev code : ℕ
    code = name_code N shape first first' second second' place room

    abbrev Names : Type 0
    Names = let a = share_answer N shape first first' second second' place in (a.code ≡ 0) × (name_out N shape first first' second second' place room ≡ cond a.any 1 0 ∷ a.block ∷ a.coefficient ∷ [])

    names_it : code ≡ 0 → Names
    unfolding numbers_of
    names_it z = go (ℕ_discrete size 0) (ℕ_discrete (length room) 3) inside refl
      where
        go : Dec (size ≡ 0) → Dec (length room ≡ 3) → (b : Bool) → inside ≡ b → Names
        go (no n) l b e = absurd (n ((name_sized_away N shape first first' second second' place room n).0 ∙ z))
        go (yes s) (no n) b e = let k : ◌≡◌ {A = ℕ} 2 0 = (name_long N shape first first' second second' place room s n).0 ∙ z in absurd (omega (arith, k))
        go (yes s) (yes l) false e = let k : ◌≡◌ {A = ℕ} 3 0 = (name_out_of_range N shape first first' second second' place room s l e).0 ∙ z in absurd (omega (arith, k))
        go (yes s) (yes l) true e =
            let t = share_taken N shape first first' second second' place s e in
            (ap (λ (a : Share). a.code) (sym t), sym (name-taken N shape first first' second second' place room s l e).1 ∙ ap (λ (a : Share). cond a.any 1 0 ∷ a.block ∷ a.coefficient ∷ []) t)

    sized_name : {k : ℕ} → size ≡ k → k ≢ 0 → code ≡ k
    sized_name e n = sym (name_sized_away N shape first first' second second' place room (λ z. n (sym e ∙ z))).0 ∙ e

    pub name-answers : NameAnswers N shape first first' second second' place room
    unfolding name_out
    name-answers = record {
      one = λ n. sized_name (size_1 n) (λ e. omega (arith, e));
      eight = λ t h. sized_name (size_8 t h) (λ e. omega (arith, e));
      two = λ t h n. sized_name (size_2 t h n) (λ e. omega (arith, e));
      two_room = λ t h s n. sym (name_long N shape first first' second second' place room (size_0 t h s) n).0;
      three = λ t h s l n. sym (name_out_of_range N shape first first' second second' place room (size_0 t h s) l (ranged_no s n)).0;
      taken = λ t h s l r. sym (name-taken N shape first first' second second' place room (size_0 t h s) l (ranged_yes s r)).0;
      names = names_it;
      kept = λ n. code_other code (numbers_of (largest_share N shape place first first' second second')) room n;
    }
