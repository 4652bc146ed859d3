-- Laws of what the calls on floats answer by their causes. They are fields of `demand_1`.
use Rattle.std.specs.Prelude.{◌≡◌, ◌≢◌, cond, List, [], ◌∷◌, ℕ, ◌/◌, eqb, length, ℤ, Float}
use Rattle.std.proofs.Common.{sym}
use Rattle.arithmetic.specs.TestLaws.{is_true, is_false}
use Rattle.checks.specs.Causes.{First}
use Rattle.checks.specs.Causes.First.{none, stop, pass}
use Rattle.checks.specs.CauseLaws.{first_is, same, differs, beside}
use Rattle.float_calls.specs.FloatCalls.{block_causes, block_code, ends_causes, ends_code, pair_of, no_pair, ends_of, pair_code, pair_out}
use Rattle.float_calls.specs.FloatCallLaws.{block-answer, block_facts, floats-refused, pair_refused, ends_taken, pair_ends}
use Rattle.demands.specs.CauseTestLaws.{ranges, ranges_not}
use Rattle.demands.specs.Answers.{Tabled, InRange, FloatsAnswers, EndsAnswers, PairAnswers}

-- ---- with room for floats
module _ (N : ℕ) (x : List ℤ) (room stated : ℕ) where
  code_is : {k : ℕ} → First (block_causes N x room stated) k → block_code N x room stated ≡ k
  code_is f = sym (block-answer N x room stated f)

  one : ¬ Tabled N → block_code N x room stated ≡ 1
  unfolding block_causes
  one n = code_is (stop (is_false n))

  two : Tabled N → length x ≢ N / 2 → block_code N x room stated ≡ 2
  unfolding block_causes
  two t n = code_is (pass (is_true t) (differs n))

  two_room : Tabled N → room ≢ stated → block_code N x room stated ≡ 2
  unfolding block_causes
  two_room t n = code_is (pass (is_true t) (beside (differs n)))

  three : Tabled N → length x ≡ N / 2 → room ≡ stated → ¬ InRange x → block_code N x room stated ≡ 3
  unfolding block_causes
  three t l r n = code_is (pass (is_true t) (same l (same r (stop (ranges_not x (N / 2) l n)))))

  taken : Tabled N → length x ≡ N / 2 → room ≡ stated → InRange x → block_code N x room stated ≡ 0
  unfolding block_causes
  taken t l r i = code_is (pass (is_true t) (same l (same r (pass (ranges x (N / 2) l i) none))))

pub floats-answers : (N : ℕ) (x : List ℤ) (out : List Float) → FloatsAnswers N x out
floats-answers N x out = record {
  one = one N x (length out) (N / 2);
  two_in = two N x (length out) (N / 2);
  two_out = two_room N x (length out) (N / 2);
  three = three N x (length out) (N / 2);
  taken = taken N x (length out) (N / 2);
  kept = λ r. sym (floats-refused N x out r);
}

-- ---- by value
module _ (N : ℕ) (x : List ℤ) where
  answered : {k : ℕ} → First (ends_causes N x) k → ends_of N x ≡ record { code = k; pair = cond (eqb k 0) (pair_of x) no_pair }
  unfolding ends_of ends_code
  answered f = rw (first_is (ends_causes N x) f)

  pub ends_answers : EndsAnswers N x
  unfolding ends_causes
  ends_answers = record {
    one = λ n. answered (stop (is_false n));
    two = λ t n. answered (pass (is_true t) (differs n));
    three = λ t l n. answered (pass (is_true t) (same l (stop (ranges_not x (N / 2) l n))));
    taken = λ t l i. answered (pass (is_true t) (same l (pass (ranges x (N / 2) l i) none)));
  }

  -- ---- into room for two
  module _ (pair : List Float) where
    both : pair_code N x pair ≡ 0 → let a = ends_of N x in (a.code ≡ 0) × (pair_out N x pair ≡ a.pair.highest ∷ a.pair.lowest ∷ [])
    unfolding pair_out
    both z =
        let c = pair_ends N x (block_facts N x (length pair) 2 z) in
        (c, rw (z, ends_taken N x c))

    pub pair_answers : PairAnswers N x pair
    pair_answers = record {
      one = one N x (length pair) 2;
      two = two N x (length pair) 2;
      two_room = two_room N x (length pair) 2;
      three = three N x (length pair) 2;
      taken = taken N x (length pair) 2;
      both = both;
      kept = λ r. sym (pair_refused N x pair r);
    }
