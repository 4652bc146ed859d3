-- Coefficients as floats: that each is X/64 exactly, and that the highest and the lowest are what they are called.
use Rattle.std.specs.Prelude.{◌≡◌, ℕ, ◌/◌, ◌^◌, ◌≤◌, ◌<◌, length, ℤ, nat_abs, ◌≤ℤ◌, Float}
use Rattle.std.proofs.Common.{sym, ◌∙◌, arith}
use Rattle.std.proofs.Math.Path.{ap}
use mathlib.Core.List.{List}
use Rattle.std.specs.Float.Ieee.{nan}
use Rattle.arithmetic.specs.Lists.{at, Small}
use Rattle.arithmetic.specs.ListLaws.{length-table, get_d_table}
use Rattle.arithmetic.specs.TestLaws.{is_true}
use Rattle.checks.specs.LimitLaws.{range_small}
use Rattle.floats.specs.Floats.{sixty_fourth, floats_of, highest_of, lowest_of}
use Rattle.floats.specs.FloatLaws.{exact, zero_is}
use Rattle.floats.specs.EndLaws.{Occurs, highest_occurs, lowest_occurs, none_higher, none-lower}
use Rattle.float_calls.specs.FloatCalls.{floats_code, floats_out, ends_of}
use Rattle.float_calls.specs.FloatCallLaws.{Sized, block_facts, floats-taken, ends_taken, ends_facts}
use Rattle.demands.specs.FloatValues.{Exactly, float_at, FloatsOn, EndOn, EndsOn}

-- ---- whatever 32 bits hold
pub exactly : (X : ℤ) → nat_abs X ≤ 2 ^ 31 → Exactly (sixty_fourth X) X
exactly X h = record { value = exact X (omega (arith, h)); zero = λ e. ap sixty_fourth e ∙ zero_is }

-- ---- the floats of a block that was taken
module _ (N : ℕ) (x : List ℤ) {room stated : ℕ} (f : Sized N x room stated) where
  small : Small x (2 ^ 29)
  small = range_small x (N / 2) f.long (is_true f.ranged)

  exactly_at : (k : ℕ) → k < N / 2 → Exactly (sixty_fourth (at x k)) (at x k)
  exactly_at k p = exactly (at x k) (omega (arith, small.small k (omega (arith, p, f.long))))

  -- what `floats` leaves at place k
  left_at : (out : List Float) → floats_code N x out ≡ 0 → (k : ℕ) → k < N / 2 → float_at (floats_out N x out) k ≡ sixty_fourth (at x k)
  unfolding floats_of
  left_at out z k p =
      ap (λ (l : List Float). float_at l k) (sym (floats-taken N x out z)) ∙ get_d_table (λ (k : ℕ). sixty_fourth (at x k)) nan (length x) k (omega (arith, p, f.long))

  -- a coefficient that occurs and that every one stands beside
  end_on : (beside : ℤ → ℤ → Type 0) (z : ℤ) → Occurs x z → ((k : ℕ) → k < length x → beside (at x k) z) → EndOn beside N x (sixty_fourth z)
  end_on beside z o all =
      let i : o.place < N / 2 = omega (arith, o.inside, f.long) in
      let e = ap sixty_fourth o.there in
      record {
        place = o.place;
        inside = i;
        occurs = rw e at (exactly_at o.place i);
        outside = λ k p. rw o.there (all k (omega (arith, p, f.long)));
        same = λ out w. left_at out w o.place i ∙ e;
      }

pub floats_on : (N : ℕ) (x : List ℤ) (out : List Float) → floats_code N x out ≡ 0 → FloatsOn N x out
unfolding floats_of
floats_on N x out z =
    let f = block_facts N x (length out) (N / 2) z in
    record {
      long = ap length (sym (floats-taken N x out z)) ∙ length-table (λ (k : ℕ). sixty_fourth (at x k)) (length x) ∙ f.long;
      each = λ k p. rw (left_at N x f out z k p) (exactly_at N x f k p);
    }

pub ends_on : (N : ℕ) (x : List ℤ) → (ends_of N x).code ≡ 0 → EndsOn N x (ends_of N x)
ends_on N x z =
    let f = ends_facts N x z in
    rw (ends_taken N x z)
    (record {
      highest = end_on N x f (λ a b. a ≤ℤ b) (highest_of x) (highest_occurs x f.some) (none_higher x);
      lowest = end_on N x f (λ a b. b ≤ℤ a) (lowest_of x) (lowest_occurs x f.some) (none-lower x);
    })
