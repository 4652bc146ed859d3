-- The causes of Answers, in words of the input, as the tests that the calls make.
use Rattle.std.specs.Prelude.{◌≡◌, ◌≢◌, Bool, List, [], ◌∷◌, ℕ, ◌^◌, ◌≤◌, ◌<◌, T, eqb, leb, length, ℤ, pos, nat_abs, ◌<ℤ◌}
use Rattle.std.proofs.Math.Path.{refl}
use Rattle.std.proofs.Math.Bool.{true, false, cond}
use Rattle.std.proofs.Common.{arith, leb→le}
use Rattle.std.proofs.Math.Decide.{ℕ_discrete}
use Rattle.std.specs.Int.Signed.{lt_z}
use borrow.Author.Tests.{le-leb, eq-eqb, ne_eqb}
use Rattle.arithmetic.specs.Lists.{at, every}
use Rattle.arithmetic.specs.TestLaws.{all_make, both_left, both_right, cond_yes, is_true, is_false}
use Rattle.cosine.specs.Kernels.{lengths, tabled}
use Rattle.stream.specs.declared.Stream.{Stream}
use Rattle.checks.specs.Limits.{within, tail_limit, coefficient_limit, in_range, hop_limit, counted, are_shapes}
use Rattle.checks.specs.Causes.{Cause, ◌unless◌, first_cause, First}
use Rattle.checks.specs.Causes.First.{none, stop, pass}
use Rattle.checks.specs.CauseLaws.{first_is, differs, same, beside}
use Rattle.checks.specs.LimitLaws.{range_small, abs_within, counted-some, counted-most}
use Rattle.stream_calls.specs.Streams.{sound, fits}
use Rattle.stream_calls.specs.StreamLaws.{sound-tabled, sound-bounded}
use Rattle.stream_calls.specs.States as F
use Rattle.demands.specs.StepLaws.{sound_of}
use Rattle.demands.specs.Answers.{Tabled, Counted, InRange, SoundTail, Shapes, Fitting}

module _ (H : ℕ) where
  pub counts : Counted H → counted H ≡ true
  unfolding counted
  counts c = rw (le-leb 1 H c.some, le-leb H hop_limit c.most)

  pub counts_not : ¬ Counted H → counted H ≡ false
  counts_not n = is_false (λ t. n (record { some = counted-some H (is_true t); most = counted-most H (is_true t) }))

module _ (x : List ℤ) (m : ℕ) (l : length x ≡ m) where
  pub ranges : InRange x → in_range m x ≡ true
  unfolding in_range
  ranges r = is_true (all_make m (λ k. within (at x k) coefficient_limit) (λ k p. abs_within (at x k) coefficient_limit (r.each k (rw l p))))

  pub of_ranges : in_range m x ≡ true → InRange x
  of_ranges e = record { each = (range_small x m l e).small }

  pub ranges_not : ¬ InRange x → in_range m x ≡ false
  ranges_not n = is_false (λ t. n (of_ranges (is_true t)))

-- the calls that are handed m coefficients of a whole recording, and a buffer of `room` places where `stated` are asked: their number, by what fails first
pub record RecordingCauses (N H : ℕ) (x : List ℤ) (m room stated code : ℕ) : Type 0 where
  pub one : ¬ Tabled N → code ≡ 1
  pub two_hops : Tabled N → ¬ Counted H → code ≡ 2
  pub two_in : Tabled N → length x ≢ m → code ≡ 2
  pub two_out : Tabled N → room ≢ stated → code ≡ 2
  pub three : Tabled N → Counted H → length x ≡ m → room ≡ stated → ¬ InRange x → code ≡ 3
  pub taken : Tabled N → Counted H → length x ≡ m → room ≡ stated → InRange x → code ≡ 0

pub recording_causes : (N H : ℕ) (x : List ℤ) (m room stated : ℕ) →
    RecordingCauses N H x m room stated (first_cause (1 unless tabled N ∷ 2 unless counted H ∷ 2 unless eqb (length x) m ∷ 2 unless eqb room stated ∷ 3 unless in_range m x ∷ []))
recording_causes N H x m room stated =
    let cs = 1 unless tabled N ∷ 2 unless counted H ∷ 2 unless eqb (length x) m ∷ 2 unless eqb room stated ∷ 3 unless in_range m x ∷ [] in
    record {
      one = λ n. first_is cs (stop (is_false n));
      two_hops = λ t n. first_is cs (pass (is_true t) (stop (counts_not H n)));
      two_in = λ t n. first_is cs (pass (is_true t) (beside (differs n)));
      two_out = λ t n. first_is cs (pass (is_true t) (beside (beside (differs n))));
      three = λ t k l r n. first_is cs (pass (is_true t) (pass (counts H k) (same l (same r (stop (ranges_not x m l n))))));
      taken = λ t k l r i. first_is cs (pass (is_true t) (pass (counts H k) (same l (same r (pass (ranges x m l i) none)))));
    }

module _ (s : Stream) where
  pub sounds : Tabled s.n → SoundTail s → sound s ≡ true
  unfolding tail_limit
  sounds t b = is_true (sound_of s t b.each)

  pub sounds_not_n : ¬ Tabled s.n → sound s ≡ false
  sounds_not_n n = is_false (λ t. n (sound-tabled s (is_true t)))

  pub sounds_not_tail : ¬ SoundTail s → sound s ≡ false
  unfolding tail_limit
  sounds_not_tail n = is_false (λ t. n (record { each = (sound-bounded s (is_true t)).within }))

-- the shapes as tests
pub shapes_true : (l r : ℕ) → Shapes l r → are_shapes l r ≡ true
unfolding are_shapes
shapes_true l r h = rw (le-leb l 1 h.left_is, le-leb r 1 h.right_is)

pub shapes_of : (l r : ℕ) → T (are_shapes l r) → Shapes l r
unfolding are_shapes
shapes_of l r t = record { left_is = leb→le l 1 (both_left (leb l 1) (leb r 1) t); right_is = leb→le r 1 (both_right (leb l 1) (leb r 1) t) }

pub shapes_false : (l r : ℕ) → ¬ Shapes l r → are_shapes l r ≡ false
shapes_false l r n = is_false (λ (t : T (are_shapes l r)). n (shapes_of l r t))

-- the joint between a stream and a block, as a test
module _ (s : Stream) (l r : ℕ) where
  pub fits-true : Shapes l r → l ≡ s.shape → fits l r s.shape ≡ true
  unfolding fits
  fits-true h e = rw (shapes_true l r h, eq-eqb l s.shape e)

  pub fits_not : ¬ Shapes l r → fits l r s.shape ≡ false
  unfolding fits
  fits_not n = rw (shapes_false l r n)

  pub fits-other : l ≢ s.shape → fits l r s.shape ≡ false
  unfolding fits
  fits-other n = rw (ne_eqb l s.shape n) (go (are_shapes l r))
    where
      go : (b : Bool) → cond b false false ≡ false
      go true = refl
      go false = refl

  -- a shape above 1 is no left shape, or is one that is refused itself
  pub fits_forged : 1 < s.shape → fits l r s.shape ≡ false
  fits_forged h = go (ℕ_discrete l s.shape)
    where
      go : Dec (l ≡ s.shape) → fits l r s.shape ≡ false
      go (yes e) = fits_not (λ (q : Shapes l r). omega (arith, q.left_is, e, h))
      go (no n) = fits-other n

-- ---- the first three causes of a step, whatever stands behind them
pub record AdmittingCauses (s : Stream) (number l r code : ℕ) : Type 0 where
  pub four_n : ¬ Tabled s.n → code ≡ 4
  pub four_tail : ¬ SoundTail s → code ≡ 4
  pub seven : Tabled s.n → SoundTail s → number ≢ s.expected → code ≡ 7
  pub seven_none : Tabled s.n → SoundTail s → number < 2 ^ 32 → 2 ^ 32 ≤ s.expected → code ≡ 7
  pub eight : Tabled s.n → SoundTail s → number ≡ s.expected → ¬ Shapes l r → code ≡ 8
  pub eight_left : Tabled s.n → SoundTail s → number ≡ s.expected → l ≢ s.shape → code ≡ 8
  pub eight_forged : Tabled s.n → SoundTail s → number ≡ s.expected → 1 < s.shape → code ≡ 8

pub admitting_causes : (s : Stream) (number l r : ℕ) (cs : List Cause) →
    AdmittingCauses s number l r (first_cause (4 unless sound s ∷ 7 unless eqb number s.expected ∷ 8 unless fits l r s.shape ∷ cs))
admitting_causes s number l r cs =
    let all = 4 unless sound s ∷ 7 unless eqb number s.expected ∷ 8 unless fits l r s.shape ∷ cs in
    record {
      four_n = λ n. first_is all (stop (sounds_not_n s n));
      four_tail = λ n. first_is all (stop (sounds_not_tail s n));
      seven = λ t h n. first_is all (pass (sounds s t h) (differs n));
      seven_none = λ t h p q. first_is all (pass (sounds s t h) (differs (λ (e : number ≡ s.expected). omega (arith, e, p, q))));
      eight = λ t h e n. first_is all (pass (sounds s t h) (same e (stop (fits_not s l r n))));
      eight_left = λ t h e n. first_is all (pass (sounds s t h) (same e (stop (fits-other s l r n))));
      eight_forged = λ t h e p. first_is all (pass (sounds s t h) (same e (stop (fits_forged s l r p))));
    }

-- a fitting block's causes are those behind the first three
pub admitted : (s : Stream) (number l r : ℕ) {k : ℕ} {cs : List Cause} → Fitting s number l r → First cs k →
    First (4 unless sound s ∷ 7 unless eqb number s.expected ∷ 8 unless fits l r s.shape ∷ cs) k
admitted s number l r f g = pass (sounds s f.length_is f.tail_is) (same f.number_is (pass (fits-true s l r f.shapes f.left_is) g))

-- ---- the entries of a state
-- what an entry below zero stands for
pub negative : (z : ℤ) (other : ℕ) → z <ℤ pos 0 → F.number_in z other ≡ other
unfolding F.number_in
negative z other h = cond_yes (lt_z z (pos 0)) other (nat_abs z) h.lt

pub no_length_0 : ¬ Tabled 0
unfolding tabled every lengths
no_length_0 t = t

-- a shape below 0 or above 1 stands as 2
pub shape-negative : (z : ℤ) → z <ℤ pos 0 → F.shape_in z ≡ 2
unfolding F.shape_in
shape-negative z h = cond_yes (lt_z z (pos 0)) 2 (cond (lt_z (pos 1) z) 2 (nat_abs z)) h.lt

pub shape-large : (z : ℤ) → pos 1 <ℤ z → F.shape_in z ≡ 2
unfolding F.shape_in
shape-large z h = let e : lt_z (pos 1) z ≡ true = is_true h.lt in rw e (go (lt_z z (pos 0)))
  where
    go : (b : Bool) → ◌≡◌ {A = ℕ} (cond b 2 2) 2
    go true = refl
    go false = refl
