-- Laws of the steps of a taken listing: the hops that its lines bring, the block in its buffer, and the stream that each step is handed.
use Rattle.std.specs.Prelude.{◌≡◌, ℕ, suc, ◌+◌, ◌*◌, ◌/◌, ◌≤◌, ◌<◌, T, length, take, drop, replicate, ℤ, pos}
use Rattle.std.proofs.Math.Path.{sym}
use Rattle.std.proofs.Common.{ap, ◌∙◌, length-take-le, take_at, drop_at, get_or-take, get_or-drop, ext_get_or}
use mathlib.Core.List.{List, [], ◌++◌}
use native.Mathlib.Omega.{arith}
use Rattle.std.proofs.Math.Decide.{dec_lt}
use Rattle.std.proofs.Math.ListN.{get_or, length-append, length-drop}
use Rattle.std.proofs.lemmas.List.{length-replicate, get_or-replicate}
use Rattle.cosine.specs.Kernels.{tabled}
use Rattle.cosine.specs.LengthLaws.{tabled_length, part_of}
use Rattle.stream.specs.declared.Stream.{Stream}
use Rattle.stream.specs.Synthesis.{storage, fresh}
use Rattle.stream.specs.Steps.{next, hop, stream_after, returned}
use Rattle.stream.specs.StepLaws.{Bounded}
use Rattle.stream.specs.NextLaws.{Fine, stream_n, stream_expected}
use Rattle.analysis.specs.declared.Route.TheVariants.{Direct}
use Rattle.analysis.specs.Analysis.{coefficients}
use Rattle.recording.specs.Recordings.{silence, block}
use Rattle.text.specs.Lines.{next_line, line_start}
use Rattle.listing.specs.HopLaws.{hops-counted, hops-start, hops-line, hops-read, hops-end, hops-left}
use Rattle.listing.specs.Verdicts.{hops_of}
use Rattle.listing.specs.VerdictLaws.{Taken}
use Rattle.listing.specs.Listing.{recording, analysed}
use Rattle.listing.specs.BankLaws.{Block, around, around-first, around-hop, around-last, first_long, block_is, blocks, hops_fine}
use Rattle.listing.specs.BlockLaws.{NextHop, hop_at, place_behind, none_left, one_left}
use Rattle.listing.specs.SizeLaws.{taken-hops}

-- ---- the hop of the next line, of a taken listing
module _ {text : List ℕ} {N H : ℕ} (K : Taken text N H) (b : ℕ) (p : b ≤ H) where
  abbrev hops : List (List ℤ)
  hops = around N (hops_of text)

  -- hop b, or the zeros behind the last
  next-hop : NextHop (N / 2) text (line_start text (suc b))
  next-hop = record {
    within = hops-start K b p;
    hop = λ e. hops-line K b (less e (dec_lt b H));
  }
    where
      less : ¬ (line_start text (suc b) ≡ length text) → Dec (b < H) → b < H
      less e (yes q) = q
      less e (no q) = let f : b ≡ H = omega arith in absurd (e (rw f (hops-end K)))

  hop_is : hop_at (N / 2) text (line_start text (suc b)) ≡ get_or hops (suc b) []
  unfolding silence
  hop_is = go (dec_lt b H)
    where
      go : Dec (b < H) → hop_at (N / 2) text (line_start text (suc b)) ≡ get_or hops (suc b) []
      go (yes q) =
          (one_left (N / 2) text (line_start text (suc b)) (λ e. omega (arith, hops-left K b q))).0
          ∙ hops-read K b q
          ∙ sym (around-hop N (hops_of text) b (omega (arith, hops-counted K)))
      go (no q) =
          let f : b ≡ H = omega arith in
          (none_left (N / 2) text (line_start text (suc b)) (rw f (hops-end K))).0 ∙ sym (around-last N (hops_of text) b (omega (arith, hops-counted K)))

  place_is : b < H → place_behind text (line_start text (suc b)) ≡ line_start text (suc (suc b))
  unfolding line_start
  place_is q = (one_left (N / 2) text (line_start text (suc b)) (λ e. omega (arith, hops-left K b q))).1

-- ---- the steps of a taken listing
-- where the step of block b is to come: the buffer's second hop is the block's first, the next line is its second, and the stream is at block b
pub record Reached (text : List ℕ) (N H b : ℕ) (buffer : List ℤ) (place : ℕ) (s : Stream) : Type 0 where
  pub room : length buffer ≡ 2 * storage
  pub kept : drop (N / 2) (take N buffer) ≡ get_or (around N (hops_of text)) b []
  pub here : b ≤ H → place ≡ line_start text (suc b)
  pub stream : s ≡ stream_after N (analysed N (recording (hops_of text))) b

-- from zeros, line 2 and a fresh stream
pub reached_first : {text : List ℕ} {N H : ℕ} → Taken text N H → (buffer : List ℤ) (place : ℕ) (s : Stream) → buffer ≡ replicate (2 * storage) (pos 0) → place ≡ next_line text 0 → s ≡ fresh N →
    Reached text N H 0 buffer place s
unfolding line_start stream_after silence
reached_first {text} {N} K buffer place s is here stream = rw is (record {
  room = length-replicate (2 * storage) (pos 0);
  kept = zeros ∙ sym (around-first N (hops_of text));
  here = λ p. here;
  stream = stream;
})
  where
    zeros : drop (N / 2) (take N (replicate (2 * storage) (pos 0))) ≡ replicate (N / 2) (pos 0)
    zeros =
        let z = replicate (2 * storage) (pos 0) in
        let N≤ : N ≤ 2 * storage = (tabled_length N K.length-tabled).most in
        let two : N ≡ N / 2 + N / 2 = omega (arith, (part_of N K.length-tabled).four) in
        let l : length (drop (N / 2) (take N z)) ≡ N / 2 = length-drop (N / 2) (take N z) ∙ omega (arith, length-take-le N z (omega (arith, length-replicate (2 * storage) (pos 0)))) in
        ext_get_or (pos 0) (drop (N / 2) (take N z)) (replicate (N / 2) (pos 0)) (l ∙ sym (length-replicate (N / 2) (pos 0)))
        (λ i p.
        let q : i < N / 2 = omega (arith, l) in
        get_or-drop (N / 2) (take N z) i (pos 0) ∙ get_or-take N z (N / 2 + i) (pos 0) (omega arith) ∙ get_or-replicate (2 * storage) (N / 2 + i) (pos 0) (pos 0) (omega arith)
        ∙ sym (get_or-replicate (N / 2) i (pos 0) (pos 0) q))

module _ {text : List ℕ} {N H b : ℕ} {buffer : List ℤ} {place : ℕ} {s : Stream} (K : Taken text N H) (R : Reached text N H b buffer place s) (p : b ≤ H) where
  abbrev x : ℕ → List ℤ
  x = analysed N (recording (hops_of text))

  -- the block's part of the buffer, as it is lent
  pub lent_fits : N ≤ length buffer
  lent_fits = omega (arith, R.room, (tabled_length N K.length-tabled).most)

  pub lent_long : length (take N buffer) ≡ N
  lent_long = length-take-le N buffer lent_fits

  pub lent_two : length (take N buffer) ≡ N / 2 + N / 2
  lent_two = lent_long ∙ omega (arith, (part_of N K.length-tabled).four)

  pub reached_hop : NextHop (N / 2) text place
  reached_hop = rw (R.here p) (next-hop K b p)

  pub reached_n : s.n ≡ N
  reached_n = rw R.stream (stream_n N x b)

  pub reached_tabled : T (tabled s.n)
  reached_tabled = rw reached_n K.length-tabled

  pub reached_expected : s.expected ≡ b
  reached_expected = rw R.stream (stream_expected N x b)

  pub reached_bounded : Bounded (s.n / 2) s.tail
  reached_bounded =
      let fine : Fine N (stream_after N x b) = hops_fine N K.length-tabled (hops_of text) (taken-hops K) b (omega (arith, hops-counted K)) in
      rw reached_n (rw R.stream (record { within = fine.limited }))

  -- the block as it was read, in front of the rest of the buffer
  module _ (ys : List ℤ) (read : ys ≡ drop (N / 2) (take N buffer) ++ hop_at (N / 2) text place) where
    abbrev hs : List (List ℤ)
    hs = hops_of text

    b≤ : b ≤ length hs
    b≤ = omega (arith, hops-counted K)

    two_hops : ys ≡ get_or (around N hs) b [] ++ get_or (around N hs) (suc b) []
    two_hops = read ∙ rw (R.kept, R.here p, hop_is K b p)

    ys-is : ys ≡ block N (recording hs) b
    ys-is = two_hops ∙ sym (block_is N K.length-tabled hs (taken-hops K) b b≤)

    ys-block : Block N ys
    ys-block = rw ys-is (blocks N K.length-tabled hs (taken-hops K) b b≤)

    abbrev after : List ℤ
    after = ys ++ drop N buffer

    front : take N after ≡ ys
    front = take_at ys (drop N buffer) N ys-block.long

    pub shared_fits : N ≤ length after
    shared_fits = omega (arith, length-append ys (drop N buffer), ys-block.long)

    pub shared_long : length (take N after) ≡ N
    shared_long = ap length front ∙ ys-block.long

    pub step_block : Block s.n (take N after)
    step_block = rw (reached_n, front) ys-block

    brought : coefficients Direct s.n 0 0 (take N after) ≡ x b
    unfolding analysed
    brought = rw (reached_n, front, ys-is)

    pub step-returned : hop s 0 0 (coefficients Direct s.n 0 0 (take N after)) ≡ returned N x b
    unfolding returned
    step-returned = rw (brought, R.stream)

    pub reached_next : (place' : ℕ) (s' : Stream) → place' ≡ place_behind text place → s' ≡ next s 0 0 (coefficients Direct s.n 0 0 (take N after)) → Reached text N H (suc b) after place' s'
    unfolding stream_after
    reached_next place' s' behind stepped = record {
      room = length-append ys (drop N buffer) ∙ omega (arith, length-drop N buffer, ys-block.long, lent_fits, R.room);
      kept = rw (front, two_hops) (drop_at (get_or (around N hs) b []) (get_or (around N hs) (suc b) []) (N / 2) (first_long N K.length-tabled hs (taken-hops K) b b≤));
      here = λ q. behind ∙ rw (R.here p) (place_is K b p q);
      stream = stepped ∙ rw (brought, R.stream);
    }
