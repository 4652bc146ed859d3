-- Laws of the list's stream: what it holds after any steps, whatever they brought. So none of them returns 4.
use Rattle.std.specs.Prelude.{◌≡◌, ◌≢◌, ℕ, T, ℤ}
use mathlib.Core.List.{List, [], ◌∷◌}
use Rattle.std.proofs.Math.Decide.{ℕ_discrete}
use Rattle.arithmetic.specs.TestLaws.{cond_yes}
use Rattle.cosine.specs.Kernels.{tabled}
use Rattle.stream.specs.declared.Stream.{Stream}
use Rattle.stream.specs.Synthesis as S
use Rattle.stream.specs.Steps.{next}
use Rattle.stream.specs.NextLaws.{Fine, fine_fresh, fine_next}
use Rattle.stream_calls.specs.Streams.{fresh, sound, step_code}
use Rattle.demands.specs.Steps.{Offer, answered, after}
use Rattle.demands.specs.StepLaws.{sound_four, sound_of, taken_stream, taken-size}
use Rattle.demands.proofs.RunLaws.{code, refused_stream}

module _ (N : ℕ) (t : T (tabled N)) where
  pub fresh-is : fresh N ≡ record { code = 0; stream = S.fresh N }
  unfolding fresh
  fresh-is = cond_yes (tabled N) (record { code = 0; stream = S.fresh N }) (record { code = 1; stream = S.fresh 0 }) t

  pub fine_made : Fine N (fresh N).stream
  fine_made = rw fresh-is (fine_fresh N t)

  module _ (s : Stream) (fine : Fine N s) where
    pub fine_sound : T (sound s)
    fine_sound = sound_of s (rw fine.n_is t) (rw fine.n_is fine.limited)

    pub fine_four : (number l r : ℕ) (x out : List ℤ) → step_code s number l r x out ≢ 4
    fine_four number l r x out = sound_four s number l r x out fine_sound

    pub taken_next : (o : Offer) → code s o ≡ 0 → (answered s o).answer.stream ≡ next s o.left o.right o.brought
    unfolding answered
    taken_next o e = taken_stream s o.number o.left o.right o.brought o.buffer e

    pub fine_answered : (o : Offer) → Fine N (answered s o).answer.stream
    fine_answered o = go (ℕ_discrete (code s o) 0)
      where
        go : Dec (code s o ≡ 0) → Fine N (answered s o).answer.stream
        go (yes e) = rw (taken_next o e) (fine_next N t s fine o.left o.right o.brought (rw fine.n_is at (taken-size s o.number o.left o.right o.brought o.buffer e)))
        go (no r) = rw (refused_stream s o r) fine

  -- after the list
  pub fine_after : (offers : List Offer) (s : Stream) → Fine N s → Fine N (after s offers)
  unfolding after
  fine_after [] s fine = fine
  fine_after (o ∷ offers) s fine = fine_after offers (answered s o).answer.stream (fine_answered s fine o)
