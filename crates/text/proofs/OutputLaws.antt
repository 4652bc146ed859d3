-- Laws of text put into a buffer, one part behind the other.
use Rattle.std.specs.Prelude.{◌≡◌, refl, List, [], ◌++◌, ℕ, ◌+◌, ◌≤◌, length}
use Rattle.std.proofs.Common.{◌∙◌, sym, append_assoc, take, drop, drop-drop}
use borrow.Rule.Slice.PartMut.{put_mid}
use Rattle.text.specs.Buffers.{Put}
use Rattle.text.specs.BufferLaws as Buffer
use Rattle.text.specs.BufferLaws.{stored_is, put_length}
use Rattle.text.specs.declared.output.Output.{Output}
use Rattle.text.specs.Outputs.{Puts}

pub puts_none : {a : Output} → Puts [] a a
puts_none = record { same = refl; put = Buffer.put_none; long = refl }

pub puts_then : {xs ys : List ℕ} {a b c : Output} → Puts xs a b → Puts ys b c → Puts (xs ++ ys) a c
puts_then p q = record { same = q.same ∙ p.same; put = Buffer.put_then p.put q.put; long = q.long ∙ p.long }

-- text copied to its place
pub put_copied : (out text part : List ℕ) (place size : ℕ) → size ≡ length text → place + length text ≤ length out → part ≡ text → Put text out place (put_mid place size out part) (place + length text)
put_copied out text part place size e h same =
    let front = append_assoc (take place out) text (drop (length text) (drop place out)) in
    record { holds = rw (same, e, stored_is out place text h, ← drop-drop (length text) place out) (sym front); behind = refl }
