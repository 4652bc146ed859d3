-- Laws of a buffer that text is put into.
use Rattle.std.specs.Prelude.{◌≡◌, refl, List, [], ◌∷◌, ◌++◌, ℕ, suc, ◌+◌, ◌≤◌, length, set, take, drop}
use Rattle.std.proofs.Common.{sym, ap, ◌∙◌, add-zero, add-suc, suc-add, zero-add, arith, length-append, length-set, length-take, drop_at}
use Rattle.std.proofs.lemmas.List.Edits.{sets, sets-eq}
use Rattle.std.proofs.Math.Seq.{take-append_seam}
use Rattle.text.specs.Buffers.{stored, Put, Written}

stored-length : (out : List ℕ) (place : ℕ) (text : List ℕ) → length (stored out place text) ≡ length out
unfolding stored
stored-length out place [] = refl
stored-length out place (b ∷ text) = stored-length (set out place b) (suc place) text ∙ length-set out place b

-- text and more text behind it
stored-append : (out : List ℕ) (place : ℕ) (xs ys : List ℕ) → stored (stored out place xs) (place + length xs) ys ≡ stored out place (xs ++ ys)
unfolding stored
stored-append out place [] ys = rw add-zero
stored-append out place (x ∷ xs) ys = rw (add-suc, ← suc-add) (stored-append (set out place x) (suc place) xs ys)

-- with room for it, in three parts: what was in front, the text, and what was behind
pub stored_is : (out : List ℕ) (place : ℕ) (text : List ℕ) → place + length text ≤ length out → stored out place text ≡ take place out ++ text ++ drop (place + length text) out
unfolding stored
stored_is out place text h = same out place text ∙ sets-eq text out place h
  where
    same : (out : List ℕ) (place : ℕ) (text : List ℕ) → stored out place text ≡ sets out place text
    same out place [] = refl
    same out place (b ∷ text) = same (set out place b) (suc place) text

-- ---- a call that puts text
module _ {xs ys out mid after : List ℕ} {a b c : ℕ} where
  pub put_then : Put xs out a mid b → Put ys mid b after c → Put (xs ++ ys) out a after c
  put_then p q = record {
    holds = q.holds ∙ rw (p.holds, p.behind) (stored-append out a xs ys);
    behind = omega (arith, p.behind, q.behind, length-append xs ys);
  }

pub put_none : {out : List ℕ} {a : ℕ} → Put [] out a out a
unfolding stored
put_none {out} {a} = record { holds = refl; behind = omega arith }

pub put_byte : {out : List ℕ} {a : ℕ} (b : ℕ) → Put (b ∷ []) out a (set out a b) (a + 1)
unfolding stored
put_byte {out} {a} b = record { holds = refl; behind = refl }

pub put_length : {text out after : List ℕ} {a b : ℕ} → Put text out a after b → length after ≡ length out
put_length {text} {out} {after} {a} p = rw p.holds (stored-length out a text)

-- ---- a buffer that was handed in for text
-- what is put at its start is its first part
put_front : {text out after : List ℕ} {next : ℕ} → Put text out 0 after next → next ≤ length out → take next after ≡ text
put_front {text} {out} {after} {next} p h =
    let e : next ≡ length text = omega (arith, p.behind) in
    let f : after ≡ text ++ drop (0 + length text) out = p.holds ∙ stored_is out 0 text (omega (arith, p.behind)) in
    rw (f, e) (take-append_seam text (drop (0 + length text) out))

pub written : {text before after : List ℕ} {r : ℕ} → length text ≤ length before → Put text before 0 after r → Written text before after r
written {text} {before} {after} {r} fits p = record {
  is = put_front p (omega (arith, p.behind));
  long = omega (arith, p.behind);
  rest = let e : r ≡ length text = omega (arith, p.behind) in rw (p.holds ∙ stored_is before 0 text (omega arith), e) (rw zero-add (drop_at text (drop (length text) before) (length text) refl));
}

-- the same where it ended within the buffer
pub in_room : {text before after : List ℕ} {r : ℕ} → r ≤ length before → Put text before 0 after r → Written text before after r
in_room h p = written (omega (arith, p.behind)) p

-- what was written is a part of the buffer
module _ (text before after : List ℕ) (r : ℕ) (w : Written text before after r) where
  pub written-part : r ≡ length (take r after)
  written-part = w.long ∙ sym (ap length w.is)

  pub written-fits : r ≤ length after
  written-fits = omega (arith, written-part, length-take r after)
