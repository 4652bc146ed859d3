-- What a buffer holds once a text was put into it: definitions.
use Rattle.std.specs.Prelude.{◌≡◌, List, [], ◌∷◌, ℕ, suc, ◌+◌, length, set, take, drop}

-- the buffer with the bytes of text from a place on, and as it was elsewhere
unfoldable pub stored : List ℕ → ℕ → List ℕ → List ℕ
stored out place [] = out
stored out place (b ∷ text) = stored (set out place b) (suc place) text

-- what a call that puts text into a buffer at a place leaves there, and the place behind it, which it returns
pub record Put (text out : List ℕ) (place : ℕ) (after : List ℕ) (next : ℕ) : Type 0 where
  pub holds : after ≡ stored out place text
  pub behind : next ≡ place + length text

-- a buffer that was handed in for text: its first r bytes are the text, which has r bytes, and those behind are as they were
pub record Written (text before after : List ℕ) (r : ℕ) : Type 0 where
  pub is : take r after ≡ text
  pub long : r ≡ length text
  pub rest : drop r after ≡ drop r before
