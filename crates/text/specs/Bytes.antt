-- Bytes by their names.
use mathlib.Core.List as Lists
use Rattle.std.specs.Prelude.{List, ℕ, ◌+◌}
use Prim.Native.Char.{code}
use Prim.Native.String.{String, [], ◌∷◌}

abbrev pub line_feed : ℕ
line_feed = 10

abbrev pub blank : ℕ
blank = 32

abbrev pub comma : ℕ
comma = 44

abbrev pub minus : ℕ
minus = 45

-- the digit of d, for d from 0 to 9
abbrev pub digit : ℕ → ℕ
digit d = 48 + d

-- a text of ASCII as bytes
abbrev pub ascii : String → List ℕ
ascii [] = Lists.[]
ascii (c ∷ s) = Lists.◌∷◌ (code c) (ascii s)
