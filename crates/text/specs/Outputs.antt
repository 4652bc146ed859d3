-- Text put into a buffer from a place on: definitions.
use Rattle.std.specs.Prelude.{◌≡◌, List, ℕ, ◌+◌, ◌≤◌, length}
use Rattle.text.specs.Buffers.{Put}
use Rattle.text.specs.declared.output.Output.{Output}

-- so many bytes fit behind what is put
abbrev pub HasRoom : ℕ → Output → Type 0
HasRoom size output = output.at + size ≤ length output.bytes.now

-- the text is put from the place on, into the same buffer
pub record Puts (text : List ℕ) (before after : Output) : Type 0 where
  pub same : after.bytes.ghost_name ≡ before.bytes.ghost_name
  pub put : Put text before.bytes.now before.at after.bytes.now after.at
  pub long : length after.bytes.now ≡ length before.bytes.now
