-- A buffer that text is put into, and what putting a text does. Assumes nothing.
use Rattle.std.specs.Prelude.{◌≡◌, ℕ, ◌≤◌, List, ◌++◌, length, take, drop}
use Rattle.sheet_text.specs.declared.output.Output.{Output}

-- what was put so far
abbrev pub written : Output → List ℕ
written o = take o.at o.bytes.now

-- what the buffer holds behind that
abbrev pub left : Output → List ℕ
left o = drop o.at o.bytes.now

-- there is room for a text
abbrev pub Fits : List ℕ → Output → Type 0
Fits text o = length text ≤ length (left o)

-- a text was put behind what was written, and the buffer is the same one
pub record Put (text : List ℕ) (before after : Output) : Type 0 where
  pub more : written after ≡ written before ++ text
  pub rest : left after ≡ drop (length text) (left before)
  pub same_buffer : after.bytes.ghost_name ≡ before.bytes.ghost_name
