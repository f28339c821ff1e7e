-- What a writer of places has written. Assumes nothing: these are definitions.
use Rattle.std.specs.Prelude.{◌≡◌, ℕ, ◌+◌, ◌≤◌, length}
use Rattle.tree.specs.declared.writer.Writer.{Writer}
use Rattle.tree.specs.Compact.{Play, size}
use Rattle.tree.specs.Flat.{Written}

-- p fits the memory that is left
abbrev pub HasRoom : Writer → Play → Type 0
HasRoom w p = w.at + size p ≤ length w.nodes.now

-- the writer before and after p is written
pub record Wrote (c : ℕ) (p : Play) (before after : Writer) : Type 0 where
  pub same : after.nodes.ghost_name ≡ before.nodes.ghost_name
  pub wrote : Written c p before.at before.nodes.now after.nodes.now after.at
