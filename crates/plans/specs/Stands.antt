-- What a plan that was read is. It is a statement, a type: a contract in src/lib.rt asserts it, and its proof is in proofs/. Assumes nothing.
use Rattle.std.specs.Prelude.{◌≡◌, ℕ, List, Ok}
use Rattle.rules.specs.declared.Player.{Player}
use Rattle.rules.specs.declared.Sheet.{Sheet}
use Rattle.rules.specs.Sound.{Sound}
use Rattle.rules.specs.Statements.{choices, Plans}
use Rattle.tree.specs.Compact.{game_as}
use Rattle.tree.specs.Seen.{sights_of}
use Rattle.plans.specs.declared.Row.{Row}
use Rattle.plans.specs.Plan.{plan_of}
use Rattle.plans.specs.Bytes.{plan_as}

-- rows that were read for a player's sights are a plan of that player
abbrev pub PlansStand : Type 0
PlansStand = (s : Sheet) (m : ℕ) (w : Player) (bytes : List ℕ) (rows : List Row) → Sound s →
    plan_as s.raises (sights_of w (game_as s)) m bytes ≡ Ok rows → Plans s m w (plan_of rows (choices s w))
