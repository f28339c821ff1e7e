-- What the reckoning asks: a tree in memory, a plan that fits it, small enough numbers, and a work row as long as the tree has places. Assumes nothing: these are definitions.
use Rattle.std.specs.Prelude.{ℕ, ◌*◌, ◌^◌, ◌<◌, ◌≤◌, List, length}
use Rattle.cards.specs.Game.{Tree}
use Rattle.cards.specs.Promise.{Well, AtMost}
use Rattle.cards.specs.Reckon.{places}
use Rattle.plans.specs.Plan.{plan_of}
use Rattle.plans.specs.declared.Row.{Row}
use Rattle.tree.specs.Rep.{Rep}
use Rattle.tree.specs.declared.Node.{Node}

-- k is on the table, house sight i has c i choices, guest sight i has choices i
pub record Whole (k : ℕ) (tree : Tree) (c choices : ℕ → ℕ) (nodes : List Node) (rows : List Row) (m words space : ℕ) : Type 0 where
  pub rep : Rep k m nodes 0 tree
  pub well : Well m (plan_of rows c) choices words tree
  pub most : AtMost k tree
  pub chosen : (i : ℕ) → 0 < choices i
  pub base : 2 ≤ m
  pub small : k * m ^ words < 2 ^ 62
  pub some : 0 < k
  pub fits : places tree ≤ space
  pub few : length nodes < 2 ^ 32

pub record SomeWhole (nodes : List Node) (rows : List Row) (m words space : ℕ) : Type 0 where
  pub table : ℕ
  pub tree : Tree
  pub counts : ℕ → ℕ
  pub choices : ℕ → ℕ
  pub whole : Whole table tree counts choices nodes rows m words space
