-- A game in a row of nodes with a plan in a row of weights, and what is returned of a hand in it. Assumes nothing: these are definitions.
use Rattle.std.specs.Prelude.{◌≡◌, ℕ, ◌^◌, ◌<◌, List, length, Ok, Err, Result}
use Rattle.cards.specs.Game.{Tree}
use Rattle.cards.specs.Promise.{Well}
use Rattle.cards.specs.Played.{Outcome}
use Rattle.rules.specs.declared.Ends.{Ends}
use Rattle.tree.specs.Rep.{Rep, ends_of}
use Rattle.tree.specs.declared.Node.{Node}
use Rattle.plans.specs.Plan.{plan_of}
use Rattle.plans.specs.declared.Row.{Row}
use Rattle.hands.specs.Refused.{outcome_of}
use Rattle.hands.specs.declared.Refusal.{Refusal}

-- with k on the table and words below m, the tree lies in the nodes from i on; it fits the plan in the rows, where house sight j has c j choices,
-- the guest's sights have their counts, and n words are enough
pub record Laid (k m n : ℕ) (c counts : ℕ → ℕ) (rows : List Row) (nodes : List Node) (i : ℕ) (tree : Tree) : Type 0 where
  pub lies : Rep k m nodes i tree
  pub fits : Well m (plan_of rows c) counts n tree

-- some game lies in the nodes, from the first on
pub record SomeLaid (m : ℕ) (rows : List Row) (nodes : List Node) : Type 0 where
  pub k : ℕ
  pub n : ℕ
  pub c : ℕ → ℕ
  pub counts : ℕ → ℕ
  pub tree : Tree
  pub laid : Laid k m n c counts rows nodes 0 tree
  pub small : length nodes < 2 ^ 32

-- what is returned of a hand: its outcome; and of a hand that is over, what each player has of the k on the table
abbrev pub Shared : ℕ → Result Ends Refusal → Type 0
Shared k (Ok e) = e ≡ ends_of k e.house
Shared k (Err e) = Unit {0}

pub record Ended (k : ℕ) (o : Outcome) (r : Result Ends Refusal) : Type 0 where
  pub outcome : outcome_of r ≡ o
  pub shared : Shared k r
