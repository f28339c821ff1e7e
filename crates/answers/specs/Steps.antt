-- What the steps between a file and its answer leave in memory. Assumes nothing: these are definitions.
use Rattle.std.specs.Prelude.{◌≡◌, ℕ, ◌*◌, ◌^◌, List, ◌++◌, length, take, Ok}
use Rattle.hands.specs.Laid.{Laid}
use Rattle.hands.specs.Match.{outcomes_of}
use Rattle.answers.specs.Hands.{hand_lines}
use Rattle.cards.specs.Game.{Tree}
use Rattle.cards.specs.Reckon.{worst}
use Rattle.rules.specs.declared.Player.{Player}
use Rattle.rules.specs.declared.Player.TheVariants.{House, Guest}
use Rattle.rules.specs.Play.{purse}
use Rattle.rules.specs.Sights.{tree}
use Rattle.rules.specs.Statements.{seat}
use Rattle.tree.specs.declared.Sight.{Sight}
use Rattle.tree.specs.declared.Sizes.{Sizes}
use Rattle.tree.specs.declared.Node.{Node}
use Rattle.tree.specs.Compact.{game_as}
use Rattle.tree.specs.Seen.{sights_of}
use Rattle.tree.specs.Rep.{Rep}
use Rattle.plans.specs.declared.Row.{Row}
use Rattle.plans.specs.Plan.{plan_of}
use Rattle.worst.specs.Whole.{Whole}
use Rattle.answers.specs.declared.Opening.{Opening}
use Rattle.answers.specs.declared.Kept.{Kept}
use Rattle.answers.specs.Files.{plan_in, kept_by}

-- memory of just the length that the sizes say
pub record Roomy (z : Sizes) (nodes : List Node) (house guest : List Sight) : Type 0 where
  pub places : length nodes ≡ z.places
  pub ours : length house ≡ z.house.sights
  pub theirs : length guest ≡ z.guest.sights

-- the tree lies in the nodes as the player meets it, from the first node on
abbrev pub Lies : Opening → Player → List Node → Type 0
Lies o w nodes = Rep (2 * purse o.sheet) o.m nodes 0 (seat o.sheet o.m w)

-- the tree and the sights are in memory
pub record Standing (o : Opening) (nodes : List Node) (house guest : List Sight) : Type 0 where
  pub rep : Rep (2 * purse o.sheet) o.m nodes 0 (tree o.sheet o.m)
  pub house_are : take o.sizes.house.sights house ≡ sights_of House (game_as o.sheet)
  pub guest_are : take o.sizes.guest.sights guest ≡ sights_of Guest (game_as o.sheet)

-- what is kept by the plan in the rows, over the tree in the nodes
abbrev pub Keeping : List Node → List Row → ℕ → ℕ → ℕ → Kept → Type 0
Keeping nodes rows m words space k =
    (table : ℕ) (t : Tree) (c choices : ℕ → ℕ) → Whole table t c choices nodes rows m words space → k ≡ record { worst = worst m (plan_of rows c) choices words t; hands = m ^ words }

-- the rows are a plan of that player that was read
pub record SomePlan (o : Opening) (w : Player) (rows : List Row) : Type 0 where
  pub bytes : List ℕ
  pub read : plan_in o w bytes ≡ Ok rows

-- it is what a plan of the house keeps that was read
pub record SomeKept (o : Opening) (k : Kept) : Type 0 where
  pub bytes : List ℕ
  pub rows : List Row
  pub read : plan_in o House bytes ≡ Ok rows
  pub is : k ≡ kept_by o House rows

-- what is printed so far and what is still to be printed, before and after: together they are the same
abbrev pub Lines : List Node → List Row → ℕ → List ℕ → List ℕ → List ℕ → List ℕ → Type 0
Lines nodes rows m before input after rest =
    (k n : ℕ) (c counts : ℕ → ℕ) (t : Tree) → Laid k m n c counts rows nodes 0 t →
    after ++ hand_lines k (outcomes_of m (plan_of rows c) t rest) ≡ before ++ hand_lines k (outcomes_of m (plan_of rows c) t input)
