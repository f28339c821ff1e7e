-- What spreading a tree out leaves in the work row. Assumes nothing: these are definitions.
use Rattle.std.specs.Prelude.{◌≡◌, ℕ, ◌+◌, ◌*◌, ◌^◌, ◌<◌, ◌≤◌, List, ◌++◌, length, take, slice_index, slice_set}
use Rattle.cards.specs.Game.{Tree}
use Rattle.cards.specs.Reckon.{places, sure, open'}
use Rattle.plans.specs.declared.Row.{Row}
use Rattle.tree.specs.Rep.{Rep, node_at}
use Rattle.tree.specs.declared.Node.{Node}
use Rattle.tree.specs.declared.Place.{Place}
use Rattle.tree.specs.declared.Place.TheVariants.{Over, Deal, House, Guest}
use Rattle.worst.specs.Items.{Told, told_plan, Bounds, Fit, Entries}
use Rattle.worst.specs.declared.Entry.{Entry}
use Rattle.worst.specs.declared.Grown.{Grown}

-- an entry that stands for a tree can be spread out into a row of so many places, after the first len
pub record Ready (w : Told) (tree : Tree) (nodes : List Node) (rows : List Row) (m : ℕ) (powers : List ℕ) (room len : ℕ) (e : Entry) : Type 0 where
  pub bounds : Bounds w nodes m powers
  pub rep : Rep w.table m nodes e.at tree
  pub fit : Fit m (told_plan w rows) w.choices w.table tree e.left
  pub left : e.left ≤ w.words
  pub small : w.table * (e.times * m ^ e.left) < 2 ^ 62
  pub fits : len + places tree ≤ room

pub record SomeReady (nodes : List Node) (rows : List Row) (m : ℕ) (powers : List ℕ) (room len : ℕ) (e : Entry) : Type 0 where
  pub told : Told
  pub tree : Tree
  pub ready : Ready told tree nodes rows m powers room len e

-- what is sure is summed up, and the guest's choices stand after the first len
pub record Spread (w : Told) (tree : Tree) (nodes : List Node) (rows : List Row) (m len : ℕ) (e : Entry) (before later : List Entry) (r : Grown) : Type 0 where
  pub sum : r.sum ≡ sure m (told_plan w rows) tree e.times e.left
  pub new : List Entry
  pub len_is : r.len ≡ len + length new
  pub taken : take r.len later ≡ take len before ++ new
  pub row : Entries w.table m nodes new (open' m (told_plan w rows) tree e.times e.left)

-- what the house has where a tree is over
abbrev pub house_of : Place → ℕ
house_of (Over g) = g.house
house_of (Deal n) = 0
house_of (House z j) = 0
house_of (Guest z j) = 0

-- an entry can be settled: there is room for it, and what it adds is small
pub record Settles (nodes : List Node) (powers : List ℕ) (room len : ℕ) (e : Entry) : Type 0 where
  pub inside : e.at < length nodes
  pub spare : len < room
  pub power : e.left < length powers
  pub ends : house_of (node_at nodes e.at).place * slice_index powers e.left < 2 ^ 62
  pub adds : e.times * (house_of (node_at nodes e.at).place * slice_index powers e.left) < 2 ^ 62

-- a tree that is over adds its count times what the house has times m for each word left; any other is written after the first len
abbrev pub settled : Place → List ℕ → ℕ → Entry → Grown
settled (Over g) powers len e = record { len = len; sum = e.times * (g.house * slice_index powers e.left) }
settled (Deal n) powers len e = record { len = len + 1; sum = 0 }
settled (House z j) powers len e = record { len = len + 1; sum = 0 }
settled (Guest z j) powers len e = record { len = len + 1; sum = 0 }

abbrev pub settled_row : Place → ℕ → Entry → List Entry → List Entry
settled_row (Over g) len e row = row
settled_row (Deal n) len e row = slice_set row len e
settled_row (House z j) len e row = slice_set row len e
settled_row (Guest z j) len e row = slice_set row len e
