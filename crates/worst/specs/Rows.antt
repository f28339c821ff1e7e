-- Rows of entries for which the least is reckoned. Assumes nothing: these are definitions.
use Rattle.std.specs.Prelude.{◌≡◌, ℕ, ◌+◌, ◌*◌, ◌^◌, ◌<◌, ◌≤◌, List, ◌++◌, length, take}
use Rattle.cards.specs.Floor.{Item, after}
use Rattle.cards.specs.Reckon.{sure_of, open_of}
use Rattle.plans.specs.declared.Row.{Row}
use Rattle.tree.specs.declared.Node.{Node}
use Rattle.worst.specs.Items.{Told, told_plan, Bounds, Entries}
use Rattle.worst.specs.Worth.{room, mass, Each, AllAt, There}
use Rattle.worst.specs.declared.Entry.{Entry}
use Rattle.worst.specs.declared.Grown.{Grown}

-- the first len entries stand for items where the guest is to choose, and there is room for their trees
pub record Rows (w : Told) (xs : List Item) (nodes : List Node) (rows : List Row) (m : ℕ) (powers : List ℕ) (len : ℕ) (work : List Entry) : Type 0 where
  pub bounds : Bounds w nodes m powers
  pub len_le : len ≤ length work
  pub row : Entries w.table m nodes (take len work) xs
  pub each : Each m (told_plan w rows) w.choices w.table w.words xs
  pub small : w.table * mass m xs < 2 ^ 62
  pub fits : room xs ≤ length work

pub record SomeRows (nodes : List Node) (rows : List Row) (m : ℕ) (powers : List ℕ) (len : ℕ) (work : List Entry) : Type 0 where
  pub told : Told
  pub items : List Item
  pub given : Rows told items nodes rows m powers len work

-- and each has a choice k
pub record SomeKth (nodes : List Node) (rows : List Row) (m : ℕ) (powers : List ℕ) (len k : ℕ) (work : List Entry) : Type 0 where
  pub told : Told
  pub items : List Item
  pub given : Rows told items nodes rows m powers len work
  pub there : There told.choices k items

-- and all are at one sight; there is one
pub record SomeGroup (nodes : List Node) (rows : List Row) (m : ℕ) (powers : List ℕ) (len : ℕ) (work : List Entry) : Type 0 where
  pub told : Told
  pub items : List Item
  pub sight : ℕ
  pub given : Rows told items nodes rows m powers len work
  pub all_at : AllAt sight items
  pub some : 0 < len

-- what the row holds once the trees after choice k are spread out after the first len
pub record Gathered (w : Told) (xs : List Item) (nodes : List Node) (rows : List Row) (m len k : ℕ) (before later : List Entry) (r : Grown) : Type 0 where
  pub sum : r.sum ≡ sure_of m (told_plan w rows) (after k xs)
  pub new : List Entry
  pub len_is : r.len ≡ len + length new
  pub taken : take r.len later ≡ take len before ++ new
  pub row : Entries w.table m nodes new (open_of m (told_plan w rows) (after k xs))
