-- A table of sights by what they hold. Assumes nothing: these are definitions.
use Rattle.std.specs.Prelude.{◌≡◌, ℕ, suc, ◌+◌, ◌-◌, ◌*◌, ◌<◌, ◌≤◌, List, [], length, Some, None, Option, slice_index}
use Rattle.cards.specs.Game.{pick}
use Rattle.rules.specs.declared.Player.{Player}
use Rattle.tree.specs.declared.Line.{Line}
use Rattle.tree.specs.declared.Sight.{Sight}
use Rattle.tree.specs.declared.Place.{Place}
use Rattle.tree.specs.declared.Place.TheVariants.{Over, Deal, House, Guest}
use Rattle.tree.specs.declared.Node.{Node}
use Rattle.tree.specs.Seen.{known, place_of, sight_at, seen_in, noted}
use Rattle.tree.specs.Rep.{node_at}

abbrev pub public_slot : Option ℕ → ℕ
public_slot None = 0
public_slot (Some r) = r + 1

abbrev pub line_slot : Line → ℕ
line_slot l = l.checks * 5 + l.bets

-- where a sight stands in a table: sights of the first round come first
abbrev pub slot_of : Sight → ℕ
slot_of z = ((public_slot z.history.public * 15 + line_slot z.history.second) * 13 + z.own) * 15 + line_slot z.history.first

-- a sight that has a slot of its own in a table of n slots
pub record InRange (n : ℕ) (z : Sight) : Type 0 where
  pub own : z.own < 13
  pub checks1 : z.history.first.checks < 3
  pub bets1 : z.history.first.bets < 5
  pub checks2 : z.history.second.checks < 3
  pub bets2 : z.history.second.bets < 5
  pub inside : slot_of z < n

-- what the table holds for a sight: 0, or its number and one more
abbrev pub entry_of : Sight → List Sight → ℕ
entry_of z l = pick (known z l) (suc (place_of z l)) 0

-- a table of n slots that holds the numbers of these sights
abbrev pub Tabled : ℕ → List ℕ → List Sight → Type 0
Tabled n t l = (z : Sight) → InRange n z → slice_index t (slot_of z) ≡ entry_of z l

-- each sight of player w in the row has its slot
abbrev pub Ranged : ℕ → Player → List Node → Type 0
Ranged n w ns = (i : ℕ) (z : Sight) → i < length ns → sight_at w (node_at ns i).place ≡ Some z → InRange n z

-- a place with the number that the tables of the house and of the guest hold for its sight
module _ (house guest : List ℕ) where
  abbrev pub tabled_place : Place → Place
  tabled_place (Over e) = Over e
  tabled_place (Deal n) = Deal n
  tabled_place (House z i) = House z (slice_index house (slot_of z) - 1)
  tabled_place (Guest z i) = Guest z (slice_index guest (slot_of z) - 1)

  abbrev pub tabled_node : Node → Node
  tabled_node n = record { place = tabled_place n.place; share = n.share; size = n.size }

  -- the place's sight has a slot
  abbrev pub Slotted : Place → Type 0
  Slotted (Over e) = Unit {0}
  Slotted (Deal n) = Unit {0}
  Slotted (House z i) = slot_of z < length house
  Slotted (Guest z i) = slot_of z < length guest

-- the sights of player w in the row fit the memory for them, and an empty table has a slot for each
pub record Ready (ns : List Node) (w : Player) (room : ℕ) (table : List ℕ) : Type 0 where
  pub room_is : length (noted [] (seen_in w ns)) ≤ room
  pub ranged : Ranged (length table) w ns
  pub zeros : (k : ℕ) → slice_index table k ≡ 0
