-- A tree in memory, seen from the other chair: definitions, and a statement, which a contract in src/lib.rt asserts. Assumes nothing.
use Rattle.std.specs.Prelude.{◌≡◌, ℕ, List, map}
use Rattle.cards.specs.Game.{Tree}
use Rattle.cards.specs.Promise.{turned, AtMost}
use Rattle.cards.specs.Reckon.{places}
use Rattle.rules.specs.declared.Ends.{Ends}
use Rattle.tree.specs.declared.Place.{Place}
use Rattle.tree.specs.declared.Place.TheVariants.{Over, Deal, House, Guest}
use Rattle.tree.specs.declared.Node.{Node}
use Rattle.tree.specs.Rep.{Rep}

-- what each player has changes hands
abbrev pub turned_ends : Ends → Ends
turned_ends e = record { house = e.guest; guest = e.house }

-- and the choices change players; a deal stays
abbrev pub turned_place_as : Place → Place
turned_place_as (Over e) = Over (turned_ends e)
turned_place_as (Deal n) = Deal n
turned_place_as (House z i) = Guest z i
turned_place_as (Guest z i) = House z i

abbrev pub turned_node : Node → Node
turned_node n = record { place = turned_place_as n.place; share = n.share; size = n.size }

pub record TurnedRows : Type 0 where
  -- where k is on the table, a tree that lies in a row lies turned in the turned row, with as many places
  pub lies : (k m : ℕ) (ns : List Node) (i : ℕ) (t : Tree) → Rep k m ns i t → AtMost k t → Rep k m (map turned_node ns) i (turned k t)
  pub sized : (k : ℕ) (t : Tree) → places (turned k t) ≡ places t
  -- turned twice, a row is as it was
  pub again : (ns : List Node) → map turned_node (map turned_node ns) ≡ ns
