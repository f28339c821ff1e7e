-- The sights of a played hand, numbered for each player in the order in which they are first met. Assumes nothing: these are definitions.
use Rattle.std.specs.Prelude.{ℕ, suc, Bool, true, false, ◌&&◌, ◌||◌, List, [], ◌∷◌, ◌++◌, Some, None, Option, ◌==◌}
use Rattle.cards.specs.Game.{pick}
use Rattle.rules.specs.declared.Player.{Player}
use Rattle.rules.specs.declared.Player.TheVariants.{House as Ours, Guest as Theirs}
use Rattle.tree.specs.declared.Line.{Line}
use Rattle.tree.specs.declared.Sight.{Sight}
use Rattle.tree.specs.declared.Place.{Place}
use Rattle.tree.specs.declared.Place.TheVariants.{Over, Deal, House, Guest}
use Rattle.tree.specs.declared.Node.{Node}
use Rattle.tree.specs.Compact.{Play, end, dealt, turn, Plays, no_more, also}

abbrev pub same_line : Line → Line → Bool
same_line a b = a.checks == b.checks && a.bets == b.bets

abbrev pub same_public_card : Option ℕ → Option ℕ → Bool
same_public_card None None = true
same_public_card None (Some q) = false
same_public_card (Some r) None = false
same_public_card (Some r) (Some q) = r == q

abbrev pub same_stored_sight : Sight → Sight → Bool
same_stored_sight a b =
    (a.own == b.own) && (same_line a.history.first b.history.first && (same_public_card a.history.public b.history.public && same_line a.history.second b.history.second))

-- the sights of a player as they are met, each place before its trees and trees in order
abbrev pub own_turn : Player → Player → Sight → Option Sight
own_turn Ours Ours z = Some z
own_turn Ours Theirs z = None
own_turn Theirs Ours z = None
own_turn Theirs Theirs z = Some z

abbrev pub as_list : Option Sight → List Sight
as_list None = []
as_list (Some z) = z ∷ []

abbrev mutual
  pub met : Player → Play → List Sight
  met w (end g) = []
  met w (dealt ws ps) = met_all w ps
  met w (turn v z ps) = as_list (own_turn w v z) ++ met_all w ps

  pub met_all : Player → Plays → List Sight
  met_all w no_more = []
  met_all w (also p ps) = met w p ++ met_all w ps

-- the number of a sight: its place in the list
abbrev pub place_of : Sight → List Sight → ℕ
place_of s [] = 0
place_of s (z ∷ zs) = pick (same_stored_sight s z) 0 (suc (place_of s zs))

abbrev pub known : Sight → List Sight → Bool
known s [] = false
known s (z ∷ zs) = same_stored_sight s z || known s zs

-- each sight once, where it is first met, after those that were met before
abbrev pub noted : List Sight → List Sight → List Sight
noted old [] = old
noted old (s ∷ ss) = noted (pick (known s old) old (old ++ (s ∷ []))) ss

abbrev pub sights_of : Player → Play → List Sight
sights_of w p = noted [] (met w p)

-- the sights of a player in a row of nodes
abbrev pub sight_at : Player → Place → Option Sight
sight_at w (Over t) = None
sight_at w (Deal n) = None
sight_at w (House z i) = own_turn w Ours z
sight_at w (Guest z i) = own_turn w Theirs z

abbrev pub seen_in : Player → List Node → List Sight
seen_in w [] = []
seen_in w (n ∷ ns) = as_list (sight_at w n.place) ++ seen_in w ns

-- a place with the number of its sight
module _ (hs gs : List Sight) where
  abbrev pub numbered_place : Place → Place
  numbered_place (Over t) = Over t
  numbered_place (Deal n) = Deal n
  numbered_place (House z i) = House z (place_of z hs)
  numbered_place (Guest z i) = Guest z (place_of z gs)

  abbrev pub numbered_node : Node → Node
  numbered_node n = record { place = numbered_place n.place; share = n.share; size = n.size }
