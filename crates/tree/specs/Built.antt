-- The tree of a rule sheet in lent memory, and the refusals. Assumes nothing: these are definitions.
use Rattle.std.specs.Prelude.{◌≡◌, ℕ, ◌*◌, List, ◌++◌, map, length, drop, Some, None, Ok, Err, Option, Result, nat_le}
use Rattle.cards.specs.Game.{pick}
use Rattle.cards.specs.Promise.{turned}
use Rattle.cards.specs.Reckon.{places}
use Rattle.rules.specs.declared.Player.{Player}
use Rattle.rules.specs.declared.Player.TheVariants.{House, Guest}
use Rattle.rules.specs.declared.Sheet.{Sheet}
use Rattle.rules.specs.Play.{purse, game, count}
use Rattle.rules.specs.Sights.{sights, tree, words}
use Rattle.rules.specs.Counts.{word_count}
use Rattle.tree.specs.declared.Sight.{Sight}
use Rattle.tree.specs.declared.Node.{Node}
use Rattle.tree.specs.declared.Chair.{Chair}
use Rattle.tree.specs.declared.Sizes.{Sizes}
use Rattle.tree.specs.declared.Refusal.{Refusal}
use Rattle.tree.specs.declared.Refusal.TheVariants.{NoRoom, NoSightRoom, TooLarge}
use Rattle.tree.specs.Compact.{game_as}
use Rattle.tree.specs.Flat.{flat}
use Rattle.tree.specs.Seen.{sights_of, place_of}
use Rattle.tree.specs.Told.{told}
use Rattle.tree.specs.Rep.{Rep}

-- the number of a refusal in the list, and its place
abbrev pub number_of : Refusal → ℕ
number_of NoRoom = 13
number_of NoSightRoom = 13
number_of TooLarge = 3

abbrev pub refused_at : Refusal → ℕ
refused_at NoRoom = 0
refused_at NoSightRoom = 1
refused_at TooLarge = 0

-- a number that is handed on where it is at most so much
abbrev pub at_most : ℕ → ℕ → Option ℕ
at_most n most = pick (nat_le n most) (Some n) None

-- what is to be known of a tree: its places, for each chair the sights of its player and the words of a hand, and what is on the table
abbrev pub chair_of : Sheet → Player → Chair
chair_of s w = record { sights = length (sights w (game s)); words = word_count s w }

abbrev pub sizes_of : Sheet → Sizes
sizes_of s = record { places = count (game s); house = chair_of s House; guest = chair_of s Guest; table = 2 * purse s }

-- of such sizes, the chair of a player
abbrev pub chair_in : Sizes → Player → Chair
chair_in z House = z.house
chair_in z Guest = z.guest

-- the places fit the memory for the tree; the sights of each player fit theirs
abbrev pub fitted : Sizes → ℕ → ℕ → ℕ → Result Sizes Refusal
fitted z nodes house guest =
    pick (nat_le z.places nodes)
    (pick (nat_le z.house.sights house)
    (pick (nat_le z.guest.sights guest) (Ok z) (Err NoSightRoom)) (Err NoSightRoom)) (Err NoRoom)

-- there are at most 65,536 places
abbrev pub limited : Sizes → Result Sizes Refusal
limited z = pick (nat_le z.places 65536) (Ok z) (Err TooLarge)

-- the places fit the memory for the tree; the sights of each player fit theirs; there are at most 65,536 places
abbrev pub admitted : Sizes → ℕ → ℕ → ℕ → Result Sizes Refusal
admitted z nodes house guest =
    pick (nat_le z.places nodes)
    (pick (nat_le z.house.sights house)
    (pick (nat_le z.guest.sights guest)
    (pick (nat_le z.places 65536) (Ok z) (Err TooLarge)) (Err NoSightRoom)) (Err NoSightRoom)) (Err NoRoom)

-- the flattened tree, each place with the number of its sight
abbrev pub nodes_of : Sheet → List Node
nodes_of s = flat (λ z. place_of z (sights_of House (game_as s))) (λ z. place_of z (sights_of Guest (game_as s))) 0 (game_as s)

-- the memory begins with these, and is as it was after them
abbrev pub Begins : {X : Type 0} → List X → List X → List X → Type 0
Begins xs before after = after ≡ xs ++ drop (length xs) before

-- what the memory holds once the tree is written: the flattened tree, which is the rule sheet's for every m, and the sights in order, which tell the game's
pub record Laid (s : Sheet) (nodes nodes' : List Node) (house house' guest guest' : List Sight) : Type 0 where
  pub nodes_are : Begins (nodes_of s) nodes nodes'
  pub house_are : Begins (sights_of House (game_as s)) house house'
  pub guest_are : Begins (sights_of Guest (game_as s)) guest guest'
  pub stands : (m : ℕ) → Rep (2 * purse s) m nodes' 0 (tree s m)
  pub told_are : (w : Player) → map told (sights_of w (game_as s)) ≡ sights w (game s)

pub record Untouched (nodes nodes' : List Node) (house house' guest guest' : List Sight) : Type 0 where
  pub nodes_are : nodes' ≡ nodes
  pub house_are : house' ≡ house
  pub guest_are : guest' ≡ guest

abbrev pub Memory : Sheet → Result Sizes Refusal → List Node → List Node → List Sight → List Sight → List Sight → List Sight → Type 0
Memory s (Ok z) nodes nodes' house house' guest guest' = Laid s nodes nodes' house house' guest guest'
Memory s (Err e) nodes nodes' house house' guest guest' = Untouched nodes nodes' house house' guest guest'

-- the sizes are those of the tree, for every m and at either chair
pub record Measured (s : Sheet) (z : Sizes) : Type 0 where
  pub places_are : (m : ℕ) → places (tree s m) ≡ z.places
  pub words_are : (m : ℕ) → words (tree s m) ≡ z.house.words
  pub turned_words_are : (m : ℕ) → words (turned (2 * purse s) (tree s m)) ≡ z.guest.words
