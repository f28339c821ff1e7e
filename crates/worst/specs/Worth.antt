-- What items come to, and rows of entries for which it is reckoned. Assumes nothing: these are definitions.
use Rattle.std.specs.Prelude.{◌≡◌, ℕ, ◌+◌, ◌*◌, ◌^◌, ◌<◌, ◌≤◌, List, [], ◌∷◌}
use Rattle.cards.specs.Game.{Tree, over, deal, ours, theirs, Plan}
use Rattle.cards.specs.Floor.{Item, after}
use Rattle.cards.specs.Reckon.{places, reckon, sight_number}
use Rattle.worst.specs.Items.{Fit}

-- the places that items have, and what they count
abbrev pub room : List Item → ℕ
room [] = 0
room (x ∷ xs) = places x.tree + room xs

abbrev pub mass : ℕ → List Item → ℕ
mass m [] = 0
mass m (x ∷ xs) = x.times * m ^ x.left + mass m xs

-- what is reckoned, with as many steps as there are places
unfoldable pub worth : ℕ → Plan → (ℕ → ℕ) → List Item → ℕ
worth m plan choices xs = reckon m plan choices (room xs) xs

-- what comes of choice k
unfoldable pub branch : ℕ → Plan → (ℕ → ℕ) → List Item → ℕ → ℕ
branch m plan choices xs k = worth m plan choices (after k xs)

-- a tree where the guest is to choose
abbrev pub Choice : Tree → Type 0
Choice (over g) = ⊥
Choice (deal ws ts) = ⊥
Choice (ours i ts) = ⊥
Choice (theirs i ts) = Unit {0}

pub record One (m : ℕ) (plan : Plan) (choices : ℕ → ℕ) (most words : ℕ) (x : Item) : Type 0 where
  pub choice : Choice x.tree
  pub fit : Fit m plan choices most x.tree x.left
  pub left : x.left ≤ words

abbrev pub Each : ℕ → Plan → (ℕ → ℕ) → ℕ → ℕ → List Item → Type 0
Each m plan choices most words [] = Unit {0}
Each m plan choices most words (x ∷ xs) = One m plan choices most words x × Each m plan choices most words xs

-- all items are at one sight
abbrev pub AllAt : ℕ → List Item → Type 0
AllAt i [] = Unit {0}
AllAt i (x ∷ xs) = (sight_number x.tree ≡ i) × AllAt i xs

-- each item has a choice k
abbrev pub There : (ℕ → ℕ) → ℕ → List Item → Type 0
There choices k [] = Unit {0}
There choices k (x ∷ xs) = (k < choices (sight_number x.tree)) × There choices k xs
