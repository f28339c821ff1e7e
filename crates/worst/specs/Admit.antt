-- What a tree and its reckoning ask of the memory that is lent for them. Assumes nothing: these are definitions.
use Rattle.std.specs.Prelude.{ℕ, Ok, Err, Result, nat_le}
use Rattle.cards.specs.Game.{pick}
use Rattle.tree.specs.Built as tree
use Rattle.tree.specs.declared.Sizes.{Sizes}
use Rattle.tree.specs.declared.Refusal.TheVariants.{NoRoom, NoSightRoom, TooLarge}
use Rattle.worst.specs.declared.Refusal.{Refusal}
use Rattle.worst.specs.declared.Refusal.TheVariants.{OfTree, NoWork}

-- the number of a refusal in the list, and its place
abbrev pub number_of : Refusal → ℕ
number_of (OfTree e) = tree.number_of e
number_of NoWork = 13

abbrev pub place_of : Refusal → ℕ
place_of (OfTree e) = tree.refused_at e
place_of NoWork = 2

-- the entries that the work row has to have: as many as the tree has places
abbrev pub work_count : Sizes → ℕ
work_count z = z.places

-- the places fit the memory for the tree, the sights theirs, the work row is long enough, and there are at most 65,536 places
abbrev pub admitted : Sizes → ℕ → ℕ → ℕ → ℕ → Result Sizes Refusal
admitted z nodes house guest work =
    pick (nat_le z.places nodes)
    (pick (nat_le z.house.sights house)
    (pick (nat_le z.guest.sights guest)
    (pick (nat_le (work_count z) work)
    (pick (nat_le z.places 65536) (Ok z) (Err (OfTree TooLarge))) (Err NoWork)) (Err (OfTree NoSightRoom))) (Err (OfTree NoSightRoom))) (Err (OfTree NoRoom))
