-- What holds of the game and the tree of every rule sheet. Each is a statement, a type: a contract in src/lib.rt asserts it, and its proof is in proofs/. Assumes nothing.
use Rattle.std.specs.Prelude.{◌≡◌, ℕ, ◌+◌, ◌*◌, ◌%◌, ◌<◌, true, false, List, [], ◌∷◌, slice_index_or}
use Rattle.cards.specs.Game.{Tree, Plan, total}
use Rattle.cards.specs.Promise.{Well, Worst, AtMost, once, turned}
use Rattle.cards.specs.Played.{Recalls}
use Rattle.cards.specs.Reckon.{worst}
use Rattle.rules.specs.declared.Player.{Player}
use Rattle.rules.specs.declared.Player.TheVariants.{House, Guest}
use Rattle.rules.specs.declared.Sheet.{Sheet}
use Rattle.rules.specs.declared.Ends.{Ends}
use Rattle.rules.specs.Play.{other, Sight, Place, end, dealt, turn, Places, also, purse, game}
use Rattle.rules.specs.Sights.{sights, weights, tree, words}
use Rattle.rules.specs.Memory.{told, choices_of, Weighs, Dealable}

-- how many choices a player has at its sight with a number
abbrev pub choices : Sheet → Player → ℕ → ℕ
choices s w = choices_of s.begins s.raises (sights w (game s))

-- a plan of a player: for each choice at each of its sights a weight, and at each sight they sum to m
abbrev pub Plans : Sheet → ℕ → Player → Plan → Type 0
Plans s m w plan = Weighs s.begins m s.raises (sights w (game s)) plan

-- the tree as it is seen from a player's chair
abbrev pub seat : Sheet → ℕ → Player → Tree
seat s m House = tree s m
seat s m Guest = turned (2 * purse s) (tree s m)

pub record Stands (s : Sheet) (m : ℕ) : Type 0 where
  -- nobody has more than is on the table; no sight comes twice on a path; there is always a choice
  pub table : AtMost (2 * purse s) (tree s m)
  pub fresh : once [] [] (tree s m) ≡ true
  pub some : (w : Player) (i : ℕ) → 0 < choices s w i
  -- at either chair: who sits opposite recalls its moves; every plan fits; what is reckoned is its worst
  pub recall : (w : Player) → Recalls (told s.begins s.raises (other w) (sights (other w) (game s))) [] (seat s m w)
  pub fits : (w : Player) (plan : Plan) → Plans s m w plan → Well m plan (choices s (other w)) (words (seat s m w)) (seat s m w)
  pub reckoned : (w : Player) (plan : Plan) → Plans s m w plan →
      Worst m (words (seat s m w)) plan (choices s (other w)) (seat s m w) (worst m plan (choices s (other w)) (words (seat s m w)) (seat s m w))

abbrev pub SheetsStand : Type 0
SheetsStand = (s : Sheet) (m : ℕ) → Dealable s m → Stands s m

-- the weights of a deal sum to m
abbrev pub WeightsSum : Type 0
WeightsSum = (m : ℕ) (cs : List ℕ) → 0 < total cs → m % total cs ≡ 0 → total (weights m cs) ≡ m

-- e is an end of the game from a place on
mutual
  pub data HasEnd (e : Ends) : Place → Type 0 where
    here : HasEnd e (end e)
    past_deal : {cs : List ℕ} {ps : Places} → SomeHasEnd e ps → HasEnd e (dealt cs ps)
    past_turn : {w : Player} {s : Sight} {ps : Places} → SomeHasEnd e ps → HasEnd e (turn w s ps)

  pub data SomeHasEnd (e : Ends) : Places → Type 0 where
    in_this : {p : Place} {ps : Places} → HasEnd e p → SomeHasEnd e (also p ps)
    in_rest : {p : Place} {ps : Places} → SomeHasEnd e ps → SomeHasEnd e (also p ps)

-- at every end the players have together what they sat down with
abbrev pub EndsSum : Type 0
EndsSum = (s : Sheet) (e : Ends) → HasEnd e (game s) → e.house + e.guest ≡ 2 * purse s

-- three ranks, one copy, no public card, ante 1, bets 1, no raise; the house begins
abbrev pub small : Sheet
small = record { ranks = 3; copies = 1; public = false; bets = record { ante = 1; first = 1; second = 1 }; raises = 0; begins = House; reserved = 0 }

-- a plan as rows of weights, and a row of two
abbrev pub planned : List (List ℕ) → Plan
planned rows i = slice_index_or rows i []

abbrev pub two : ℕ → ℕ → List ℕ
two a b = a ∷ b ∷ []

-- a plan of the house in the small game, with words below 18 and 4 of them for a hand, and its worst
abbrev pub SmallRow : List (List ℕ) → ℕ → Type 0
SmallRow rows v = Worst 18 4 (planned rows) (choices small Guest) (tree small 18) v

pub record SmallRows : Type 0 where
  pub first : SmallRow (two 12 6 ∷ two 18 0 ∷ two 18 0 ∷ two 6 12 ∷ two 0 18 ∷ two 0 18 ∷ []) 204120
  pub second : SmallRow (two 18 0 ∷ two 18 0 ∷ two 18 0 ∷ two 18 0 ∷ two 0 18 ∷ two 0 18 ∷ []) 174960
  pub third : SmallRow (two 9 9 ∷ two 9 9 ∷ two 9 9 ∷ two 9 9 ∷ two 9 9 ∷ two 0 18 ∷ []) 183708
