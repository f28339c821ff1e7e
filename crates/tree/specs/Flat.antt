-- A played hand laid out in a row of nodes, each place before its trees. Assumes nothing: these are definitions.
use Rattle.std.specs.Prelude.{◌≡◌, ℕ, suc, ◌+◌, ◌*◌, ◌≤◌, List, [], ◌∷◌, ◌++◌, length, take, drop}
use Rattle.cards.specs.Game.{pick, total}
use Rattle.rules.specs.Play.{left, without}
use Rattle.rules.specs.declared.Player.{Player}
use Rattle.rules.specs.declared.Player.TheVariants.{House as Ours, Guest as Theirs}
use Rattle.rules.specs.declared.Sheet.{Sheet}
use Rattle.tree.specs.declared.Sight.{Sight}
use Rattle.tree.specs.declared.Hand.{Hand}
use Rattle.tree.specs.declared.Place.{Place}
use Rattle.tree.specs.declared.Place.TheVariants.{Over, Deal, House, Guest}
use Rattle.tree.specs.declared.Node.{Node}
use Rattle.tree.specs.Compact.{Play, end, dealt, turn, Plays, no_more, also, size, sizes, deals_as, first_as, sits}
use Rattle.tree.specs.Rep.{node, first_of, rest_of}

-- f and g number the sights of the house and of the guest
module _ (f g : Sight → ℕ) where
  abbrev pub seat : Player → Sight → Place
  seat Ours z = House z (f z)
  seat Theirs z = Guest z (g z)

  abbrev mutual
    pub flat : ℕ → Play → List Node
    flat c (end t) = node (Over t) c 1 ∷ []
    flat c (dealt ws ps) = node (Deal (total ws)) c (suc (sizes ps)) ∷ flats ws ps
    flat c (turn w z ps) = node (seat w z) c (suc (sizes ps)) ∷ flats [] ps

    pub flats : List ℕ → Plays → List Node
    flats ws no_more = []
    flats ws (also p ps) = flat (first_of ws) p ++ flats (rest_of ws) ps

-- before the sights are numbered
abbrev pub unnumbered : Sight → ℕ
unnumbered z = 0

abbrev pub raw : ℕ → Play → List Node
raw = flat unnumbered unnumbered

-- ys lies in xs from at on
unfoldable pub put : {X : Type 0} → List X → ℕ → List X → List X
put xs at ys = take at xs ++ (ys ++ drop (at + length ys) xs)

-- the memory before and after the writing of p, and where it goes on
pub record Written (c : ℕ) (p : Play) (at : ℕ) (before after : List Node) (next : ℕ) : Type 0 where
  pub ends : next ≡ at + size p
  pub holds : after ≡ put before at (raw c p)

-- so much more fits each number of the hand
pub record Fair (k : ℕ) (h : Hand) : Type 0 where
  pub house : h.paid.house + k ≤ 240
  pub guest : h.paid.guest + k ≤ 240
  pub checks1 : h.history.first.checks + k ≤ 240
  pub bets1 : h.history.first.bets + k ≤ 240
  pub checks2 : h.history.second.checks + k ≤ 240
  pub bets2 : h.history.second.bets + k ≤ 240

-- what follows the house's card, the deck as an array of which the first ranks are in play
abbrev pub guest_card : Sheet → List ℕ → ℕ → Play
guest_card s deck a = deals_as (take s.ranks deck) (λ b. first_as s (take s.ranks (without b deck)) (sits s.bets.ante a b))

abbrev pub second_card : Sheet → List ℕ → ℕ → Play
second_card s deck a = guest_card s (without a deck) a

-- the places of a round of betting at which x raises may be made, where c follow each end without a fold
abbrev pub bet_size : ℕ → ℕ → ℕ
bet_size x c = 2 + c + 2 * ((x + 1) * (2 + c))

abbrev pub first_size : Sheet → List ℕ → ℕ
first_size s deck = bet_size s.raises (pick s.public (1 + length (left deck) * bet_size s.raises 1) 1)

-- a list of sights in lent memory, from its start on
pub record Noted (zs : List Sight) (before after : List Sight) (r : ℕ) : Type 0 where
  pub count : r ≡ length zs
  pub holds : after ≡ put before 0 zs
