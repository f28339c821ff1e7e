-- The ranks in play of a deck. Assumes nothing: these are definitions.
use Rattle.std.specs.Prelude.{ℕ, List, take}
use Rattle.rules.specs.declared.Sheet.{Sheet}
use Rattle.rules.specs.Play.{without}
use Rattle.tree.specs.declared.deck.Deck.{Deck}
use Rattle.tree.specs.Compact.{Play, deals_as, first_as, sits}

-- the copies left of each rank in play
abbrev pub cards_of : Deck → List ℕ
cards_of d = take d.ranks d.copies

-- what follows the house's card, from the copies left
abbrev pub guest_deal : Sheet → List ℕ → ℕ → Play
guest_deal s cards a = deals_as cards (λ b. first_as s (without b cards) (sits s.bets.ante a b))
