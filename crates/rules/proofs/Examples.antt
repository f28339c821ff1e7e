-- The sizes of two games, computed.
use Rattle.std.proofs.Common.{◌≡◌, ℕ, zero, suc, ◌*◌, true, List, [], ◌∷◌, length, None, refl}
use Rattle.cards.specs.Game.{total}
use Rattle.cards.specs.Floor.{after, next, nth}
use Rattle.cards.specs.Reckon.{places, worst}
use Rattle.rules.specs.declared.Player.TheVariants.{House, Guest}
use Rattle.rules.specs.declared.Sheet.{Sheet}
use Rattle.rules.specs.Play.{check, bet, Sight, purse, game}
use Rattle.rules.specs.Sights.{sights, tree, words}
use Rattle.rules.specs.Statements.{choices, small}

small_places : places (tree small 18) ≡ 58
small_places = refl

small_words : words (tree small 18) ≡ 4
small_words = refl

small_table : 2 * purse small ≡ 4
small_table = refl

abbrev sees : ℕ → List ℕ → Sight
sees r ks = record { own = r; public = None; choices = ks }

small_house : sights House (game small) ≡
    (sees 0 [] ∷ sees 0 (bet ∷ check ∷ []) ∷ sees 1 [] ∷ sees 1 (bet ∷ check ∷ []) ∷ sees 2 [] ∷ sees 2 (bet ∷ check ∷ []) ∷ [])
small_house = refl

small_guest : sights Guest (game small) ≡
    (sees 1 (check ∷ []) ∷ sees 1 (bet ∷ []) ∷ sees 2 (check ∷ []) ∷ sees 2 (bet ∷ []) ∷ sees 0 (check ∷ []) ∷ sees 0 (bet ∷ []) ∷ [])
small_guest = refl

-- three ranks, two copies, a public card, ante 1, bets 2 and 4, one raise
abbrev six_cards : Sheet
six_cards = record { ranks = 3; copies = 2; public = true; bets = record { ante = 1; first = 2; second = 4 }; raises = 1; begins = House; reserved = 0 }

six_places : places (tree six_cards 60) ≡ 1939
six_places = refl

six_words : words (tree six_cards 60) ≡ 7
six_words = refl

six_house : length (sights House (game six_cards)) ≡ 144
six_house = refl

six_guest : length (sights Guest (game six_cards)) ≡ 144
six_guest = refl

six_table : 2 * purse six_cards ≡ 26
six_table = refl

-- the same weight for each of two or three choices
abbrev equal : ℕ → List ℕ
equal zero = []
equal (suc zero) = 60 ∷ []
equal (suc (suc zero)) = 30 ∷ 30 ∷ []
equal (suc (suc (suc n))) = 20 ∷ 20 ∷ 20 ∷ []

six_worst : worst 60 (λ i. equal (choices six_cards House i)) (choices six_cards Guest) 7 (tree six_cards 60) ≡ 28946160000000
unfolding after next nth total
six_worst = refl
