-- The sights can be numbered while the tree is gone through: a number once given stays. Assumes nothing: these are definitions.
use Rattle.std.specs.Prelude.{◌≡◌, ℕ, List, []}
use Rattle.cards.specs.Game.{Tree, over, deal, Trees, none, more, pick}
use Rattle.rules.specs.declared.Player.TheVariants.{House, Guest}
use Rattle.rules.specs.declared.Sheet.{Sheet}
use Rattle.rules.specs.Play.{Sight, Place, end, dealt, turn, Places, no_more, also, game}
use Rattle.rules.specs.Sights.{is_same_player, met, note, gather, place, at_turn, weights, tree}

-- with the sights of the house and of the guest that were met before
abbrev mutual
  pub walk : ℕ → Place → List Sight → List Sight → Tree
  walk m (end e) hs gs = over e.house
  walk m (dealt cs ps) hs gs = deal (weights m cs) (walk_all m ps hs gs)
  walk m (turn w s ps) hs gs =
      let hs' = pick (is_same_player House w) (note s hs) hs in
      let gs' = pick (is_same_player Guest w) (note s gs) gs in
      at_turn w (place s hs') (place s gs') (walk_all m ps hs' gs')

  pub walk_all : ℕ → Places → List Sight → List Sight → Trees
  walk_all m no_more hs gs = none
  walk_all m (also p ps) hs gs = more (walk m p hs gs) (walk_all m ps (gather hs (met House p)) (gather gs (met Guest p)))

-- it gives the tree
abbrev pub WalkNumbers : Type 0
WalkNumbers = (s : Sheet) (m : ℕ) → walk m (game s) [] [] ≡ tree s m
