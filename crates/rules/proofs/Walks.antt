-- Numbering on the walk gives the tree.
use Rattle.std.proofs.Common.{◌≡◌, ℕ, List, [], ◌++◌, sym, refl, ap, ◌∙◌, ap₂, append_assoc, append-nil}
use Rattle.cards.specs.Game.{deal, ours, theirs, more}
use Rattle.rules.specs.declared.Player.TheVariants.{House, Guest}
use Rattle.rules.specs.Play.{Sight, Place, end, dealt, turn, Places, no_more, also, game}
use Rattle.rules.specs.Sights.{met, met_all, note, gather, place, weights, numbered, numbered_all}
use Rattle.rules.specs.Walk.{walk, walk_all, WalkNumbers}
use Rattle.rules.proofs.Same.{known_noted, gather_append, place_kept}

kept : (s : Sight) (l a : List Sight) → place s (gather (note s l) a) ≡ place s (note s l)
kept s l a = place_kept s (note s l) a (known_noted s l)

mutual
  walk_is : (m : ℕ) (p : Place) (hs gs a b : List Sight) → numbered m (gather hs (met House p ++ a)) (gather gs (met Guest p ++ b)) p ≡ walk m p hs gs
  walk_is m (end e) hs gs a b = refl
  walk_is m (dealt ws ps) hs gs a b = ap (deal (weights m ws)) (walk_all_is m ps hs gs a b)
  walk_is m (turn House s ps) hs gs a b = ap₂ ours (kept s hs (met_all House ps ++ a)) (walk_all_is m ps (note s hs) gs a b)
  walk_is m (turn Guest s ps) hs gs a b = ap₂ theirs (kept s gs (met_all Guest ps ++ b)) (walk_all_is m ps hs (note s gs) a b)

  walk_all_is : (m : ℕ) (ps : Places) (hs gs a b : List Sight) → numbered_all m (gather hs (met_all House ps ++ a)) (gather gs (met_all Guest ps ++ b)) ps ≡ walk_all m ps hs gs
  walk_all_is m no_more hs gs a b = refl
  walk_all_is m (also p ps) hs gs a b =
      let d = ap (gather hs) (append_assoc (met House p) (met_all House ps) a) in
      let e = ap (gather gs) (append_assoc (met Guest p) (met_all Guest ps) b) in
      ap₂ more
      (ap₂ (λ (x y : List Sight). numbered m x y p) d e ∙ walk_is m p hs gs (met_all House ps ++ a) (met_all Guest ps ++ b))
      (ap₂ (λ (x y : List Sight). numbered_all m x y ps) (d ∙ gather_append hs (met House p) (met_all House ps ++ a)) (e ∙ gather_append gs (met Guest p) (met_all Guest ps ++ b))
      ∙ walk_all_is m ps (gather hs (met House p)) (gather gs (met Guest p)) a b)

-- the tree of a rule sheet, numbered in one walk
pub walk_numbers : WalkNumbers
walk_numbers s m =
    let p = game s in
    sym (walk_is m p [] [] [] []) ∙ ap₂ (λ (x y : List Sight). numbered m x y p) (ap (gather []) (append-nil (met House p))) (ap (gather []) (append-nil (met Guest p)))
