-- The tree of a rule sheet: its sights are numbered for each player in the order in which they are first met. Assumes nothing: these are definitions.
use Rattle.std.specs.Prelude.{ℕ, suc, ◌*◌, ◌/◌, max, Bool, true, false, ◌&&◌, ◌||◌, List, [], ◌∷◌, ◌++◌, Some, None, Option, ◌==◌}
use Rattle.cards.specs.Game.{Tree, over, deal, ours, theirs, Trees, none, more, pick, total}
use Rattle.rules.specs.declared.Player.{Player}
use Rattle.rules.specs.declared.Player.TheVariants.{House, Guest}
use Rattle.rules.specs.declared.Sheet.{Sheet}
use Rattle.rules.specs.Play.{Sight, Place, end, dealt, turn, Places, no_more, also, game}

abbrev pub is_same_player : Player → Player → Bool
is_same_player House House = true
is_same_player House Guest = false
is_same_player Guest House = false
is_same_player Guest Guest = true

abbrev pub same_public : Option ℕ → Option ℕ → Bool
same_public None None = true
same_public None (Some q) = false
same_public (Some r) None = false
same_public (Some r) (Some q) = r == q

abbrev pub same_choices : List ℕ → List ℕ → Bool
same_choices [] [] = true
same_choices [] (l ∷ ls) = false
same_choices (k ∷ ks) [] = false
same_choices (k ∷ ks) (l ∷ ls) = k == l && same_choices ks ls

abbrev pub same_sight : Sight → Sight → Bool
same_sight s z = s.own == z.own && (same_public s.public z.public && same_choices s.choices z.choices)

-- the sights of a player as they are met, each place before its trees and trees in order
abbrev mutual
  pub met : Player → Place → List Sight
  met w (end e) = []
  met w (dealt ws ps) = met_all w ps
  met w (turn v s ps) = pick (is_same_player w v) (s ∷ met_all w ps) (met_all w ps)

  pub met_all : Player → Places → List Sight
  met_all w no_more = []
  met_all w (also p ps) = met w p ++ met_all w ps

abbrev pub known : Sight → List Sight → Bool
known s [] = false
known s (z ∷ zs) = same_sight s z || known s zs

-- each sight once, where it is first met; l have been met before
abbrev pub note : Sight → List Sight → List Sight
note s l = pick (known s l) l (l ++ (s ∷ []))

abbrev pub gather : List Sight → List Sight → List Sight
gather l [] = l
gather l (s ∷ ss) = gather (note s l) ss

abbrev pub sights : Player → Place → List Sight
sights w p = gather [] (met w p)

-- the number of a sight: its place in the list
abbrev pub place : Sight → List Sight → ℕ
place s [] = 0
place s (z ∷ zs) = pick (same_sight s z) 0 (suc (place s zs))

abbrev pub at_turn : Player → ℕ → ℕ → Trees → Tree
at_turn House i j ts = ours i ts
at_turn Guest i j ts = theirs j ts

-- the weights of a deal, from the copies left: m × copies left / cards left
abbrev pub weighed : ℕ → ℕ → List ℕ → List ℕ
weighed m n [] = []
weighed m n (c ∷ cs) = (m * c / n) ∷ weighed m n cs

abbrev pub weights : ℕ → List ℕ → List ℕ
weights m cs = weighed m (total cs) cs

abbrev mutual
  pub numbered : ℕ → List Sight → List Sight → Place → Tree
  numbered m hs gs (end e) = over e.house
  numbered m hs gs (dealt cs ps) = deal (weights m cs) (numbered_all m hs gs ps)
  numbered m hs gs (turn w s ps) = at_turn w (place s hs) (place s gs) (numbered_all m hs gs ps)

  pub numbered_all : ℕ → List Sight → List Sight → Places → Trees
  numbered_all m hs gs no_more = none
  numbered_all m hs gs (also p ps) = more (numbered m hs gs p) (numbered_all m hs gs ps)

-- the tree of a rule sheet, with words below m
abbrev pub tree : Sheet → ℕ → Tree
tree s m = let p = game s in numbered m (sights House p) (sights Guest p) p

-- the largest number of deals and house choices on a path through the tree
abbrev mutual
  pub words : Tree → ℕ
  words (over g) = 0
  words (deal ws ts) = suc (words_all ts)
  words (ours i ts) = suc (words_all ts)
  words (theirs i ts) = words_all ts

  pub words_all : Trees → ℕ
  words_all none = 0
  words_all (more t ts) = max (words t) (words_all ts)
