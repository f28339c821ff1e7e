-- How many words and how many sights the tree of a rule sheet has. Assumes nothing: these are definitions.
use Rattle.std.specs.Prelude.{◌≡◌, ℕ, ◌+◌, ◌-◌, ◌*◌, ◌/◌, length, ◌==◌}
use Rattle.cards.specs.Game.{pick}
use Rattle.cards.specs.Promise.{turned}
use Rattle.rules.specs.declared.Player.{Player}
use Rattle.rules.specs.declared.Player.TheVariants.{House, Guest}
use Rattle.rules.specs.declared.Sheet.{Sheet}
use Rattle.rules.specs.Sound.{Sound}
use Rattle.rules.specs.Play.{purse, game}
use Rattle.rules.specs.Sights.{is_same_player, sights, tree, words}

-- how often a player acts in one round, at the most
abbrev pub turns : Sheet → Player → ℕ
turns s w = pick (is_same_player w s.begins) ((s.raises + 4) / 2) ((s.raises + 3) / 2)

-- the two hidden cards and a round; with a public card that card and a round more
abbrev pub word_count : Sheet → Player → ℕ
word_count s w = 2 + turns s w + pick s.public (1 + turns s w) 0

-- for each own rank there are raises + 2 sights in a round; a first round ends in 2 × raises + 3 ways without a fold, and then each rank that is left may be the public one
abbrev pub count_of_sights : Sheet → ℕ
count_of_sights s = s.ranks * (s.raises + 2) * (1 + pick s.public ((2 * s.raises + 3) * (s.ranks - pick (s.copies == 1) 1 0)) 0)

-- the words that the tree needs at each chair
unfoldable pub WordsAre : Type 0
WordsAre = (s : Sheet) (m : ℕ) → Sound s → (words (tree s m) ≡ word_count s House) × (words (turned (2 * purse s) (tree s m)) ≡ word_count s Guest)

-- both players have as many sights
unfoldable pub SightsAre : Type 0
SightsAre = (s : Sheet) (w : Player) → Sound s → length (sights w (game s)) ≡ count_of_sights s
