-- Words of chance as they are taken, one by one, and as they lie in bytes. Assumes nothing: these are definitions.
use Rattle.std.specs.Prelude.{◌≡◌, ℕ, ◌+◌, ◌*◌, ◌<◌, List, [], ◌∷◌, Some, None, Ok, Err, Option, Result, nat_lt}
use Rattle.cards.specs.Game.{pick}
use Rattle.hands.specs.declared.Refusal.{Refusal}
use Rattle.hands.specs.declared.Refusal.TheVariants.{HighWord, FewWords}

-- the first word is taken, if there is one
abbrev pub Taken : List ℕ → Option ℕ → List ℕ → Type 0
Taken before (Some x) after = before ≡ x ∷ after
Taken before None after = (before ≡ []) × (after ≡ [])

-- four bytes a word, low byte first; a word that is cut short is not there
abbrev pub words_of : List ℕ → List ℕ
words_of [] = []
words_of (a ∷ []) = []
words_of (a ∷ b ∷ []) = []
words_of (a ∷ b ∷ c ∷ []) = []
words_of (a ∷ b ∷ c ∷ d ∷ bytes) = (a + b * 256 + c * 65536 + d * 16777216) ∷ words_of bytes

-- why the first of these words is no word, after d words
abbrev pub unfit : ℕ → ℕ → List ℕ → Option Refusal
unfit m d [] = Some (FewWords d)
unfit m d (x ∷ words) = pick (nat_lt x m) None (Some (HighWord d))

-- the first word, below m, is taken
abbrev pub Drawn : ℕ → ℕ → List ℕ → Result ℕ Refusal → List ℕ → Type 0
Drawn m d before (Ok x) after = (before ≡ x ∷ after) × (x < m)
Drawn m d before (Err e) after = unfit m d before ≡ Some e
