-- Numbers of four bytes, the low byte first. Assumes nothing: these are definitions.
use Rattle.std.specs.Prelude.{ℕ, ◌+◌, ◌*◌, List, [], ◌∷◌, Some, None, Option}

abbrev pub number_of_bytes : ℕ → ℕ → ℕ → ℕ → ℕ
number_of_bytes a b c d = a + 256 * (b + 256 * (c + 256 * d))

-- four bytes a number; a number that is cut short is not there
abbrev pub numbers : List ℕ → List ℕ
numbers [] = []
numbers (a ∷ []) = []
numbers (a ∷ b ∷ []) = []
numbers (a ∷ b ∷ c ∷ []) = []
numbers (a ∷ b ∷ c ∷ d ∷ bytes) = number_of_bytes a b c d ∷ numbers bytes

-- the first number, if there is one
abbrev pub front : List ℕ → Option ℕ
front [] = None
front (n ∷ ns) = Some n
