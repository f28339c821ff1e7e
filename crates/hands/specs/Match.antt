-- A match as it lies in bytes, hand after hand: a byte with the number of choices, the choices, a byte with the number of words, the words. Assumes nothing: these are definitions.
use Rattle.std.specs.Prelude.{◌≡◌, ℕ, zero, suc, ◌*◌, List, [], ◌∷◌, length, take, drop, Some, None, Option, Result}
use Rattle.cards.specs.Game.{Tree, Plan}
use Rattle.cards.specs.Played.{Hand, Outcome, played_all}
use Rattle.rules.specs.declared.Ends.{Ends}
use Rattle.hands.specs.declared.Refusal.{Refusal}
use Rattle.hands.specs.Refused.{outcome_of}
use Rattle.hands.specs.Source.{words_of}
use Rattle.hands.specs.Laid.{Shared}

-- a count that is missing is 0
abbrev pub count_of : List ℕ → ℕ
count_of [] = 0
count_of (n ∷ bytes) = n

abbrev pub uncounted : List ℕ → List ℕ
uncounted [] = []
uncounted (n ∷ bytes) = bytes

-- a count and then so many times u bytes: as many as there are, and what follows them
abbrev pub held_of : ℕ → List ℕ → List ℕ
held_of u bytes = take (count_of bytes * u) (uncounted bytes)

abbrev pub rest_of : ℕ → List ℕ → List ℕ
rest_of u bytes = drop (count_of bytes * u) (uncounted bytes)

-- the bytes of the choices and of the words of the first hand, and what follows it
pub record Lists : Type 0 where
  pub choices : List ℕ
  pub words : List ℕ
  pub rest : List ℕ

abbrev pub lists : List ℕ → List ℕ → List ℕ → Lists
lists cs ws bytes = record { choices = cs; words = ws; rest = bytes }

abbrev pub first_of : List ℕ → Lists
first_of bytes = lists (held_of 1 bytes) (held_of 4 (rest_of 1 bytes)) (rest_of 4 (rest_of 1 bytes))

abbrev pub cut_of : List ℕ → Option Lists
cut_of [] = None
cut_of (b ∷ bytes) = Some (first_of (b ∷ bytes))

abbrev pub hand_of : Lists → Hand
hand_of l = record { chosen = l.choices; words = words_of l.words }

-- the hands of the bytes, at most so many
abbrev pub hands_in : ℕ → List ℕ → List Hand
hands_in zero bytes = []
hands_in (suc f) [] = []
hands_in (suc f) (b ∷ bytes) = hand_of (first_of (b ∷ bytes)) ∷ hands_in f (first_of (b ∷ bytes)).rest

-- each hand takes a byte at least
unfoldable pub hands_of : List ℕ → List Hand
hands_of bytes = hands_in (length bytes) bytes

-- what each hand of the bytes comes to
abbrev pub outcomes_of : ℕ → Plan → Tree → List ℕ → List Outcome
outcomes_of m plan t bytes = played_all m plan t (hands_of bytes)

-- what is returned of the first hand of the bytes, and what follows it
pub record First (k m : ℕ) (plan : Plan) (t : Tree) (bytes : List ℕ) (result : Result Ends Refusal) (rest : List ℕ) : Type 0 where
  pub outcome : outcomes_of m plan t bytes ≡ outcome_of result ∷ outcomes_of m plan t rest
  pub shared : Shared k result
