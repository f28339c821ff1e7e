-- The numbers and places of refused hands. Assumes nothing: these are definitions.
use Rattle.std.specs.Prelude.{ℕ, Ok, Err, Result}
use Rattle.cards.specs.Played.{Outcome, done, refused}
use Rattle.rules.specs.declared.Ends.{Ends}
use Rattle.hands.specs.declared.Refusal.{Refusal}
use Rattle.hands.specs.declared.Refusal.TheVariants.{HighWord, FewWords, NoChoice, FewChoices}

abbrev pub number_of : Refusal → ℕ
number_of (HighWord p) = 9
number_of (FewWords p) = 10
number_of (NoChoice p) = 11
number_of (FewChoices p) = 12

abbrev pub place_of : Refusal → ℕ
place_of (HighWord p) = p
place_of (FewWords p) = p
place_of (NoChoice p) = p
place_of (FewChoices p) = p

-- what is returned of a hand, as an outcome
abbrev pub outcome_of : Result Ends Refusal → Outcome
outcome_of (Ok e) = done e.house
outcome_of (Err e) = refused (number_of e) (place_of e)
