-- What the programs print. Assumes nothing: these are definitions.
use Rattle.std.specs.Prelude.{ℕ, List, [], ◌++◌, codes, decimal}
use Rattle.rules.specs.Read as rules
use Rattle.tree.specs.declared.Sizes.{Sizes}
use Rattle.plans.specs.Refusals as plans
use Rattle.worst.specs.Admit as worst
use Rattle.bracket.specs.Verdicts.{printed}
use Rattle.hands.specs.Refused as hands
use Rattle.answers.specs.declared.Refusal.{Refusal}
use Rattle.answers.specs.declared.Refusal.TheVariants.{OfSheet, OfMemory, OfPlan, OfHand}
use Rattle.answers.specs.declared.Kept.{Kept}
use Rattle.answers.specs.declared.Answer.{Answer}
use Rattle.answers.specs.declared.Answer.TheVariants.{Refused, One, Both}

-- the number of a refusal in the list, and its place
abbrev pub number_of : Refusal → ℕ
number_of (OfSheet e) = rules.number_of e
number_of (OfMemory e) = worst.number_of e
number_of (OfPlan e) = plans.number_of e
number_of (OfHand e) = hands.number_of e

abbrev pub place_of : Refusal → ℕ
place_of (OfSheet e) = rules.place_of e
place_of (OfMemory e) = worst.place_of e
place_of (OfPlan e) = plans.place_of e
place_of (OfHand e) = hands.place_of e

-- one line for a refusal
abbrev pub refused : Refusal → List ℕ
refused e = codes "refused " ++ (decimal (number_of e) ++ (codes " at " ++ decimal (place_of e)))

-- how large the tree is
abbrev pub sized : Sizes → List ℕ
sized z =
    codes "places " ++ (decimal z.places ++ (codes " sights " ++ (decimal z.house.sights ++ (codes " and " ++ (decimal z.guest.sights
    ++ (codes " words " ++ (decimal z.house.words ++ (codes " table " ++ decimal z.table))))))))

-- a worst
abbrev pub kept : Kept → List ℕ
kept k = codes "worst " ++ (decimal k.worst ++ (codes " of " ++ decimal k.hands))

-- a line, and the text after it
abbrev pub line : List ℕ → List ℕ → List ℕ
line text rest = text ++ (codes "\n" ++ rest)

-- a refusal alone; or the tree and the worst; or these, the worst of the other chair and the verdict
abbrev pub shown : Answer → List ℕ
shown (Refused e) = line (refused e) []
shown (One z k) = line (sized z) (line (kept k) [])
shown (Both z k r v) = line (sized z) (line (kept k) (line (kept r) (line (printed v) [])))
