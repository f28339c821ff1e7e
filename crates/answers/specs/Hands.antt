-- What the playing program prints, and what is promised of the hands that it plays. Assumes nothing: these are definitions and statements.
use Rattle.std.specs.Prelude.{◌≡◌, ℕ, ◌-◌, ◌*◌, ◌^◌, ◌<◌, ◌≤◌, List, [], ◌∷◌, ◌++◌, take, drop, Ok, Err, codes, decimal, Result}
use Rattle.cards.specs.Game.{Tree, Way, sum}
use Rattle.cards.specs.Match.{hand, sum_rows}
use Rattle.cards.specs.Played.{Outcome, done, played, played_all, has_in_all, Row, trace, sum_hands, handed, Move, Mind, asked, refused as turned_away}
use Rattle.cards.specs.Promise.{Legal}
use Rattle.rules.specs.declared.Player.TheVariants.{House, Guest}
use Rattle.rules.specs.declared.Ends.{Ends}
use Rattle.rules.specs.Play.{purse}
use Rattle.rules.specs.Sights.{tree}
use Rattle.rules.specs.Counts.{word_count}
use Rattle.rules.specs.Statements.{choices}
use Rattle.plans.specs.declared.Row.{Row as Weights}
use Rattle.plans.specs.declared.Refusal as P
use Rattle.hands.specs.declared.Refusal as H
use Rattle.hands.specs.Match.{outcomes_of}
use Rattle.answers.specs.declared.Refusal.{Refusal}
use Rattle.answers.specs.declared.Refusal.TheVariants.{OfPlan, OfHand}
use Rattle.answers.specs.declared.Opening.{Opening}
use Rattle.answers.specs.Text.{refused, line}
use Rattle.answers.specs.Files.{room, opened_in, past_m, plan_length, plan_in, kept_by}
use Rattle.answers.specs.Promised.{plan_read, Keeps}

-- a hand that was played, or why it was turned away
abbrev pub hand_line : Result Ends H.Refusal → List ℕ
hand_line (Ok e) = codes "house " ++ (decimal e.house ++ (codes " guest " ++ decimal e.guest))
hand_line (Err e) = refused (OfHand e)

-- the same of an outcome, where k is on the table
abbrev pub outcome_line : ℕ → Outcome → List ℕ
outcome_line k (done g) = codes "house " ++ (decimal g ++ (codes " guest " ++ decimal (k - g)))
outcome_line k (turned_away n p) = codes "refused " ++ (decimal n ++ (codes " at " ++ decimal p))

-- a line for each hand
abbrev pub hand_lines : ℕ → List Outcome → List ℕ
hand_lines k [] = []
hand_lines k (o ∷ os) = line (outcome_line k o) (hand_lines k os)

-- the hands of a file: the bytes after the plan, played on the rule sheet's tree
abbrev pub table_of : Opening → ℕ
table_of o = 2 * purse o.sheet

abbrev pub tree_of : Opening → Tree
tree_of o = tree o.sheet o.m

abbrev pub play_plan : Opening → List ℕ → Result (List Weights) P.Refusal → List ℕ
play_plan o rest (Ok rows) = hand_lines (table_of o) (outcomes_of o.m (plan_read o House rows) (tree_of o) rest)
play_plan o rest (Err e) = line (refused (OfPlan e)) []

abbrev pub play_opening : List ℕ → Result Opening Refusal → List ℕ
play_opening rest (Ok o) = play_plan o (drop (plan_length o House) rest) (plan_in o House (take (plan_length o House) rest))
play_opening rest (Err e) = line (refused e) []

-- the text that is played from a file, with memory for `space` places
abbrev pub play_text_in : ℕ → List ℕ → List ℕ
play_text_in space bytes = play_opening (past_m bytes) (opened_in space bytes)

-- THE TEXT of the playing program
abbrev pub play_text : List ℕ → List ℕ
play_text = play_text_in room

-- the hands that are played at a table with this plan
pub record AtTable (o : Opening) (rows : List Weights) : Type 0 where
  -- the worst that the reckoning program prints
  pub keeps : Keeps o House rows (kept_by o House rows)
  -- a hand played with the choices of a legal way is that of the formal statements
  pub ways : (way : Way) → Legal (choices o.sheet Guest) way → (words : List ℕ) → Row o.m (word_count o.sheet House) words →
      played o.m (plan_read o House rows) (tree_of o) (trace (plan_read o House rows) way (tree_of o) words) words ≡ done (hand (plan_read o House rows) way (tree_of o) words)
  -- every hand that is played to its end is one of some legal way
  pub is_a_way : (chosen words : List ℕ) (g : ℕ) → played o.m (plan_read o House rows) (tree_of o) chosen words ≡ done g →
      (way : Way) × (rest : List ℕ) × Legal (choices o.sheet Guest) way × (hand (plan_read o House rows) way (tree_of o) words ≡ g) × (chosen ≡ trace (plan_read o House rows) way (tree_of o) words ++ rest)
  -- over all rows of words the hands come to the sum by weights
  pub sums : (way : Way) → Legal (choices o.sheet Guest) way →
      sum_rows o.m (word_count o.sheet House) (λ words. hand (plan_read o House rows) way (tree_of o) words) ≡ sum o.m (plan_read o House rows) way (tree_of o) (word_count o.sheet House)
  -- THE MAIN PROMISE: whoever sits opposite, choosing each move from all words of all hands before and from its moves and its sight in this one,
  -- over all words of k hands the house has on average at least the printed worst in each; a hand that is turned away counts as all that is on the table
  pub holds : (guest : List (List ℕ) → Mind) (k : ℕ) →
      k * (kept_by o House rows).worst * (o.m ^ word_count o.sheet House) ^ k
      ≤ o.m ^ word_count o.sheet House * sum_hands o.m (word_count o.sheet House) k
      (λ hands. has_in_all (table_of o) (played_all o.m (plan_read o House rows) (tree_of o) (handed (λ past words. asked (plan_read o House rows) (guest past) [] (tree_of o) words) [] hands)))
  -- and some guest, whose choices are all there, leaves it just that
  pub met : (mind : Mind) × ((so_far : List Move) (i : ℕ) → mind so_far i < choices o.sheet Guest i) × ((k : ℕ) →
      o.m ^ word_count o.sheet House * sum_hands o.m (word_count o.sheet House) k
      (λ hands. has_in_all (table_of o) (played_all o.m (plan_read o House rows) (tree_of o) (handed (λ past words. asked (plan_read o House rows) mind [] (tree_of o) words) [] hands)))
      ≡ k * (kept_by o House rows).worst * (o.m ^ word_count o.sheet House) ^ k)

-- what is promised of it, said of the file's own rule sheet, m and plan
abbrev pub PlaysIn : ℕ → List ℕ → Type 0
PlaysIn space bytes =
    (o : Opening) (rows : List Weights) → opened_in space bytes ≡ Ok o → plan_in o House (take (plan_length o House) (past_m bytes)) ≡ Ok rows → AtTable o rows

-- THE PROMISE of the playing program
abbrev pub Plays : List ℕ → Type 0
Plays = PlaysIn room
