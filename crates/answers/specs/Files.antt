-- What the parts of a file say, and the answer of the reckoning program. Assumes nothing: these are definitions.
use Rattle.std.specs.Prelude.{ℕ, ◌+◌, ◌*◌, ◌^◌, List, [], ◌∷◌, take, drop, Some, None, Ok, Err, Option, Result}
use Rattle.cards.specs.Reckon.{worst}
use Rattle.rules.specs.declared.Player.{Player}
use Rattle.rules.specs.declared.Player.TheVariants.{House, Guest}
use Rattle.rules.specs.declared.Sheet.{Sheet}
use Rattle.rules.specs.declared.Refusal as R
use Rattle.rules.specs.Read as rules
use Rattle.rules.specs.Play.{other, purse}
use Rattle.rules.specs.Counts.{word_count}
use Rattle.rules.specs.Statements.{choices, seat}
use Rattle.tree.specs.declared.Sizes.{Sizes}
use Rattle.tree.specs.Compact.{game_as}
use Rattle.tree.specs.Seen.{sights_of}
use Rattle.tree.specs.Built.{sizes_of}
use Rattle.plans.specs.declared.Row.{Row}
use Rattle.plans.specs.declared.Refusal as P
use Rattle.plans.specs.declared.Refusal.TheVariants.{Base}
use Rattle.plans.specs.Numbers.{numbers, front}
use Rattle.plans.specs.Bases.{base_of, size_of}
use Rattle.plans.specs.Bytes.{bytes_of, plan_as}
use Rattle.plans.specs.Plan.{plan_of}
use Rattle.worst.specs.declared.Refusal as W
use Rattle.worst.specs.Admit.{admitted}
use Rattle.bracket.specs.Verdicts.{verdict_of}
use Rattle.answers.specs.declared.Refusal.{Refusal}
use Rattle.answers.specs.declared.Refusal.TheVariants.{OfSheet, OfMemory, OfPlan}
use Rattle.answers.specs.declared.Opening.{Opening}
use Rattle.answers.specs.declared.Kept.{Kept}
use Rattle.answers.specs.declared.Answer.{Answer}
use Rattle.answers.specs.declared.Answer.TheVariants.{Refused, One, Both}

-- the places that `reckon` and `play` have memory for; as many sights of each player, and as many entries of the work row
abbrev pub room : ℕ
room = 4096

-- how a file begins: a rule sheet whose tree fits the memory, and m
abbrev pub open_size : Sheet → ℕ → Result ℕ P.Refusal → Result Opening Refusal
open_size s m (Ok k) = Ok (record { sheet = s; sizes = sizes_of s; m = m })
open_size s m (Err e) = Err (OfPlan e)

abbrev pub open_base : Sheet → Result ℕ P.Refusal → Result Opening Refusal
open_base s (Ok m) = open_size s m (size_of (2 * purse s) m (word_count s House))
open_base s (Err e) = Err (OfPlan e)

-- a file that ends inside m has none
abbrev pub open_number : Sheet → Option ℕ → Result Opening Refusal
open_number s (Some m) = open_base s (base_of s m)
open_number s None = Err (OfPlan Base)

abbrev pub open_memory : Sheet → List ℕ → Result Sizes W.Refusal → Result Opening Refusal
open_memory s rest (Ok z) = open_number s (front (numbers rest))
open_memory s rest (Err e) = Err (OfMemory e)

-- there is memory for `space` places, as many sights of each player, and as many entries of the work row
abbrev pub open_sheet_in : ℕ → List ℕ → Result Sheet R.Refusal → Result Opening Refusal
open_sheet_in space rest (Ok s) = open_memory s rest (admitted (sizes_of s) space space space space)
open_sheet_in space rest (Err e) = Err (OfSheet e)

-- nine bytes are the rule sheet, the four after them m
abbrev pub opened_in : ℕ → List ℕ → Result Opening Refusal
opened_in space bytes = open_sheet_in space (drop 9 bytes) (rules.read (take 9 bytes))

-- the same for `reckon` and `play`
abbrev pub open_sheet : List ℕ → Result Sheet R.Refusal → Result Opening Refusal
open_sheet = open_sheet_in room

abbrev pub opened : List ℕ → Result Opening Refusal
opened = opened_in room

-- what follows m
abbrev pub past_m : List ℕ → List ℕ
past_m bytes = drop 13 bytes

-- the bytes of a plan of a player, and the plan that stands at the front of some bytes
abbrev pub plan_length : Opening → Player → ℕ
plan_length o w = bytes_of o.sheet.raises (sights_of w (game_as o.sheet))

abbrev pub plan_in : Opening → Player → List ℕ → Result (List Row) P.Refusal
plan_in o w bytes = plan_as o.sheet.raises (sights_of w (game_as o.sheet)) o.m bytes

-- the worst of a plan of a player, as it is reckoned, and in how many hands
abbrev pub kept_by : Opening → Player → List Row → Kept
kept_by o w rows = record {
  worst = worst o.m (plan_of rows (choices o.sheet w)) (choices o.sheet (other w)) (word_count o.sheet w) (seat o.sheet o.m w);
  hands = o.m ^ word_count o.sheet w;
}

-- the verdict on two plans
abbrev pub both : Opening → Kept → Kept → Answer
both o k r = Both o.sizes k r (verdict_of (k.worst * r.hands + r.worst * k.hands) (o.sizes.table * k.hands * r.hands))

abbrev pub with_rival : Opening → Kept → Result (List Row) P.Refusal → Answer
with_rival o k (Ok rows) = both o k (kept_by o Guest rows)
with_rival o k (Err e) = Refused (OfPlan e)

abbrev pub sized_rival : Opening → Kept → List ℕ → Result ℕ P.Refusal → Answer
sized_rival o k rest (Ok n) = with_rival o k (plan_in o Guest rest)
sized_rival o k rest (Err e) = Refused (OfPlan e)

-- where the file goes on after the plan, the rest is a plan for the turned tree
abbrev pub beyond : Opening → Kept → List ℕ → Answer
beyond o k [] = One o.sizes k
beyond o k (b ∷ rest) = sized_rival o k (b ∷ rest) (size_of o.sizes.table o.m (word_count o.sheet Guest))

abbrev pub with_plan : Opening → List ℕ → Result (List Row) P.Refusal → Answer
with_plan o rest (Ok rows) = beyond o (kept_by o House rows) rest
with_plan o rest (Err e) = Refused (OfPlan e)

abbrev pub with_opening : List ℕ → Result Opening Refusal → Answer
with_opening rest (Ok o) = with_plan o (drop (plan_length o House) rest) (plan_in o House (take (plan_length o House) rest))
with_opening rest (Err e) = Refused e

-- the answer to a file, with memory for `space` places
abbrev pub reckoned_in : ℕ → List ℕ → Answer
reckoned_in space bytes = with_opening (past_m bytes) (opened_in space bytes)

-- THE ANSWER of the reckoning program to a file
abbrev pub reckoned : List ℕ → Answer
reckoned = reckoned_in room
