-- What `answers::propose` has to say of a file: a plan that the plan reader takes, a refusal, or that memory is wanting. Assumes nothing: these are definitions.
use Rattle.std.specs.Prelude.{◌≡◌, ℕ, List, Ok, Err, Result}
use Rattle.rules.specs.declared.Player.{Player}
use Rattle.rules.specs.declared.Player.TheVariants.{House, Guest}
use Rattle.rules.specs.Counts.{word_count}
use Rattle.plans.specs.declared.Row.{Row}
use Rattle.plans.specs.declared.Refusal as P
use Rattle.plans.specs.Bases.{size_of}
use Rattle.answers.specs.declared.Refusal.{Refusal}
use Rattle.answers.specs.declared.Refusal.TheVariants.{OfPlan}
use Rattle.answers.specs.declared.Opening.{Opening}
use Rattle.answers.specs.declared.Fault.{Fault}
use Rattle.answers.specs.declared.Fault.TheVariants.{Refused, Memory}
use Rattle.answers.specs.Files.{opened_in, plan_in}

-- a plan for the guest is one for the turned tree, whose sums have to be small too
abbrev pub open_rival : Opening → Result ℕ P.Refusal → Result Opening Refusal
open_rival o (Ok k) = Ok o
open_rival o (Err e) = Err (OfPlan e)

abbrev pub open_chair : Player → Result Opening Refusal → Result Opening Refusal
open_chair House r = r
open_chair Guest (Ok o) = open_rival o (size_of o.sizes.table o.m (word_count o.sheet Guest))
open_chair Guest (Err e) = Err e

-- the rule sheet and m of a file for which player w is to have a plan
abbrev pub opened_for : ℕ → Player → List ℕ → Result Opening Refusal
opened_for space w bytes = open_chair w (opened_in space bytes)

-- bytes that the plan reader takes as a plan of that player
pub record Proposed (space : ℕ) (w : Player) (bytes plan : List ℕ) : Type 0 where
  pub opening : Opening
  pub rows : List Row
  pub begins : opened_for space w bytes ≡ Ok opening
  pub taken : plan_in opening w plan ≡ Ok rows

-- there is no plan just where the file is refused, or memory is wanting
abbrev pub Unproposed : ℕ → Player → List ℕ → Fault → Type 0
Unproposed space w bytes (Refused e) = opened_for space w bytes ≡ Err e
Unproposed space w bytes Memory = Unit {0}
