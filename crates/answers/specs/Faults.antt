-- What is said where there is no answer. Assumes nothing: these are definitions.
use Rattle.std.specs.Prelude.{◌≡◌, ℕ, List, [], MatchResult, Result, String, string_bytes}
use Rattle.std.specs.declared.alloc.Global.{Global}
use Rattle.plans.specs.declared.Fault as P
use Rattle.plans.specs.declared.Fault.TheVariants as plans
use Rattle.answers.specs.declared.Refusal.{Refusal}
use Rattle.answers.specs.declared.Refusal.TheVariants.{OfPlan}
use Rattle.answers.specs.declared.Fault.{Fault}
use Rattle.answers.specs.declared.Fault.TheVariants.{Refused, Memory}
use Rattle.answers.specs.declared.Answer.{Answer}
use Rattle.answers.specs.declared.Answer.TheVariants as answers
use Rattle.answers.specs.Text.{refused, line}

-- no plan was read
abbrev pub fault_of : P.Fault → Fault
fault_of (plans.Refused e) = Refused (OfPlan e)
fault_of plans.Memory = Memory

-- x is what is said of a refusal; nothing is said where memory is wanting
abbrev pub Failed : {X : Type 0} → (Refusal → X) → X → Fault → Type 0
Failed said x (Refused e) = x ≡ said e
Failed said x Memory = Unit {0}

-- the answer is a, a refusal among them
abbrev pub Answered : Answer → Result Answer Fault → Type 0
Answered a r = MatchResult r (λ b. b ≡ a) (Failed answers.Refused a)

-- the text is this, or the line of the refusal is
abbrev pub Printed : List ℕ → Result (String Global) Fault → Type 0
Printed text r = MatchResult r (λ s. string_bytes s ≡ text) (Failed (λ e. line (refused e) []) text)
