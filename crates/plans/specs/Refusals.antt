-- The refusals of a base and of a plan. Assumes nothing: these are definitions.
use Rattle.std.specs.Prelude.{◌≡◌, ℕ, Bool, true, false, List, Err, Result}
use Rattle.plans.specs.declared.Row.{Row}
use Rattle.plans.specs.declared.Refusal.{Refusal}
use Rattle.plans.specs.declared.Refusal.TheVariants.{Base, Deal, Large, Length, Sum}
use Rattle.plans.specs.declared.Fault.{Fault}
use Rattle.plans.specs.declared.Fault.TheVariants.{Refused, Memory}

-- the number of a refusal in the list, and its place
abbrev pub number_of : Refusal → ℕ
number_of Base = 4
number_of (Deal i) = 5
number_of Large = 6
number_of (Length n) = 7
number_of (Sum i) = 8

abbrev pub place_of : Refusal → ℕ
place_of Base = 0
place_of (Deal i) = i
place_of Large = 0
place_of (Length n) = n
place_of (Sum i) = i

-- the refusal where a check fails, else what follows
abbrev pub holds : {X : Type 0} → Bool → Refusal → Result X Refusal → Result X Refusal
holds true e r = r
holds false e r = Err e

-- what is to be read is refused so; nothing is said where the memory did not suffice
abbrev pub Turned : Result (List Row) Refusal → Fault → Type 0
Turned p (Refused e) = p ≡ Err e
Turned p Memory = Unit {0}
