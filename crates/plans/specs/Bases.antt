-- The number m below which the words of chance lie. Assumes nothing: these are definitions.
use Rattle.std.specs.Prelude.{ℕ, ◌-◌, ◌*◌, ◌%◌, ◌^◌, ◌≤◌, Bool, not, ◌||◌, Ok, Result, ◌==◌, nat_lt}
use Rattle.rules.specs.declared.Sheet.{Sheet}
use Rattle.rules.specs.Read.{inside}
use Rattle.rules.specs.Memory.{Dealable}
use Rattle.plans.specs.declared.Refusal.{Refusal}
use Rattle.plans.specs.declared.Refusal.TheVariants.{Base, Deal, Large}
use Rattle.plans.specs.Refusals.{holds}

abbrev pub divides : ℕ → ℕ → Bool
divides n m = m % n == 0

-- m lies from 2 to 1,000,000, and the number of cards left at each deal divides it
abbrev pub base_of : Sheet → ℕ → Result ℕ Refusal
base_of s m =
    holds (inside 2 1000000 m) Base
    (holds (divides (s.ranks * s.copies) m) (Deal 0)
    (holds (divides (s.ranks * s.copies - 1) m) (Deal 1)
    (holds (not s.public || divides (s.ranks * s.copies - 2) m) (Deal 2)
    (Ok m))))

-- what is known of a number that was taken
pub record Based (s : Sheet) (m : ℕ) : Type 0 where
  pub least : 2 ≤ m
  pub most : m ≤ 1000000
  pub deals : Dealable s m

-- what is on the table, t, over all rows of n words
abbrev pub size_of : ℕ → ℕ → ℕ → Result ℕ Refusal
size_of t m n = holds (nat_lt (t * m ^ n) (2 ^ 62)) Large (Ok (t * m ^ n))
