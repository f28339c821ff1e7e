-- The verdict on two plans, and what it prints. Assumes nothing: these are definitions.
use Rattle.std.specs.Prelude.{ℕ, List, codes, ◌==◌}
use Rattle.cards.specs.Game.{pick}
use Rattle.bracket.specs.declared.Verdict.{Verdict}
use Rattle.bracket.specs.declared.Verdict.TheVariants.{Best, Open}

-- best exactly when the two sides are equal
abbrev pub verdict_of : ℕ → ℕ → Verdict
verdict_of a b = pick (a == b) Best Open

abbrev pub printed : Verdict → List ℕ
printed Best = codes "best"
printed Open = codes "open"
