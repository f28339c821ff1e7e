-- A rule sheet within its ranges. Assumes nothing: these are definitions.
use Rattle.std.specs.Prelude.{◌≡◌, ℕ, ◌*◌, ◌≤◌, true}
use Rattle.rules.specs.declared.Sheet.{Sheet}

-- low ≤ x ≤ high
pub record Between (low high x : ℕ) : Type 0 where
  pub least : low ≤ x
  pub most : x ≤ high

pub record Sound (s : Sheet) : Type 0 where
  pub ranks : Between 2 13 s.ranks
  pub copies : Between 1 4 s.copies
  pub ante : Between 1 10 s.bets.ante
  pub first : Between 1 10 s.bets.first
  pub second : Between 1 10 s.bets.second
  pub raises : s.raises ≤ 3
  pub deck : 2 ≤ s.ranks * s.copies
  pub shown : s.public ≡ true → 3 ≤ s.ranks * s.copies
