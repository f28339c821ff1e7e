use Rattle.rules.proofs.ends_sum_stands.Goals as goal
use Rattle.rules.proofs.Sheets.{ends_sum}

pub returns : goal.returns
returns c = ends_sum
