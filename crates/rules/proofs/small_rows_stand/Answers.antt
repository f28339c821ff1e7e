use Rattle.rules.proofs.small_rows_stand.Goals as goal
use Rattle.rules.proofs.Rows.{small_rows}

pub returns : goal.returns
returns c = small_rows
