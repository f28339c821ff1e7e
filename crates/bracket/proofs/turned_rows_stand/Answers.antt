use Rattle.bracket.proofs.Turns.{turned_rows}
use Rattle.bracket.proofs.turned_rows_stand.Goals as goal

pub returns : goal.returns
returns c = turned_rows
