use Rattle.bracket.proofs.Seats.{brackets_stand}
use Rattle.bracket.proofs.bracket_stands.Goals as goal

pub returns : goal.returns
returns c = brackets_stand
