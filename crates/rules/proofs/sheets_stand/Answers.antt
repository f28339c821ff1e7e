use Rattle.rules.proofs.sheets_stand.Goals as goal
use Rattle.rules.proofs.Sheets.{sheets_stand_lem}

pub returns : goal.returns
returns c = sheets_stand_lem
