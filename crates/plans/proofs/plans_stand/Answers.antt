use Rattle.plans.proofs.Planned.{plans_stand_lem}
use Rattle.plans.proofs.plans_stand.Goals as goal

pub returns : goal.returns
returns c = plans_stand_lem
