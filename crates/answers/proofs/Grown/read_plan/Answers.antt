use Rattle.std.proofs.Common.{length, ap, arith}
use Rattle.answers.proofs.Wholes.{few_sights}
use Rattle.answers.proofs.Grown.read_plan.Goals as goal

pub read_plan-requires : goal.read_plan-requires
read_plan-requires c = let a = few_sights c.args.self.now.admitted.opening c.args.self.now.admitted.begun c.args.who in let b = ap length c.sights.ensures in omega (arith, a, b)
