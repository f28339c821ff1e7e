use Rattle.std.proofs.Common.{length, ap, arith}
use Rattle.rules.specs.declared.Player.TheVariants.{House}
use Rattle.answers.proofs.Wholes.{few_sights}
use Rattle.answers.proofs.Grown.cut.Goals as goal

pub plan_bytes-n-requires : goal.plan_bytes-n-requires
plan_bytes-n-requires c = let a = few_sights c.args.self.now.admitted.opening c.args.self.now.admitted.begun House in let b = ap length c.sights.ensures in omega (arith, a, b)
