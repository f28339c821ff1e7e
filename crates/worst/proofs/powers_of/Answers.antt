use Rattle.std.proofs.Common.{arith}
use Rattle.worst.proofs.Raised.{raised_small, raised_more, raised_all}
use Rattle.worst.proofs.powers_of.Goals as goal

pub bounds-powers-i : goal.bounds-powers-i
bounds-powers-i c = let s = raised_small _ _ _ _ c.requires.0 c.requires.1 c.loop-i.invariant c.loop-i-test.true in omega arith

pub overflow_mul-powers : goal.overflow_mul-powers
overflow_mul-powers c = let s = raised_small _ _ _ _ c.requires.0 c.requires.1 c.loop-i.invariant c.loop-i-test.true in omega arith

pub bounds-powers-i-in-loop-i : goal.bounds-powers-i-in-loop-i
bounds-powers-i-in-loop-i c = let s = raised_small _ _ _ _ c.requires.0 c.requires.1 c.loop-i.invariant c.loop-i-test.true in omega arith

pub loop-i-preserved : goal.loop-i-preserved
loop-i-preserved c = raised_more _ _ _ _ c.requires.0 c.requires.1 c.loop-i.invariant c.loop-i-test.true

pub returns : goal.returns
returns c = raised_all _ _ _ _ c.requires.0 c.requires.1 c.loop-i.invariant (omega (arith, c.loop-i-test.false))
