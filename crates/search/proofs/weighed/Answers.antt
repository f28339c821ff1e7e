use Rattle.std.proofs.Common.{refl, arith}
use Rattle.cards.specs.Game.{total}
use Rattle.search.proofs.weighed.Goals as goal

pub returns-then-offers-lt3-clause-fair : goal.returns-then-offers-lt3-clause-fair
unfolding total
returns-then-offers-lt3-clause-fair c = record { three = refl; sums = omega arith; two = λ h. refl }

pub returns-clause-fair : goal.returns-clause-fair
unfolding total
returns-clause-fair c = record { three = refl; sums = omega arith; two = λ h. absurd (omega arith) }
