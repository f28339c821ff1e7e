use Rattle.plans.proofs.Weights.{row_two, row_three}
use Rattle.plans.proofs.first_row.Goals as goal

pub returns-then-offers-gt2 : goal.returns-then-offers-gt2
returns-then-offers-gt2 c =
    row_three c.args.bytes.now _ c.if-offers-gt2.true _ _ _ c.number_at-first.ensures c.number_at-second.ensures c.number_at-third.ensures

pub returns-else-offers-gt2 : goal.returns-else-offers-gt2
returns-else-offers-gt2 c = row_two c.args.bytes.now _ c.if-offers-gt2.false _ _ c.number_at-first.ensures c.number_at-second.ensures
