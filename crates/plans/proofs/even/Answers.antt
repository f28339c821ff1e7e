use Rattle.std.proofs.Common.{◌≡◌, eqb, Some, None, length, sym, ap, ◌∙◌, rules}
use Rattle.cards.specs.Game.{pick}
use Rattle.plans.proofs.Weights.{total_three, then_picked}
use Rattle.plans.proofs.even.Goals as goal

pub returns : goal.returns
returns c =
    let l : length c.args.row.weights ≡ 3 = search rules in
    let e = total_three c.args.row.weights l in
    c.then_some.ensures ∙ then_picked _ c.args.row ∙ ap (λ t. pick (eqb t c.args.m) (Some c.args.row) None) (sym e)
