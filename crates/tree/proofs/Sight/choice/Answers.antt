use Rattle.std.proofs.Common.{sym, ap, ◌∙◌, arith}
use Rattle.tree.specs.Told.{nth, choices_in, ended}
use Rattle.tree.proofs.Choices.{in_second, in_first}
use Rattle.tree.proofs.Sight.choice.Goals as goal

pub returns-then-back-made : goal.returns-then-back-made
returns-then-back-made c =
    let h = c.args.self.history in
    c.listed_at-then-back-made.ensures
    ∙ sym (in_second h.second.checks h.second.bets c.args.back (ended h.first.checks h.first.bets) (omega arith))
    ∙ ap (λ o. nth (choices_in o h.first h.second) c.args.back) (sym c.in-Some.is)

pub returns-else-back-made : goal.returns-else-back-made
returns-else-back-made c =
    let h = c.args.self.history in
    c.ended_at.ensures
    ∙ sym (in_first h.second.checks h.second.bets c.args.back (ended h.first.checks h.first.bets) (omega arith))
    ∙ ap (λ o. nth (choices_in o h.first h.second) c.args.back) (sym c.in-Some.is)
