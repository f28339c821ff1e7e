use Rattle.std.proofs.Common.{arith, rules}
use Rattle.tree.proofs.Siblings.{kids_next}
use Rattle.tree.proofs.kids.KidsIterator.next.Goals as goal

pub offset_bounds-self-at : goal.offset_bounds-self-at
offset_bounds-self-at c = let h = (kids_next _ _ _ c.requires c.if-self.false).inside in search rules

pub bounds-self-at : goal.bounds-self-at
bounds-self-at c = (kids_next _ _ _ c.requires c.if-self.false).inside

pub returns-clause-goes : goal.returns-clause-goes
returns-clause-goes c =
    let h = kids_next _ _ _ c.requires c.if-self.false in
    let s = h.some in let f = h.few in
    record { on = λ b. (h.lie, tt, omega arith); keeps = h.lie; rests = λ b. tt }
