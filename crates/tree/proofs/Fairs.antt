-- What an act leaves room for. Assumes nothing.
use Rattle.std.proofs.Common.{ℕ, ◌+◌, ◌≤◌, Some, None, Option, arith}
use Rattle.rules.specs.declared.Player.{Player}
use Rattle.rules.specs.declared.Player.TheVariants.{House, Guest}
use Rattle.tree.specs.declared.Line.{Line}
use Rattle.tree.specs.declared.History.{History}
use Rattle.tree.specs.declared.Paid.{Paid}
use Rattle.tree.specs.declared.Hand.{Hand}
use Rattle.tree.specs.declared.Act.{Act}
use Rattle.tree.specs.declared.Act.TheVariants.{Check, Bet, Call, Raise}
use Rattle.tree.specs.Compact.{paid_by, pays_as, hears_in, acted_as, due_of, line_as}
use Rattle.tree.specs.Flat.{Fair}

pub fair_less : (j k : ℕ) (h : Hand) → j ≤ k → Fair k h → Fair j h
fair_less j k h l f = record {
  house = (let a = f.house in omega arith);
  guest = (let a = f.guest in omega arith);
  checks1 = (let a = f.checks1 in omega arith);
  bets1 = (let a = f.bets1 in omega arith);
  checks2 = (let a = f.checks2 in omega arith);
  bets2 = (let a = f.bets2 in omega arith);
}

-- the numbers of what was history
record Quiet (k : ℕ) (h : History) : Type 0 where
  checks1 : h.first.checks + k ≤ 240
  bets1 : h.first.bets + k ≤ 240
  checks2 : h.second.checks + k ≤ 240
  bets2 : h.second.bets + k ≤ 240

record Short (k : ℕ) (l : Line) : Type 0 where
  checks : l.checks + k ≤ 240
  bets : l.bets + k ≤ 240

short : (k : ℕ) (a : Act) (l : Line) → Short (10 + k) l → Short k (line_as a l)
short k Check l q = record { checks = (let a = q.checks in omega arith); bets = (let a = q.bets in omega arith) }
short k Bet l q = record { checks = (let a = q.checks in omega arith); bets = (let a = q.bets in omega arith) }
short k Call l q = record { checks = (let a = q.checks in omega arith); bets = (let a = q.bets in omega arith) }
short k Raise l q = record { checks = (let a = q.checks in omega arith); bets = (let a = q.bets in omega arith) }

quiet : (k : ℕ) (o : Option ℕ) (a : Act) (h : History) → Quiet (10 + k) h → Quiet k (hears_in o a h)
quiet k None a h q =
    let s = short k a h.first (record { checks = q.checks1; bets = q.bets1 }) in
    record { checks1 = s.checks; bets1 = s.bets; checks2 = (let a = q.checks2 in omega arith); bets2 = (let a = q.bets2 in omega arith) }
quiet k (Some r) a h q =
    let s = short k a h.second (record { checks = q.checks2; bets = q.bets2 }) in
    record { checks2 = s.checks; bets2 = s.bets; checks1 = (let a = q.checks1 in omega arith); bets1 = (let a = q.bets1 in omega arith) }

record Cheap (k : ℕ) (p : Paid) : Type 0 where
  house : p.house + k ≤ 240
  guest : p.guest + k ≤ 240

cheap : (k j : ℕ) (w : Player) (p : Paid) → paid_by w p + j + k ≤ 240 → Cheap k p → Cheap k (pays_as w j p)
cheap k j House p l q = record { house = omega arith; guest = q.guest }
cheap k j Guest p l q = record { house = q.house; guest = omega arith }

-- what is due brings a player up to the other
even : (k b : ℕ) (w : Player) (p : Paid) → b ≤ 10 → Cheap (10 + k) p → paid_by w p + (due_of w p + b) + k ≤ 240
even k b House p l q = let a = q.house in let c = q.guest in omega arith
even k b Guest p l q = let a = q.house in let c = q.guest in omega arith

join : (k : ℕ) (h : Hand) → Cheap k h.paid → Quiet k h.history → Fair k h
join k h c q = record { house = c.house; guest = c.guest; checks1 = q.checks1; bets1 = q.bets1; checks2 = q.checks2; bets2 = q.bets2 }

of_paid : (k : ℕ) (h : Hand) → Fair k h → Cheap k h.paid
of_paid k h f = record { house = f.house; guest = f.guest }

of_history : (k : ℕ) (h : Hand) → Fair k h → Quiet k h.history
of_history k h f = record { checks1 = f.checks1; bets1 = f.bets1; checks2 = f.checks2; bets2 = f.bets2 }

pub fair_raise : (k b : ℕ) (w : Player) (h : Hand) → b ≤ 10 → Fair (10 + k) h → Fair k (acted_as w Raise (due_of w h.paid + b) h)
fair_raise k b w h l f =
    join k (acted_as w Raise (due_of w h.paid + b) h)
    (cheap k (due_of w h.paid + b) w h.paid (even k b w h.paid l (of_paid (10 + k) h f)) (of_paid k h (fair_less k (10 + k) h (omega arith) f)))
    (quiet k h.history.public Raise h.history (of_history (10 + k) h f))

afford : (k b : ℕ) (w : Player) (p : Paid) → b ≤ 10 → Cheap (10 + k) p → paid_by w p + b + k ≤ 240
afford k b House p l q = let a = q.house in omega arith
afford k b Guest p l q = let a = q.guest in omega arith

pub fair_open : (k b : ℕ) (a : Act) (w : Player) (h : Hand) → b ≤ 10 → Fair (10 + k) h → Fair k (acted_as w a b h)
fair_open k b a w h l f =
    join k (acted_as w a b h)
    (cheap k b w h.paid (afford k b w h.paid l (of_paid (10 + k) h f)) (of_paid k h (fair_less k (10 + k) h (omega arith) f)))
    (quiet k h.history.public a h.history (of_history (10 + k) h f))
