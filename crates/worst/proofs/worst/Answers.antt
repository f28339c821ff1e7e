use Rattle.std.proofs.Common.{arith}
use Rattle.worst.proofs.Wholes.{told, whole_ready, whole_rows, whole_value, whole_small}
use Rattle.worst.proofs.worst.Goals as goal

pub expand-grown-requires : goal.expand-grown-requires
expand-grown-requires c =
    record {
      told = told c.requires.table c.args.words c.requires.counts c.requires.choices;
      tree = c.requires.tree;
      ready = whole_ready _ _ _ _ _ _ _ _ _ c.powers_of.ensures _ c.requires.whole;
    }

pub reckon-rest-requires : goal.reckon-rest-requires
reckon-rest-requires c =
    record {
      told = told c.requires.table c.args.words c.requires.counts c.requires.choices;
      items = _;
      given = whole_rows _ _ _ _ _ _ _ _ _ c.powers_of.ensures _ _ _ c.requires.whole c.expand-grown.auto.work
          (c.expand-grown.ensures _ _ (whole_ready _ _ _ _ _ _ _ _ _ c.powers_of.ensures _ c.requires.whole));
    }

pub overflow_add-sum : goal.overflow_add-sum
overflow_add-sum c =
    let v = whole_value _ _ _ _ _ _ _ _ _ c.powers_of.ensures _ _ _ _ c.requires.whole c.expand-grown.auto.work c.expand-grown.ensures c.reckon-rest.ensures in
    let h = whole_small _ _ _ _ _ _ _ _ _ c.powers_of.ensures _ _ c.requires.whole v in omega arith

pub returns-clause-value : goal.returns-clause-value
returns-clause-value c =
    λ k tree counts choices q. whole_value k tree counts choices _ _ _ _ _ c.powers_of.ensures _ _ _ _ q c.expand-grown.auto.work c.expand-grown.ensures c.reckon-rest.ensures
