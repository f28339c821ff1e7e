use Rattle.std.proofs.Common.{◌^◌, length, ap, arith}
use Rattle.answers.proofs.Alone.{given}
use Rattle.answers.proofs.Wholes.{whole_at, kept_is, power_small, some_table}
use Rattle.answers.proofs.Seated.keep.Goals as goal

pub worst-reckoned-requires : goal.worst-reckoned-requires
worst-reckoned-requires c =
    let g = c.args.self.now in
    let p = c.requires.plan in
    record {
      table = _;
      tree = _;
      counts = _;
      choices = _;
      whole = whole_at g.admitted.opening g.admitted.begun g.who p.bytes _ _ _ _ p.read c.words-words.ensures c.requires.room (given g.admitted.opening g.who g.nodes.now g.stands) g.places g.small;
    }

pub pow-requires : goal.pow-requires
pow-requires c =
    let g = c.args.self.now in
    let a = power_small _ _ (some_table g.admitted.opening g.admitted.begun) g.small in
    let b = ap (λ n. g.admitted.opening.m ^ n) c.words-words.ensures in
    omega (arith, a, b)

pub returns : goal.returns
returns c =
    let g = c.args.self.now in
    let p = c.requires.plan in
    let w = whole_at g.admitted.opening g.admitted.begun g.who p.bytes c.args.rows.now g.nodes.now c.words-words.result (length c.args.work.now) p.read c.words-words.ensures c.requires.room (given g.admitted.opening g.who g.nodes.now g.stands) g.places g.small in
    kept_is g.admitted.opening g.admitted.begun g.who c.args.rows.now c.words-words.result _ _ c.words-words.ensures (c.worst-reckoned.ensures.value _ _ _ _ w) c.pow.ensures
