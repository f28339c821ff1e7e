use Rattle.std.proofs.Common.{◌≡◌, ◌*◌, ◌^◌, map, length, Ok, vec_items, sym, ap, ◌∙◌, arith}
use Rattle.std.proofs.Math.Logic.{∥∥₁_map}
use Rattle.std.proofs.lemmas.List.{take_at, length-map}
use Rattle.rules.specs.declared.Player.TheVariants.{House}
use Rattle.rules.specs.Play.{purse}
use Rattle.rules.specs.Counts.{word_count}
use Rattle.plans.specs.Bases.{size_of}
use Rattle.bracket.specs.Turned.{turned_node}
use Rattle.answers.specs.declared.Kept.{Kept}
use Rattle.answers.specs.declared.Answer.TheVariants.{Both}
use Rattle.answers.specs.Files.{both, with_rival, sized_rival}
use Rattle.answers.proofs.Wholes.{turned_rep, low_house, low_guest, words_there, table_is, rival_small, power_small, some_table}
use Rattle.answers.proofs.Grown.rival.Goals as goal

pub invariant_of-turned : goal.invariant_of-turned
invariant_of-turned c =
    let g = c.args.self in
    let l = c.turn.auto.nodes ∙ c.deref_mut.ensures.len in
    let e : c.deref.result.now ≡ map turned_node (vec_items g.nodes) = c.deref.ensures.value ∙ take_at _ _ _ l ∙ c.turn.ensures ∙ ap (map turned_node) c.deref_mut.ensures.value in
    record {
      stands = ∥∥₁_map g.stands (turned_rep g.admitted.opening g.admitted.begun (vec_items g.nodes) c.deref.result.now e);
      places = ap length e ∙ length-map (vec_items g.nodes) turned_node ∙ g.places;
      small = rival_small g.admitted.opening g.admitted.begun c.in_ok-check_size.field-0 c.in_ok-check_size.ensures;
    }

pub keep-other-requires-clause-plan : goal.keep-other-requires-clause-plan
keep-other-requires-clause-plan c = record { bytes = c.args.plan.now; read = c.in_ok-rows.ensures ∙ ap Ok (sym c.deref-2.ensures.value) }

pub bracket-verdict-requires : goal.bracket-verdict-requires
bracket-verdict-requires c =
    let o = c.args.self.admitted.opening in
    let r = c.args.self.admitted.begun in
    let q = c.requires.kept in
    let plan = c.in_ok-rows.ensures ∙ ap Ok (sym c.deref-2.ensures.value) in
    let v = low_house o r q.bytes c.args.plan.now q.rows c.deref-2.result.now q.read plan in
    let u = low_guest o r q.bytes c.args.plan.now q.rows c.deref-2.result.now q.read plan in
    let small = rival_small o r c.in_ok-check_size.field-0 c.in_ok-check_size.ensures in
    let kv = ap (λ (x : Kept). x.worst) q.is in
    let kh = ap (λ (x : Kept). x.hands) q.is in
    let ou = ap (λ (x : Kept). x.worst) c.keep-other.ensures in
    let oh = ap (λ (x : Kept). x.hands) c.keep-other.ensures in
    let t : o.sizes.table * c.args.kept.hands ≡ 2 * purse o.sheet * o.m ^ word_count o.sheet House = (λ i. table_is o r i * kh i) in
    (omega (arith, v, kv, r.small), (omega (arith, u, ou, small), (omega (arith, t, r.small), (let p = power_small _ _ (some_table o r) small in omega (arith, p, oh)))))

pub returns : goal.returns
returns c =
    let o = c.args.self.admitted.opening in
    let plan = c.in_ok-rows.ensures ∙ ap Ok (sym c.deref-2.ensures.value) in
    let size = c.in_ok-check_size.ensures ∙ ap (size_of o.sizes.table o.m) (words_there o c.args.self.admitted.begun) in
    ap (Both o.sizes c.args.kept c.keep-other.result) c.bracket-verdict.ensures
    ∙ ap (both o c.args.kept) c.keep-other.ensures ∙ ap (with_rival o c.args.kept) (sym plan) ∙ ap (sized_rival o c.args.kept c.args.plan.now) size
