use Rattle.std.proofs.Common.{◌≡◌, ℕ, ◌+◌, ◌<◌, ◌≤◌, List, [], ◌∷◌, ◌++◌, length, get_or, Some, sym, ap, ◌∙◌, arith}
use Rattle.std.proofs.lemmas.List.{length_push}
use Rattle.tree.specs.declared.Sight.{Sight}
use Rattle.rules.specs.declared.Player.{Player}
use Rattle.tree.specs.declared.Node.{Node}
use Rattle.tree.specs.Seen.{noted, seen_in, sight_at}
use Rattle.tree.specs.Slots.{entry_of}
use Rattle.tree.specs.Flat.{Noted}
use Rattle.tree.proofs.Put.{put_nil}
use Rattle.tree.proofs.Sees.{noted_none, noted_same, noted_push, list, list_pass, list_old, list_new, list_most}
use Rattle.tree.proofs.Tables.{tabled_new, tabled_same, entry_none, entry_some}
use Rattle.tree.proofs.collect.Goals as goal
use Rattle.tree.proofs.collect.Goals.{in-Some+then-table-k-eq0, in-Some+else-table-k-eq0, in_default}

pub loop-node-init : goal.loop-node-init
loop-node-init c = (noted_none _ (put_nil _ 0), (omega arith, λ z r. c.requires.zeros _))

meet : (zs s0 s t : List Sight) (n m : ℕ) → s ≡ t → n ≡ m → Noted zs s0 t m → Noted zs s0 s n
meet zs s0 s t n m es en q = record { count = en ∙ q.count; holds = es ∙ q.holds }

-- a sight that the table does not hold yet is new, and there is room for it
fresh : (W : Player) (N : List Node) (I : ℕ) (d : Node) (z : Sight) (t n room : ℕ) → I < length N → sight_at W (get_or N I d).place ≡ Some z → t ≡ entry_of z (list W N I) → t ≡ 0 →
    n ≡ length (list W N I) → length (noted [] (seen_in W N)) ≤ room → (list W N (I + 1) ≡ list W N I ++ (z ∷ [])) × (n < room)
fresh W N I d z t n room h e at zero en l =
    let more = list_new W N I d z h e (entry_none z (list W N I) t at zero) in
    let a = ap length more in
    let b = length_push (list W N I) z in
    let m = list_most W N (I + 1) in
    (more, omega (arith, a, b, m))

pub bounds-sights-n : goal.bounds-sights-n
bounds-sights-n c =
    let seen = sym c.seen_at.ensures ∙ c.in-Some.is in
    let r = c.requires.ranged c.loop-node.node-index c.in-Some.z c.loop-node-test.true seen in
    let at = ap (λ k. get_or c.loop-node.table k 0) c.slot-k.ensures ∙ c.loop-node.invariant.1.1 c.in-Some.z r in
    let f = fresh c.args.who c.args.nodes.now c.loop-node.node-index _ c.in-Some.z _ c.loop-node.n _ c.loop-node-test.true seen at c.if-table-k-eq0.true c.loop-node.invariant.0.count c.requires.room in
    omega (arith, f.1, c.loop-node.auto.sights)

pub loop-node-preserved : goal.loop-node-preserved
loop-node-preserved c =
    let W = c.args.who in
    let N = c.args.nodes.now in
    let I = c.loop-node.node-index in
    let S = length c.args.table.now in
    let q = c.loop-node.invariant.0 in
    let tab = c.loop-node.invariant.1.1 in
    elim c.match-seen_at.branch [
      | in-Some+then-table-k-eq0 w ↦
          (let seen = sym c.seen_at.ensures ∙ w.in-Some.is in
          let r = c.requires.ranged I w.in-Some.z c.loop-node-test.true seen in
          let at = ap (λ k. get_or c.loop-node.table k 0) w.slot-k.ensures ∙ tab w.in-Some.z r in
          let f = fresh W N I _ w.in-Some.z _ c.loop-node.n _ c.loop-node-test.true seen at w.if-table-k-eq0.true q.count c.requires.room in (
            meet _ _ _ _ _ _ w.sights-is w.n-is
                (noted_push (list W N I) (list W N (I + 1)) _ _ _ _ f.0 f.1 c.loop-node.auto.sights q),
            (
              omega (arith, w.n-is, c.loop-node.invariant.1.0),
              tabled_new S _ _ (list W N I) (list W N (I + 1)) w.in-Some.z _ _ r w.slot-k.ensures (omega (arith, w.slot-k.ensures, r.inside, c.loop-node.auto.table)) w.if-table-k-eq0.true q.count w.table-is f.0 tab,
            ),
          ))
      | in-Some+else-table-k-eq0 w ↦
          (let seen = sym c.seen_at.ensures ∙ w.in-Some.is in
          let r = c.requires.ranged I w.in-Some.z c.loop-node-test.true seen in
          let at = ap (λ k. get_or c.loop-node.table k 0) w.slot-k.ensures ∙ tab w.in-Some.z r in
          let same = list_old W N I _ w.in-Some.z c.loop-node-test.true seen (entry_some w.in-Some.z (list W N I) _ at w.if-table-k-eq0.false) in (
            meet _ _ _ _ _ _ w.sights-is w.n-is (noted_same (list W N I) (list W N (I + 1)) _ _ _ same q),
            (omega (arith, w.n-is, c.loop-node.invariant.1.0), tabled_same S _ _ (list W N I) (list W N (I + 1)) w.table-is same tab),
          ))
      | in_default w ↦
          (let same = list_pass W N I _ c.loop-node-test.true (sym c.seen_at.ensures ∙ w.in_default.is) in (
            meet _ _ _ _ _ _ w.sights-is w.n-is (noted_same (list W N I) (list W N (I + 1)) _ _ _ same q),
            (omega (arith, w.n-is, c.loop-node.invariant.1.0), tabled_same S _ _ (list W N I) (list W N (I + 1)) w.table-is same tab),
          ))
    ]
