use Rattle.std.proofs.Common.{length, Ok, vec_items, sym, ap, ◌∙◌}
use Rattle.rules.specs.declared.Player.TheVariants.{House}
use Rattle.answers.specs.Hands.{play_plan}
use Rattle.answers.proofs.Alone.{given}
use Rattle.answers.proofs.Wholes.{laid_at, few_nodes, to_plan}
use Rattle.answers.proofs.Tables.{printed}
use Rattle.answers.proofs.Grown.play.Goals as goal

pub invariant_of-game : goal.invariant_of-game
invariant_of-game c =
    let g = c.args.self.now in
    record {
      laid = ∣ record {
        k = _;
        n = _;
        c = _;
        counts = _;
        tree = _;
        laid = laid_at g.admitted.opening g.admitted.begun c.cut.result.0.now c.deref-2.result.now (vec_items g.nodes) c.deref.result.now (c.in_ok-rows.ensures ∙ ap Ok (sym c.deref-2.ensures.value)) c.deref.ensures.value (given g.admitted.opening House (vec_items g.nodes) g.stands);
        small = few_nodes g.admitted.opening g.admitted.begun c.deref.result.now (ap length c.deref.ensures.value ∙ g.places);
      } ∣₁;
    }

pub returns : goal.returns
returns c =
    let g = c.args.self.now in
    let read = c.in_ok-rows.ensures ∙ ap Ok (sym c.deref-2.ensures.value) in
    let l = laid_at g.admitted.opening g.admitted.begun c.cut.result.0.now c.deref-2.result.now (vec_items g.nodes) c.deref.result.now read c.deref.ensures.value (given g.admitted.opening House (vec_items g.nodes) g.stands) in
    printed g.admitted.opening c.deref-2.result.now _ _ c.cut.result.1.now c.new-out.ensures.bytes (c.in_ok-write_hands.ensures _ _ _ _ _ l)
    ∙ to_plan g.admitted.opening g.admitted.begun (play_plan g.admitted.opening) (Ok c.deref-2.result.now) c.args.rest.now _ _ c.cut.ensures.front c.cut.ensures.after read
