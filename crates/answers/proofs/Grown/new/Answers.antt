use Rattle.std.proofs.Common.{◌∙◌}
use Rattle.answers.proofs.Wholes.{written, stored}
use Rattle.answers.proofs.Grown.new.Goals as goal

pub invariant_of-result : goal.invariant_of-result
invariant_of-result g c =
    let o = c.args.admitted.opening in
    let r = c.args.admitted.begun in
    let n = c.in_ok-nodes.ensures.len in
    let h = c.in_ok-house.ensures.len in
    let e = c.in_ok-guest.ensures.len in
    let w = stored o r c.build.new.nodes _ c.build.new.house _ c.build.new.guest _ _ _ _
    (written o r _ _ _ _ _ _ _ (record { places = c.deref_mut.ensures.len ∙ n; ours = c.deref_mut-2.ensures.len ∙ h; theirs = c.deref_mut-3.ensures.len ∙ e }) c.build.ensures.answer c.build.ensures.memory)
    (c.build.auto.nodes ∙ c.deref_mut.ensures.len) (c.build.auto.house ∙ c.deref_mut-2.ensures.len) (c.build.auto.guest ∙ c.deref_mut-3.ensures.len) n h e in
    record { stands = ∣ w.stands ∣₁; places = w.places; ours = w.ours; theirs = w.theirs }
