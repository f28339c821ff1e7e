use Rattle.std.proofs.Common.{length, Ok, sym, ap, ◌∙◌, subst}
use Rattle.std.proofs.lemmas.Bool.{eqb-true, eqb-false}
use Rattle.rules.specs.declared.Player.TheVariants.{House}
use Rattle.answers.specs.Steps.{Lies}
use Rattle.answers.specs.Files.{beyond, with_plan}
use Rattle.answers.specs.Faults.{Answered}
use Rattle.answers.proofs.Wholes.{to_plan, ends_here, goes_on}
use Rattle.answers.proofs.Grown.answer.Goals as goal

pub invariant_of-seated-clause-stands : goal.invariant_of-seated-clause-stands
invariant_of-seated-clause-stands g c = subst (λ ns. ∥ Lies c.args.self.admitted.opening House ns ∥₁) (sym c.deref.ensures.value) c.args.self.stands

pub keep-kept-requires-clause-plan : goal.keep-kept-requires-clause-plan
keep-kept-requires-clause-plan g c = record { bytes = _; read = c.in_ok-rows.ensures ∙ ap Ok (sym c.deref-2.ensures.value) }

pub returns-then-is_empty : goal.returns-then-is_empty
returns-then-is_empty g c =
    let o = c.args.self.admitted.opening in
    let read = c.in_ok-rows.ensures ∙ ap Ok (sym c.deref-2.ensures.value) in
    let e = eqb-true (length c.cut.result.1.now) 0 (sym c.if-is_empty.ensures) in
    ends_here o c.args.self.admitted.begun c.keep-kept.result c.cut.result.1.now e ∙ ap (λ v. beyond o v c.cut.result.1.now) c.keep-kept.ensures
    ∙ to_plan o c.args.self.admitted.begun (with_plan o) (Ok c.deref-2.result.now) c.args.rest.now _ _ c.cut.ensures.front c.cut.ensures.after read

pub rival-requires-clause-kept : goal.rival-requires-clause-kept
rival-requires-clause-kept g c = record { bytes = _; rows = c.deref-2.result.now; read = c.in_ok-rows.ensures ∙ ap Ok (sym c.deref-2.ensures.value); is = c.keep-kept.ensures }

pub returns : goal.returns
returns g c =
    let o = c.args.self.admitted.opening in
    let read = c.in_ok-rows.ensures ∙ ap Ok (sym c.deref-2.ensures.value) in
    let some = eqb-false (length c.cut.result.1.now) 0 (sym c.is_empty.ensures ∙ c.if-is_empty.false) in
    let on = goes_on o c.args.self.admitted.begun c.keep-kept.result c.cut.result.1.now some ∙ ap (λ v. beyond o v c.cut.result.1.now) c.keep-kept.ensures
    ∙ to_plan o c.args.self.admitted.begun (with_plan o) (Ok c.deref-2.result.now) c.args.rest.now _ _ c.cut.ensures.front c.cut.ensures.after read in
    subst (λ a. Answered a c.rival.result) on c.rival.ensures
