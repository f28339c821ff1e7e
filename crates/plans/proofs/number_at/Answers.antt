use Rattle.std.proofs.Common.{◌≡◌, ◌+◌, ◌≤◌, length, get_or, drop, ap, ◌∙◌, arith}
use Rattle.std.proofs.lemmas.List.{length-drop, get_or-drop}
use Rattle.plans.proofs.Weights.{number_first}
use Rattle.plans.proofs.number_at.Goals as goal

pub returns : goal.returns
returns c =
    let xs = c.args.bytes.now in
    let at = c.args.at in
    let l : 4 ≤ length (drop at xs) = simp length-drop (omega arith) in
    let e = number_first (drop at xs) l in
    let z : at + 0 ≡ at = omega arith in
    let a : get_or (drop at xs) 0 0 ≡ get_or xs at 0 = get_or-drop at xs 0 0 ∙ ap (λ n. get_or xs n 0) z in
    let b = get_or-drop at xs 1 0 in
    let g = get_or-drop at xs 2 0 in
    let d = get_or-drop at xs 3 0 in
    omega (arith, e, a, b, g, d, c.from_le_bytes.ensures)
