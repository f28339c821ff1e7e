-- A place of chance in memory: a deal or a choice of the house, with its trees and their weights.
use Rattle.std.proofs.Common.{◌≡◌, ℕ, zero, suc, ◌+◌, ◌<◌, List, length, get_or, take, sym, refl, ap, ◌∙◌, subst, arith, length-take}
use Rattle.std.proofs.lemmas.List.{get_or-take}
use Rattle.cards.specs.Game.{Tree, over, deal, ours, theirs, Trees, many, total}
use Rattle.cards.specs.Floor.{nth}
use Rattle.cards.specs.Reckon.{places, places_all, sure, sure_all, open', open_all}
use Rattle.plans.specs.Plan.{no_row}
use Rattle.plans.specs.declared.Row.{Row}
use Rattle.plans.proofs.Planned.{row_inside}
use Rattle.tree.specs.Rep.{Rep, Reps, node_at}
use Rattle.tree.specs.declared.Node.{Node}
use Rattle.tree.specs.declared.Place.TheVariants.{Deal, House}
use Rattle.tree.proofs.Reps.{rep_inside, some_parts}
use Rattle.worst.specs.Items.{Chance, firsts, Told, told_plan, Fit, Fits}
use Rattle.plans.specs.Weights.{weight_at, Weighable}
use Rattle.worst.proofs.Lay.{weighed_reps, weighed_at, reps_nth}

pub record Fan (w : Told) (nodes : List Node) (rows : List Row) (m n i : ℕ) (t : Tree) : Type 0 where
  pub trees : Trees
  pub weights : List ℕ
  pub rest : ℕ
  pub left : n ≡ suc rest
  pub reps : Reps w.table m nodes (i + 1) trees
  pub total_is : total weights ≡ m
  pub many_is : length weights ≡ many trees
  pub fits : Fits m (told_plan w rows) w.choices w.table trees rest
  pub size_is : places t ≡ suc (places_all trees)
  pub sure_is : (v : ℕ) → sure m (told_plan w rows) t v n ≡ sure_all m (told_plan w rows) trees weights v rest
  pub open_is : (v : ℕ) → open' m (told_plan w rows) t v n ≡ open_all m (told_plan w rows) trees weights v rest
  pub weight_is : (j : ℕ) → j < many trees → get_or weights j 0 ≡ weight_at nodes rows m (node_at nodes i).place ((i + 1) + places_all (firsts j trees)) j
  pub weighable : (j : ℕ) → j < many trees → Weighable nodes rows (node_at nodes i).place ((i + 1) + places_all (firsts j trees)) j

planned : (c j : ℕ) (ws : List ℕ) → j < length (take c ws) → (get_or (take c ws) j 0 ≡ get_or ws j 0) × (j < length ws)
planned c j ws l =
    let e = length-take c ws in
    let a : j < c = omega arith in
    (get_or-take c ws j 0 a, omega arith)

pub fan_of : (w : Told) (nodes : List Node) (rows : List Row) (m n i : ℕ) (t : Tree) → 0 < m → Rep w.table m nodes i t → Fit m (told_plan w rows) w.choices w.table t n → Chance (node_at nodes i).place →
    Fan w nodes rows m n i t
fan_of w nodes rows m n i (over g) b h q c = absurd (subst Chance h.place c)
fan_of w nodes rows m n i (theirs s ts) b h q c = absurd (subst Chance h.1.0.place c)
fan_of w nodes rows m zero i (deal ws ts) b h q c = absurd q
fan_of w nodes rows m zero i (ours s ts) b h q c = absurd q
fan_of w nodes rows m (suc n) i (deal ws ts) b h q c =
    let p : (node_at nodes i).place ≡ Deal h.0 = h.1.0.place in
    let rs = weighed_reps w.table m h.0 nodes (i + 1) ws ts h.1.1 in
    record {
      trees = ts;
      weights = ws;
      rest = n;
      left = refl;
      reps = rs;
      total_is = q.0;
      many_is = q.1;
      fits = q.2;
      size_is = refl;
      sure_is = λ v. refl;
      open_is = λ v. refl;
      weight_is = λ j l. weighed_at w.table m h.0 nodes (i + 1) ws ts j h.1.1 l ∙ ap (λ z. weight_at nodes rows m z ((i + 1) + places_all (firsts j ts)) j) (sym p);
      weighable = λ j l. subst (λ z. Weighable nodes rows z ((i + 1) + places_all (firsts j ts)) j) (sym p)
          (some_parts w.table m h.0 nodes (i + 1) ws ts h.1.1 q.1 (omega (arith, q.0, b)), rep_inside w.table m nodes _ (nth ts j) (reps_nth w.table m nodes (i + 1) ts j rs l));
    }
fan_of w nodes rows m (suc n) i (ours s ts) b h q c =
    let p : (node_at nodes i).place ≡ House h.0 s = h.1.0.place in
    let there : (j : ℕ) → j < many ts → j < length (take (w.counts s) (get_or rows s no_row).weights) = λ j l. subst (λ z. j < z) (sym q.1) l in
    record {
      trees = ts;
      weights = told_plan w rows s;
      rest = n;
      left = refl;
      reps = h.1.1;
      total_is = q.0;
      many_is = q.1;
      fits = q.2;
      size_is = refl;
      sure_is = λ v. refl;
      open_is = λ v. refl;
      weight_is = λ j l. (planned (w.counts s) j (get_or rows s no_row).weights (there j l)).0 ∙ ap (λ z. weight_at nodes rows m z ((i + 1) + places_all (firsts j ts)) j) (sym p);
      weighable = λ j l. subst (λ z. Weighable nodes rows z ((i + 1) + places_all (firsts j ts)) j) (sym p)
          (row_inside rows w.counts s 0 (omega (arith, q.0, b)), (planned (w.counts s) j (get_or rows s no_row).weights (there j l)).1);
    }
