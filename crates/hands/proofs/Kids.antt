-- The guest's choice among trees, tree by tree.
use Rattle.std.proofs.Common.{◌≡◌, ℕ, zero, suc, ◌+◌, ◌<◌, ◌≤◌, List, length, get_or, drop, Option, Some, None, MatchOption, ok_or, refl, ap, ◌∙◌, subst, sym, arith}
use Rattle.std.proofs.lemmas.List.{drop_more}
use Rattle.std.proofs.Math.Logic.{∥∥₁_map}
use Rattle.cards.specs.Game.{Tree, over, deal, ours, theirs, Trees, none, more, Plan, many}
use Rattle.cards.specs.Promise.{Wells}
use Rattle.cards.specs.Played.{refused, plays, picks}
use Rattle.cards.specs.Reckon.{places, places_all}
use Rattle.std.specs.Iterator.{SkipsThenYields}
use Rattle.tree.proofs.Siblings.{kid_steps, kids_nth}
use Rattle.tree.specs.Rep.{Rep, Reps, Weighed, rest_of, node_at}
use Rattle.tree.specs.Siblings.{SomeRoot, KidsLie, start}
use Rattle.tree.specs.declared.Node.{Node}
use Rattle.tree.specs.declared.kids.Kids.{Kids}
use Rattle.hands.specs.Steps.{Picked, Chosen, Chooses}
use Rattle.hands.specs.declared.Refusal.TheVariants.{NoChoice}
use Rattle.hands.proofs.Fits.{first_fits, rest_fits}

weighed_lie : (k m n : ℕ) (nodes : List Node) (i : ℕ) (ws : List ℕ) (ts : Trees) → Weighed k m n nodes i ws ts → Reps k m nodes i ts
weighed_lie k m n nodes i ws none h = tt
weighed_lie k m n nodes i ws (more t ts) h = (h.1.0, weighed_lie k m n nodes (i + places t) (rest_of ws) ts h.1.1)

root_kids : (k m : ℕ) (nodes : List Node) (i : ℕ) (t : Tree) → Rep k m nodes i t → KidsLie nodes (i + 1) (i + (node_at nodes i).size)
root_kids k m nodes i (over g) h = record { table = k; base = m; trees = none; reps = tt; ends = omega (arith, h.size) }
root_kids k m nodes i (deal ws ts) h = record { table = k; base = m; trees = ts; reps = weighed_lie k m h.0 nodes (i + 1) ws ts h.1.1; ends = omega (arith, h.1.0.size) }
root_kids k m nodes i (ours j ts) h = record { table = k; base = m; trees = ts; reps = h.1.1; ends = omega (arith, h.1.0.size) }
root_kids k m nodes i (theirs j ts) h = record { table = k; base = m; trees = ts; reps = h.1.1; ends = omega (arith, h.1.0.size) }

-- the trees of a place can be gone over
pub kids_lie :
    (nodes : List Node) (i : ℕ) (s : Kids) → ∥ SomeRoot nodes i ∥₁ → s.nodes.now ≡ nodes → s.at ≡ i + 1 → s.end ≡ i + (node_at nodes i).size → ∥ KidsLie s.nodes.now s.at s.end ∥₁
kids_lie nodes i s some a b c = rw (a, b, c) (∥∥₁_map some (λ h. root_kids h.table h.base nodes i h.tree h.rep))

module _ (k m n : ℕ) (plan : Plan) (counts : ℕ → ℕ) (nodes : List Node) where
  picked : (ts : Trees) (i j : ℕ) → Reps k m nodes i ts → Wells m plan counts n ts → j < many ts → Picked k m n plan counts nodes ts j (start i ts j)
  unfolding many
  picked none i j lie fits lt = absurd (omega arith)
  picked (more t ts) i zero lie fits lt = record { tree = t; lies = lie.0; fits = first_fits fits; fewer = omega arith; goes = λ c d chosen words. refl }
  picked (more t ts) i (suc j) lie fits lt =
      let p = picked ts (i + places t) j lie.1 (rest_fits fits) (omega arith) in
      record { tree = p.tree; lies = p.lies; fits = p.fits; fewer = omega (arith, p.fewer); goes = p.goes }

  not_picked : (ts : Trees) (j : ℕ) → many ts ≤ j → (c d : ℕ) (chosen words : List ℕ) → picks m plan ts j c d chosen words ≡ refused 11 c
  unfolding many
  not_picked none j le c d chosen words = refl
  not_picked (more t ts) zero le c d chosen words = absurd (omega arith)
  not_picked (more t ts) (suc j) le c d chosen words = not_picked ts j (omega arith) c d chosen words

  pub kids_chosen :
      (ts : Trees) (i j : ℕ) (r : Option ℕ) → Reps k m nodes i ts → Wells m plan counts n ts → MatchOption r (many ts ≤ j) (λ x. (j < many ts) × (x ≡ start i ts j)) →
      Chosen k m n plan counts nodes ts j r
  kids_chosen ts i j None lie fits h = not_picked ts j h
  kids_chosen ts i j (Some x) lie fits h = subst (λ v. Picked k m n plan counts nodes ts j v) (sym h.1) (picked ts i j lie fits h.0)

-- what follows of the choices
pub kids_take :
    (m : ℕ) (plan : Plan) (ts : Trees) (choices : List ℕ) (made : ℕ) → made < length choices → (j d : ℕ) (words : List ℕ) →
    plays m plan (theirs j ts) made d (drop made choices) words ≡ picks m plan ts (get_or choices made 0) made d (drop (made + 1) choices) words
kids_take m plan ts choices made lt j d words = ap (λ v. plays m plan (theirs j ts) made d v words) (drop_more choices made 0 lt)

-- what `nth` gives of the trees of the place at i
pub nth_chosen :
    (k m n : ℕ) (plan : Plan) (counts : ℕ → ℕ) (nodes : List Node) (i : ℕ) (ts : Trees) (s u : Kids) (j : ℕ) (r : Option ℕ) →
    s.nodes.now ≡ nodes → s.at ≡ i + 1 → s.end ≡ i + (node_at nodes i).size → SkipsThenYields kid_steps s j r u →
    Reps k m nodes (i + 1) ts → (i + 1) + places_all ts ≡ i + (node_at nodes i).size → Wells m plan counts n ts → Chosen k m n plan counts nodes ts j r
nth_chosen k m n plan counts nodes i ts s u j r a b c ran lie ends fits =
    let l : Reps k m s.nodes.now s.at ts = rw (a, b) lie in
    let h = kids_nth k m ts s j r u l (omega arith) ran in
    kids_chosen k m n plan counts nodes ts (i + 1) j r lie fits (subst (λ v. MatchOption r (many ts ≤ j) (λ x. (j < many ts) × (x ≡ start v ts j))) b h)

pub kids_chooses :
    (k m n : ℕ) (plan : Plan) (counts : ℕ → ℕ) (nodes : List Node) (ts : Trees) (choices : List ℕ) (made j : ℕ) (r : Option ℕ) →
    made < length choices → j ≡ get_or choices made 0 → Chosen k m n plan counts nodes ts j r → Chooses k m n plan counts nodes ts choices made (ok_or r (NoChoice made))
kids_chooses k m n plan counts nodes ts choices made j None lt e h = λ i d words.
    kids_take m plan ts choices made lt i d words ∙ subst (λ v. picks m plan ts v made d (drop (made + 1) choices) words ≡ refused 11 made) e (h made d (drop (made + 1) choices) words)
kids_chooses k m n plan counts nodes ts choices made j (Some x) lt e h = (lt, subst (λ v. Picked k m n plan counts nodes ts v x) e h)
