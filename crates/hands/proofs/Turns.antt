-- A hand in the loop: for each game that lies in the nodes.
use Rattle.std.proofs.Common.{◌≡◌, ◌⊎◌, inl, inr, ℕ, suc, ◌+◌, ◌^◌, ◌<◌, ◌≤◌, List, ◌∷◌, length, drop, Some, Ok, Err, Result, sym, refl, ap, ◌∙◌, subst, arith}
use Rattle.std.proofs.Math.Logic.{∥∥₁_elim, ∥∥₁_map}
use Rattle.std.specs.Coded.{le_prop}
use Rattle.rules.specs.declared.Ends.{Ends}
use Rattle.cards.specs.Game.{Tree, Trees, Plan}
use Rattle.cards.specs.Promise.{Wells}
use Rattle.cards.specs.Played.{played}
use Rattle.cards.specs.Reckon.{places_all}
use Rattle.tree.proofs.Reps.{rep_inside, rep_size, rep_end}
use Rattle.tree.specs.Rep.{node_at, Reps}
use Rattle.tree.specs.Siblings.{SomeRoot}
use Rattle.tree.specs.declared.Sight.{Sight}
use Rattle.tree.specs.declared.Place.{Place}
use Rattle.tree.specs.declared.Place.TheVariants.{Over, Deal, House, Guest}
use Rattle.tree.specs.declared.Node.{Node}
use Rattle.plans.specs.Plan.{plan_of}
use Rattle.plans.specs.declared.Row.{Row}
use Rattle.plans.proofs.Planned.{row_inside}
use Rattle.hands.specs.Source.{unfit}
use Rattle.hands.specs.declared.Refusal.{Refusal}
use Rattle.hands.specs.Laid.{Laid, SomeLaid, Ended}
use Rattle.hands.specs.Steps.{Falling, Fallen, SomeFall, Falls, Chooses}
use Rattle.hands.proofs.Plays.{Stage, Drawing, Choosing, stage_over, stage_deal, stage_ours, stage_theirs, draw_unfit, draw_falls, draw_on, draw_less, choose_err, choose_on, choose_less}

-- the hand has come to i, after so many choices and words
pub record Turn (m : ℕ) (rows : List Row) (nodes : List Node) (choices begun : List ℕ) (i made used : ℕ) (words : List ℕ) : Type 0 where
  pub stands :
      (k n : ℕ) (c counts : ℕ → ℕ) (tree : Tree) → Laid k m n c counts rows nodes 0 tree →
      Stage k m (plan_of rows c) counts nodes (played m (plan_of rows c) tree choices begun) i made used (drop made choices) words
  pub few : made ≤ length choices
  pub low : used + (node_at nodes i).size ≤ length nodes

pub turn_none : (m : ℕ) (rows : List Row) (nodes : List Node) (choices begun : List ℕ) → ∥ SomeLaid m rows nodes ∥₁ → Turn m rows nodes choices begun 0 0 0 begun
turn_none m rows nodes choices begun some =
    record {
      stands = λ k n c counts tree h. record { n = n; tree = tree; lies = h.lies; fits = h.fits; goes = refl };
      few = omega arith;
      low = ∥∥₁_elim some le_prop (λ s. omega (arith, rep_size s.k m nodes 0 s.tree s.laid.lies, rep_end s.k m nodes 0 s.tree s.laid.lies));
    }

pub turn_inside : (m : ℕ) (rows : List Row) (nodes : List Node) (choices begun : List ℕ) (i made used : ℕ) (words : List ℕ) → ∥ SomeLaid m rows nodes ∥₁ → Turn m rows nodes choices begun i made used words → i < length nodes
turn_inside m rows nodes choices begun i made used words some t = ∥∥₁_elim some le_prop (λ s.
    let a = t.stands s.k s.n s.c s.counts s.tree s.laid in
    rep_inside s.k m nodes i a.tree a.lies)

-- a tree lies where the hand is
pub turn_root : (m : ℕ) (rows : List Row) (nodes : List Node) (choices begun : List ℕ) (i made used : ℕ) (words : List ℕ) → ∥ SomeLaid m rows nodes ∥₁ → Turn m rows nodes choices begun i made used words → ∥ SomeRoot nodes i ∥₁
turn_root m rows nodes choices begun i made used words some t = ∥∥₁_map some (λ s.
    let a = t.stands s.k s.n s.c s.counts s.tree s.laid in
    record { table = s.k; base = m; tree = a.tree; rep = a.lies })

-- what is promised of what is returned
abbrev pub EndsHand : ℕ → List Row → List Node → List ℕ → List ℕ → Result Ends Refusal → Type 0
EndsHand m rows nodes choices begun r =
    (k n : ℕ) (c counts : ℕ → ℕ) (tree : Tree) → Laid k m n c counts rows nodes 0 tree → Ended k (played m (plan_of rows c) tree choices begun) r

pub ends_err :
    (m : ℕ) (rows : List Row) (nodes : List Node) (choices begun : List ℕ) (r : Result Ends Refusal) (x e : Refusal) → r ≡ Err x → x ≡ e →
    EndsHand m rows nodes choices begun (Err e) → EndsHand m rows nodes choices begun r
ends_err m rows nodes choices begun r x e p q h = subst (λ v. EndsHand m rows nodes choices begun v) (sym (p ∙ ap (λ v. Err v) q)) h

-- a word is drawn at such a place
abbrev pub Draws : Place → Type 0
Draws p = ((parts : ℕ) × (p ≡ Deal parts)) ⊎ ((z : Sight) × (j : ℕ) × (p ≡ House z j))

module _ (m : ℕ) (rows : List Row) (nodes : List Node) (choices begun : List ℕ) (i made used : ℕ) (words : List ℕ) (t : Turn m rows nodes choices begun i made used words) where
  pub turn_over : (e : Ends) → (node_at nodes i).place ≡ Over e → EndsHand m rows nodes choices begun (Ok e)
  turn_over e p k n c counts tree h = stage_over k m (plan_of rows c) counts nodes _ i made used (drop made choices) words (t.stands k n c counts tree h) e p

  kids_end : (ts : Trees) → (node_at nodes i).size ≡ suc (places_all ts) → (i + 1) + places_all ts ≡ i + (node_at nodes i).size
  kids_end ts e = omega arith

  -- where a word is drawn: among what it falls, and what `fall` says of it
  record Drawn (k : ℕ) (c counts : ℕ → ℕ) (tree : Tree) : Type 0 where
    draws : Drawing m (plan_of rows c) counts nodes (played m (plan_of rows c) tree choices begun) i made used (drop made choices) words
    ready : (x : ℕ) → x < m → length nodes < 2 ^ 32 → SomeFall m rows nodes (node_at nodes i).place (i + 1) (i + (node_at nodes i).size) x
    fallen : (x r : ℕ) → x < m → Falls m rows nodes (node_at nodes i).place (i + 1) x r → Fallen k m draws.n (plan_of rows c) counts nodes draws.ws draws.ts x r

  drawn_deal : (parts : ℕ) → (node_at nodes i).place ≡ Deal parts → (k n : ℕ) (c counts : ℕ → ℕ) (tree : Tree) → Laid k m n c counts rows nodes 0 tree → Drawn k c counts tree
  drawn_deal parts q k n c counts tree h =
      let a = stage_deal k m (plan_of rows c) counts nodes _ i made used (drop made choices) words (t.stands k n c counts tree h) parts q in
      let d = a.0 in
      let falls = draw_falls k m (plan_of rows c) counts nodes _ i made used (drop made choices) words d in
      record {
        draws = d;
        ready = λ x lt small. rw q (
          record { k = k; n = d.n; plan = plan_of rows c; counts = counts; ws = d.ws; ts = d.ts; weighed = a.1; falls = falls x lt; small = small },
          kids_end d.ts d.size,
        );
        fallen = λ x r lt f. let g = rw q at f in g k d.n (plan_of rows c) counts d.ws d.ts a.1 (falls x lt);
      }

  drawn_ours : (z : Sight) (j : ℕ) → (node_at nodes i).place ≡ House z j → (k n : ℕ) (c counts : ℕ → ℕ) (tree : Tree) → Laid k m n c counts rows nodes 0 tree → Drawn k c counts tree
  drawn_ours z j q k n c counts tree h =
      let a = stage_ours k m (plan_of rows c) counts nodes _ i made used (drop made choices) words (t.stands k n c counts tree h) z j q in
      let d = a.0 in
      let falls : (x : ℕ) → x < m → Falling m d.n (plan_of rows c) counts (plan_of rows c j) d.ts x =
      λ x lt. subst (λ v. Falling m d.n (plan_of rows c) counts v d.ts x) a.1 (draw_falls k m (plan_of rows c) counts nodes _ i made used (drop made choices) words d x lt) in
      record {
        draws = d;
        ready = λ x lt small. rw q (
          row_inside rows c j x (omega (arith, (falls x lt).inside)),
          record { k = k; m = m; n = d.n; q = c j; plan = plan_of rows c; counts = counts; ts = d.ts; lie = a.2; falls = falls x lt; small = small },
          kids_end d.ts d.size,
        );
        fallen = λ x r lt f.
            let g = rw q at f in
            subst (λ v. Fallen k m d.n (plan_of rows c) counts nodes v d.ts x r) (sym a.1) (g k m d.n (c j) (plan_of rows c) counts d.ts a.2 (falls x lt));
      }

  drawn : Draws (node_at nodes i).place → (k n : ℕ) (c counts : ℕ → ℕ) (tree : Tree) → Laid k m n c counts rows nodes 0 tree → Drawn k c counts tree
  drawn (inl d) = drawn_deal d.0 d.1
  drawn (inr d) = drawn_ours d.0 d.1 d.2

  pub drawn_unfit : Draws (node_at nodes i).place → (e : Refusal) → unfit m used words ≡ Some e → EndsHand m rows nodes choices begun (Err e)
  drawn_unfit p e u k n c counts tree h = draw_unfit k m (plan_of rows c) counts nodes _ i made used (drop made choices) words (drawn p k n c counts tree h).draws e u

  pub drawn_ready : ∥ SomeLaid m rows nodes ∥₁ → Draws (node_at nodes i).place → (x : ℕ) → x < m → ∥ SomeFall m rows nodes (node_at nodes i).place (i + 1) (i + (node_at nodes i).size) x ∥₁
  drawn_ready some p x lt = ∥∥₁_map some (λ s. (drawn p s.k s.n s.c s.counts s.tree s.laid).ready x lt s.small)

  pub drawn_less :
      ∥ SomeLaid m rows nodes ∥₁ → Draws (node_at nodes i).place → (x r : ℕ) → x < m → Falls m rows nodes (node_at nodes i).place (i + 1) x r → (node_at nodes r).size < (node_at nodes i).size
  drawn_less some p x r lt f = ∥∥₁_elim some le_prop (λ s.
      let d = drawn p s.k s.n s.c s.counts s.tree s.laid in
      draw_less s.k m (plan_of rows s.c) s.counts nodes _ i made used (drop made choices) words d.draws x r (d.fallen x r lt f))

  pub turn_drawn :
      ∥ SomeLaid m rows nodes ∥₁ → Draws (node_at nodes i).place → (x r : ℕ) (rest : List ℕ) → words ≡ x ∷ rest → x < m → Falls m rows nodes (node_at nodes i).place (i + 1) x r →
      Turn m rows nodes choices begun r made (used + 1) rest
  turn_drawn some p x r rest e lt f =
      record {
        stands = λ k n c counts tree h.
            let d = drawn p k n c counts tree h in
            draw_on k m (plan_of rows c) counts nodes _ i made used (drop made choices) words d.draws x rest e lt r (d.fallen x r lt f);
        few = t.few;
        low = omega (arith, drawn_less some p x r lt f, t.low);
      }

  -- at a choice of the guest
  theirs :
      (z : Sight) (j : ℕ) → (node_at nodes i).place ≡ Guest z j → (k n : ℕ) (c counts : ℕ → ℕ) (tree : Tree) → Laid k m n c counts rows nodes 0 tree →
      Choosing k m (plan_of rows c) counts nodes (played m (plan_of rows c) tree choices begun) i made used (drop made choices) words
  theirs z j p k n c counts tree h = stage_theirs k m (plan_of rows c) counts nodes _ i made used (drop made choices) words (t.stands k n c counts tree h) z j p

  -- what `choose` ensures
  abbrev Chose : Result ℕ Refusal → Type 0
  Chose r =
      (k m n : ℕ) (plan : Plan) (counts : ℕ → ℕ) (ts : Trees) → Reps k m nodes (i + 1) ts → (i + 1) + places_all ts ≡ i + (node_at nodes i).size → Wells m plan counts n ts →
      Chooses k m n plan counts nodes ts choices made r

  pub theirs_err : (z : Sight) (j : ℕ) → (node_at nodes i).place ≡ Guest z j → (e : Refusal) → Chose (Err e) → EndsHand m rows nodes choices begun (Err e)
  theirs_err z j p e f k n c counts tree h =
      let d = theirs z j p k n c counts tree h in
      choose_err k m (plan_of rows c) counts nodes _ i made used choices words d e (f k m d.n (plan_of rows c) counts d.ts d.lie (kids_end d.ts d.size) d.fits)

  pub theirs_less : ∥ SomeLaid m rows nodes ∥₁ → (z : Sight) (j : ℕ) → (node_at nodes i).place ≡ Guest z j → (r : ℕ) → Chose (Ok r) → (node_at nodes r).size < (node_at nodes i).size
  theirs_less some z j p r f = ∥∥₁_elim some le_prop (λ s.
      let d = theirs z j p s.k s.n s.c s.counts s.tree s.laid in
      choose_less s.k m (plan_of rows s.c) s.counts nodes _ i made used choices words d r
      (f s.k m d.n (plan_of rows s.c) s.counts d.ts d.lie (kids_end d.ts d.size) d.fits))

  theirs_inside : ∥ SomeLaid m rows nodes ∥₁ → (z : Sight) (j : ℕ) → (node_at nodes i).place ≡ Guest z j → (r : ℕ) → Chose (Ok r) → made < length choices
  theirs_inside some z j p r f = ∥∥₁_elim some le_prop (λ s.
      let d = theirs z j p s.k s.n s.c s.counts s.tree s.laid in
      (f s.k m d.n (plan_of rows s.c) s.counts d.ts d.lie (kids_end d.ts d.size) d.fits).0)

  pub turn_theirs : ∥ SomeLaid m rows nodes ∥₁ → (z : Sight) (j : ℕ) → (node_at nodes i).place ≡ Guest z j → (r : ℕ) → Chose (Ok r) → Turn m rows nodes choices begun r (made + 1) used words
  turn_theirs s z j p r f =
      record {
        stands = λ k n c counts tree h.
            let d = theirs z j p k n c counts tree h in
            choose_on k m (plan_of rows c) counts nodes _ i made used choices words d r
            (f k m d.n (plan_of rows c) counts d.ts d.lie (kids_end d.ts d.size) d.fits);
        few = omega (arith, theirs_inside s z j p r f);
        low = omega (arith, theirs_less s z j p r f, t.low);
      }
