-- A word falls among the weights of trees, weight by weight.
use Rattle.std.proofs.Common.{◌≡◌, ℕ, suc, ◌+◌, ◌-◌, ◌*◌, ◌/◌, ◌^◌, ◌<◌, ◌≤◌, List, [], ◌∷◌, length, get_or, take, drop, sym, refl, ap, ◌∙◌, subst, arith}
use Rattle.std.proofs.lemmas.List.{drop_more, get_or-take, length-take, length-drop}
use Rattle.std.proofs.lemmas.Bool.{lt-ltb, le-ltb}
use Rattle.std.proofs.Math.Logic.{∥∥₁_elim}
use Rattle.std.specs.Coded.{le_prop}
use Rattle.cards.specs.Game.{Tree, Trees, none, more, Plan, many, total}
use Rattle.cards.specs.Played.{lands}
use Rattle.cards.specs.Reckon.{places, places_all}
use Rattle.cards.proofs.AtHand.{places_pos}
use Rattle.tree.proofs.Reps.{rep_inside, rep_size, some_parts}
use Rattle.tree.specs.Rep.{Rep, Reps, Weighed, node_at}
use Rattle.tree.specs.declared.Node.{Node}
use Rattle.tree.specs.declared.Place.{Place}
use Rattle.tree.specs.declared.Place.TheVariants.{Over, Deal, House, Guest}
use Rattle.plans.specs.Plan.{no_row}
use Rattle.plans.specs.declared.Row.{Row}
use Rattle.hands.specs.Steps.{Falling, Fallen, SomeDeal, SomeRow, SomeFall, Falls}
use Rattle.plans.specs.Weights.{Weighable, weight_at}
use Rattle.hands.proofs.Fits.{first_fits, rest_fits}

-- where the trees lie as L says, the word x has come to y, and the trees from i on are left, up to e
pub record Along (m n : ℕ) (plan : Plan) (counts : ℕ → ℕ) (L : ℕ → List ℕ → Trees → Type 0) (e : ℕ) (ws : List ℕ) (ts : Trees) (x i y : ℕ) : Type 0 where
  pub weights : List ℕ
  pub trees : Trees
  pub lie : L i weights trees
  pub falls : Falling m n plan counts weights trees y
  pub ends : i + places_all trees ≡ e
  pub fewer : places_all trees ≤ places_all ts
  pub goes : (c d : ℕ) (chosen words : List ℕ) → lands m plan ts ws x c d chosen words ≡ lands m plan trees weights y c d chosen words

pub along_none :
    (m n : ℕ) (plan : Plan) (counts : ℕ → ℕ) (L : ℕ → List ℕ → Trees → Type 0) (ws : List ℕ) (ts : Trees) (x i : ℕ) →
    L i ws ts → Falling m n plan counts ws ts x → Along m n plan counts L (i + places_all ts) ws ts x i x
along_none m n plan counts L ws ts x i lie falls = record { weights = ws; trees = ts; lie = lie; falls = falls; ends = refl; fewer = omega arith; goes = λ c d chosen words. refl }

-- the weight w and the tree at i, and what is left behind them
pub record Front (k m : ℕ) (nodes : List Node) (L : ℕ → List ℕ → Trees → Type 0) (i w : ℕ) (weights : List ℕ) (trees : Trees) : Type 0 where
  pub others : List ℕ
  pub tree : Tree
  pub behind : Trees
  pub is_weights : weights ≡ w ∷ others
  pub is_trees : trees ≡ more tree behind
  pub lies : Rep k m nodes i tree
  pub lie : L (i + (node_at nodes i).size) others behind

module _ (k m n : ℕ) (plan : Plan) (counts : ℕ → ℕ) (nodes : List Node) (L L' : ℕ → List ℕ → Trees → Type 0) (end : ℕ) (ws : List ℕ) (ts : Trees) (x i y w : ℕ) where
  pub along_here : (a : Along m n plan counts L end ws ts x i y) → Front k m nodes L' i w a.weights a.trees → y < w → Fallen k m n plan counts nodes ws ts x i
  along_here a f lt =
      let eq : Falling m n plan counts (w ∷ f.others) (more f.tree f.behind) y = subst (λ v. Falling m n plan counts v (more f.tree f.behind) y) f.is_weights (subst (λ t. Falling m n plan counts a.weights t y) f.is_trees a.falls) in
      let e : places_all a.trees ≡ places f.tree + places_all f.behind = ap places_all f.is_trees in
      record {
        tree = f.tree;
        lies = f.lies;
        fits = first_fits eq.fits;
        fewer = omega (arith, a.fewer);
        goes = λ c d chosen words.
            a.goes c d chosen words ∙ (ap (λ v. lands m plan a.trees v y c d chosen words) f.is_weights ∙ (ap (λ t. lands m plan t (w ∷ f.others) y c d chosen words) f.is_trees ∙ rw (lt-ltb y w lt) refl));
      }

  pub along_more : (a : Along m n plan counts L end ws ts x i y) → Front k m nodes L' i w a.weights a.trees → w ≤ y → Along m n plan counts L' end ws ts x (i + (node_at nodes i).size) (y - w)
  unfolding total many
  along_more a f le =
      let eq : Falling m n plan counts (w ∷ f.others) (more f.tree f.behind) y = subst (λ v. Falling m n plan counts v (more f.tree f.behind) y) f.is_weights (subst (λ t. Falling m n plan counts a.weights t y) f.is_trees a.falls) in
      let e : places_all a.trees ≡ places f.tree + places_all f.behind = ap places_all f.is_trees in
      let t : y < w + total f.others = eq.inside in
      let l : suc (length f.others) ≡ suc (many f.behind) = eq.long in
      record {
        weights = f.others;
        trees = f.behind;
        lie = f.lie;
        falls = record { inside = omega arith; long = omega arith; fits = rest_fits eq.fits };
        ends = omega (arith, a.ends, rep_size k m nodes i f.tree f.lies);
        fewer = omega (arith, a.fewer);
        goes = λ c d chosen words.
            a.goes c d chosen words ∙ (ap (λ v. lands m plan a.trees v y c d chosen words) f.is_weights ∙ (ap (λ t. lands m plan t (w ∷ f.others) y c d chosen words) f.is_trees ∙ rw (le-ltb y w le) refl));
      }

-- at a deal
pub deal_front :
    (k m n parts : ℕ) (plan : Plan) (counts : ℕ → ℕ) (nodes : List Node) (i y : ℕ) (weights : List ℕ) (trees : Trees) →
    Weighed k m parts nodes i weights trees → Falling m n plan counts weights trees y → Front k m nodes (Weighed k m parts nodes) i (m * (node_at nodes i).share / parts) weights trees
unfolding total many
deal_front k m n parts plan counts nodes i y [] trees h f = absurd (omega (arith, f.inside))
deal_front k m n parts plan counts nodes i y (w ∷ ws) none h f = absurd (omega (arith, f.long))
deal_front k m n parts plan counts nodes i y (w ∷ ws) (more t ts) h f =
    record {
      others = ws;
      tree = t;
      behind = ts;
      is_weights = ap (λ v. v ∷ ws) h.0;
      is_trees = refl;
      lies = h.1.0;
      lie = subst (λ p. Weighed k m parts nodes (i + p) ws ts) (sym (rep_size k m nodes i t h.1.0)) h.1.1;
    }

-- the invariant of `fall` at a deal
abbrev pub Deals : ℕ → ℕ → List Node → ℕ → ℕ → ℕ → ℕ → Type 0
Deals m parts nodes first x i y =
    (k n : ℕ) (plan : Plan) (counts : ℕ → ℕ) (ws : List ℕ) (ts : Trees) → Weighed k m parts nodes first ws ts →
    Falling m n plan counts ws ts x → Along m n plan counts (Weighed k m parts nodes) (first + places_all ts) ws ts x i y

pub deals_sure : (m parts : ℕ) (nodes : List Node) (first x i y : ℕ) → (s : SomeDeal m parts nodes first x) → Deals m parts nodes first x i y → ((0 < parts) × (i < length nodes) × (length nodes < 2 ^ 32)) × (i < first + places_all s.ts)
deals_sure m parts nodes first x i y s inv =
    let a = inv s.k s.n s.plan s.counts s.ws s.ts s.weighed s.falls in
    let f = deal_front s.k m s.n parts s.plan s.counts nodes i y a.weights a.trees a.lie a.falls in (
      (some_parts s.k m parts nodes i a.weights a.trees a.lie a.falls.long (omega (arith, a.falls.inside)), rep_inside s.k m nodes i f.tree f.lies, s.small),
      omega (arith, a.ends, ap places_all f.is_trees, places_pos f.tree),
    )

pub deals_more : (m parts : ℕ) (nodes : List Node) (first x i y : ℕ) → Deals m parts nodes first x i y → m * (node_at nodes i).share / parts ≤ y → Deals m parts nodes first x (i + (node_at nodes i).size) (y - m * (node_at nodes i).share / parts)
deals_more m parts nodes first x i y inv le k n plan counts ws ts h f =
    let a = inv k n plan counts ws ts h f in
    let L = Weighed k m parts nodes in
    along_more k m n plan counts nodes L L (first + places_all ts) ws ts x i y (m * (node_at nodes i).share / parts) a (deal_front k m n parts plan counts nodes i y a.weights a.trees a.lie a.falls) le

pub deals_here :
    (m parts : ℕ) (nodes : List Node) (first x i y : ℕ) → Deals m parts nodes first x i y → y < m * (node_at nodes i).share / parts →
    (k n : ℕ) (plan : Plan) (counts : ℕ → ℕ) (ws : List ℕ) (ts : Trees) → Weighed k m parts nodes first ws ts → Falling m n plan counts ws ts x → Fallen k m n plan counts nodes ws ts x i
deals_here m parts nodes first x i y inv lt k n plan counts ws ts h f =
    let a = inv k n plan counts ws ts h f in
    let L = Weighed k m parts nodes in
    along_here k m n plan counts nodes L L (first + places_all ts) ws ts x i y (m * (node_at nodes i).share / parts) a (deal_front k m n parts plan counts nodes i y a.weights a.trees a.lie a.falls) lt

-- at a row of weights W, of which q count and the first j are passed
abbrev pub Beside : ℕ → ℕ → List Node → List ℕ → ℕ → List ℕ → Trees → Type 0
Beside k m nodes v i ws ts = (ws ≡ v) × Reps k m nodes i ts

pub row_front :
    (k m n q j : ℕ) (W : List ℕ) (plan : Plan) (counts : ℕ → ℕ) (nodes : List Node) (i y : ℕ) (weights : List ℕ) (trees : Trees) →
    Beside k m nodes (drop j (take q W)) i weights trees → Falling m n plan counts weights trees y →
    Front k m nodes (Beside k m nodes (drop (j + 1) (take q W))) i (get_or W j 0) weights trees
unfolding total many
row_front k m n q j W plan counts nodes i y [] trees h f = absurd (omega (arith, f.inside))
row_front k m n q j W plan counts nodes i y (w ∷ ws) none h f = absurd (omega (arith, f.long))
row_front k m n q j W plan counts nodes i y (w ∷ ws) (more t ts) h f =
    let l : suc (length ws) ≡ length (take q W) - j = ap length h.0 ∙ length-drop j (take q W) in
    let e = drop_more (take q W) j 0 (omega arith) in
    let b : w ∷ ws ≡ get_or (take q W) j 0 ∷ drop (j + 1) (take q W) = h.0 ∙ e in
    let u : w ≡ get_or (take q W) j 0 = cc in
    let v : ws ≡ drop (j + 1) (take q W) = cc in
    let g = get_or-take q W j 0 (omega (arith, length-take q W)) in
    record {
      others = ws;
      tree = t;
      behind = ts;
      is_weights = ap (λ z. z ∷ ws) (u ∙ g);
      is_trees = refl;
      lies = h.1.0;
      lie = (v, subst (λ p. Reps k m nodes (i + p) ts) (sym (rep_size k m nodes i t h.1.0)) h.1.1);
    }

-- the invariant of `fall` at a choice of the house
abbrev pub Passes : List Node → List ℕ → ℕ → ℕ → ℕ → ℕ → ℕ → Type 0
Passes nodes W first x j i y =
    (k m n q : ℕ) (plan : Plan) (counts : ℕ → ℕ) (ts : Trees) → Reps k m nodes first ts →
    Falling m n plan counts (take q W) ts x → Along m n plan counts (Beside k m nodes (drop j (take q W))) (first + places_all ts) (take q W) ts x i y

pub passes_sure : (nodes : List Node) (row : Row) (first x j i y : ℕ) → (s : SomeRow nodes row first x) → Passes nodes row.weights first x j i y → (j < length row.weights) × (i < first + places_all s.ts)
unfolding total many
passes_sure nodes row first x j i y s inv =
    let W = row.weights in
    let a = inv s.k s.m s.n s.q s.plan s.counts s.ts s.lie s.falls in
    let f = row_front s.k s.m s.n s.q j W s.plan s.counts nodes i y a.weights a.trees a.lie a.falls in
    let l : suc (length f.others) ≡ length (take s.q W) - j = sym (ap length f.is_weights) ∙ (ap length a.lie.0 ∙ length-drop j (take s.q W)) in
    (omega (arith, length-take s.q W), omega (arith, a.ends, ap places_all f.is_trees, places_pos f.tree))

pub passes_none : (nodes : List Node) (W : List ℕ) (first x : ℕ) → Passes nodes W first x 0 first x
passes_none nodes W first x k m n q plan counts ts lie f = along_none m n plan counts (Beside k m nodes (take q W)) (take q W) ts x first (refl, lie) f

pub passes_more : (nodes : List Node) (W : List ℕ) (first x j i y : ℕ) → Passes nodes W first x j i y → get_or W j 0 ≤ y → Passes nodes W first x (j + 1) (i + (node_at nodes i).size) (y - get_or W j 0)
passes_more nodes W first x j i y inv le k m n q plan counts ts lie h =
    let a = inv k m n q plan counts ts lie h in
    along_more k m n plan counts nodes (Beside k m nodes (drop j (take q W))) (Beside k m nodes (drop (j + 1) (take q W))) (first + places_all ts) (take q W) ts x i y (get_or W j 0) a
    (row_front k m n q j W plan counts nodes i y a.weights a.trees a.lie a.falls) le

pub passes_here :
    (nodes : List Node) (W : List ℕ) (first x j i y : ℕ) → Passes nodes W first x j i y → y < get_or W j 0 →
    (k m n q : ℕ) (plan : Plan) (counts : ℕ → ℕ) (ts : Trees) → Reps k m nodes first ts → Falling m n plan counts (take q W) ts x → Fallen k m n plan counts nodes (take q W) ts x i
passes_here nodes W first x j i y inv lt k m n q plan counts ts lie h =
    let a = inv k m n q plan counts ts lie h in
    along_here k m n plan counts nodes (Beside k m nodes (drop j (take q W))) (Beside k m nodes (drop (j + 1) (take q W))) (first + places_all ts) (take q W) ts x i y (get_or W j 0) a
    (row_front k m n q j W plan counts nodes i y a.weights a.trees a.lie a.falls) lt

-- the invariant of `fall`: j trees are passed, and the word is y at the tree at i
abbrev pub Going : ℕ → List Row → List Node → Place → ℕ → ℕ → ℕ → ℕ → ℕ → Type 0
Going m rows nodes (Over e) first x j i y = Unit {0}
Going m rows nodes (Deal parts) first x j i y = Deals m parts nodes first x i y
Going m rows nodes (House z s) first x j i y = Passes nodes (get_or rows s no_row).weights first x j i y
Going m rows nodes (Guest z s) first x j i y = Unit {0}

module _ (m : ℕ) (rows : List Row) (nodes : List Node) where
  pub going_none : (p : Place) (first x : ℕ) → Going m rows nodes p first x 0 first x
  going_none (Over e) first x = tt
  going_none (Deal parts) first x = λ k n plan counts ws ts h f. along_none m n plan counts (Weighed k m parts nodes) ws ts x first h f
  going_none (House z s) first x = passes_none nodes (get_or rows s no_row).weights first x
  going_none (Guest z s) first x = tt

  pub going_sure : (p : Place) (first e x j i y : ℕ) → ∥ SomeFall m rows nodes p first e x ∥₁ → Going m rows nodes p first x j i y → Weighable nodes rows p i j × (i < e)
  going_sure (Over o) first e x j i y some inv = ∥∥₁_elim some (hlevel le_prop) (λ s. absurd s)
  going_sure (Deal parts) first e x j i y some inv =
      ∥∥₁_elim some (hlevel le_prop) (λ h. let a = deals_sure m parts nodes first x i y h.0 inv in ((a.0.0, a.0.1), omega (arith, a.1, h.1)))
  going_sure (House z s) first e x j i y some inv =
      ∥∥₁_elim some (hlevel le_prop) (λ h. let a = passes_sure nodes (get_or rows s no_row) first x j i y h.1 inv in ((h.0, a.0), omega (arith, a.1, h.2)))
  going_sure (Guest z s) first e x j i y some inv = ∥∥₁_elim some (hlevel le_prop) (λ s. absurd s)

  pub going_here : (p : Place) (first x j i y : ℕ) → Going m rows nodes p first x j i y → y < weight_at nodes rows m p i j → Falls m rows nodes p first x i
  going_here (Over e) first x j i y inv lt = tt
  going_here (Deal parts) first x j i y inv lt = deals_here m parts nodes first x i y inv lt
  going_here (House z s) first x j i y inv lt = passes_here nodes (get_or rows s no_row).weights first x j i y inv lt
  going_here (Guest z s) first x j i y inv lt = tt

  pub going_more :
      (p : Place) (first x j i y : ℕ) → Going m rows nodes p first x j i y → weight_at nodes rows m p i j ≤ y →
      Going m rows nodes p first x (j + 1) (i + (node_at nodes i).size) (y - weight_at nodes rows m p i j)
  going_more (Over e) first x j i y inv le = tt
  going_more (Deal parts) first x j i y inv le = deals_more m parts nodes first x i y inv le
  going_more (House z s) first x j i y inv le = passes_more nodes (get_or rows s no_row).weights first x j i y inv le
  going_more (Guest z s) first x j i y inv le = tt

  pub going_at : (p : Place) (first x j i y k r : ℕ) → Going m rows nodes p first x j i y → k ≡ j → r ≡ i → Going m rows nodes p first x k r y
  going_at p first x j i y k r inv a b = rw (a, b) inv

  -- as the trees are gone over
  pub going_on :
      (p : Place) (first x j i y k r w : ℕ) (ns : List Node) → Going m rows nodes p first x j i y → w ≡ weight_at nodes rows m p i j → w ≤ y → ns ≡ nodes → k ≡ j + 1 →
      r ≡ i + (node_at ns i).size → Going m rows nodes p first x k r (y - w)
  going_on p first x j i y k r w ns inv u le same a b =
      let e : r ≡ i + (node_at nodes i).size = b ∙ ap (λ v. i + (node_at v i).size) same in
      rw (a, e, u) (going_more p first x j i y inv (omega arith))
