-- The loop over the trees of a place of chance.
use Rattle.std.proofs.Common.{◌≡◌, ℕ, suc, ◌+◌, ◌-◌, ◌*◌, ◌^◌, ◌<◌, ◌≤◌, ◌⊎◌, List, [], ◌∷◌, ◌++◌, length, get_or, take, set, sym, refl, ap, ◌∙◌, subst, inl, inr, append_assoc, append-nil, mul-le-mul_right, mul_assoc, mul_comm, mul-le-mul_left, le-mul_of_pos_right, mul_left_comm, add-one, arith, length-append}
use native.Mathlib.Nat.{pow-succ', pow-le-pow_right, one-le-pow}
use Rattle.std.proofs.lemmas.List.{take_more_set}
use Rattle.std.proofs.lemmas.Bool.{cases_lt}
use Rattle.cards.specs.Game.{Tree, over, deal, ours, theirs, Trees, many}
use Rattle.cards.specs.Floor.{nth}
use Rattle.cards.specs.Reckon.{places, places_all, sure, sure_all, open', open_all}
use Rattle.cards.proofs.AtHand.{places_pos}
use Rattle.plans.specs.declared.Row.{Row}
use Rattle.tree.specs.Rep.{Rep, node_at, ends_of}
use Rattle.tree.specs.Siblings.{Stepped}
use Rattle.tree.specs.declared.Node.{Node}
use Rattle.tree.specs.declared.kids.Kids.{Kids}
use Rattle.tree.specs.declared.Sight.{Sight}
use Rattle.tree.specs.declared.Place.{Place}
use Rattle.tree.specs.declared.Place.TheVariants.{Over, Guest}
use Rattle.tree.proofs.Reps.{rep_inside, rep_size, rep_end}
use Rattle.rules.specs.declared.Ends.{Ends}
use Rattle.worst.specs.Items.{Chance, firsts, Told, told_plan, Fit, Entries}
use Rattle.plans.specs.Weights.{weight_at, Weighable}
use Rattle.worst.specs.Spread.{Ready, SomeReady, Spread, Settles, settled, settled_row}
use Rattle.worst.specs.declared.Entry.{Entry}
use Rattle.worst.specs.declared.Grown.{Grown}
use Rattle.worst.proofs.Lay.{places_more, places_firsts_le, many_places, firsts_all, reps_nth}
use Rattle.worst.specs.Worth.{room}
use Rattle.worst.proofs.Sums.{length_room, fits_nth, sure_all_more, open_all_more, sure_firsts_le, get_or_le_total, sure_all_le, open_all_room, entries_append, entries_length}
use Rattle.worst.proofs.Fans.{Fan, fan_of}

-- after k of the trees
pub record Mid (w : Told) (nodes : List Node) (rows : List Row) (m len i times rest : ℕ) (ts : Trees) (ws : List ℕ) (before later : List Entry) (k at : ℕ) (g : Grown) : Type 0 where
  pub so_far : k ≤ many ts
  pub at_is : at ≡ (i + 1) + places_all (firsts k ts)
  pub sum : g.sum ≡ sure_all m (told_plan w rows) (firsts k ts) ws times rest
  pub new : List Entry
  pub len_is : g.len ≡ len + length new
  pub taken : take g.len later ≡ take len before ++ new
  pub row : Entries w.table m nodes new (open_all m (told_plan w rows) (firsts k ts) ws times rest)

pub mid_there : (ts : Trees) (i k at s : ℕ) → k ≤ many ts → at ≡ (i + 1) + places_all (firsts k ts) → s ≡ suc (places_all ts) → at < i + s → k < many ts
mid_there ts i k at s l e z h = go (cases_lt k (many ts))
  where
    go : (k < many ts) ⊎ (many ts ≤ k) → k < many ts
    go (inl a) = a
    go (inr a) = let b = ap places_all (firsts_all ts k a) in absurd (omega arith)

pub mid_done : (ts : Trees) (i k at s : ℕ) → at ≡ (i + 1) + places_all (firsts k ts) → s ≡ suc (places_all ts) → i + s ≤ at → many ts ≤ k
mid_done ts i k at s e z h = go (cases_lt k (many ts))
  where
    go : (k < many ts) ⊎ (many ts ≤ k) → many ts ≤ k
    go (inr a) = a
    go (inl a) = let b = places_more ts k a in let c = places_firsts_le ts (suc k) in let p = places_pos (nth ts k) in absurd (omega arith)

abbrev pub kid_of : Entry → ℕ → ℕ → Entry
kid_of e v at = record { times = e.times * v; left = e.left - 1; at = at }

-- what is known of the k-th tree
pub record KidFacts (w : Told) (tree : Tree) (nodes : List Node) (rows : List Row) (m : ℕ) (powers : List ℕ) (room glen k at v : ℕ) (e : Entry) : Type 0 where
  pub ready : Ready w tree nodes rows m powers room glen (kid_of e v at)
  pub left : 0 < e.left
  pub times : e.times * v < 2 ^ 62
  pub inside : at < length nodes
  pub past : at + (node_at nodes at).size ≤ length nodes
  pub size : 0 < (node_at nodes at).size
  pub few : length nodes < 2 ^ 32
  pub count : k < length nodes

small_kid : (most w v m n : ℕ) → v ≤ m → most * (w * m ^ suc n) < 2 ^ 62 → most * ((w * v) * m ^ n) < 2 ^ 62
small_kid most w v m n l h =
    let a : (w * v) * m ^ n ≤ (w * m) * m ^ n = mul-le-mul_right (m ^ n) (mul-le-mul_left w l) in
    let b : most * ((w * v) * m ^ n) ≤ most * ((w * m) * m ^ n) = mul-le-mul_left most a in
    let e : most * (w * m ^ suc n) ≡ most * ((w * m) * m ^ n) = rw (pow-succ' m n) (simp mul_assoc) in
    omega arith

pub times_le : (most w m n : ℕ) → 0 < most → 0 < m → most * (w * m ^ n) < 2 ^ 62 → w < 2 ^ 62
times_le most w m n p q h =
    let a : w ≤ w * m ^ n = le-mul_of_pos_right w (one-le-pow n m q) in
    let b : w * m ^ n ≤ (w * m ^ n) * most = le-mul_of_pos_right (w * m ^ n) p in
    let e : (w * m ^ n) * most ≡ most * (w * m ^ n) = mul_comm _ _ in omega arith

pub power_le : (most m n n' : ℕ) → 0 < m → n ≤ n' → most * m ^ n' < 2 ^ 62 → most * m ^ n < 2 ^ 62
power_le most m n n' p l h =
    let a : m ^ n ≤ m ^ n' = pow-le-pow_right p l in
    let b : most * m ^ n ≤ most * m ^ n' = mul-le-mul_left most a in omega arith

pub kid_facts : (w : Told) (t : Tree) (nodes : List Node) (rows : List Row) (m : ℕ) (powers : List ℕ) (room len : ℕ) (e : Entry) (before later : List Entry) (k at v : ℕ) (g : Grown) →
    (q : Ready w t nodes rows m powers room len e) → (x : Fan w nodes rows m e.left e.at t) →
    Mid w nodes rows m len e.at e.times x.rest x.trees x.weights before later k at g → k < many x.trees → v ≡ weight_at nodes rows m (node_at nodes e.at).place at k →
    KidFacts w (nth x.trees k) nodes rows m powers room g.len k at v e
kid_facts w t nodes rows m powers room len e before later k at v g q x d l ev =
    let ts = x.trees in
    let b = q.bounds in
    let base : 0 < m = (let z = b.base in omega arith) in
    let vw : get_or x.weights k 0 ≡ v = x.weight_is k l ∙ ap (λ z. weight_at nodes rows m (node_at nodes e.at).place z k) (sym d.at_is) ∙ sym ev in
    let vm : v ≤ m = (let a = get_or_le_total x.weights k in let c = x.total_is in omega arith) in
    let rp : Rep w.table m nodes at (nth ts k) = subst (λ p. Rep w.table m nodes p (nth ts k)) (sym d.at_is) (reps_nth w.table m nodes (e.at + 1) ts k x.reps l) in
    let ft : Fit m (told_plan w rows) w.choices w.table (nth ts k) x.rest = fits_nth m (told_plan w rows) w.choices w.table ts x.rest k x.fits l in
    let lf : e.left - 1 ≡ x.rest = let z = x.left in omega arith in
    let sm : w.table * ((e.times * v) * m ^ x.rest) < 2 ^ 62 = small_kid w.table e.times v m x.rest vm (subst (λ n. w.table * (e.times * m ^ n) < 2 ^ 62) x.left q.small) in
    let rm : g.len + places (nth ts k) ≤ room =
    (let a = entries_length w.table m nodes d.new _ d.row in
    let c = open_all_room m (told_plan w rows) (firsts k ts) x.weights e.times x.rest in
    let f = length_room (open_all m (told_plan w rows) (firsts k ts) x.weights e.times x.rest) in
    let s = places_more ts k l in let u = places_firsts_le ts (suc k) in let z = x.size_is in let y = q.fits in let o = d.len_is in omega arith) in
    record {
      ready = record {
        bounds = b;
        rep = rp;
        fit = subst (λ n. Fit m (told_plan w rows) w.choices w.table (nth ts k) n) (sym lf) ft;
        left = (let z = q.left in omega arith);
        small = subst (λ n. w.table * ((e.times * v) * m ^ n) < 2 ^ 62) (sym lf) sm;
        fits = rm;
      };
      left = (let z = x.left in omega arith);
      times = times_le w.table _ m x.rest b.some base sm;
      inside = rep_inside w.table m nodes at _ rp;
      past = rw (rep_size w.table m nodes at _ rp) (rep_end w.table m nodes at _ rp);
      size = rw (rep_size w.table m nodes at _ rp) (places_pos (nth ts k));
      few = b.few;
      count = (let a = many_places ts in let c = x.size_is in let f = rep_end w.table m nodes e.at t q.rep in omega arith);
    }

pub mid_sum : (w : Told) (t : Tree) (nodes : List Node) (rows : List Row) (m : ℕ) (powers : List ℕ) (room len : ℕ) (e : Entry) (k s : ℕ) →
    (q : Ready w t nodes rows m powers room len e) → (x : Fan w nodes rows m e.left e.at t) →
    s ≡ sure_all m (told_plan w rows) (firsts k x.trees) x.weights e.times x.rest → s < 2 ^ 62
mid_sum w t nodes rows m powers room len e k s q x h =
    let a = sure_firsts_le m (told_plan w rows) x.trees x.weights e.times x.rest k in
    let b = sure_all_le m (told_plan w rows) w.choices w.table x.trees x.weights e.times x.rest x.total_is x.fits in
    let c : w.table * (e.times * m ^ suc x.rest) < 2 ^ 62 = subst (λ n. w.table * (e.times * m ^ n) < 2 ^ 62) x.left q.small in
    omega arith

pub mid_none : (w : Told) (nodes : List Node) (rows : List Row) (m len i times rest : ℕ) (ts : Trees) (ws : List ℕ) (before : List Entry) →
    Mid w nodes rows m len i times rest ts ws before before 0 (i + 1) (record { len = len; sum = 0 })
unfolding firsts
mid_none w nodes rows m len i times rest ts ws before =
    record { so_far = omega arith; at_is = omega arith; sum = refl; new = []; len_is = omega arith; taken = sym (append-nil _); row = tt }

pub mid_more : (w : Told) (nodes : List Node) (rows : List Row) (m len i times rest : ℕ) (ts : Trees) (ws : List ℕ) (before later after : List Entry) (k at : ℕ) (g r : Grown) (kid : Entry) →
    Mid w nodes rows m len i times rest ts ws before later k at g → k < many ts → k < length ws →
    kid.times ≡ times * get_or ws k 0 → kid.left ≡ rest → (node_at nodes at).size ≡ places (nth ts k) →
    Spread w (nth ts k) nodes rows m g.len kid later after r →
    Mid w nodes rows m len i times rest ts ws before after (k + 1) (at + (node_at nodes at).size) (record { len = r.len; sum = g.sum + r.sum })
mid_more w nodes rows m len i times rest ts ws before later after k at g r kid d l h et el sz s =
    let n1 : k + 1 ≡ suc k = add-one k in
    let plan = told_plan w rows in
    let ek : sure m plan (nth ts k) kid.times kid.left ≡ sure m plan (nth ts k) (times * get_or ws k 0) rest = rw (et, el) refl in
    let eo : open' m plan (nth ts k) kid.times kid.left ≡ open' m plan (nth ts k) (times * get_or ws k 0) rest = rw (et, el) refl in
    subst (λ j. Mid w nodes rows m len i times rest ts ws before after j (at + (node_at nodes at).size) (record { len = r.len; sum = g.sum + r.sum })) (sym n1)
    (record {
      so_far = omega arith;
      at_is = (let a = d.at_is in let b = places_more ts k l in omega arith);
      sum = (let a = d.sum in let b = sure_all_more m plan ts ws times rest k l h in let c = s.sum in omega arith);
      new = d.new ++ s.new;
      len_is = simp length-append (let a = d.len_is in let b = s.len_is in omega arith);
      taken = s.taken ∙ ap (λ zs. zs ++ s.new) d.taken ∙ append_assoc (take len before) d.new s.new;
      row = subst (λ zs. Entries w.table m nodes (d.new ++ s.new) zs) (sym (open_all_more m plan ts ws times rest k l h))
          (entries_append w.table m nodes d.new s.new _ _ d.row (subst (λ zs. Entries w.table m nodes s.new zs) eo s.row));
    })

-- what the loop keeps
abbrev pub Inv : List Node → List Row → ℕ → List ℕ → ℕ → Entry → List Entry → List Entry → ℕ → ℕ → Grown → Type 0
Inv nodes rows m powers len e before later k at g =
    (w : Told) (tree : Tree) (q : Ready w tree nodes rows m powers (length before) len e) (x : Fan w nodes rows m e.left e.at tree) →
    Mid w nodes rows m len e.at e.times x.rest x.trees x.weights before later k at g

-- where the iterator over the trees stands, after k of them
pub record Along (nodes : List Node) (rows : List Row) (m : ℕ) (powers : List ℕ) (len : ℕ) (e : Entry) (before later : List Entry) (s : Kids) (k : ℕ) (g : Grown) : Type 0 where
  pub nodes_are : s.nodes.now ≡ nodes
  pub end : s.end ≡ e.at + (node_at nodes e.at).size
  pub inv : Inv nodes rows m powers len e before later k s.at g

pub along_none : (nodes : List Node) (rows : List Row) (m : ℕ) (powers : List ℕ) (len : ℕ) (e : Entry) (before : List Entry) (s : Kids) (k : ℕ) → s.nodes.now ≡ nodes → s.at ≡ e.at + 1 → s.end ≡ e.at + (node_at nodes e.at).size → k ≡ 0 →
    Along nodes rows m powers len e before before s k (record { len = len; sum = 0 })
along_none nodes rows m powers len e before s k en ea ee ek =
    record { nodes_are = en; end = ee; inv = λ w tree q x. rw (ek, ea) (mid_none w nodes rows m len e.at e.times x.rest x.trees x.weights before) }

-- a call gave where the next tree begins
pub along_given : (nodes : List Node) (rows : List Row) (m : ℕ) (powers : List ℕ) (len : ℕ) (e : Entry) (before later : List Entry) (s t : Kids) (n k at : ℕ) (g : Grown) → Along nodes rows m powers len e before later s n g →
    Stepped s.nodes.now s.at s.end at t.nodes.now t.at t.end → k ≡ n → Inv nodes rows m powers len e before later k at g × (at < e.at + (node_at nodes e.at).size)
along_given nodes rows m powers len e before later s t n k at g a d ek =
    let i = d.is in let l = d.there in let f = a.end in
    (rw (ek, i) a.inv, omega arith)

pub along_more : (nodes : List Node) (rows : List Row) (m : ℕ) (powers : List ℕ) (len : ℕ) (e : Entry) (before later after : List Entry) (s t : Kids) (n n' k at : ℕ) (g r : Grown) → Along nodes rows m powers len e before later s n g →
    Stepped s.nodes.now s.at s.end at t.nodes.now t.at t.end → k ≡ n → n' ≡ n + 1 → Inv nodes rows m powers len e before after (k + 1) (at + (node_at nodes at).size) r → Along nodes rows m powers len e before after t n' r
along_more nodes rows m powers len e before later after s t n n' k at g r a d ek en inv =
    let goes : t.at ≡ at + (node_at nodes at).size = d.goes ∙ ap (λ ns. s.at + (node_at ns s.at).size) a.nodes_are ∙ ap (λ z. z + (node_at nodes z).size) (sym d.is) in
    let more : n' ≡ k + 1 = omega arith in
    record { nodes_are = d.same ∙ a.nodes_are; end = d.end ∙ a.end; inv = rw (more, goes) inv }

pub fan_ready : (w : Told) (t : Tree) (nodes : List Node) (rows : List Row) (m : ℕ) (powers : List ℕ) (room len : ℕ) (e : Entry) → Ready w t nodes rows m powers room len e → Chance (node_at nodes e.at).place →
    Fan w nodes rows m e.left e.at t
fan_ready w t nodes rows m powers room len e q c = fan_of w nodes rows m e.left e.at t (let b = q.bounds.base in omega arith) q.rep q.fit c

ready_size : (w : Told) (t : Tree) (nodes : List Node) (rows : List Row) (m : ℕ) (powers : List ℕ) (room len : ℕ) (e : Entry) → (q : Ready w t nodes rows m powers room len e) → (x : Fan w nodes rows m e.left e.at t) →
    (node_at nodes e.at).size ≡ suc (places_all x.trees)
ready_size w t nodes rows m powers room len e q x = rep_size w.table m nodes e.at t q.rep ∙ x.size_is

pub mid_weighable : (nodes : List Node) (rows : List Row) (m : ℕ) (powers : List ℕ) (len : ℕ) (e : Entry) (before later : List Entry) (k at : ℕ) (g : Grown) →
    SomeReady nodes rows m powers (length before) len e → Chance (node_at nodes e.at).place → Inv nodes rows m powers len e before later k at g → at < e.at + (node_at nodes e.at).size →
    Weighable nodes rows (node_at nodes e.at).place at k
mid_weighable nodes rows m powers len e before later k at g p c inv l =
    let q = p.ready in
    let x = fan_ready p.told p.tree nodes rows m powers (length before) len e q c in
    let d = inv p.told p.tree q x in
    let h = mid_there x.trees e.at k at _ d.so_far d.at_is (ready_size p.told p.tree nodes rows m powers (length before) len e q x) l in
    subst (λ z. Weighable nodes rows (node_at nodes e.at).place z k) (sym d.at_is) (x.weighable k h)

-- what the body of the loop may count on
pub record Plain (nodes : List Node) (rows : List Row) (m : ℕ) (powers : List ℕ) (room glen k at v : ℕ) (e : Entry) : Type 0 where
  pub told : Told
  pub tree : Tree
  pub facts : KidFacts told tree nodes rows m powers room glen k at v e

pub plain : (nodes : List Node) (rows : List Row) (m : ℕ) (powers : List ℕ) (len : ℕ) (e : Entry) (before later : List Entry) (k at v : ℕ) (g : Grown) →
    SomeReady nodes rows m powers (length before) len e → Chance (node_at nodes e.at).place → Inv nodes rows m powers len e before later k at g → length later ≡ length before →
    at < e.at + (node_at nodes e.at).size → v ≡ weight_at nodes rows m (node_at nodes e.at).place at k →
    Plain nodes rows m powers (length later) g.len k at v e
plain nodes rows m powers len e before later k at v g p c inv kept l ev =
    let q = p.ready in
    let x = fan_ready p.told p.tree nodes rows m powers (length before) len e q c in
    let d = inv p.told p.tree q x in
    let h = mid_there x.trees e.at k at _ d.so_far d.at_is (ready_size p.told p.tree nodes rows m powers (length before) len e q x) l in
    record {
      told = p.told;
      tree = nth x.trees k;
      facts = subst (λ n. KidFacts p.told (nth x.trees k) nodes rows m powers n g.len k at v e) (sym kept)
          (kid_facts p.told p.tree nodes rows m powers (length before) len e before later k at v g q x d h ev);
    }

pub along_plain : (nodes : List Node) (rows : List Row) (m : ℕ) (powers : List ℕ) (len : ℕ) (e : Entry) (before later : List Entry) (s t : Kids) (n k at v : ℕ) (g : Grown) → SomeReady nodes rows m powers (length before) len e → Chance (node_at nodes e.at).place →
    Along nodes rows m powers len e before later s n g → length later ≡ length before → Stepped s.nodes.now s.at s.end at t.nodes.now t.at t.end → k ≡ n → v ≡ weight_at nodes rows m (node_at nodes e.at).place at k →
    Plain nodes rows m powers (length later) g.len k at v e
along_plain nodes rows m powers len e before later s t n k at v g p c a kept d ek ev =
    let i = along_given nodes rows m powers len e before later s t n k at g a d ek in
    plain nodes rows m powers len e before later k at v g p c i.0 kept i.1 ev

pub next_mid : (nodes : List Node) (rows : List Row) (m : ℕ) (powers : List ℕ) (len : ℕ) (e : Entry) (before later after : List Entry) (k at v : ℕ) (g r : Grown) →
    Inv nodes rows m powers len e before later k at g → length later ≡ length before →
    at < e.at + (node_at nodes e.at).size → v ≡ weight_at nodes rows m (node_at nodes e.at).place at k →
    ((w : Told) (tree : Tree) → Ready w tree nodes rows m powers (length later) g.len (kid_of e v at) → Spread w tree nodes rows m g.len (kid_of e v at) later after r) →
    Inv nodes rows m powers len e before after (k + 1) (at + (node_at nodes at).size) (record { len = r.len; sum = g.sum + r.sum })
next_mid nodes rows m powers len e before later after k at v g r inv kept l ev ens w tree q x =
    let d = inv w tree q x in
    let h = mid_there x.trees e.at k at _ d.so_far d.at_is (ready_size w tree nodes rows m powers (length before) len e q x) l in
    let z = kid_facts w tree nodes rows m powers (length before) len e before later k at v g q x d h ev in
    let s = ens w (nth x.trees k) (subst (λ n. Ready w (nth x.trees k) nodes rows m powers n g.len (kid_of e v at)) (sym kept) z.ready) in
    let vw : get_or x.weights k 0 ≡ v = x.weight_is k h ∙ ap (λ y. weight_at nodes rows m (node_at nodes e.at).place y k) (sym d.at_is) ∙ sym ev in
    mid_more w nodes rows m len e.at e.times x.rest x.trees x.weights before later after k at g r (kid_of e v at) d h (let y = x.many_is in omega arith)
    (ap (λ y. e.times * y) (sym vw))
    (let y = x.left in omega arith)
    (rep_size w.table m nodes at (nth x.trees k) z.ready.rep)
    s

pub next_sum : (nodes : List Node) (rows : List Row) (m : ℕ) (powers : List ℕ) (len : ℕ) (e : Entry) (before later : List Entry) (k at : ℕ) (g : Grown) →
    SomeReady nodes rows m powers (length before) len e → Chance (node_at nodes e.at).place → Inv nodes rows m powers len e before later k at g → g.sum < 2 ^ 62
next_sum nodes rows m powers len e before later k at g p c inv =
    let q = p.ready in
    let x = fan_ready p.told p.tree nodes rows m powers (length before) len e q c in
    mid_sum p.told p.tree nodes rows m powers (length before) len e k g.sum q x (inv p.told p.tree q x).sum

pub mid_all : (nodes : List Node) (rows : List Row) (m : ℕ) (powers : List ℕ) (len : ℕ) (e : Entry) (before later : List Entry) (k at : ℕ) (g : Grown) →
    Chance (node_at nodes e.at).place → Inv nodes rows m powers len e before later k at g → e.at + (node_at nodes e.at).size ≤ at →
    (w : Told) (t : Tree) → Ready w t nodes rows m powers (length before) len e → Spread w t nodes rows m len e before later g
mid_all nodes rows m powers len e before later k at g c inv l w t q =
    let x = fan_ready w t nodes rows m powers (length before) len e q c in
    let d = inv w t q x in
    let h = mid_done x.trees e.at k at _ d.at_is (ready_size w t nodes rows m powers (length before) len e q x) l in
    let a : firsts k x.trees ≡ x.trees = firsts_all x.trees k h in
    record {
      sum = d.sum ∙ ap (λ z. sure_all m (told_plan w rows) z x.weights e.times x.rest) a ∙ sym (x.sure_is e.times);
      new = d.new;
      len_is = d.len_is;
      taken = d.taken;
      row = subst (λ zs. Entries w.table m nodes d.new zs) (ap (λ z. open_all m (told_plan w rows) z x.weights e.times x.rest) a ∙ sym (x.open_is e.times)) d.row;
    }

-- the other places

pub over_is : (k m : ℕ) (nodes : List Node) (i : ℕ) (ends : Ends) (t : Tree) → Rep k m nodes i t → (node_at nodes i).place ≡ Over ends → t ≡ over ends.house
over_is k m nodes i ends (over g) h e = let a = h.place in let b : ends_of k g ≡ ends = cc in ap (λ (z : Ends). over z.house) b
over_is k m nodes i ends (deal ws ts) h e = let a = h.1.0.place in let z : ◌≡◌ {A = ℕ} 0 1 = cc in absurd (omega arith)
over_is k m nodes i ends (ours s ts) h e = let a = h.1.0.place in let z : ◌≡◌ {A = ℕ} 0 1 = cc in absurd (omega arith)
over_is k m nodes i ends (theirs s ts) h e = let a = h.1.0.place in let z : ◌≡◌ {A = ℕ} 0 1 = cc in absurd (omega arith)

pub guest_is : (k m : ℕ) (nodes : List Node) (i : ℕ) (z : Sight) (s : ℕ) (t : Tree) → Rep k m nodes i t → (node_at nodes i).place ≡ Guest z s → (ts : Trees) × (t ≡ theirs s ts)
guest_is k m nodes i z s (over g) h e = let a = h.place in let z : ◌≡◌ {A = ℕ} 0 1 = cc in absurd (omega arith)
guest_is k m nodes i z s (deal ws ts) h e = let a = h.1.0.place in let z : ◌≡◌ {A = ℕ} 0 1 = cc in absurd (omega arith)
guest_is k m nodes i z s (ours j ts) h e = let a = h.1.0.place in let z : ◌≡◌ {A = ℕ} 0 1 = cc in absurd (omega arith)
guest_is k m nodes i z s (theirs j ts) h e = let a = h.1.0.place in let b : j ≡ s = cc in (ts, ap (λ n. theirs n ts) b)

pub over_small : (nodes : List Node) (rows : List Row) (m : ℕ) (powers : List ℕ) (room len : ℕ) (ends : Ends) (e : Entry) → SomeReady nodes rows m powers room len e → (node_at nodes e.at).place ≡ Over ends →
    (e.left < length powers) × (ends.house * get_or powers e.left 0 < 2 ^ 62) × (e.times * (ends.house * get_or powers e.left 0) < 2 ^ 62)
over_small nodes rows m powers room len ends e p is =
    let q = p.ready in let w = p.told in let b = q.bounds in
    let g = ends.house in
    let t = over_is w.table m nodes e.at ends p.tree q.rep is in
    let f : g ≤ w.table = subst (λ z. Fit m (told_plan w rows) w.choices w.table z e.left) t q.fit in
    let ps = b.powers_are e.left q.left in
    let pw : w.table * m ^ e.left < 2 ^ 62 = power_le w.table m e.left w.words (let z = b.base in omega arith) q.left b.below in
    let d : g * m ^ e.left ≤ w.table * m ^ e.left = mul-le-mul_right (m ^ e.left) f in
    let u : e.times * (g * m ^ e.left) ≤ e.times * (w.table * m ^ e.left) = mul-le-mul_left e.times d in
    let v : e.times * (w.table * m ^ e.left) ≡ w.table * (e.times * m ^ e.left) = mul_left_comm _ _ _ in
    let sm = q.small in
    (ps.0, rw ps.1 (omega arith), rw ps.1 (omega arith))

pub over_spread : (w : Told) (t : Tree) (nodes : List Node) (rows : List Row) (m : ℕ) (powers : List ℕ) (room len : ℕ) (ends : Ends) (e : Entry) (row : List Entry) →
    Ready w t nodes rows m powers room len e → (node_at nodes e.at).place ≡ Over ends →
    Spread w t nodes rows m len e row row (record { len = len; sum = e.times * (ends.house * get_or powers e.left 0) })
over_spread w t nodes rows m powers room len ends e row q is =
    let z = over_is w.table m nodes e.at ends t q.rep is in
    let ps = q.bounds.powers_are e.left q.left in
    subst (λ y. Spread w y nodes rows m len e row row (record { len = len; sum = e.times * (ends.house * get_or powers e.left 0) })) (sym z)
    (record { sum = ap (λ y. e.times * (ends.house * y)) ps.1; new = []; len_is = omega arith; taken = sym (append-nil _); row = tt })

pub guest_spread : (w : Told) (t : Tree) (nodes : List Node) (rows : List Row) (m : ℕ) (powers : List ℕ) (len : ℕ) (z : Sight) (s : ℕ) (e : Entry) (row : List Entry) →
    Ready w t nodes rows m powers (length row) len e → (node_at nodes e.at).place ≡ Guest z s →
    Spread w t nodes rows m len e row (set row len e) (record { len = len + 1; sum = 0 })
guest_spread w t nodes rows m powers len z s e row q is =
    let y = guest_is w.table m nodes e.at z s t q.rep is in
    let l : len < length row = (let h = q.fits in let p = places_pos t in omega arith) in
    subst (λ y. Spread w y nodes rows m len e row (set row len e) (record { len = len + 1; sum = 0 })) (sym y.1)
    (record {
      sum = refl;
      new = e ∷ [];
      len_is = refl;
      taken = take_more_set row len e l;
      row = (record { times = refl; left = refl; rep = subst (λ y. Rep w.table m nodes e.at y) y.1 q.rep }, tt);
    })

-- the hand is over at i, or the guest is to choose
abbrev pub SettledAt : List Node → ℕ → Type 0
SettledAt nodes i = ((g : Ends) × ((node_at nodes i).place ≡ Over g)) ⊎ ((z : Sight) × (j : ℕ) × ((node_at nodes i).place ≡ Guest z j))

pub settles_of : (nodes : List Node) (rows : List Row) (m : ℕ) (powers : List ℕ) (room len : ℕ) (e : Entry) → SomeReady nodes rows m powers room len e → SettledAt nodes e.at → Settles nodes powers room len e
settles_of nodes rows m powers room len e p (inl h) =
    let q = p.ready in
    let o = over_small nodes rows m powers room len h.0 e p h.1 in
    record {
      inside = rep_inside _ _ _ _ _ q.rep;
      spare = (let f = q.fits in let z = places_pos p.tree in omega arith);
      power = o.0;
      ends = rw h.1 o.1;
      adds = rw h.1 o.2;
    }
settles_of nodes rows m powers room len e p (inr h) =
    let q = p.ready in
    record {
      inside = rep_inside _ _ _ _ _ q.rep;
      spare = (let f = q.fits in let z = places_pos p.tree in omega arith);
      power = (q.bounds.powers_are e.left q.left).0;
      ends = rw h.2 (omega arith);
      adds = rw h.2 (omega arith);
    }

settle_spread : (w : Told) (t : Tree) (nodes : List Node) (rows : List Row) (m : ℕ) (powers : List ℕ) (len : ℕ) (e : Entry) (row later : List Entry) (r : Grown) → SettledAt nodes e.at →
    r ≡ settled (node_at nodes e.at).place powers len e → later ≡ settled_row (node_at nodes e.at).place len e row →
    Ready w t nodes rows m powers (length row) len e → Spread w t nodes rows m len e row later r
settle_spread w t nodes rows m powers len e row later r (inl h) er el q =
    let a = er ∙ ap (λ (p : Place). settled p powers len e) h.1 in
    let b = el ∙ ap (λ (p : Place). settled_row p len e row) h.1 in
    rw (a, b) (over_spread w t nodes rows m powers (length row) len h.0 e row q h.1)
settle_spread w t nodes rows m powers len e row later r (inr h) er el q =
    let a = er ∙ ap (λ (p : Place). settled p powers len e) h.2 in
    let b = el ∙ ap (λ (p : Place). settled_row p len e row) h.2 in
    rw (a, b) (guest_spread w t nodes rows m powers len h.0 h.1 e row q h.2)

-- what spreading an entry out promises
abbrev pub Spreads : List Node → List Row → ℕ → List ℕ → ℕ → Entry → List Entry → List Entry → Grown → Type 0
Spreads nodes rows m powers len e row later r = (w : Told) (tree : Tree) → Ready w tree nodes rows m powers (length row) len e → Spread w tree nodes rows m len e row later r

pub settle_spreads : (nodes : List Node) (rows : List Row) (m : ℕ) (powers : List ℕ) (len : ℕ) (e : Entry) (row later : List Entry) (r : Grown) → SettledAt nodes e.at →
    r ≡ settled (node_at nodes e.at).place powers len e → later ≡ settled_row (node_at nodes e.at).place len e row → Spreads nodes rows m powers len e row later r
settle_spreads nodes rows m powers len e row later r h er el w t q = settle_spread w t nodes rows m powers len e row later r h er el q
