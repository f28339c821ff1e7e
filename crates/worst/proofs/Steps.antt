-- The loop that spreads out the trees after a choice.
use Rattle.std.proofs.Common.{◌≡◌, ℕ, zero, suc, ◌+◌, ◌*◌, ◌^◌, ◌<◌, ◌≤◌, List, [], ◌∷◌, ◌++◌, length, get_or, take, drop, sym, refl, ap, ◌∙◌, subst, append_assoc, append-nil, mul-le-mul_left, arith, length-append}
use Rattle.std.proofs.lemmas.List.{get_or-take, take_more, get_or_append_left, length-take-le, take-append-drop, take_all}
use Rattle.cards.specs.Game.{Tree, over, deal, ours, theirs, Plan, many}
use Rattle.cards.specs.Floor.{Item, nth, next, after}
use Rattle.cards.specs.Reckon.{places, places_all, item, sure, open', sure_of, open_of, sight_number}
use Rattle.plans.specs.declared.Row.{Row}
use Rattle.tree.specs.Rep.{Rep}
use Rattle.tree.specs.declared.Node.{Node}
use Rattle.worst.specs.Items.{firsts, parts, blank, Told, told_plan, Fit, StandFor, Entries, SomeNth}
use Rattle.worst.specs.Spread.{Ready, SomeReady, Spread}
use Rattle.worst.specs.Worth.{room, mass, Choice, One, Each, There}
use Rattle.worst.specs.Rows.{Rows, SomeKth, Gathered}
use Rattle.worst.specs.declared.Entry.{Entry}
use Rattle.worst.specs.declared.Grown.{Grown}
use Rattle.worst.proofs.Lay.{rep_parts, reps_nth}
use Rattle.worst.proofs.Sums.{room-++, length_room, fits_nth, entries_append, entries_length}
use Rattle.worst.proofs.Worths.{after_fit, after_room, open_of_room, sure_of_mass, mass_after}

abbrev pub item0 : Item
item0 = item 0 0 (over 0)

pub after-++ : (k : ℕ) (xs ys : List Item) → after k (xs ++ ys) ≡ after k xs ++ after k ys
unfolding after
after-++ k [] ys = refl
after-++ k (x ∷ xs) ys = ap (λ zs. item x.times x.left (next k x.tree) ∷ zs) (after-++ k xs ys)

pub sure_of-++ : (m : ℕ) (plan : Plan) (xs ys : List Item) → sure_of m plan (xs ++ ys) ≡ sure_of m plan xs + sure_of m plan ys
sure_of-++ m plan [] ys = omega arith
sure_of-++ m plan (x ∷ xs) ys = let e = sure_of-++ m plan xs ys in omega arith

pub open_of-++ : (m : ℕ) (plan : Plan) (xs ys : List Item) → open_of m plan (xs ++ ys) ≡ open_of m plan xs ++ open_of m plan ys
open_of-++ m plan [] ys = refl
open_of-++ m plan (x ∷ xs) ys =
    ap (λ zs. open' m plan x.tree x.times x.left ++ zs) (open_of-++ m plan xs ys) ∙ sym (append_assoc (open' m plan x.tree x.times x.left) _ _)

-- one of the items

pub entries_at : (k m : ℕ) (nodes : List Node) (es : List Entry) (xs : List Item) (j : ℕ) → Entries k m nodes es xs → j < length es → StandFor k m nodes (get_or es j blank) (get_or xs j item0)
entries_at k m nodes [] xs j h l = absurd (omega arith)
entries_at k m nodes (e ∷ es) [] j h l = absurd h
entries_at k m nodes (e ∷ es) (x ∷ xs) zero h l = h.0
entries_at k m nodes (e ∷ es) (x ∷ xs) (suc j) h l = entries_at k m nodes es xs j h.1 (omega arith)

pub each_at : (m : ℕ) (plan : Plan) (choices : ℕ → ℕ) (most words : ℕ) (xs : List Item) (j : ℕ) → Each m plan choices most words xs → j < length xs → One m plan choices most words (get_or xs j item0)
each_at m plan choices most words [] j h l = absurd (omega arith)
each_at m plan choices most words (x ∷ xs) zero h l = h.0
each_at m plan choices most words (x ∷ xs) (suc j) h l = each_at m plan choices most words xs j h.1 (omega arith)

there_at : (choices : ℕ → ℕ) (k : ℕ) (xs : List Item) (j : ℕ) → There choices k xs → j < length xs → k < choices (sight_number (get_or xs j item0).tree)
there_at choices k [] j h l = absurd (omega arith)
there_at choices k (x ∷ xs) zero h l = h.0
there_at choices k (x ∷ xs) (suc j) h l = there_at choices k xs j h.1 (omega arith)

mass_at : (m : ℕ) (xs : List Item) (j : ℕ) → j < length xs → (get_or xs j item0).times * m ^ (get_or xs j item0).left ≤ mass m xs
mass_at m [] j l = absurd (omega arith)
mass_at m (x ∷ xs) zero l = omega arith
mass_at m (x ∷ xs) (suc j) l = let e = mass_at m xs j (omega arith) in omega arith

-- the tree after choice k
pub record Chosen (plan : Plan) (choices : ℕ → ℕ) (m most n k : ℕ) (t : Tree) : Type 0 where
  pub below : k < many (parts t)
  pub next_is : next k t ≡ nth (parts t) k
  pub fit : Fit m plan choices most (next k t) n

pub chosen_of : (plan : Plan) (choices : ℕ → ℕ) (m most n k : ℕ) (t : Tree) → Choice t → Fit m plan choices most t n → k < choices (sight_number t) → Chosen plan choices m most n k t
unfolding parts next
chosen_of plan choices m most n k (over g) c f l = absurd c
chosen_of plan choices m most n k (deal ws ts) c f l = absurd c
chosen_of plan choices m most n k (ours i ts) c f l = absurd c
chosen_of plan choices m most n k (theirs i ts) c f l =
    let e = f.0 in let b : k < many ts = omega arith in
    record { below = b; next_is = refl; fit = fits_nth m plan choices most ts n k f.1 b }

-- what the loop keeps
abbrev pub Inv : List Node → List Row → ℕ → List ℕ → ℕ → ℕ → List Entry → List Entry → ℕ → Grown → Type 0
Inv nodes rows m powers len k before later j g =
    (w : Told) (xs : List Item) → Rows w xs nodes rows m powers len before → There w.choices k xs → Gathered w (take j xs) nodes rows m len k before later g

pub rows_length : (w : Told) (xs : List Item) (nodes : List Node) (rows : List Row) (m : ℕ) (powers : List ℕ) (len : ℕ) (work : List Entry) → Rows w xs nodes rows m powers len work → length xs ≡ len
rows_length w xs nodes rows m powers len work q = sym (entries_length w.table m nodes (take len work) xs q.row) ∙ length-take-le len work q.len_le

-- the entry at j is still the one that was there
still : (len j n : ℕ) (before later new : List Entry) → len ≤ length before → n ≡ len + length new → take n later ≡ take len before ++ new → j < len → get_or later j blank ≡ get_or (take len before) j blank
still len j n before later new le e t l =
    let a : j < length (take len before) = rw (length-take-le len before le) l in
    sym (get_or-take n later j blank (omega arith)) ∙ ap (λ zs. get_or zs j blank) t ∙ get_or_append_left (take len before) new blank j a

-- the j-th entry, its item and the item's tree after choice k
pub record Here (w : Told) (xs : List Item) (nodes : List Node) (rows : List Row) (m k j : ℕ) (e : Entry) : Type 0 where
  pub stands : StandFor w.table m nodes e (get_or xs j item0)
  pub one : One m (told_plan w rows) w.choices w.table w.words (get_or xs j item0)
  pub chosen : Chosen (told_plan w rows) w.choices m w.table (get_or xs j item0).left k (get_or xs j item0).tree
  pub inside : j < length xs

here : (w : Told) (xs zs : List Item) (nodes : List Node) (rows : List Row) (m : ℕ) (powers : List ℕ) (len k : ℕ) (before later : List Entry) (g : Grown) (j : ℕ) →
    Rows w xs nodes rows m powers len before → There w.choices k xs → Gathered w zs nodes rows m len k before later g → j < len → Here w xs nodes rows m k j (get_or later j blank)
here w xs zs nodes rows m powers len k before later g j q th d l =
    let lx = rows_length w xs nodes rows m powers len before q in
    let jx : j < length xs = omega arith in
    let o = each_at m (told_plan w rows) w.choices w.table w.words xs j q.each jx in
    record {
      stands = subst (λ e. StandFor w.table m nodes e (get_or xs j item0)) (sym (still len j g.len before later d.new q.len_le d.len_is d.taken l))
          (entries_at w.table m nodes (take len before) xs j q.row (rw (length-take-le len before q.len_le) l));
      one = o;
      chosen = chosen_of (told_plan w rows) w.choices m w.table _ k _ o.choice o.fit (there_at w.choices k xs j th jx);
      inside = jx;
    }

some_here : (nodes : List Node) (rows : List Row) (m : ℕ) (powers : List ℕ) (len k : ℕ) (before later : List Entry) (g : Grown) (j : ℕ) → (p : SomeKth nodes rows m powers len k before) →
    Inv nodes rows m powers len k before later j g → j < len → Here p.told p.items nodes rows m k j (get_or later j blank)
some_here nodes rows m powers len k before later g j p inv l =
    here p.told p.items _ nodes rows m powers len k before later g j p.given p.there (inv p.told p.items p.given p.there) l

pub step_kid : (nodes : List Node) (rows : List Row) (m : ℕ) (powers : List ℕ) (len k : ℕ) (before later : List Entry) (g : Grown) (j : ℕ) → (p : SomeKth nodes rows m powers len k before) →
    Inv nodes rows m powers len k before later j g → j < len → SomeNth nodes (get_or later j blank).at k
step_kid nodes rows m powers len k before later g j p inv l =
    let h = some_here nodes rows m powers len k before later g j p inv l in
    let t = (get_or p.items j item0).tree in
    record {
      kid = record { table = p.told.table; base = m; trees = parts t; reps = rep_parts p.told.table m nodes _ t h.stands.rep; there = h.chosen.below; few = p.given.bounds.few };
      tree = t;
      rep = h.stands.rep;
      parts_are = refl;
    }

abbrev pub After : List Node → ℕ → ℕ → ℕ → Type 0
After nodes i k at = (table base : ℕ) (t : Tree) → Rep table base nodes i t → k < many (parts t) → at ≡ (i + 1) + places_all (firsts k (parts t))

abbrev pub kid_of : Entry → ℕ → Entry
kid_of e at = record { times = e.times; left = e.left; at = at }

after_one : (k : ℕ) (xs : List Item) (j : ℕ) → j < length xs →
    after k (take (j + 1) xs) ≡ after k (take j xs) ++ (item (get_or xs j item0).times (get_or xs j item0).left (next k (get_or xs j item0).tree) ∷ [])
unfolding after
after_one k xs j l = ap (after k) (take_more xs j item0 l) ∙ after-++ k (take j xs) (get_or xs j item0 ∷ [])

-- the room for the trees so far and the next one
kid_room : (w : Told) (xs : List Item) (nodes : List Node) (rows : List Row) (m : ℕ) (powers : List ℕ) (len k : ℕ) (before later : List Entry) (g : Grown) (j : ℕ) → Rows w xs nodes rows m powers len before → There w.choices k xs →
    Gathered w (take j xs) nodes rows m len k before later g → j < length xs → g.len + places (next k (get_or xs j item0).tree) ≤ length before
kid_room w xs nodes rows m powers len k before later g j q th d l =
    let plan = told_plan w rows in
    let lx = rows_length w xs nodes rows m powers len before q in
    let ln = entries_length w.table m nodes d.new _ d.row in
    let lr = length_room (open_of m plan (after k (take j xs))) in
    let rr = open_of_room m plan w.choices w.table w.words (after k (take j xs)) in
    let ar = after_room m plan w.choices w.table w.words k xs q.each th in
    let x = get_or xs j item0 in
    let e1 : room (after k (take (j + 1) xs)) ≡ room (after k (take j xs)) + (places (next k x.tree) + 0) = ap room (after_one k xs j l) ∙ room-++ (after k (take j xs)) _ in
    let e2 : room (after k xs) ≡ room (after k (take (j + 1) xs)) + room (after k (drop (j + 1) xs)) =
    ap (λ zs. room (after k zs)) (sym (take-append-drop (j + 1) xs)) ∙ ap room (after-++ k (take (j + 1) xs) (drop (j + 1) xs)) ∙ room-++ (after k (take (j + 1) xs)) _ in
    let li = d.len_is in let f = q.fits in omega arith

pub ready_kth : (w : Told) (xs : List Item) (nodes : List Node) (rows : List Row) (m : ℕ) (powers : List ℕ) (len k : ℕ) (before later : List Entry) (g : Grown) (j at : ℕ) →
    Rows w xs nodes rows m powers len before → There w.choices k xs → Gathered w (take j xs) nodes rows m len k before later g → j < len → length later ≡ length before →
    After nodes (get_or later j blank).at k at → Ready w (next k (get_or xs j item0).tree) nodes rows m powers (length later) g.len (kid_of (get_or later j blank) at)
ready_kth w xs nodes rows m powers len k before later g j at q th d l kept ea =
    let h = here w xs _ nodes rows m powers len k before later g j q th d l in
    let x = get_or xs j item0 in
    let s = h.stands in let ch = h.chosen in
    let rs = rep_parts w.table m nodes _ x.tree s.rep in
    let rp : Rep w.table m nodes at (next k x.tree) =
    subst (λ t. Rep w.table m nodes at t) (sym ch.next_is)
    (subst (λ p. Rep w.table m nodes p (nth (parts x.tree) k)) (sym (ea w.table m x.tree s.rep ch.below)) (reps_nth w.table m nodes _ (parts x.tree) k rs ch.below)) in
    let ma : w.table * (x.times * m ^ x.left) ≤ w.table * mass m xs = mul-le-mul_left w.table (mass_at m xs j h.inside) in
    let sm : w.table * (x.times * m ^ x.left) < 2 ^ 62 = (let z = q.small in omega arith) in
    let rm = kid_room w xs nodes rows m powers len k before later g j q th d h.inside in
    record { bounds = q.bounds; rep = rp; fit = rw s.left ch.fit; left = rw s.left h.one.left; small = rw (s.times, s.left) sm; fits = omega arith }

pub some_ready_kth : (nodes : List Node) (rows : List Row) (m : ℕ) (powers : List ℕ) (len k : ℕ) (before later : List Entry) (g : Grown) (j at : ℕ) → (p : SomeKth nodes rows m powers len k before) →
    Inv nodes rows m powers len k before later j g → j < len → length later ≡ length before → After nodes (get_or later j blank).at k at →
    SomeReady nodes rows m powers (length later) g.len (kid_of (get_or later j blank) at)
some_ready_kth nodes rows m powers len k before later g j at p inv l kept ea =
    record {
      told = p.told;
      tree = next k (get_or p.items j item0).tree;
      ready = ready_kth p.told p.items nodes rows m powers len k before later g j at p.given p.there (inv p.told p.items p.given p.there) l kept ea;
    }

pub step_more : (nodes : List Node) (rows : List Row) (m : ℕ) (powers : List ℕ) (len k : ℕ) (before later behind : List Entry) (g r : Grown) (j at : ℕ) →
    Inv nodes rows m powers len k before later j g → j < len → length later ≡ length before → After nodes (get_or later j blank).at k at →
    ((w : Told) (tree : Tree) → Ready w tree nodes rows m powers (length later) g.len (kid_of (get_or later j blank) at) → Spread w tree nodes rows m g.len (kid_of (get_or later j blank) at) later behind r) →
    Inv nodes rows m powers len k before behind (j + 1) (record { len = r.len; sum = g.sum + r.sum })
step_more nodes rows m powers len k before later behind g r j at inv l kept ea ens w xs q th =
    let plan = told_plan w rows in
    let d = inv w xs q th in
    let h = here w xs _ nodes rows m powers len k before later g j q th d l in
    let x = get_or xs j item0 in
    let t = next k x.tree in
    let sp = ens w t (ready_kth w xs nodes rows m powers len k before later g j at q th d l kept ea) in
    let s = h.stands in
    let ao = after_one k xs j h.inside in
    let su : sure_of m plan (after k (take (j + 1) xs)) ≡ sure_of m plan (after k (take j xs)) + (sure m plan t x.times x.left + 0) =
    ap (sure_of m plan) ao ∙ sure_of-++ m plan (after k (take j xs)) _ in
    let op : open_of m plan (after k (take (j + 1) xs)) ≡ open_of m plan (after k (take j xs)) ++ (open' m plan t x.times x.left ++ []) =
    ap (open_of m plan) ao ∙ open_of-++ m plan (after k (take j xs)) _ in
    let ec : sure m plan t (get_or later j blank).times (get_or later j blank).left ≡ sure m plan t x.times x.left = rw (s.times, s.left) refl in
    let eo : open' m plan t (get_or later j blank).times (get_or later j blank).left ≡ open' m plan t x.times x.left ++ [] = rw (s.times, s.left) (sym (append-nil _)) in
    record {
      sum = (let a = d.sum in let b = sp.sum in omega arith);
      new = d.new ++ sp.new;
      len_is = simp length-append (let a = d.len_is in let b = sp.len_is in omega arith);
      taken = sp.taken ∙ ap (λ zs. zs ++ sp.new) d.taken ∙ append_assoc (take len before) d.new sp.new;
      row = subst (λ zs. Entries w.table m nodes (d.new ++ sp.new) zs) (sym op) (entries_append w.table m nodes d.new sp.new _ _ d.row (subst (λ zs. Entries w.table m nodes sp.new zs) eo sp.row));
    }

pub sum_small : (nodes : List Node) (rows : List Row) (m : ℕ) (powers : List ℕ) (len k : ℕ) (before later : List Entry) (g : Grown) (j : ℕ) → SomeKth nodes rows m powers len k before →
    Inv nodes rows m powers len k before later j g → g.sum < 2 ^ 62
sum_small nodes rows m powers len k before later g j p inv =
    let q = p.given in let xs = p.items in let w = p.told in let plan = told_plan w rows in
    let d = inv w xs q p.there in
    let a = sure_of_mass m plan w.choices w.table w.words (after k xs) (after_fit m plan w.choices w.table w.words k xs q.each p.there) in
    let b : w.table * mass m (after k xs) ≡ w.table * mass m xs = ap (λ z. w.table * z) (mass_after m plan w.choices w.table w.words k xs) in
    let c : sure_of m plan (after k xs) ≡ sure_of m plan (after k (take j xs)) + sure_of m plan (after k (drop j xs)) =
    ap (λ zs. sure_of m plan (after k zs)) (sym (take-append-drop j xs)) ∙ ap (sure_of m plan) (after-++ k (take j xs) (drop j xs)) ∙ sure_of-++ m plan _ _ in
    let e = d.sum in let f = q.small in omega arith

pub step_none : (nodes : List Node) (rows : List Row) (m : ℕ) (powers : List ℕ) (len k : ℕ) (before : List Entry) → Inv nodes rows m powers len k before before 0 (record { len = len; sum = 0 })
unfolding after
step_none nodes rows m powers len k before w xs q th = record { sum = refl; new = []; len_is = omega arith; taken = sym (append-nil _); row = tt }

pub step_all : (nodes : List Node) (rows : List Row) (m : ℕ) (powers : List ℕ) (len k : ℕ) (before later : List Entry) (g : Grown) (j : ℕ) → Inv nodes rows m powers len k before later j g → j ≡ len →
    (w : Told) (xs : List Item) → Rows w xs nodes rows m powers len before → There w.choices k xs → Gathered w xs nodes rows m len k before later g
step_all nodes rows m powers len k before later g j inv e w xs q th =
    let lx = rows_length w xs nodes rows m powers len before q in
    subst (λ zs. Gathered w zs nodes rows m len k before later g) (take_all j xs (omega arith)) (inv w xs q th)
