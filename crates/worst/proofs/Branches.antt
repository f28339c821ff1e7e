-- The loop over the choices at one sight.
use Rattle.std.proofs.Common.{◌≡◌, ℕ, zero, suc, ◌+◌, ◌-◌, ◌*◌, ◌^◌, ◌<◌, ◌≤◌, min, List, [], ◌∷◌, ◌++◌, length, get_or, take, drop, sym, refl, ap, ◌∙◌, subst, add-one, arith, length-drop}
use Rattle.std.proofs.lemmas.List.{get_or-take, length-take, length-take-le, take_rest, take-take, take_at, drop_at, drop-take}
use Rattle.cards.specs.Game.{Tree, over, deal, ours, theirs, Plan, many}
use Rattle.cards.specs.Floor.{Item, after}
use Rattle.cards.specs.Reckon.{open_of, sight_number, least, last}
use Rattle.plans.specs.declared.Row.{Row}
use Rattle.tree.specs.Rep.{Rep}
use Rattle.tree.specs.declared.Node.{Node}
use Rattle.worst.specs.Items.{parts, blank, Told, told_plan, Fit, StandFor}
use Rattle.worst.specs.Worth.{mass, worth, branch, Choice, AllAt, There}
use Rattle.worst.specs.Rows.{Rows, SomeRows, SomeKth, SomeGroup, Gathered}
use Rattle.worst.specs.declared.Entry.{Entry}
use Rattle.worst.specs.declared.Grown.{Grown}
use Rattle.worst.proofs.Steps.{item0, entries_at, each_at, rows_length}
use Rattle.worst.proofs.Worths.{after_fit, after_room, open_of_each, open_of_room, sure_of_mass, mass_after, at_there, worth_open, worth_le}

-- the least of f 0 to f (k - 1); of none, the largest number there is
unfoldable pub least_to : (ℕ → ℕ) → ℕ → ℕ
least_to f zero = 18446744073709551615
least_to f (suc k) = min (least_to f k) (f k)

least_to_is : (f : ℕ → ℕ) (n : ℕ) → f 0 ≤ 18446744073709551615 → least_to f (suc n) ≡ least n f
unfolding least_to
least_to_is f zero h = omega arith
least_to_is f (suc n) h = ap (λ z. min z (f (suc n))) (least_to_is f n h)

least_last : (f : ℕ → ℕ) (c : ℕ) → 0 < c → f 0 ≤ 18446744073709551615 → least_to f c ≡ least (last c) f
least_last f zero p h = absurd (omega arith)
least_last f (suc c) p h = least_to_is f c h

-- what the loop keeps
abbrev pub KidsInv : List Node → List Row → ℕ → List ℕ → ℕ → List Entry → List Entry → ℕ → ℕ → Type 0
KidsInv nodes rows m powers len before later k best =
    (take len later ≡ take len before) ×
    ((w : Told) (xs : List Item) (s : ℕ) → Rows w xs nodes rows m powers len before → AllAt s xs → best ≡ least_to (branch m (told_plan w rows) w.choices xs) k)

pub kids_none : (nodes : List Node) (rows : List Row) (m : ℕ) (powers : List ℕ) (len : ℕ) (before : List Entry) → KidsInv nodes rows m powers len before before 0 18446744073709551615
unfolding least_to
kids_none nodes rows m powers len before = (refl, λ w xs s q a. refl)

-- the row's first entries are all that counts
pub rows_moved : (w : Told) (xs : List Item) (nodes : List Node) (rows : List Row) (m : ℕ) (powers : List ℕ) (len : ℕ) (before later : List Entry) →
    Rows w xs nodes rows m powers len before → take len later ≡ take len before → length later ≡ length before → Rows w xs nodes rows m powers len later
rows_moved w xs nodes rows m powers len before later q e l =
    record { bounds = q.bounds; len_le = rw l q.len_le; row = rw e q.row; each = q.each; small = q.small; fits = rw l q.fits }

-- the first entry
pub entry_there : (w : Told) (xs : List Item) (nodes : List Node) (rows : List Row) (m : ℕ) (powers : List ℕ) (len j : ℕ) (work : List Entry) → Rows w xs nodes rows m powers len work → j < len →
    StandFor w.table m nodes (get_or work j blank) (get_or xs j item0)
entry_there w xs nodes rows m powers len j work q l =
    subst (λ e. StandFor w.table m nodes e (get_or xs j item0)) (get_or-take len work j blank l)
    (entries_at w.table m nodes (take len work) xs j q.row (rw (length-take-le len work q.len_le) l))

choices_are : (m : ℕ) (plan : Plan) (choices : ℕ → ℕ) (most n : ℕ) (t : Tree) → Choice t → Fit m plan choices most t n → choices (sight_number t) ≡ many (parts t)
unfolding parts
choices_are m plan choices most n (over g) c f = absurd c
choices_are m plan choices most n (deal ws ts) c f = absurd c
choices_are m plan choices most n (ours i ts) c f = absurd c
choices_are m plan choices most n (theirs i ts) c f = f.0

at_first : (s : ℕ) (xs : List Item) → AllAt s xs → 0 < length xs → sight_number (get_or xs 0 item0).tree ≡ s
at_first s [] h l = absurd (omega arith)
at_first s (x ∷ xs) h l = h.0

-- as many choices as were counted
pub count_is : (w : Told) (xs : List Item) (s : ℕ) (nodes : List Node) (rows : List Row) (m : ℕ) (powers : List ℕ) (len : ℕ) (work : List Entry) (count : ℕ) → Rows w xs nodes rows m powers len work → AllAt s xs → 0 < len →
    ((table base : ℕ) (t : Tree) → Rep table base nodes (get_or work 0 blank).at t → count ≡ many (parts t)) → count ≡ w.choices s
count_is w xs s nodes rows m powers len work count q a l ens =
    let lx = rows_length w xs nodes rows m powers len work q in
    let st = entry_there w xs nodes rows m powers len 0 work q l in
    let o = each_at m (told_plan w rows) w.choices w.table w.words xs 0 q.each (omega arith) in
    ens w.table m _ st.rep ∙ sym (choices_are m (told_plan w rows) w.choices w.table _ _ o.choice o.fit) ∙ ap w.choices (at_first s xs a (omega arith))

-- the part that is lent on is shorter
pub part_falls : (before later : List Entry) (len t : ℕ) → length later ≡ length before → 0 < len → len ≤ length before → 2 * length before ≡ t → 2 * length (take (length later - len) (drop len later)) + 1 < t
part_falls before later len t e p l h = let a : length (take (length later - len) (drop len later)) ≡ length later - len = ap length (take_rest later len) ∙ length-drop len later in omega arith

pub part_no_longer : (before later : List Entry) (front t : ℕ) → length later ≡ length before → 2 * length before + 1 ≡ t → 2 * length (take (length later - front) (drop front later)) < t
part_no_longer before later front t e h = let a : length (take (length later - front) (drop front later)) ≡ length later - front = ap length (take_rest later front) ∙ length-drop front later in omega arith

-- what came of the k-th choice

abbrev pub Gathers : List Node → List Row → ℕ → List ℕ → ℕ → ℕ → List Entry → List Entry → Grown → Type 0
Gathers nodes rows m powers len k before later g =
    (w : Told) (xs : List Item) → Rows w xs nodes rows m powers len before → There w.choices k xs → Gathered w xs nodes rows m len k before later g

abbrev pub Counts : List Node → List Entry → ℕ → Type 0
Counts nodes work count = (table base : ℕ) (t : Tree) → Rep table base nodes (get_or work 0 blank).at t → count ≡ many (parts t)

kth_there : (w : Told) (xs : List Item) (s : ℕ) (nodes : List Node) (rows : List Row) (m : ℕ) (powers : List ℕ) (len : ℕ) (work : List Entry) (count k : ℕ) → Rows w xs nodes rows m powers len work → AllAt s xs → 0 < len →
    Counts nodes work count → k < count → There w.choices k xs
kth_there w xs s nodes rows m powers len work count k q a l ens h =
    at_there m (told_plan w rows) w.choices w.table w.words s k xs a (subst (λ z. k < z) (count_is w xs s nodes rows m powers len work count q a l ens) h)

pub kth : (nodes : List Node) (rows : List Row) (m : ℕ) (powers : List ℕ) (len : ℕ) (before later : List Entry) (count k : ℕ) → SomeGroup nodes rows m powers len before → Counts nodes before count →
    take len later ≡ take len before → length later ≡ length before → k < count → SomeKth nodes rows m powers len k later
kth nodes rows m powers len before later count k p ens e l h =
    record {
      told = p.told;
      items = p.items;
      given = rows_moved p.told p.items nodes rows m powers len before later p.given e l;
      there = kth_there p.told p.items p.sight nodes rows m powers len before count k p.given p.all_at p.some ens h;
    }

pub taken_front : (len n : ℕ) (before later new : List Entry) → len ≤ length before → n ≡ len + length new → take n later ≡ take len before ++ new → take len later ≡ take len before
taken_front len n before later new le e t =
    sym (take-take len n later (omega arith)) ∙ ap (take len) t ∙ take_at (take len before) new len (length-take-le len before le)

pub taken_back : (len n : ℕ) (front later new : List Entry) → length front ≡ len → n ≡ len + length new → take n later ≡ front ++ new → take (n - len) (drop len later) ≡ new
taken_back len n front later new le e t =
    let a : n ≡ len + (n - len) = omega arith in
    sym (drop-take len (n - len) later) ∙ ap (λ z. drop len (take z later)) (sym a) ∙ ap (drop len) t ∙ drop_at front new len le

pub gathered_front : (w : Told) (xs : List Item) (nodes : List Node) (rows : List Row) (m : ℕ) (powers : List ℕ) (len k : ℕ) (before later : List Entry) (g : Grown) → Rows w xs nodes rows m powers len before →
    Gathered w xs nodes rows m len k before later g → take len later ≡ take len before
gathered_front w xs nodes rows m powers len k before later g q d = taken_front len g.len before later d.new q.len_le d.len_is d.taken

part_rows : (w : Told) (xs : List Item) (nodes : List Node) (rows : List Row) (m : ℕ) (powers : List ℕ) (len k : ℕ) (before later part : List Entry) (g : Grown) →
    Rows w xs nodes rows m powers len before → There w.choices k xs → length later ≡ length before → Gathered w xs nodes rows m len k before later g → part ≡ drop len later →
    Rows w (open_of m (told_plan w rows) (after k xs)) nodes rows m powers (g.len - len) part
part_rows w xs nodes rows m powers len k before later part g q th kept d pe =
    let plan = told_plan w rows in
    let lx = rows_length w xs nodes rows m powers len before q in
    let af = after_fit m plan w.choices w.table w.words k xs q.each th in
    let ar = after_room m plan w.choices w.table w.words k xs q.each th in
    let rr = open_of_room m plan w.choices w.table w.words (after k xs) in
    let sm = sure_of_mass m plan w.choices w.table w.words (after k xs) af in
    let ma : w.table * mass m (after k xs) ≡ w.table * mass m xs = ap (λ z. w.table * z) (mass_after m plan w.choices w.table w.words k xs) in
    let ld : length part ≡ length later - len = ap length pe ∙ length-drop len later in
    let le = q.len_le in let di = d.len_is in let f = q.fits in let s = q.small in
    let ln : take (g.len - len) part ≡ d.new = ap (take (g.len - len)) pe ∙ taken_back len g.len (take len before) later d.new (length-take-le len before le) di d.taken in
    let li : length (take (g.len - len) part) ≤ length part = rw (length-take (g.len - len) part) (omega arith) in
    let ll : length d.new ≤ length part = subst (λ z. z ≤ length part) (ap length ln) li in
    record { bounds = q.bounds; len_le = omega arith; row = rw ln d.row; each = open_of_each m plan w.choices w.table w.words (after k xs) af; small = omega arith; fits = omega arith }

pub kth_rows : (nodes : List Node) (rows : List Row) (m : ℕ) (powers : List ℕ) (len : ℕ) (later behind part : List Entry) (k : ℕ) (g : Grown) → SomeKth nodes rows m powers len k later →
    length behind ≡ length later → Gathers nodes rows m powers len k later behind g → part ≡ take (length behind - len) (drop len behind) → SomeRows nodes rows m powers (g.len - len) part
kth_rows nodes rows m powers len later behind part k g p kept ens pe =
    record {
      told = p.told;
      items = open_of m (told_plan p.told rows) (after k p.items);
      given = part_rows p.told p.items nodes rows m powers len k later behind part g p.given p.there kept (ens p.told p.items p.given p.there) (pe ∙ take_rest behind len);
    }

pub kth_worth : (nodes : List Node) (rows : List Row) (m : ℕ) (powers : List ℕ) (len : ℕ) (later behind : List Entry) (k r : ℕ) (g : Grown) (w : Told) (xs : List Item) →
    Rows w xs nodes rows m powers len later → There w.choices k xs → length behind ≡ length later → Gathers nodes rows m powers len k later behind g →
    ((w : Told) (xs : List Item) → Rows w xs nodes rows m powers (g.len - len) (take (length behind - len) (drop len behind)) → r ≡ worth m (told_plan w rows) w.choices xs) →
    g.sum + r ≡ branch m (told_plan w rows) w.choices xs k
unfolding branch
kth_worth nodes rows m powers len later behind k r g w xs q th kept ens rec =
    let plan = told_plan w rows in
    let d = ens w xs q th in
    let v = rec w (open_of m plan (after k xs)) (part_rows w xs nodes rows m powers len k later behind _ g q th kept d (take_rest behind len)) in
    let af = after_fit m plan w.choices w.table w.words k xs q.each th in
    rw (d.sum, v) (sym (worth_open m plan w.choices w.table w.words q.bounds.chosen (after k xs) af))

pub branch_small : (w : Told) (xs : List Item) (nodes : List Node) (rows : List Row) (m : ℕ) (powers : List ℕ) (len k : ℕ) (work : List Entry) → Rows w xs nodes rows m powers len work → There w.choices k xs →
    branch m (told_plan w rows) w.choices xs k < 2 ^ 62
unfolding branch
branch_small w xs nodes rows m powers len k work q th =
    let plan = told_plan w rows in
    let af = after_fit m plan w.choices w.table w.words k xs q.each th in
    let a = worth_le m plan w.choices w.table w.words q.bounds.chosen (after k xs) af in
    let b : w.table * mass m (after k xs) ≡ w.table * mass m xs = ap (λ z. w.table * z) (mass_after m plan w.choices w.table w.words k xs) in
    let s = q.small in omega arith

pub kids_more : (nodes : List Node) (rows : List Row) (m : ℕ) (powers : List ℕ) (len : ℕ) (before later behind last_row : List Entry) (count k best r next : ℕ) (g : Grown) → 0 < len → Counts nodes before count →
    KidsInv nodes rows m powers len before later k best → length later ≡ length before → k < count → length behind ≡ length later → Gathers nodes rows m powers len k later behind g →
    ((w : Told) (xs : List Item) → Rows w xs nodes rows m powers (g.len - len) (take (length behind - len) (drop len behind)) → r ≡ worth m (told_plan w rows) w.choices xs) →
    SomeKth nodes rows m powers len k later → take len last_row ≡ take len behind → next ≡ min best (g.sum + r) → KidsInv nodes rows m powers len before last_row (k + 1) next
unfolding least_to
kids_more nodes rows m powers len before later behind last_row count k best r next g some cn inv kept h kb ens rec p tl en = (
  tl ∙ gathered_front p.told p.items nodes rows m powers len k later behind g p.given (ens p.told p.items p.given p.there) ∙ inv.0,
  λ w xs s q a.
      let q' = rows_moved w xs nodes rows m powers len before later q inv.0 kept in
      let th = kth_there w xs s nodes rows m powers len before count k q a some cn h in
      let b = inv.1 w xs s q a in
      let v = kth_worth nodes rows m powers len later behind k r g w xs q' th kb ens rec in
      en ∙ ap (λ z. min z (g.sum + r)) b ∙ ap (λ z. min (least_to (branch m (told_plan w rows) w.choices xs) k) z) v ∙ ap (least_to (branch m (told_plan w rows) w.choices xs)) (sym (add-one k)),
)

pub kids_all : (nodes : List Node) (rows : List Row) (m : ℕ) (powers : List ℕ) (len : ℕ) (before later : List Entry) (count k best : ℕ) → 0 < len → Counts nodes before count →
    KidsInv nodes rows m powers len before later k best → k ≡ count →
    (w : Told) (xs : List Item) (s : ℕ) → Rows w xs nodes rows m powers len before → AllAt s xs → best ≡ least (last (w.choices s)) (branch m (told_plan w rows) w.choices xs)
kids_all nodes rows m powers len before later count k best some cn inv e w xs s q a =
    let c = count_is w xs s nodes rows m powers len before count q a some cn in
    let pos = q.bounds.chosen s in
    let th = at_there m (told_plan w rows) w.choices w.table w.words s 0 xs a pos in
    let f0 = branch_small w xs nodes rows m powers len 0 before q th in
    inv.1 w xs s q a ∙ ap (least_to (branch m (told_plan w rows) w.choices xs)) (e ∙ c) ∙ least_last (branch m (told_plan w rows) w.choices xs) (w.choices s) pos (omega arith)
