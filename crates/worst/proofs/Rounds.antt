-- The loop over the sights of a row.
use Rattle.std.proofs.Common.{◌≡◌, ℕ, suc, ◌+◌, ◌-◌, ◌*◌, ◌^◌, ◌<◌, ◌≤◌, true, false, eqb, List, [], ◌∷◌, length, get_or, take, drop, sym, refl, ap, ◌∙◌, subst, mul-add, arith, length-drop}
use Rattle.std.proofs.lemmas.List.{length-take-le, take_rest, take-take, take_at}
use Rattle.cards.specs.Game.{Tree, over, deal, ours, theirs, Plan, pick}
use Rattle.cards.specs.Floor.{Item, after}
use Rattle.cards.specs.Reckon.{is_at, same, others, sight_number, least, last}
use Rattle.plans.specs.declared.Row.{Row}
use Rattle.tree.specs.Rep.{Rep, node_at}
use Rattle.tree.specs.declared.Node.{Node}
use Rattle.tree.proofs.Reps.{rep_inside}
use Rattle.worst.specs.Items.{blank, place_sight, Told, told_plan, StandFor, Entries}
use Rattle.worst.specs.Worth.{mass, worth, branch, Choice, Each, AllAt, There}
use Rattle.worst.specs.Rows.{Rows, SomeRows, SomeGroup}
use Rattle.worst.specs.Group.{entry_at, sames, rest_of_row, Groupable, Grouped}
use Rattle.worst.specs.declared.Entry.{Entry}
use Rattle.worst.proofs.Sums.{entries_length, length_room}
use Rattle.worst.proofs.Sifts.{both_lengths}
use Rattle.worst.proofs.Steps.{item0, rows_length}
use Rattle.worst.proofs.Branches.{entry_there, taken_back}
use Rattle.worst.proofs.Worths.{is_sight, each_fit, same_each, others_each, same_at, room_parts, mass_parts, one_same, after_room, worth_each, worth_le, worth_none}

-- the sight in memory is the tree's
rep_sight : (k m : ℕ) (nodes : List Node) (i : ℕ) (t : Tree) → Rep k m nodes i t → place_sight (node_at nodes i).place ≡ sight_number t
rep_sight k m nodes i (over g) r = ap place_sight r.place
rep_sight k m nodes i (deal ws ts) r = ap place_sight r.1.0.place
rep_sight k m nodes i (ours s ts) r = ap place_sight r.1.0.place
rep_sight k m nodes i (theirs s ts) r = ap place_sight r.1.0.place

entry_is : (k m : ℕ) (nodes : List Node) (s : ℕ) (e : Entry) (x : Item) → StandFor k m nodes e x → Choice x.tree → is_at s x.tree ≡ entry_at nodes s e
entry_is k m nodes s e x h c = is_sight s x.tree c ∙ ap (eqb s) (sym (rep_sight k m nodes e.at x.tree h.rep))

-- the entries at a sight stand for the items at it
entries_same : (k m : ℕ) (plan : Plan) (choices : ℕ → ℕ) (most words : ℕ) (nodes : List Node) (s : ℕ) (es : List Entry) (xs : List Item) → Entries k m nodes es xs → Each m plan choices most words xs →
    Entries k m nodes (sames nodes s es) (same s xs) × Entries k m nodes (rest_of_row nodes s es) (others s xs)
entries_same k m plan choices most words nodes s [] [] h o = (tt, tt)
entries_same k m plan choices most words nodes s [] (x ∷ xs) h o = absurd h
entries_same k m plan choices most words nodes s (e ∷ es) [] h o = absurd h
entries_same k m plan choices most words nodes s (e ∷ es) (x ∷ xs) h o =
    let r = entries_same k m plan choices most words nodes s es xs h.1 o.1 in
    subst (λ b. Entries k m nodes (sames nodes s (e ∷ es)) (pick b (x ∷ same s xs) (same s xs)) × Entries k m nodes (rest_of_row nodes s (e ∷ es)) (pick b (others s xs) (x ∷ others s xs))) (sym (entry_is k m nodes s e x h.0 o.0.choice))
    (elim (entry_at nodes s e) as (λ b. Entries k m nodes (pick b (e ∷ sames nodes s es) (sames nodes s es)) (pick b (x ∷ same s xs) (same s xs)) × Entries k m nodes (pick b (rest_of_row nodes s es) (e ∷ rest_of_row nodes s es)) (pick b (others s xs) (x ∷ others s xs)))
    [ true ↦ ((h.0, r.0), r.1) | false ↦ (r.0, (h.0, r.1)) ])

-- each item has a choice, so that its tree has two places at least
all_there : (choices : ℕ → ℕ) → ((i : ℕ) → 0 < choices i) → (xs : List Item) → There choices 0 xs
all_there choices pos [] = tt
all_there choices pos (x ∷ xs) = (pos (sight_number x.tree), all_there choices pos xs)

length_after : (k : ℕ) (xs : List Item) → length (after k xs) ≡ length xs
unfolding after
length_after k [] = refl
length_after k (x ∷ xs) = ap suc (length_after k xs)

two_each : (w : Told) (xs : List Item) (nodes : List Node) (rows : List Row) (m : ℕ) (powers : List ℕ) (len : ℕ) (work : List Entry) → Rows w xs nodes rows m powers len work → len + len ≤ length work
two_each w xs nodes rows m powers len work q =
    let lx = rows_length w xs nodes rows m powers len work q in
    let a = after_room m (told_plan w rows) w.choices w.table w.words 0 xs q.each (all_there w.choices q.bounds.chosen xs) in
    let b = length_room (after 0 xs) in
    let c = length_after 0 xs in
    let f = q.fits in omega arith

-- what the loop keeps: what is left, with the total so far, is worth as much as all
pub record Going (w : Told) (xs : List Item) (nodes : List Node) (rows : List Row) (m : ℕ) (powers : List ℕ) (later : List Entry) (left total : ℕ) : Type 0 where
  pub items : List Item
  pub given : Rows w items nodes rows m powers left later
  pub sum : total + worth m (told_plan w rows) w.choices items ≡ worth m (told_plan w rows) w.choices xs

abbrev pub RoundInv : List Node → List Row → ℕ → List ℕ → ℕ → List Entry → List Entry → ℕ → ℕ → Type 0
RoundInv nodes rows m powers len before later left total =
    (length later ≡ length before) × ((w : Told) (xs : List Item) → Rows w xs nodes rows m powers len before → Going w xs nodes rows m powers later left total)

now_rows : (nodes : List Node) (rows : List Row) (m : ℕ) (powers : List ℕ) (len : ℕ) (before later : List Entry) (left total : ℕ) → (p : SomeRows nodes rows m powers len before) →
    RoundInv nodes rows m powers len before later left total → Going p.told p.items nodes rows m powers later left total
now_rows nodes rows m powers len before later left total p inv = inv.1 p.told p.items p.given

pub round_inside : (nodes : List Node) (rows : List Row) (m : ℕ) (powers : List ℕ) (len : ℕ) (before later : List Entry) (left total : ℕ) → SomeRows nodes rows m powers len before →
    RoundInv nodes rows m powers len before later left total → 0 < left → (0 < length later) × ((get_or later 0 blank).at < length nodes)
round_inside nodes rows m powers len before later left total p inv l =
    let d = now_rows nodes rows m powers len before later left total p inv in
    let le = d.given.len_le in
    (omega arith, rep_inside p.told.table m nodes _ _ (entry_there p.told d.items nodes rows m powers left 0 later d.given l).rep)

pub round_groupable : (nodes : List Node) (rows : List Row) (m : ℕ) (powers : List ℕ) (len : ℕ) (before later : List Entry) (left total s : ℕ) → SomeRows nodes rows m powers len before →
    RoundInv nodes rows m powers len before later left total → Groupable nodes s left later
round_groupable nodes rows m powers len before later left total s p inv =
    let d = now_rows nodes rows m powers len before later left total p inv in
    let t2 = two_each p.told d.items nodes rows m powers left later d.given in
    let b = both_lengths nodes s (take left later) in
    let c = length-take-le left later d.given.len_le in
    record {
      inside = λ j l. rep_inside p.told.table m nodes _ _ (entry_there p.told d.items nodes rows m powers left j later d.given l).rep;
      spare = omega arith;
    }

-- the two parts once the row is put together by sight
pub record Parted (w : Told) (ys : List Item) (nodes : List Node) (rows : List Row) (m : ℕ) (powers : List ℕ) (left s : ℕ) (behind : List Entry) (front : ℕ) : Type 0 where
  pub fewer : front < left
  pub within : left ≤ length behind
  pub group : Rows w (same s ys) nodes rows m powers (left - front) (drop front behind)
  pub all_at : AllAt s (same s ys)
  pub rest : Rows w (others s ys) nodes rows m powers front behind
  pub worth_is : worth m (told_plan w rows) w.choices ys ≡ least (last (w.choices s)) (branch m (told_plan w rows) w.choices (same s ys)) + worth m (told_plan w rows) w.choices (others s ys)

worth_split : (w : Told) (ys : List Item) (nodes : List Node) (rows : List Row) (m : ℕ) (powers : List ℕ) (left s : ℕ) (later : List Entry) → Rows w ys nodes rows m powers left later → 0 < left →
    s ≡ sight_number (get_or ys 0 item0).tree →
    (1 ≤ length (same s ys)) × (worth m (told_plan w rows) w.choices ys ≡ least (last (w.choices s)) (branch m (told_plan w rows) w.choices (same s ys)) + worth m (told_plan w rows) w.choices (others s ys))
unfolding branch
worth_split w [] nodes rows m powers left s later q l e = let lx = rows_length w [] nodes rows m powers left later q in absurd (omega arith)
worth_split w (x ∷ xs) nodes rows m powers left s later q l e =
    let plan = told_plan w rows in (
      subst (λ z. 1 ≤ length (same z (x ∷ xs))) (sym e) (one_same m plan w.choices w.table w.words x xs q.each.0.choice),
      worth_each m plan w.choices w.table w.words q.bounds.chosen (x ∷ xs) q.each
          ∙ ap (λ z. least (last (w.choices z)) (λ k. worth m plan w.choices (after k (same z (x ∷ xs)))) + worth m plan w.choices (others z (x ∷ xs))) (sym e),
    )

pub parted : (w : Told) (ys : List Item) (nodes : List Node) (rows : List Row) (m : ℕ) (powers : List ℕ) (left s : ℕ) (later behind : List Entry) (front : ℕ) → Rows w ys nodes rows m powers left later → 0 < left →
    s ≡ place_sight (node_at nodes (get_or later 0 blank).at).place → length behind ≡ length later → Grouped nodes s left later behind front → Parted w ys nodes rows m powers left s behind front
parted w ys nodes rows m powers left s later behind front q l es kept g =
    let plan = told_plan w rows in
    let es' : s ≡ sight_number (get_or ys 0 item0).tree = es ∙ rep_sight w.table m nodes _ _ (entry_there w ys nodes rows m powers left 0 later q l).rep in
    let sp = worth_split w ys nodes rows m powers left s later q l es' in
    let en = entries_same w.table m plan w.choices w.table w.words nodes s (take left later) ys q.row q.each in
    let ls : length (sames nodes s (take left later)) ≡ length (same s ys) = entries_length w.table m nodes _ _ en.0 in
    let lo : length (rest_of_row nodes s (take left later)) ≡ length (others s ys) = entries_length w.table m nodes _ _ en.1 in
    let bl = both_lengths nodes s (take left later) in
    let tl = length-take-le left later q.len_le in
    let c = g.count in
    let sp0 = sp.0 in
    let le = q.len_le in let f = q.fits in let sm = q.small in
    let rp = room_parts m plan w.choices w.table w.words s ys in
    let mp : w.table * mass m ys ≡ w.table * mass m (same s ys) + w.table * mass m (others s ys) =
    ap (λ z. w.table * z) (sym (mass_parts m plan w.choices w.table w.words s ys)) ∙ mul-add w.table _ _ in
    let lr = length_room (others s ys) in
    let fr : length (rest_of_row nodes s (take left later)) ≡ front = sym c in
    let tb : take (left - front) (drop front behind) ≡ sames nodes s (take left later) = taken_back front left (rest_of_row nodes s (take left later)) behind (sames nodes s (take left later)) fr (omega arith) g.taken in
    let tf : take front behind ≡ rest_of_row nodes s (take left later) =
    sym (take-take front left behind (omega arith)) ∙ ap (take front) g.taken ∙ take_at (rest_of_row nodes s (take left later)) (sames nodes s (take left later)) front fr in
    let ld = length-drop front behind in
    record {
      fewer = omega arith;
      within = omega arith;
      group = record { bounds = q.bounds; len_le = omega arith; row = rw tb en.0; each = same_each m plan w.choices w.table w.words s ys q.each; small = omega arith; fits = omega arith };
      all_at = same_at m plan w.choices w.table w.words s ys q.each;
      rest = record { bounds = q.bounds; len_le = omega arith; row = rw tf en.1; each = others_each m plan w.choices w.table w.words s ys q.each; small = omega arith; fits = omega arith };
      worth_is = sp.1;
    }

pub round_parted : (nodes : List Node) (rows : List Row) (m : ℕ) (powers : List ℕ) (len : ℕ) (before later behind : List Entry) (left total s front : ℕ) → (p : SomeRows nodes rows m powers len before) →
    (inv : RoundInv nodes rows m powers len before later left total) → 0 < left → s ≡ place_sight (node_at nodes (get_or later 0 blank).at).place → length behind ≡ length later → Grouped nodes s left later behind front →
    Parted p.told (inv.1 p.told p.items p.given).items nodes rows m powers left s behind front
round_parted nodes rows m powers len before later behind left total s front p inv l es kept g =
    parted p.told _ nodes rows m powers left s later behind front (inv.1 p.told p.items p.given).given l es kept g

pub round_group : (nodes : List Node) (rows : List Row) (m : ℕ) (powers : List ℕ) (w : Told) (ys : List Item) (behind part : List Entry) (left s front : ℕ) → Parted w ys nodes rows m powers left s behind front →
    part ≡ take (length behind - front) (drop front behind) → SomeGroup nodes rows m powers (left - front) part
round_group nodes rows m powers w ys behind part left s front d pe =
    let f = d.fewer in
    record { told = w; items = same s ys; sight = s; given = subst (λ zs. Rows w (same s ys) nodes rows m powers (left - front) zs) (sym (pe ∙ take_rest behind front)) d.group; all_at = d.all_at; some = omega arith }

abbrev pub Leasts : List Node → List Row → ℕ → List ℕ → ℕ → List Entry → ℕ → Type 0
Leasts nodes rows m powers len work r =
    (w : Told) (xs : List Item) (s : ℕ) → Rows w xs nodes rows m powers len work → AllAt s xs → r ≡ least (last (w.choices s)) (branch m (told_plan w rows) w.choices xs)

pub round_more : (nodes : List Node) (rows : List Row) (m : ℕ) (powers : List ℕ) (len : ℕ) (before later behind last_row : List Entry) (left total s front r : ℕ) →
    RoundInv nodes rows m powers len before later left total → 0 < left → s ≡ place_sight (node_at nodes (get_or later 0 blank).at).place → length behind ≡ length later → Grouped nodes s left later behind front →
    Leasts nodes rows m powers (left - front) (take (length behind - front) (drop front behind)) r → take front last_row ≡ take front behind → length last_row ≡ length behind →
    RoundInv nodes rows m powers len before last_row front (total + r)
round_more nodes rows m powers len before later behind last_row left total s front r inv l es kept g ens tl ll = (
  ll ∙ kept ∙ inv.0,
  λ w xs q.
      let d = inv.1 w xs q in
      let p = parted w d.items nodes rows m powers left s later behind front d.given l es kept g in
      let v = ens w (same s d.items) s (subst (λ zs. Rows w (same s d.items) nodes rows m powers (left - front) zs) (sym (take_rest behind front)) p.group) p.all_at in
      let o = p.rest in
      let a = d.sum in let b = p.worth_is in
      record {
        items = others s d.items;
        given = record { bounds = o.bounds; len_le = rw ll o.len_le; row = rw tl o.row; each = o.each; small = o.small; fits = rw ll o.fits };
        sum = omega arith;
      },
)

pub round_small : (nodes : List Node) (rows : List Row) (m : ℕ) (powers : List ℕ) (len : ℕ) (before later : List Entry) (left total : ℕ) → SomeRows nodes rows m powers len before →
    RoundInv nodes rows m powers len before later left total → total < 2 ^ 62
round_small nodes rows m powers len before later left total p inv =
    let q = p.given in let w = p.told in
    let d = inv.1 w p.items q in
    let a = worth_le m (told_plan w rows) w.choices w.table w.words q.bounds.chosen p.items (each_fit m (told_plan w rows) w.choices w.table w.words p.items q.each) in
    let s = d.sum in let t = q.small in omega arith

no_items : (w : Told) (ys : List Item) (nodes : List Node) (rows : List Row) (m : ℕ) (powers : List ℕ) (left : ℕ) (work : List Entry) → Rows w ys nodes rows m powers left work → left ≡ 0 → worth m (told_plan w rows) w.choices ys ≡ 0
no_items w [] nodes rows m powers left work q e = worth_none m (told_plan w rows) w.choices
no_items w (y ∷ ys) nodes rows m powers left work q e = let lx = rows_length w (y ∷ ys) nodes rows m powers left work q in absurd (omega arith)

pub round_all : (nodes : List Node) (rows : List Row) (m : ℕ) (powers : List ℕ) (len : ℕ) (before later : List Entry) (left total : ℕ) → RoundInv nodes rows m powers len before later left total → left ≡ 0 →
    (w : Told) (xs : List Item) → Rows w xs nodes rows m powers len before → total ≡ worth m (told_plan w rows) w.choices xs
round_all nodes rows m powers len before later left total inv e w xs q =
    let d = inv.1 w xs q in
    let z = no_items w d.items nodes rows m powers left later d.given e in
    let s = d.sum in omega arith
