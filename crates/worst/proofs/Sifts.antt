-- The loop that puts a row together by sight.
use Rattle.std.proofs.Common.{◌≡◌, ℕ, suc, ◌+◌, ◌-◌, ◌<◌, ◌≤◌, true, false, List, [], ◌∷◌, ◌++◌, length, get_or, take, drop, set, sym, refl, ap, ◌∙◌, append-nil, arith, length-append, length-drop}
use Rattle.std.proofs.lemmas.List.{get_or-set_other, take_more, take_more_set, take-set-le, drop-set-add, drop-set-lt, length-take-le, take-append-drop, take-take}
use Rattle.std.proofs.lemmas.Bool.{eq-eqb, ne_eqb}
use Rattle.cards.specs.Game.{pick}
use Rattle.tree.specs.Rep.{node_at}
use Rattle.tree.specs.declared.Node.{Node}
use Rattle.worst.specs.Items.{blank, place_sight}
use Rattle.worst.specs.Group.{entry_at, sames, rest_of_row, Groupable}
use Rattle.worst.specs.declared.Entry.{Entry}

pub sames-++ : (nodes : List Node) (s : ℕ) (es fs : List Entry) → sames nodes s (es ++ fs) ≡ sames nodes s es ++ sames nodes s fs
sames-++ nodes s [] fs = refl
sames-++ nodes s (e ∷ es) fs =
    let h = sames-++ nodes s es fs in
    elim (entry_at nodes s e) as (λ b. pick b (e ∷ sames nodes s (es ++ fs)) (sames nodes s (es ++ fs)) ≡ pick b (e ∷ sames nodes s es) (sames nodes s es) ++ sames nodes s fs)
    [ true ↦ ap (λ zs. e ∷ zs) h | false ↦ h ]

pub rest-++ : (nodes : List Node) (s : ℕ) (es fs : List Entry) → rest_of_row nodes s (es ++ fs) ≡ rest_of_row nodes s es ++ rest_of_row nodes s fs
rest-++ nodes s [] fs = refl
rest-++ nodes s (e ∷ es) fs =
    let h = rest-++ nodes s es fs in
    elim (entry_at nodes s e) as (λ b. pick b (rest_of_row nodes s (es ++ fs)) (e ∷ rest_of_row nodes s (es ++ fs)) ≡ pick b (rest_of_row nodes s es) (e ∷ rest_of_row nodes s es) ++ rest_of_row nodes s fs)
    [ true ↦ h | false ↦ ap (λ zs. e ∷ zs) h ]

pub both_lengths : (nodes : List Node) (s : ℕ) (es : List Entry) → length (rest_of_row nodes s es) + length (sames nodes s es) ≡ length es
both_lengths nodes s [] = refl
both_lengths nodes s (e ∷ es) =
    let h = both_lengths nodes s es in
    elim (entry_at nodes s e) as (λ b. length (pick b (rest_of_row nodes s es) (e ∷ rest_of_row nodes s es)) + length (pick b (e ∷ sames nodes s es) (sames nodes s es)) ≡ suc (length es))
    [ true ↦ omega arith | false ↦ omega arith ]

-- after j entries: the others stand first, those at the sight behind the row, and what was not looked at is as it was
pub record Sift (nodes : List Node) (s len : ℕ) (before later : List Entry) (j kept : ℕ) : Type 0 where
  pub behind : kept ≤ j
  pub front : take kept later ≡ rest_of_row nodes s (take j before)
  pub aside : take (j - kept) (drop len later) ≡ sames nodes s (take j before)
  pub ahead : (i : ℕ) → j ≤ i → i < len → get_or later i blank ≡ get_or before i blank

-- how many were set aside
pub sift_count : (nodes : List Node) (s len : ℕ) (before later : List Entry) (j kept : ℕ) → Groupable nodes s len before → length later ≡ length before → j ≤ len → Sift nodes s len before later j kept →
    (kept ≡ length (rest_of_row nodes s (take j before))) × (j - kept ≡ length (sames nodes s (take j before)))
sift_count nodes s len before later j kept p kl l d =
    let sp = p.spare in let bh = d.behind in
    let a : length (take kept later) ≡ kept = length-take-le kept later (omega arith) in
    let b : length (take j before) ≡ j = length-take-le j before (omega arith) in
    let c = both_lengths nodes s (take j before) in
    let f = ap length d.front in
    (omega arith, omega arith)

-- those set aside so far are no more than those of the row
aside_le : (nodes : List Node) (s len : ℕ) (before : List Entry) (j : ℕ) → j ≤ len → length (sames nodes s (take j before)) ≤ length (sames nodes s (take len before))
aside_le nodes s len before j l =
    let e : take len before ≡ take j before ++ drop j (take len before) = sym (take-append-drop j (take len before)) ∙ ap (λ zs. zs ++ drop j (take len before)) (take-take j len before l) in
    let a : length (sames nodes s (take len before)) ≡ length (sames nodes s (take j before) ++ sames nodes s (drop j (take len before))) = ap (λ zs. length (sames nodes s zs)) e ∙ ap length (sames-++ nodes s (take j before) (drop j (take len before))) in
    let b = length-append (sames nodes s (take j before)) (sames nodes s (drop j (take len before))) in omega arith

one_same : (nodes : List Node) (s : ℕ) (e : Entry) → place_sight (node_at nodes e.at).place ≡ s → (sames nodes s (e ∷ []) ≡ e ∷ []) × (rest_of_row nodes s (e ∷ []) ≡ [])
one_same nodes s e h = let t : entry_at nodes s e ≡ true = eq-eqb s _ (sym h) in (rw t refl, rw t refl)

one_other : (nodes : List Node) (s : ℕ) (e : Entry) → (place_sight (node_at nodes e.at).place ≡ s → ⊥) → (sames nodes s (e ∷ []) ≡ []) × (rest_of_row nodes s (e ∷ []) ≡ e ∷ [])
one_other nodes s e h = let t : entry_at nodes s e ≡ false = ne_eqb s _ (λ z. h (sym z)) in (rw t refl, rw t refl)

one_more : (nodes : List Node) (s len : ℕ) (before later : List Entry) (j kept : ℕ) → Groupable nodes s len before → j < len → Sift nodes s len before later j kept →
    take (j + 1) before ≡ take j before ++ (get_or later j blank ∷ [])
one_more nodes s len before later j kept p l d = let sp = p.spare in take_more before j blank (omega arith) ∙ ap (λ z. take j before ++ (z ∷ [])) (sym (d.ahead j (omega arith) l))

-- there is room behind the row
pub same_room : (nodes : List Node) (s len : ℕ) (before later : List Entry) (j kept : ℕ) → Groupable nodes s len before → length later ≡ length before → j < len → Sift nodes s len before later j kept →
    place_sight (node_at nodes (get_or later j blank).at).place ≡ s → len + (j - kept) < length later
same_room nodes s len before later j kept p kl l d h =
    let n = sift_count nodes s len before later j kept p kl (omega arith) d in
    let e = get_or later j blank in
    let a : length (sames nodes s (take (j + 1) before)) ≡ length (sames nodes s (take j before) ++ (e ∷ [])) =
    ap (λ zs. length (sames nodes s zs)) (one_more nodes s len before later j kept p l d) ∙ ap length (sames-++ nodes s (take j before) (e ∷ [])) ∙ ap (λ zs. length (sames nodes s (take j before) ++ zs)) (one_same nodes s e h).0 in
    let b = length-append (sames nodes s (take j before)) (e ∷ []) in
    let c = aside_le nodes s len before (j + 1) (omega arith) in
    let sp = p.spare in let n1 = n.1 in omega arith

pub sift_same : (nodes : List Node) (s len : ℕ) (before later : List Entry) (j kept : ℕ) → Groupable nodes s len before → length later ≡ length before → j < len → Sift nodes s len before later j kept →
    place_sight (node_at nodes (get_or later j blank).at).place ≡ s → Sift nodes s len before (set later (len + (j - kept)) (get_or later j blank)) (j + 1) kept
sift_same nodes s len before later j kept p kl l d h =
    let e = get_or later j blank in
    let rm = same_room nodes s len before later j kept p kl l d h in
    let bh = d.behind in
    let om = one_more nodes s len before later j kept p l d in
    let os = one_same nodes s e h in
    let q : (j + 1) - kept ≡ (j - kept) + 1 = omega arith in
    let ld : j - kept < length (drop len later) = rw (length-drop len later) (omega arith) in
    record {
      behind = omega arith;
      front = take-set-le kept later (len + (j - kept)) e (omega arith) ∙ d.front ∙ sym (append-nil _) ∙ ap (λ zs. rest_of_row nodes s (take j before) ++ zs) (sym os.1) ∙ sym (rest-++ nodes s (take j before) (e ∷ [])) ∙ ap (rest_of_row nodes s) (sym om);
      aside = ap (λ z. take z (drop len (set later (len + (j - kept)) e))) q ∙ ap (take ((j - kept) + 1)) (drop-set-add len later (j - kept) e) ∙ take_more_set (drop len later) (j - kept) e ld
          ∙ ap (λ zs. zs ++ (e ∷ [])) d.aside ∙ ap (λ zs. sames nodes s (take j before) ++ zs) (sym os.0) ∙ sym (sames-++ nodes s (take j before) (e ∷ [])) ∙ ap (sames nodes s) (sym om);
      ahead = λ i a b. get_or-set_other later (len + (j - kept)) i e blank (λ z. omega arith) ∙ d.ahead i (omega arith) b;
    }

pub sift_other : (nodes : List Node) (s len : ℕ) (before later : List Entry) (j kept : ℕ) → Groupable nodes s len before → length later ≡ length before → j < len → Sift nodes s len before later j kept →
    (place_sight (node_at nodes (get_or later j blank).at).place ≡ s → ⊥) → Sift nodes s len before (set later kept (get_or later j blank)) (j + 1) (kept + 1)
sift_other nodes s len before later j kept p kl l d h =
    let e = get_or later j blank in
    let bh = d.behind in let sp = p.spare in
    let om = one_more nodes s len before later j kept p l d in
    let os = one_other nodes s e h in
    let q : (j + 1) - (kept + 1) ≡ j - kept = omega arith in
    record {
      behind = omega arith;
      front = take_more_set later kept e (omega arith) ∙ ap (λ zs. zs ++ (e ∷ [])) d.front ∙ ap (λ zs. rest_of_row nodes s (take j before) ++ zs) (sym os.1) ∙ sym (rest-++ nodes s (take j before) (e ∷ [])) ∙ ap (rest_of_row nodes s) (sym om);
      aside = ap (λ z. take z (drop len (set later kept e))) q ∙ ap (take (j - kept)) (drop-set-lt len later kept e (omega arith)) ∙ d.aside
          ∙ sym (append-nil _) ∙ ap (λ zs. sames nodes s (take j before) ++ zs) (sym os.0) ∙ sym (sames-++ nodes s (take j before) (e ∷ [])) ∙ ap (sames nodes s) (sym om);
      ahead = λ i a b. get_or-set_other later kept i e blank (λ z. omega arith) ∙ d.ahead i (omega arith) b;
    }

-- what is set aside is moved up at the end
pub moved_fits : (nodes : List Node) (s len : ℕ) (before later : List Entry) (j kept : ℕ) → Groupable nodes s len before → length later ≡ length before → j ≡ len → Sift nodes s len before later j kept →
    (kept ≤ len) × (len + (len - kept) ≤ length later)
moved_fits nodes s len before later j kept p kl e d =
    let n = sift_count nodes s len before later j kept p kl (omega arith) d in
    let a = aside_le nodes s len before j (omega arith) in
    let n1 = n.1 in let bh = d.behind in let sp = p.spare in (omega arith, omega arith)
