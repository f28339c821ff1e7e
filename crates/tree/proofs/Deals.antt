-- Writing a deal rank by rank. Assumes nothing.
use Rattle.std.proofs.Common.{◌≡◌, ℕ, nat_lt, cond, zero, suc, ◌+◌, ◌<◌, ◌≤◌, List, [], ◌∷◌, ◌++◌, length, get_or, take, drop, sym, refl, ap, ◌∙◌, add-zero, arith, length-append, take-append-drop}
use Rattle.std.specs.List.{filter}
use Rattle.std.proofs.lemmas.Bool.{lt-ltb}
use Rattle.std.proofs.lemmas.List.{append_assoc, append-nil, take_more, take_all, length-take-le, take-take}
use Rattle.tree.specs.declared.Node.{Node}
use Rattle.tree.specs.Compact.{Play, size, sizes, each}
use Rattle.rules.specs.Play.{left}
use Rattle.tree.specs.Flat.{unnumbered, raw, put, Written}
use Rattle.cards.specs.Game.{total}
use Rattle.tree.proofs.Put.{put_more}
use Rattle.tree.proofs.Lay.{Rows, raws, length_flats, length_flat}

module _ (then : ℕ → Play) where
  abbrev dealt_row : ℕ → List ℕ → List Node
  dealt_row r d = raws (left d) (each r d then)

  row_append : (r : ℕ) (d e : List ℕ) → dealt_row r (d ++ e) ≡ dealt_row r d ++ dealt_row (r + length d) e
  row_append r [] e = ap (λ n. dealt_row n e) (sym (add-zero r))
  row_append r (zero ∷ d) e =
      let s : suc r + length d ≡ r + suc (length d) = omega arith in
      row_append (suc r) d e ∙ ap (λ n. dealt_row (suc r) d ++ dealt_row n e) s
  row_append r (suc c ∷ d) e =
      let s : suc r + length d ≡ r + suc (length d) = omega arith in
      ap (λ l. raw (suc c) (then r) ++ l) (row_append (suc r) d e ∙ ap (λ n. dealt_row (suc r) d ++ dealt_row n e) s)
      ∙ sym (append_assoc (raw (suc c) (then r)) (dealt_row (suc r) d) (dealt_row (r + suc (length d)) e))

  one_row : (c r : ℕ) → 0 < c → dealt_row r (c ∷ []) ≡ raw c (then r)
  one_row zero r h = absurd (omega arith)
  one_row (suc c) r h = append-nil (raw (suc c) (then r))

  no_row : (c r : ℕ) → c ≤ 0 → dealt_row r (c ∷ []) ≡ []
  no_row zero r h = refl
  no_row (suc c) r h = absurd (omega arith)

  upto : (deck : List ℕ) (i : ℕ) → i < length deck → dealt_row 0 (take (i + 1) deck) ≡ dealt_row 0 (take i deck) ++ dealt_row i (get_or deck i 0 ∷ [])
  upto deck i h =
      ap (dealt_row 0) (take_more deck i 0 h) ∙ row_append 0 (take i deck) (get_or deck i 0 ∷ [])
      ∙ (let e : 0 + length (take i deck) ≡ i = (let l = length-take-le i deck (omega arith) in omega arith) in
      ap (λ n. dealt_row 0 (take i deck) ++ dealt_row n (get_or deck i 0 ∷ [])) e)

  -- the rows of the first ranks are no longer than those of all
  upto_less : (deck : List ℕ) (i n : ℕ) → i ≤ n → n ≤ length deck → sizes (each 0 (take i deck) then) ≤ sizes (each 0 (take n deck) then)
  upto_less deck i n h l =
      let split : take n deck ≡ take i deck ++ drop i (take n deck) = sym (take-append-drop i (take n deck)) ∙ ap (λ z. z ++ drop i (take n deck)) (take-take i n deck h) in
      let e = ap length (ap (dealt_row 0) split ∙ row_append 0 (take i deck) (drop i (take n deck))) in
      let a = length-append (dealt_row 0 (take i deck)) (dealt_row (0 + length (take i deck)) (drop i (take n deck))) in
      let b = length_flats unnumbered unnumbered (left (take i deck)) (each 0 (take i deck) then) in
      let c = length_flats unnumbered unnumbered (left (take n deck)) (each 0 (take n deck) then) in
      omega (arith, e, a, b, c)

  pub size_more : (deck : List ℕ) (i : ℕ) → i < length deck → 0 < get_or deck i 0 → sizes (each 0 (take (i + 1) deck) then) ≡ sizes (each 0 (take i deck) then) + size (then i)
  size_more deck i h p =
      let e = ap length (upto deck i h ∙ ap (λ l. dealt_row 0 (take i deck) ++ l) (one_row (get_or deck i 0) i p)) in
      let a = length-append (dealt_row 0 (take i deck)) (raw (get_or deck i 0) (then i)) in
      let b = length_flats unnumbered unnumbered (left (take i deck)) (each 0 (take i deck) then) in
      let c = length_flats unnumbered unnumbered (left (take (i + 1) deck)) (each 0 (take (i + 1) deck) then) in
      let d = length_flat unnumbered unnumbered (get_or deck i 0) (then i) in
      omega (arith, e, a, b, c, d)

  pub size_skip : (deck : List ℕ) (i : ℕ) → i < length deck → get_or deck i 0 ≤ 0 → sizes (each 0 (take (i + 1) deck) then) ≡ sizes (each 0 (take i deck) then)
  size_skip deck i h p =
      let rest = dealt_row 0 (take i deck) in
      let same : dealt_row 0 (take (i + 1) deck) ≡ rest = upto deck i h ∙ ap (λ l. rest ++ l) (no_row (get_or deck i 0) i p) ∙ append-nil rest in
      let b = length_flats unnumbered unnumbered (left (take i deck)) (each 0 (take i deck) then) in
      let c = length_flats unnumbered unnumbered (left (take (i + 1) deck)) (each 0 (take (i + 1) deck) then) in
      let e = ap length same in omega (arith, b, c, e)

  pub deal_room : (deck : List ℕ) (i : ℕ) → i < length deck → 0 < get_or deck i 0 →
      sizes (each 0 (take i deck) then) + size (then i) ≤ sizes (each 0 deck then)
  deal_room deck i h p =
      let a = size_more deck i h p in
      let b = upto_less deck (i + 1) (length deck) (omega arith) (omega arith) in
      let c = ap (λ l. sizes (each 0 l then)) (take_all (length deck) deck (omega arith)) in
      omega (arith, a, b, c)

  pub upto_more : (deck : List ℕ) (i at k j : ℕ) (xs ys zs : List Node) → i < length deck → 0 < get_or deck i 0 →
      at + sizes (each 0 (take i deck) then) ≤ length xs →
      Rows (left (take i deck)) (each 0 (take i deck) then) at xs ys k → Written (get_or deck i 0) (then i) k ys zs j →
      Rows (left (take (i + 1) deck)) (each 0 (take (i + 1) deck) then) at xs zs j
  upto_more deck i at k j xs ys zs h p room r w =
      let lp = length_flats unnumbered unnumbered (left (take i deck)) (each 0 (take i deck) then) in
      let rest = dealt_row 0 (take i deck) in
      record {
        ends = (let a = r.ends in let b = w.ends in let c = size_more deck i h p in omega arith);
        holds = w.holds ∙ ap (λ l. put l k (raw (get_or deck i 0) (then i))) r.holds
            ∙ put_more xs rest (raw (get_or deck i 0) (then i)) at k (let a = r.ends in omega (arith, lp)) (omega (arith, lp))
            ∙ ap (put xs at) (sym (upto deck i h ∙ ap (λ l. rest ++ l) (one_row (get_or deck i 0) i p)));
      }

  pub upto_skip : (deck : List ℕ) (i at k : ℕ) (xs ys : List Node) → i < length deck → get_or deck i 0 ≤ 0 →
      Rows (left (take i deck)) (each 0 (take i deck) then) at xs ys k →
      Rows (left (take (i + 1) deck)) (each 0 (take (i + 1) deck) then) at xs ys k
  upto_skip deck i at k xs ys h p r =
      let rest = dealt_row 0 (take i deck) in
      let same : dealt_row 0 (take (i + 1) deck) ≡ rest = upto deck i h ∙ ap (λ l. rest ++ l) (no_row (get_or deck i 0) i p) ∙ append-nil rest in
      let b = length_flats unnumbered unnumbered (left (take i deck)) (each 0 (take i deck) then) in
      let c = length_flats unnumbered unnumbered (left (take (i + 1) deck)) (each 0 (take (i + 1) deck) then) in
      record {
        ends = (let a = r.ends in let e = ap length same in omega (arith, a, b, c, e));
        holds = r.holds ∙ ap (put xs at) (sym same);
      }

-- the cards of a deck
cards_append : (d e : List ℕ) → total (left (d ++ e)) ≡ total (left d) + total (left e)
unfolding total
cards_append [] e = omega arith
cards_append (zero ∷ d) e = cards_append d e
cards_append (suc c ∷ d) e = let h = cards_append d e in omega arith

one_total : (c : ℕ) → total (left (c ∷ [])) ≡ c
unfolding total
one_total zero = refl
one_total (suc c) = omega arith

pub cards_more : (deck : List ℕ) (i : ℕ) → i < length deck → total (left (take (i + 1) deck)) ≡ total (left (take i deck)) + get_or deck i 0
cards_more deck i h =
    ap (λ l. total (left l)) (take_more deck i 0 h) ∙ cards_append (take i deck) (get_or deck i 0 ∷ []) ∙ ap (λ n. total (left (take i deck)) + n) (one_total (get_or deck i 0))

-- the ranks that are left
pub filter_left : (xs : List ℕ) → filter (nat_lt 0) xs ≡ left xs
filter_left [] = refl
filter_left (zero ∷ xs) = filter_left xs
filter_left (suc c ∷ xs) = ap (λ b. cond b (suc c ∷ filter (nat_lt 0) xs) (filter (nat_lt 0) xs)) (lt-ltb 0 (suc c) (omega arith)) ∙ ap (λ l. suc c ∷ l) (filter_left xs)
