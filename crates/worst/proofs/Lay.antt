-- Where the trees of a row of nodes lie.
use Rattle.std.proofs.Common.{◌≡◌, ℕ, zero, suc, ◌+◌, ◌*◌, ◌/◌, ◌<◌, ◌≤◌, List, [], ◌∷◌, get_or, sym, refl, ap, ◌∙◌, subst, arith}
use Rattle.cards.specs.Game.{Tree, over, deal, ours, theirs, Trees, none, more, many}
use Rattle.cards.specs.Floor.{nth}
use Rattle.cards.specs.Reckon.{places, places_all}
use Rattle.cards.proofs.AtHand.{places_pos}
use Rattle.tree.specs.Rep.{Rep, Reps, Weighed, node_at, first_of, rest_of}
use Rattle.tree.specs.declared.Node.{Node}
use Rattle.worst.specs.Items.{firsts, parts}

pub places_more : (ts : Trees) (k : ℕ) → k < many ts → places_all (firsts (suc k) ts) ≡ places_all (firsts k ts) + places (nth ts k)
unfolding firsts nth many
places_more none k l = absurd (omega arith)
places_more (more t ts) zero l = omega arith
places_more (more t ts) (suc k) l = let e = places_more ts k (omega arith) in omega arith

pub places_firsts_le : (ts : Trees) (k : ℕ) → places_all (firsts k ts) ≤ places_all ts
unfolding firsts
places_firsts_le ts zero = omega arith
places_firsts_le none (suc k) = omega arith
places_firsts_le (more t ts) (suc k) = let e = places_firsts_le ts k in omega arith

pub many_places : (ts : Trees) → many ts ≤ places_all ts
unfolding many
many_places none = omega arith
many_places (more t ts) = let e = many_places ts in let p = places_pos t in omega arith

pub firsts_all : (ts : Trees) (k : ℕ) → many ts ≤ k → firsts k ts ≡ ts
unfolding firsts many
firsts_all none zero l = refl
firsts_all none (suc k) l = refl
firsts_all (more t ts) zero l = absurd (omega arith)
firsts_all (more t ts) (suc k) l = ap (more t) (firsts_all ts k (omega arith))

pub parts_places : (t : Tree) → places t ≡ suc (places_all (parts t))
unfolding parts
parts_places (over g) = refl
parts_places (deal ws ts) = refl
parts_places (ours i ts) = refl
parts_places (theirs i ts) = refl

pub weighed_reps : (k m n : ℕ) (nodes : List Node) (i : ℕ) (ws : List ℕ) (ts : Trees) → Weighed k m n nodes i ws ts → Reps k m nodes i ts
weighed_reps k m n nodes i ws none h = tt
weighed_reps k m n nodes i ws (more t ts) h = (h.1.0, weighed_reps k m n nodes (i + places t) (rest_of ws) ts h.1.1)

pub rep_parts : (k m : ℕ) (nodes : List Node) (i : ℕ) (t : Tree) → Rep k m nodes i t → Reps k m nodes (i + 1) (parts t)
unfolding parts
rep_parts k m nodes i (over g) h = tt
rep_parts k m nodes i (deal ws ts) h = weighed_reps k m h.0 nodes (i + 1) ws ts h.1.1
rep_parts k m nodes i (ours j ts) h = h.1.1
rep_parts k m nodes i (theirs j ts) h = h.1.1

first_is : (ws : List ℕ) → first_of ws ≡ get_or ws 0 0
first_is [] = refl
first_is (w ∷ ws) = refl

rest_is : (ws : List ℕ) (j : ℕ) → get_or (rest_of ws) j 0 ≡ get_or ws (suc j) 0
rest_is [] j = refl
rest_is (w ∷ ws) j = refl

-- the weight of a deal's j-th tree
pub weighed_at : (k m n : ℕ) (nodes : List Node) (i : ℕ) (ws : List ℕ) (ts : Trees) (j : ℕ) → Weighed k m n nodes i ws ts → j < many ts →
    get_or ws j 0 ≡ m * (node_at nodes (i + places_all (firsts j ts))).share / n
unfolding firsts many
weighed_at k m n nodes i ws none j h l = absurd (omega arith)
weighed_at k m n nodes i ws (more t ts) zero h l =
    let e : i ≡ i + 0 = omega arith in
    sym (first_is ws) ∙ h.0 ∙ ap (λ z. m * (node_at nodes z).share / n) e
weighed_at k m n nodes i ws (more t ts) (suc j) h l =
    let e : (i + places t) + places_all (firsts j ts) ≡ i + (places t + places_all (firsts j ts)) = omega arith in
    sym (rest_is ws j) ∙ weighed_at k m n nodes (i + places t) (rest_of ws) ts j h.1.1 (omega arith) ∙ ap (λ z. m * (node_at nodes z).share / n) e

pub reps_nth : (k m : ℕ) (nodes : List Node) (i : ℕ) (ts : Trees) (j : ℕ) → Reps k m nodes i ts → j < many ts → Rep k m nodes (i + places_all (firsts j ts)) (nth ts j)
unfolding firsts nth many
reps_nth k m nodes i none j h l = absurd (omega arith)
reps_nth k m nodes i (more t ts) zero h l = let e : i ≡ i + 0 = omega arith in subst (λ p. Rep k m nodes p t) e h.0
reps_nth k m nodes i (more t ts) (suc j) h l =
    let e : (i + places t) + places_all (firsts j ts) ≡ i + (places t + places_all (firsts j ts)) = omega arith in
    subst (λ p. Rep k m nodes p (nth ts j)) e (reps_nth k m nodes (i + places t) ts j h.1 (omega arith))
