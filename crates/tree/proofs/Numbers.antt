-- Sights are noted and numbered alike on both sides, since stored sights tell the game's apart. Assumes nothing.
use Rattle.std.proofs.Common.{◌≡◌, ℕ, suc, Bool, true, false, ◌||◌, List, [], ◌∷◌, ◌++◌, map, sym, refl, ap, ◌∙◌}
use Rattle.cards.specs.Game.{pick}
use Rattle.std.proofs.lemmas.List.{map-append}
use Rattle.rules.specs.declared.Player.{Player}
use Rattle.rules.specs.declared.Player.TheVariants.{House, Guest}
use Rattle.rules.specs.Play as R
use Rattle.rules.specs.Sights as S
use Rattle.tree.specs.declared.Sight.{Sight}
use Rattle.tree.specs.Compact.{Play, Plays}
use Rattle.tree.specs.Seen.{same_stored_sight, place_of, known, noted, met, met_all, own_turn, as_list, sights_of}
use Rattle.tree.specs.Told.{told}
use Rattle.tree.proofs.Valid.{Valid, apart}
use Rattle.tree.proofs.Like.{Like, ends, deals, turns, Likes, nil, both, met_like}

pub data All {A : Type 0} (P : A → Type 0) : List A → Type 0 where
  void : All P []
  and : {a : A} {l : List A} → P a → All P l → All P (a ∷ l)

pub all_join : {A : Type 0} {P : A → Type 0} {k l : List A} → All P k → All P l → All P (k ++ l)
all_join void b = b
all_join (and q a) b = and q (all_join a b)

module _ (d x : ℕ) (p : Bool) where
  -- every sight of a game is one that is told apart
  own_valid : (w v : Player) (z : Sight) {l : List Sight} → Valid d x p z → All (Valid d x p) l → All (Valid d x p) (as_list (own_turn w v z) ++ l)
  own_valid House House z q a = and q a
  own_valid House Guest z q a = a
  own_valid Guest House z q a = a
  own_valid Guest Guest z q a = and q a

  mutual
    pub met_valid : (w : Player) {q : R.Place} {r : Play} → Like d x p q r → All (Valid d x p) (met w r)
    met_valid w (ends e) = void
    met_valid w (deals cs l) = mets_valid w l
    met_valid w (turns v {z = z} e f l) = own_valid w v z f (mets_valid w l)

    mets_valid : (w : Player) {ps : R.Places} {qs : Plays} → Likes d x p ps qs → All (Valid d x p) (met_all w qs)
    mets_valid w nil = void
    mets_valid w (both l k) = all_join (met_valid w l) (mets_valid w k)

  known_to : (z : Sight) (zs : List Sight) → Valid d x p z → All (Valid d x p) zs → S.known (told z) (map told zs) ≡ known z zs
  known_to z [] v a = refl
  known_to z (y ∷ zs) v (and u a) = ap (λ b. b || S.known (told z) (map told zs)) (sym (apart d x p z y v u)) ∙ ap (λ b. same_stored_sight z y || b) (known_to z zs v a)

  pub place_to : (z : Sight) (zs : List Sight) → Valid d x p z → All (Valid d x p) zs → S.place (told z) (map told zs) ≡ place_of z zs
  place_to z [] v a = refl
  place_to z (y ∷ zs) v (and u a) =
      ap (λ b. pick b 0 (suc (S.place (told z) (map told zs)))) (sym (apart d x p z y v u)) ∙ ap (λ n. pick (same_stored_sight z y) 0 (suc n)) (place_to z zs v a)

  note_by : (b : Bool) (z : Sight) (old : List Sight) → pick b (map told old) (map told old ++ (told z ∷ [])) ≡ map told (pick b old (old ++ (z ∷ [])))
  note_by true z old = refl
  note_by false z old = sym (map-append told old (z ∷ []))

  valid_by : (b : Bool) (z : Sight) (old : List Sight) → Valid d x p z → All (Valid d x p) old → All (Valid d x p) (pick b old (old ++ (z ∷ [])))
  valid_by true z old v a = a
  valid_by false z old v a = all_join a (and v void)

  noted_to : (old zs : List Sight) → All (Valid d x p) old → All (Valid d x p) zs → S.gather (map told old) (map told zs) ≡ map told (noted old zs)
  noted_to old [] a b = refl
  noted_to old (z ∷ zs) a (and v b) =
      ap (λ l. S.gather l (map told zs)) (ap (λ c. pick c (map told old) (map told old ++ (told z ∷ []))) (known_to z old v a) ∙ note_by (known z old) z old)
      ∙ noted_to (pick (known z old) old (old ++ (z ∷ []))) zs (valid_by (known z old) z old v a) b

  noted_valid : (old zs : List Sight) → All (Valid d x p) old → All (Valid d x p) zs → All (Valid d x p) (noted old zs)
  noted_valid old [] a b = a
  noted_valid old (z ∷ zs) a (and v b) = noted_valid (pick (known z old) old (old ++ (z ∷ []))) zs (valid_by (known z old) z old v a) b

  pub sights_to : (w : Player) {q : R.Place} {r : Play} → Like d x p q r → S.sights w q ≡ map told (sights_of w r)
  sights_to w {r = r} l = ap (S.gather []) (met_like d x p w l) ∙ noted_to [] (met w r) void (met_valid w l)

  pub sights_valid : (w : Player) {q : R.Place} {r : Play} → Like d x p q r → All (Valid d x p) (sights_of w r)
  sights_valid w {r = r} l = noted_valid [] (met w r) void (met_valid w l)
