-- The tree of a rule sheet lies in the memory. Assumes nothing.
use Rattle.std.proofs.Common.{◌≡◌, ℕ, ◌*◌, Bool, true, false, leb, List, ◌++◌, map, length, drop, Ok, Err, sym, ap, ◌∙◌, subst}
use Rattle.cards.specs.Game.{Tree, pick}
use Rattle.rules.specs.declared.Player.TheVariants.{House, Guest}
use Rattle.rules.specs.declared.Sheet.{Sheet}
use Rattle.rules.specs.Play as R
use Rattle.rules.specs.Play.{purse}
use Rattle.rules.specs.Sights as S
use Rattle.rules.specs.Sound.{Sound}
use Rattle.rules.proofs.Sheets.{ends_sum}
use Rattle.rules.proofs.Passed.{ok_same, no_ok}
use Rattle.tree.specs.declared.Sight.{Sight}
use Rattle.tree.specs.declared.Node.{Node}
use Rattle.tree.specs.declared.Sizes.{Sizes}
use Rattle.tree.specs.declared.Refusal.TheVariants.{NoRoom, NoSightRoom, TooLarge}
use Rattle.tree.specs.Compact.{game_as}
use Rattle.tree.specs.Rep.{Rep}
use Rattle.tree.specs.Seen.{sights_of, place_of}
use Rattle.tree.specs.Told.{told}
use Rattle.tree.specs.Built.{admitted, nodes_of, Begins, Laid}
use Rattle.tree.proofs.Lay.{length_flat}
use Rattle.tree.proofs.Like.{Like, game_like}
use Rattle.tree.proofs.Numbers.{sights_to, sights_valid}
use Rattle.tree.proofs.Reading.{rep_of}
use Rattle.tree.proofs.Measures.{size_is}

-- what is admitted is handed on as it is
pub admitted_same : (y z : Sizes) (n h g : ℕ) → Ok y ≡ admitted z n h g → y ≡ z
admitted_same y z n h g e = go (leb z.places n) (leb z.house.sights h) (leb z.guest.sights g) (leb z.places 65536) e
  where
    go : (a b c d : Bool) → Ok y ≡ pick a (pick b (pick c (pick d (Ok z) (Err TooLarge)) (Err NoSightRoom)) (Err NoSightRoom)) (Err NoRoom) → y ≡ z
    go true true true true q = ok_same y z q
    go true true true false q = no_ok TooLarge y (sym q)
    go true true false d q = no_ok NoSightRoom y (sym q)
    go true false c d q = no_ok NoSightRoom y (sym q)
    go false b c d q = no_ok NoRoom y (sym q)

module _ (s : Sheet) (h : Sound s) where
  abbrev like : Like s.ranks s.raises s.public (R.game s) (game_as s)
  like = game_like s h.ranks.most

  rep_stands : (m : ℕ) (ns rest : List Node) → ns ≡ nodes_of s ++ rest → Rep (2 * purse s) m ns 0 (S.tree s m)
  rep_stands m ns rest e =
      let H = sights_of House (game_as s) in
      let G = sights_of Guest (game_as s) in
      let t : S.numbered m (map told H) (map told G) (R.game s) ≡ S.tree s m =
      ap (λ l. S.numbered m l (map told G) (R.game s)) (sym (sights_to s.ranks s.raises s.public House like)) ∙ ap (λ l. S.numbered m (S.sights House (R.game s)) l (R.game s)) (sym (sights_to s.ranks s.raises s.public Guest like)) in
      let P : Tree → Type 0 = Rep (2 * purse s) m ns 0 in
      subst P t (rep_of s.ranks s.raises s.public (2 * purse s) m H G (sights_valid s.ranks s.raises s.public House like) (sights_valid s.ranks s.raises s.public Guest like) like (ends_sum s) ns rest 0 0 e)

  pub nodes_length : length (nodes_of s) ≡ R.count (R.game s)
  nodes_length = length_flat (λ z. place_of z (sights_of House (game_as s))) (λ z. place_of z (sights_of Guest (game_as s))) 0 (game_as s) ∙ size_is s h

  pub laid : (n0 n1 rest part : List Node) (h0 h1 g0 g1 : List Sight) (k : ℕ) → k ≡ R.count (R.game s) → part ≡ nodes_of s → rest ≡ drop k n0 → n1 ≡ part ++ rest →
      Begins (sights_of House (game_as s)) h0 h1 → Begins (sights_of Guest (game_as s)) g0 g1 → Laid s n0 n1 h0 h1 g0 g1
  laid n0 n1 rest part h0 h1 g0 g1 k ek ep er en bh bg =
      let e : n1 ≡ nodes_of s ++ rest = en ∙ ap (λ l. l ++ rest) ep in
      record {
        nodes_are = e ∙ ap (λ l. nodes_of s ++ l) (er ∙ ap (λ n. drop n n0) (ek ∙ sym nodes_length));
        house_are = bh;
        guest_are = bg;
        stands = λ m. rep_stands m n1 rest e;
        told_are = λ w. sym (sights_to s.ranks s.raises s.public w like);
      }
