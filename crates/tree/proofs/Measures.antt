-- How large the tree of a rule sheet is. Assumes nothing.
use Rattle.std.proofs.Common.{◌≡◌, ℕ, suc, ◌*◌, Bool, List, sym, refl, ap, ◌∙◌, arith}
use Rattle.cards.specs.Reckon.{places, places_all}
use Rattle.rules.specs.declared.Player.TheVariants.{House, Guest}
use Rattle.rules.specs.declared.Sheet.{Sheet}
use Rattle.rules.specs.Play as R
use Rattle.rules.specs.Play.{purse}
use Rattle.rules.specs.Sights as S
use Rattle.rules.specs.Sound.{Sound}
use Rattle.rules.specs.Counts.{count_of_sights, word_count, WordsAre, SightsAre}
use Rattle.rules.proofs.CountWords.{words_are}
use Rattle.rules.proofs.CountSights.{sights_are}
use Rattle.tree.specs.Compact.{Play, Plays, size, sizes, game_as}
use Rattle.tree.specs.Built.{sizes_of, Measured}
use Rattle.tree.proofs.Like.{Like, ends, deals, turns, Likes, nil, both, game_like}

module _ (d x : ℕ) (p : Bool) where
  mutual
    count_like : {q : R.Place} {r : Play} → Like d x p q r → R.count q ≡ size r
    count_like (ends e) = refl
    count_like (deals cs l) = ap suc (counts_like l)
    count_like (turns w e v l) = ap suc (counts_like l)

    counts_like : {ps : R.Places} {qs : Plays} → Likes d x p ps qs → R.count_all ps ≡ sizes qs
    counts_like nil = refl
    counts_like (both l k) = let a = count_like l in let b = counts_like k in omega (arith, a, b)

pub size_is : (s : Sheet) → Sound s → size (game_as s) ≡ R.count (R.game s)
size_is s h = sym (count_like s.ranks s.raises s.public (game_like s h.ranks.most))

module _ (m : ℕ) (hs gs : List R.Sight) where
  mutual
    places_count : (p : R.Place) → places (S.numbered m hs gs p) ≡ R.count p
    places_count (R.end e) = refl
    places_count (R.dealt cs ps) = ap suc (places_counts ps)
    places_count (R.turn House s ps) = ap suc (places_counts ps)
    places_count (R.turn Guest s ps) = ap suc (places_counts ps)

    places_counts : (ps : R.Places) → places_all (S.numbered_all m hs gs ps) ≡ R.count_all ps
    places_counts R.no_more = refl
    places_counts (R.also p ps) = let a = places_count p in let b = places_counts ps in omega (arith, a, b)

pub sizes_are : (s : Sheet) → Sound s → (n k hw gw t : ℕ) → n ≡ size (game_as s) → k ≡ count_of_sights s → hw ≡ word_count s House → gw ≡ word_count s Guest → t ≡ purse s →
    record { places = n; house = record { sights = k; words = hw }; guest = record { sights = k; words = gw }; table = 2 * t } ≡ sizes_of s
unfolding SightsAre
sizes_are s h n k hw gw t en ek eh eg et =
    let a = en ∙ size_is s h in
    let b = ek ∙ sym (sights_are s House h) in
    let c = ek ∙ sym (sights_are s Guest h) in
    λ i. record { places = a i; house = record { sights = b i; words = eh i }; guest = record { sights = c i; words = eg i }; table = 2 * et i }

pub measured : (s : Sheet) → Sound s → Measured s (sizes_of s)
unfolding WordsAre
measured s h = record {
  places_are = λ m. places_count m (S.sights House (R.game s)) (S.sights Guest (R.game s)) (R.game s);
  words_are = λ m. (words_are s m h).0;
  turned_words_are = λ m. (words_are s m h).1;
}
