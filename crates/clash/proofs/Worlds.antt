-- What clashes at places say of worlds.
use Rattle.std.proofs.Common.{◌≡◌, ℕ, ◌<◌, List, [], ◌∷◌, length, Some, sym, refl, subst, subst₂, inl, inr, arith}
use Rattle.facts.proofs.Nth.{member_nth, nth_member, nth_within}
use Rattle.clash.specs.Searches.{AllCalm, CalmAt, FirstAlone, FirstPair, NoneAlone}
use Rattle.clash.specs.Verdicts.{Alone, OneBlamed, Together, TwoBlamed}
use Rattle.std.proofs.lemmas.Bool.{cases_order}
use Rattle.std.specs.List.{slice_get, AllByRecursion}
use Rattle.theory.proofs.Canonical.{site, site_world}
use Rattle.theory.proofs.Lists.{each, one_of_two}
use Rattle.theory.specs.Clashes.{Clash, Lawful, at_one, across_one, two_partners}
use Rattle.theory.specs.Closure.{link_swap, swap}
use Rattle.theory.specs.Worlds.{SiteWorld}
use Rattle.vocabulary.specs.Ranges.{FactFits}
use Rattle.vocabulary.specs.declared.facts.Fact.{Fact}
use Rattle.vocabulary.specs.declared.rules.Family.{Family}
use Rattle.vocabulary.specs.declared.rules.Rule.{Rule}
use mathlib.Core.List.Memᴰ
use mathlib.Core.List.{Memᴰ}

-- a clash has no order
turned_clash : {family : Family} {rules : List Rule} {f g : Fact} → Clash family rules f g → Clash family rules g f
turned_clash (at_one a b c p q e) = at_one a c b q p (swap e)
turned_clash (across_one a b d e p q x) = across_one a b e d q p (link_swap x)
turned_clash (two_partners a b c d m p q n) = two_partners a c b d m q p (λ e. n (sym e))

module _ (family : Family) (rules : List Rule) (lawful : Lawful rules) where
  -- ---- one fact, and two

  alone_world : {f : Fact} → ¬ (Clash family rules f f) → Alone rules f
  alone_world {f} calm =
      site_world family rules (f ∷ []) (λ g h i j c. calm (subst₂ (Clash family rules) (Memᴰ.eq_of_singleton i) (Memᴰ.eq_of_singleton j) c)) lawful

  no_alone : {f : Fact} → FactFits f → Clash family rules f f → ¬ (Alone rules f)
  no_alone {f} fits c w = (site family rules (f ∷ []) lawful (fits, tt)).0 w f f (Memᴰ.head refl) (Memᴰ.head refl) c

  two_world : {f g : Fact} → ¬ (Clash family rules f f) → ¬ (Clash family rules f g) → ¬ (Clash family rules g g) → Together rules f g
  two_world {f} {g} first both second = site_world family rules (f ∷ (g ∷ [])) calm lawful
    where
      calm : (h k : Fact) → Memᴰ h (f ∷ (g ∷ [])) → Memᴰ k (f ∷ (g ∷ [])) → ¬ (Clash family rules h k)
      calm h k i j c =
          elim (one_of_two i) [
            | inl p ↦ elim (one_of_two j) [ inl q ↦ first (subst₂ (Clash family rules) p q c) | inr q ↦ both (subst₂ (Clash family rules) p q c) ]
            | inr p ↦ elim (one_of_two j) [ inl q ↦ both (turned_clash (subst₂ (Clash family rules) p q c)) | inr q ↦ second (subst₂ (Clash family rules) p q c) ]
          ]

  no_two : {f g : Fact} → FactFits f → FactFits g → Clash family rules f g → ¬ (Together rules f g)
  no_two {f} {g} ff fg c w = (site family rules (f ∷ (g ∷ [])) lawful (ff, (fg, tt))).0 w f g (Memᴰ.head refl) (Memᴰ.tail (Memᴰ.head refl)) c

  -- ---- all facts

  module _ (xs : List Fact) (fit : AllByRecursion FactFits xs) where
    fits_at : (i : ℕ) {f : Fact} → slice_get xs i ≡ Some f → FactFits f
    fits_at i p = each FactFits fit (nth_member xs i _ p)

    no_site : (i j : ℕ) {f g : Fact} → slice_get xs i ≡ Some f → slice_get xs j ≡ Some g → Clash family rules f g → ¬ (SiteWorld rules xs)
    no_site i j {f} {g} p q c w = (site family rules xs lawful fit).0 w f g (nth_member xs i _ p) (nth_member xs j _ q) c

    -- where rows are calm to the right, and no fact clashes alone, they are calm to the left as well
    calm_rows : (n : ℕ) → NoneAlone family rules xs → ((k : ℕ) → k < n → (m : ℕ) → k < m → CalmAt family rules xs k m) → (k : ℕ) → k < n → (m : ℕ) → CalmAt family rules xs k m
    calm_rows n alone rows k low m f g p q c =
        elim (cases_order k m) [
          | inl e ↦ alone k f g p (subst (λ (i : ℕ). slice_get xs i ≡ Some g) (sym e) q) c
          | inr (inl l) ↦ rows k low m l f g p q c
          | inr (inr l) ↦ rows m (omega arith) k l g f q p (turned_clash c)
        ]

    pub one_blamed : {f : Fact} → FirstAlone family rules xs f → OneBlamed rules xs f
    one_blamed {f} h = record {
      no_world = no_site h.place h.place h.here h.here h.clashes;
      place = h.place;
      here = h.here;
      alone = no_alone (fits_at h.place h.here) h.clashes;
      earlier = λ k g low p. alone_world (h.earlier k low g g p p);
    }

    pub two_blamed : {f g : Fact} → NoneAlone family rules xs → FirstPair family rules xs f g → TwoBlamed rules xs f g
    two_blamed {f} {g} alone h = record {
      no_world = no_site h.first h.second h.at_first h.at_second h.clashes;
      each_alone = λ k x p. alone_world (alone k x x p p);
      first = h.first;
      second = h.second;
      order = h.order;
      at_first = h.at_first;
      at_second = h.at_second;
      together = no_two (fits_at h.first h.at_first) (fits_at h.second h.at_second) h.clashes;
      lower_first = λ k m x y low p q. two_world (alone k x x p p) (calm_rows h.first alone h.rows k low m x y p q) (alone m y y q q);
      lower_second = λ m x after before p.
          two_world (alone h.first f f h.at_first h.at_first) (h.row m before after f x h.at_first p) (alone m x x p p);
    }

    pub clear : NoneAlone family rules xs → AllCalm family rules xs → SiteWorld rules xs
    clear alone calm =
        site_world family rules xs
        (λ f g i j c.
        let (k, p) = member_nth i in
        let (m, q) = member_nth j in
        calm_rows (length xs) alone (λ k _ m l. calm k m l) k (nth_within xs k _ p) m f g p q c) lawful
