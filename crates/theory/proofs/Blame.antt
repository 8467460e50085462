-- Which facts are to blame where there is no world.
use Rattle.theory.proofs.Canonical.{site, site_world}
use Rattle.theory.proofs.Clashing.{clash}
use Rattle.theory.proofs.Decisions.{some}
use Rattle.theory.proofs.Lists.{Some, each}
use Rattle.theory.specs.Clashes.{Clash, Lawful}
use Rattle.std.specs.List.{AllByRecursion}
use Rattle.theory.specs.Results.{Blame, ToBlame}
use Rattle.theory.specs.Worlds.{SiteWorld}
use Rattle.vocabulary.specs.Ranges.{FactFits}
use Rattle.vocabulary.specs.declared.facts.Fact.{Fact}
use Rattle.vocabulary.specs.declared.rules.Family.TheVariants.{R}
use Rattle.vocabulary.specs.declared.rules.Rule.{Rule}
use Rattle.std.proofs.Common.{List, [], ◌∷◌, refl, subst₂, inl, inr}
use mathlib.Core.List.Memᴰ
use mathlib.Core.Logic.{by_cases}

-- the exclusions of either family serve
module _ (rules : List Rule) (lawful : Lawful rules) where
  two_clash : {f g : Fact} → FactFits f → FactFits g → Clash R rules f g → ¬ (SiteWorld rules (f ∷ (g ∷ [])))
  two_clash {f} {g} ff fg c w = (site R rules (f ∷ (g ∷ [])) lawful (ff, (fg, tt))).0 w f g (Memᴰ.head refl) (Memᴰ.tail (Memᴰ.head refl)) c

  one_clash : {f : Fact} → FactFits f → Clash R rules f f → ¬ (SiteWorld rules (f ∷ []))
  one_clash {f} ff c w = (site R rules (f ∷ []) lawful (ff, tt)).0 w f f (Memᴰ.head refl) (Memᴰ.head refl) c

  one_calm : {f : Fact} → ¬ (Clash R rules f f) → SiteWorld rules (f ∷ [])
  one_calm {f} n = site_world R rules (f ∷ []) (λ g h i j c. n (subst₂ (Clash R rules) (Memᴰ.eq_of_singleton i) (Memᴰ.eq_of_singleton j) c)) lawful

  found : (facts : List Fact) → AllByRecursion FactFits facts → Some (λ f. Some (Clash R rules f) facts) facts → ToBlame rules facts
  found facts fit (f, i, (g, j, c)) = at (clash R rules f f) (clash R rules g g)
    where
      at : Dec (Clash R rules f f) → Dec (Clash R rules g g) → ToBlame rules facts
      at (yes h) q = inl (f, i, one_clash (each FactFits fit i) h)
      at (no n) (yes h) = inl (g, j, one_clash (each FactFits fit j) h)
      at (no n) (no m) = inr (f, g, i, j, two_clash (each FactFits fit i) (each FactFits fit j) c, one_calm n, one_calm m)

  pub blame : Blame rules
  blame = record {
    facts = λ facts fit none. by_cases (some (λ f. Some (Clash R rules f) facts) (λ f. some (Clash R rules f) (clash R rules f) facts) facts) (found facts fit)
        (λ calm. absurd (none ((site R rules facts lawful fit).1 (λ f g i j c. calm (f, i, (g, j, c))))));
    rules_alone = site_world R rules [] (λ f g m n c. Memᴰ.not-nil m) lawful;
  }
