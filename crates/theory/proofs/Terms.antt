-- Terms and atoms: what a change of terms does to an atom.
use Rattle.std.proofs.Common.{◌≡◌, ℕ, List, [], ◌∷◌, map, refl, ap}
use Rattle.theory.specs.Questions.{Serves, Holds}
use Rattle.theory.specs.Tidying.{all_terms, on_terms}
use Rattle.theory.specs.Worlds.{Shape}
use Rattle.vocabulary.specs.declared.numbers.Name.{Name}
use Rattle.vocabulary.specs.declared.questions.Atom.{Atom}
use Rattle.vocabulary.specs.declared.questions.Atom.TheVariants.{IsIn, Joins}
use Rattle.vocabulary.specs.declared.questions.Term.{Term}

-- what serves for a term before a change serves for what it becomes; the other way round
abbrev pub Respects : {A : Type 0} → (Name → A) → (ℕ → A) → (ℕ → A) → (Term → Term) → Type 0
Respects {A} names v w f = (t : Term) (x : A) → Serves names v t x → Serves names w (f t) x

abbrev pub Reflects : {A : Type 0} → (Name → A) → (ℕ → A) → (ℕ → A) → (Term → Term) → Type 0
Reflects {A} names v w f = (t : Term) (x : A) → Serves names w (f t) x → Serves names v t x

-- an atom goes on holding under a change that respects what serves, and held before one that reflects it
pub holds_map : (s : Shape) (v w : ℕ → s.Carrier) (f : Term → Term) → Respects s.thing v w f → (a : Atom) → Holds s v a → Holds s w (on_terms f a)
holds_map s v w f g (IsIn c t) h = (h.0, g t h.0 h.1, h.2)
holds_map s v w f g (Joins l t u) h = (h.0, h.1, g t h.0 h.2, g u h.1 h.3, h.4)

pub holds_unmap : (s : Shape) (v w : ℕ → s.Carrier) (f : Term → Term) → Reflects s.thing v w f → (a : Atom) → Holds s w (on_terms f a) → Holds s v a
holds_unmap s v w f g (IsIn c t) h = (h.0, g t h.0 h.1, h.2)
holds_unmap s v w f g (Joins l t u) h = (h.0, h.1, g t h.0 h.2, g u h.1 h.3, h.4)

-- the terms of changed atoms are the terms changed
pub all_terms_map : (f : Term → Term) (xs : List Atom) → all_terms (map (on_terms f) xs) ≡ map f (all_terms xs)
unfolding all_terms
all_terms_map f [] = refl
all_terms_map f (IsIn c t ∷ xs) = ap (λ (ts : List Term). f t ∷ ts) (all_terms_map f xs)
all_terms_map f (Joins l t u ∷ xs) = ap (λ (ts : List Term). f t ∷ (f u ∷ ts)) (all_terms_map f xs)
