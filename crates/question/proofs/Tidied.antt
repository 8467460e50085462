-- A tidy question, made by rounds and then by numbering.
use Rattle.std.proofs.Common.{◌≡◌, ℕ, ◌+◌, List, [], ◌++◌, map, length, sym, ap, ◌∙◌, add-one}
use Rattle.theory.specs.Questions.{Query}
use Rattle.theory.specs.Tidying.{all_terms, once_each, on_terms, opened, lone, round, rounds, firsts, numbered, on_query, tidy}
use Rattle.vocabulary.specs.declared.questions.Atom.{Atom}
use Rattle.vocabulary.specs.declared.questions.Term.{Term}

pub rounds_none : (p q : Query) → p ≡ q → p ≡ rounds 0 q
unfolding rounds
rounds_none p q e = e

pub rounds_more : (p q s : Query) (i : ℕ) → s ≡ rounds i q → p ≡ round s → p ≡ rounds (i + 1) q
unfolding rounds
rounds_more p q s i inv e = e ∙ ap round inv ∙ ap (λ (n : ℕ). rounds n q) (sym (add-one i))

pub tidied_is : (q r t : Query) (order : List ℕ) → r ≡ rounds (length q.atoms + 1) q → order ≡ firsts (r.head ++ all_terms r.atoms) [] → t ≡ on_query (numbered order) r → t ≡ tidy q
unfolding tidy
tidied_is q r t order e o m =
    m ∙ ap (λ (ms : List ℕ). on_query (numbered ms) r) o
    ∙ ap (λ (p : Query). on_query (numbered (firsts (p.head ++ all_terms p.atoms) [])) p) (e ∙ ap (λ (n : ℕ). rounds n q) (add-one (length q.atoms)))

pub round_is : (h : List Term) (xs ks ys : List Atom) → ks ≡ once_each [] xs → ys ≡ map (on_terms (opened (lone h (all_terms ks)))) ks →
    ◌≡◌ {A = Query} (record { head = h; atoms = ys }) (round (record { head = h; atoms = xs }))
unfolding round
round_is h xs ks ys e m =
    ap (λ (zs : List Atom). record { head = h; atoms = zs }) m ∙ ap (λ (zs : List Atom). record { head = h; atoms = map (on_terms (opened (lone h (all_terms zs)))) zs }) e
