use Rattle.clash.proofs.Contrary.{class_clashes, link_clashes}
use Rattle.clash.proofs.pairs.clashing.Goals as goal
use Rattle.clash.specs.Contrary.{Denied, turned}
use Rattle.clash.specs.declared.pairs.Hop.{Hop}
use Rattle.std.proofs.lemmas.Bool.Decides.{Decides-like, Decides-or}
use Rattle.std.proofs.Common.{◌||◌, Decides, sym, ap, ◌∙◌, subst}
use Rattle.theory.specs.Clashes.{Clash}
use Rattle.vocabulary.specs.declared.facts.Fact.{Fact}

pub returns-in-InClass : goal.returns-in-InClass
returns-in-InClass c =
    let s = c.args.book.now in
    let g = c.args.g in
    let r = c.contrary.result in
    let tells = class_clashes s.family s.rules.now c.in-InClass.c c.in-InClass.a g in
    subst (λ (f : Fact). Decides r (Clash s.family s.rules.now f g)) (sym c.in-InClass.is)
    (Decides-like r tells.0 tells.1 c.contrary.ensures)

pub returns-in-Linked : goal.returns-in-Linked
returns-in-Linked c =
    let s = c.args.book.now in
    let g = c.args.g in
    let x = c.denied.result in
    let y = c.denied-in-Linked.result in
    let tells = link_clashes s.family s.rules.now c.in-Linked.l c.in-Linked.a c.in-Linked.b g in
    let forth = subst (λ (h : Hop). Decides x (Denied s.family s.rules.now h g)) c.there-hop.ensures c.denied.ensures in
    let back = subst (λ (h : Hop). Decides y (Denied s.family s.rules.now h g)) (c.turned.ensures ∙ ap turned c.there-hop.ensures) c.denied-in-Linked.ensures in
    subst (λ (f : Fact). Decides (x || y) (Clash s.family s.rules.now f g)) (sym c.in-Linked.is) (Decides-like (x || y) tells.0 tells.1 (Decides-or x y forth back))
