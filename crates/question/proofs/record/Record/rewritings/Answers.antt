use Rattle.std.proofs.Common.{ℕ, List, sym, subst, rules}
use Rattle.question.proofs.Working.{at_exit, blank, held, held_all, start_over, working_start}
use Rattle.question.proofs.record.Record.rewritings.Goals as goal
use Rattle.question.specs.Enumerations.{AllRewritings, Enumerated, MoreRewritings}
use Rattle.question.specs.Records.{query}
use Rattle.std.proofs.lemmas.Result.{err_from_is_err_and}
use Rattle.vocabulary.specs.declared.rules.Rule.{Rule}

pub returns : goal.returns
returns c =
    let q = query c.args.self.now in
    let before = c.args.places.now in
    let after = c.put_onward.new.table.places.now in
    let new = c.new-table.ensures in
    let start = working_start c.rules.result.now q before _ _ (blank before _ new.empty new.places new.room) c.in_ok-put.ensures in
    let done = c.in_ok-put_onward.ensures.worked q before start in
    let all : AllRewritings c.args.book.now.rules.now q before after c.len.result
    = subst (λ (rs : List Rule). AllRewritings rs q before after c.len.result) c.rules.ensures
    (subst (λ (n : ℕ). AllRewritings c.rules.result.now q before after n) (sym c.len.ensures) done) in
    search (rules, held_all)

pub returns-in_err-put : goal.returns-in_err-put
returns-in_err-put c =
    let p = err_from_is_err_and c.from_residual.result c.from_residual.ensures.1 in
    let all = c.args.book.now.rules.now in
    let q = query c.args.self.now in
    let before = c.args.places.now in
    let after = c.put.new.table.places.now in
    let new = c.new-table.ensures in
    let e = c.in_err-put.ensures in
    let over : Enumerated all q before after c.from_residual.result
    = at_exit all q before after _ _ _ p.1 p.2 e.0 (start_over all q before _ _ (blank before _ new.empty new.places new.room) e.1) in
    search (rules, held all q before after c.from_residual.result)

pub returns-in_err-put_onward : goal.returns-in_err-put_onward
returns-in_err-put_onward c =
    let p = err_from_is_err_and c.from_residual-in_err-put_onward.result c.from_residual-in_err-put_onward.ensures.1 in
    let all = c.args.book.now.rules.now in
    let q = query c.args.self.now in
    let before = c.args.places.now in
    let after = c.put_onward.new.table.places.now in
    let new = c.new-table.ensures in
    let start = working_start c.rules.result.now q before _ _ (blank before _ new.empty new.places new.room) c.in_ok-put.ensures in
    let e = c.in_err-put_onward.ensures.worked q before start in
    let over : Enumerated all q before after c.from_residual-in_err-put_onward.result
    = at_exit all q before after _ _ _ p.1 p.2 e.0 (subst (λ (rs : List Rule). MoreRewritings rs q after) c.rules.ensures e.1) in
    search (rules, held all q before after c.from_residual-in_err-put_onward.result)
