use Rattle.std.proofs.Common.{Some, sym, ap, ◌∙◌, arith, rules, tests}
use Rattle.bitstore.proofs.Held.{count_facts, ranked_at}
use Rattle.bitstore.proofs.Groups.{first, fourth, fourth_enough, second, third, weight}
use Rattle.bitstore.proofs.store.BitStoreSource.at.Goals as goal

pub reach-wide-requires-clause-within : goal.reach-wide-requires-clause-within
reach-wide-requires-clause-within c =
    let s = c.args.self.now in
    (λ n. n, λ k d l n r. search (rules, tests), first s.table.now s.wide s.close s.names c.args.place s.far s.near (omega (arith, count_facts s.names s.table.now)) s.most s.size (omega arith))

pub reach-close-requires-clause-within : goal.reach-close-requires-clause-within
reach-close-requires-clause-within c =
    let s = c.args.self.now in
    let wide = c.reach-wide.ensures.measured (λ n. n) (λ k d l n r. search (rules, tests)) in
    (λ n. n, λ k d l n r. search (rules, tests), second s.table.now s.wide s.close s.names c.args.place s.far s.near (omega (arith, count_facts s.names s.table.now)) s.most s.size (omega arith) (omega arith) _ _ wide)

pub reach-byte-requires-clause-within : goal.reach-byte-requires-clause-within
reach-byte-requires-clause-within c =
    let s = c.args.self.now in
    let wide = c.reach-wide.ensures.measured (λ n. n) (λ k d l n r. search (rules, tests)) in
    let close = c.reach-close.ensures.measured (λ n. n) (λ k d l n r. search (rules, tests)) in
    (weight, λ k d l n r. search (rules, tests), third s.table.now s.wide s.close s.names c.args.place s.far s.near (omega (arith, count_facts s.names s.table.now)) s.most s.size (omega arith) (omega arith) _ _ wide _ _ close)

pub nth_set-bit-requires : goal.nth_set-bit-requires
nth_set-bit-requires c =
    let s = c.args.self.now in
    let wide = c.reach-wide.ensures.measured (λ n. n) (λ k d l n r. search (rules, tests)) in
    let close = c.reach-close.ensures.measured (λ n. n) (λ k d l n r. search (rules, tests)) in
    let byte = c.reach-byte.ensures.measured weight (λ k d l n r. search (rules, tests)) in
    fourth_enough s.table.now s.wide s.close s.names c.args.place s.far s.near (omega (arith, count_facts s.names s.table.now)) s.most s.size (omega arith) (omega arith) _ _ wide _ _ close _ _ byte

pub returns : goal.returns
returns c =
    let s = c.args.self.now in
    let wide = c.reach-wide.ensures.measured (λ n. n) (λ k d l n r. search (rules, tests)) in
    let close = c.reach-close.ensures.measured (λ n. n) (λ k d l n r. search (rules, tests)) in
    let byte = c.reach-byte.ensures.measured weight (λ k d l n r. search (rules, tests)) in
    let x = fourth s.table.now s.wide s.close s.names c.args.place s.far s.near (omega (arith, count_facts s.names s.table.now)) s.most s.size (omega arith) (omega arith) _ _ wide _ _ close _ _ byte c.nth_set-bit.result c.nth_set-bit.ensures.0 c.nth_set-bit.ensures.1 in
    ap Some c.fact_at.ensures ∙ sym (ranked_at s.names s.table.now (omega arith) c.args.place _ x.0 x.1)
