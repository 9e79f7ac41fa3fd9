use Rattle.std.proofs.Common.{rules, tests}
use Rattle.std.proofs.lemmas.Bool.{both_ways}
use Rattle.rules.specs.Supports.{allows, Backed}
use Rattle.rules.proofs.Taking.{any_passes, keeping_on, keeping_less}
use Rattle.rules.proofs.book.RuleBook.backed.Goals as goal

pub loop-a-preserved-then-not-any : goal.loop-a-preserved-then-not-any
loop-a-preserved-then-not-any g c =
    let m = g.Self.RuleBook.meaning c.args.self.now in
    let a = c.in-Some.a in
    let d = any_passes _ _ (allows m c.args.i c.args.second a) (λ x r q k. (search (rules, tests), search (rules, tests))) _ c.any.new.self c.any.result c.any.ensures.ran in
    keeping_less (Backed m c.args.i c.args.second c.args.across) c.args.set c.loop-a.rest c.loop-a.a-iterator.0 a c.next.new.self.0 c.loop-a.invariant c.in-Some.ensures.steps.2
    c.without-rest.result (λ b. both_ways c.any.result c.if-not-any.true (d.1 b)) c.without-rest.ensures.bits

pub loop-a-preserved : goal.loop-a-preserved
loop-a-preserved g c =
    let m = g.Self.RuleBook.meaning c.args.self.now in
    let a = c.in-Some.a in
    let d = any_passes _ _ (allows m c.args.i c.args.second a) (λ x r q k. (search (rules, tests), search (rules, tests))) _ c.any.new.self c.any.result c.any.ensures.ran in
    keeping_on (Backed m c.args.i c.args.second c.args.across) c.args.set c.loop-a.rest c.loop-a.a-iterator.0 a c.next.new.self.0 c.loop-a.invariant c.in-Some.ensures.steps.2
    (d.0 c.if-not-any.false)
