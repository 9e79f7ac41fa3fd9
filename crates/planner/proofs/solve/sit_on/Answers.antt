use Rattle.std.proofs.Common.{◌≡◌, suc, ◌+◌, ◌-◌, arith}
use Rattle.planner.proofs.Goings.{along_first, along_last, along_settled, along_refused, along_open, kept_on}
use Rattle.planner.proofs.solve.sit_on.Goals as goal

pub loop-sitting-init : goal.loop-sitting-init
loop-sitting-init g c =
    let left : c.args.settings.sittings - 0 ≡ c.args.settings.sittings = omega arith in
    rw left (along_first (g.B.RuleBook.lawful c.args.book.now) c.args.search c.args.memory.now c.args.order.now c.args.policy.now)

pub loop-sitting-preserved : goal.loop-sitting-preserved
loop-sitting-preserved g c =
    let new = c.sit.new in
    let left : c.args.settings.sittings - c.loop-sitting._sitting ≡ suc (c.args.settings.sittings - (c.loop-sitting._sitting + 1)) = omega arith in
    along_open (rw left at c.loop-sitting.invariant) new.self new.order new.policy c.in_ok-settled.ensures.kept c.in-Open.next (rw c.in-Open.is at c.in_ok-settled.ensures.answers)

pub returns-in_err-settled-clause-sat : goal.returns-in_err-settled-clause-sat
returns-in_err-settled-clause-sat g c =
    let new = c.sit.new in
    let left : c.args.settings.sittings - c.loop-sitting._sitting ≡ suc (c.args.settings.sittings - (c.loop-sitting._sitting + 1)) = omega arith in
    absurd (along_refused (rw left at c.loop-sitting.invariant) new.self new.order new.policy c.requires.ready c.requires.within c.in_err-settled.field-0.0 c.in_err-settled.ensures.answers)

pub returns-in_err-settled-clause-kept : goal.returns-in_err-settled-clause-kept
returns-in_err-settled-clause-kept g c = kept_on c.args.memory.now c.loop-sitting.memory c.sit.new.self c.loop-sitting.invariant.kept c.in_err-settled.ensures.kept

pub returns-in_default-clause-kept : goal.returns-in_default-clause-kept
returns-in_default-clause-kept g c = kept_on c.args.memory.now c.loop-sitting.memory c.sit.new.self c.loop-sitting.invariant.kept c.in_ok-settled.ensures.kept

pub returns-in_default-clause-sat : goal.returns-in_default-clause-sat
returns-in_default-clause-sat g c =
    let new = c.sit.new in
    let left : c.args.settings.sittings - c.loop-sitting._sitting ≡ suc (c.args.settings.sittings - (c.loop-sitting._sitting + 1)) = omega arith in
    along_settled (rw left at c.loop-sitting.invariant) new.self new.order new.policy c.in_ok-settled.settled c.in_default.not-Open c.in_ok-settled.ensures.answers

pub returns-clause-sat : goal.returns-clause-sat
returns-clause-sat g c =
    let left : c.args.settings.sittings - c.loop-sitting._sitting ≡ 0 = omega arith in
    along_last (rw left at c.loop-sitting.invariant)

pub returns-clause-kept : goal.returns-clause-kept
returns-clause-kept g c = c.loop-sitting.invariant.kept
