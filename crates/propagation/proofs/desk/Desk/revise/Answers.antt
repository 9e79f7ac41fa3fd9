use Rattle.std.proofs.Common.{sym}
use Rattle.std.proofs.lemmas.Result.{on_ok_weaker, on_err_weaker}
use Rattle.propagation.proofs.Steps.{ends_apart}
use Rattle.propagation.proofs.Revising.{looked_within, looked_done, looked_dead}
use Rattle.propagation.proofs.desk.Desk.revise.Goals as goal

pub returns-clause-within : goal.returns-clause-within
returns-clause-within g c =
    let m = g.B.RuleBook.meaning c.args.self.now.book.now in
    let law = g.B.RuleBook.lawful c.args.self.now.book.now in
    let ms = c.args.self.now.domains.now in
    let ms' = c.shrink.new.self.domains.now in
    let i = c.args.e.rule in
    let s = c.args.e.second in
    let x = c.in-Some.pair in
    let n = c.turned-near.result.0 in
    let f = c.turned-near.result.1 in
    let k = c.backed-keeps.result in
    let is = sym c.in-Some.ensures.read in
    let apart = ends_apart m law i x is in
    let h = c.turned-near.ensures in
    looked_within m ms ms' i s x n f k is h.here h.there apart c.requires.held.fits.groups c.backed-keeps.ensures c.shrink.ensures.left

pub returns-clause-dead : goal.returns-clause-dead
returns-clause-dead g c =
    let m = g.B.RuleBook.meaning c.args.self.now.book.now in
    let law = g.B.RuleBook.lawful c.args.self.now.book.now in
    let ms = c.args.self.now.domains.now in
    let ms' = c.shrink.new.self.domains.now in
    let i = c.args.e.rule in
    let s = c.args.e.second in
    let x = c.in-Some.pair in
    let n = c.turned-near.result.0 in
    let f = c.turned-near.result.1 in
    let k = c.backed-keeps.result in
    let is = sym c.in-Some.ensures.read in
    let apart = ends_apart m law i x is in
    let h = c.turned-near.ensures in
    on_err_weaker c.shrink.result (looked_dead m ms ms' i s x n f k is h.here h.there apart c.requires.held.fits.groups c.backed-keeps.ensures c.shrink.ensures.left) c.shrink.ensures.dead

pub returns-clause-done : goal.returns-clause-done
returns-clause-done g c =
    let m = g.B.RuleBook.meaning c.args.self.now.book.now in
    let law = g.B.RuleBook.lawful c.args.self.now.book.now in
    let ms = c.args.self.now.domains.now in
    let ms' = c.shrink.new.self.domains.now in
    let i = c.args.e.rule in
    let s = c.args.e.second in
    let x = c.in-Some.pair in
    let n = c.turned-near.result.0 in
    let f = c.turned-near.result.1 in
    let k = c.backed-keeps.result in
    let is = sym c.in-Some.ensures.read in
    let apart = ends_apart m law i x is in
    let h = c.turned-near.ensures in
    on_ok_weaker c.shrink.result (λ _. looked_done m ms ms' i s x n f k is h.here h.there apart c.requires.held.fits.groups c.backed-keeps.ensures c.shrink.ensures.left) c.shrink.ensures.step
