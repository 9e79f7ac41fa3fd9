use Rattle.text.specs.Drafts.{made}
use Rattle.text.proofs.Drafting.{add_is, lacks_is}
use Rattle.text.proofs.read.add_line.Goals as goal

pub returns-in_ok-read_line-in-Ok : goal.returns-in_ok-read_line-in-Ok
returns-in_ok-read_line-in-Ok c = add_is (made c.args.draft.now) c.args.line.now c.in-Ok.text.now c.in_ok-read_line-in-Ok.field-0 c.add.result (made c.add.new.self) c.in-Ok.ensures.cases.0 c.in_ok-read_line-in-Ok.ensures c.add.ensures

pub returns-in_err-read_line-in-Ok : goal.returns-in_err-read_line-in-Ok
returns-in_err-read_line-in-Ok c = lacks_is (made c.args.draft.now) c.args.line.now c.in-Ok.text.now _ c.from_residual.result (made c.args.draft.now) c.in-Ok.ensures.cases.0 c.in_err-read_line-in-Ok.ensures c.from_residual.ensures.1
