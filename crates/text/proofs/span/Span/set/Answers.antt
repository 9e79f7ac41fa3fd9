use Rattle.std.proofs.Common.{arith}
use Rattle.text.proofs.Spans.{masks}
use Rattle.text.proofs.span.Span.set.Goals as goal

pub returns : goal.returns
returns c = λ n. masks c.args.self.now.first c.args.self.now.last n (omega arith) (omega arith)
