use Rattle.programs.proofs.Numbers.{number_read, none_read}
use Rattle.programs.proofs.options.number.Goals as goal

pub returns-in-Ok : goal.returns-in-Ok
returns-in-Ok c = number_read _ _ _ c.args.value.now c.in-Ok.ensures.value.0.0.0 c.in-Ok.ensures.value.0.1 c.if-least-n.true c.if-n-most.true

pub returns-in_default-3 : goal.returns-in_default-3
returns-in_default-3 c = none_read c.args.least _ c.args.value.now c.ranges.most.fits c.in_default.ensures.value.0
