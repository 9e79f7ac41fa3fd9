use Rattle.std.proofs.Common.{◌≡◌, ◌++◌, take}
use Rattle.std.specs.List.{flat_map}
use Rattle.trials.proofs.job.add_rules.Given as goal

abbrev pub invariant-loop-rule : goal.invariant-loop-rule
invariant-loop-rule g l = l.out.items ≡ l.initial.out.items ++ flat_map g.R.Rule.told (take l.rule-index l.rules)
