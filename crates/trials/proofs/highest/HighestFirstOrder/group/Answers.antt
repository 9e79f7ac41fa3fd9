use Rattle.std.proofs.Common.{rules, ◌≡◌, ℕ, ◌<◌, true, false, length, None, sym, ◌∙◌}
use Rattle.branching.specs.Channels.{open?}
use Rattle.trials.specs.Tops.{highest_at, none_highest}
use Rattle.trials.proofs.highest.HighestFirstOrder.group.Goals as goal

pub returns-in_err-g-clause-answer : goal.returns-in_err-g-clause-answer
returns-in_err-g-clause-answer c =
    let ms = c.args.domains.now in
    let shut : (j : ℕ) → j < length ms → open? ms j ≡ false = search rules in
    let none : c.from_residual.result ≡ None = search rules in
    none ∙ sym (none_highest ms (length ms) shut)

pub returns-clause-answer : goal.returns-clause-answer
returns-clause-answer c =
    let ms = c.args.domains.now in
    let g = c.in_ok-g.g in
    let within : g < length ms = search rules in
    let two : open? ms g ≡ true = search rules in
    let above : (j : ℕ) → g < j → j < length ms → open? ms j ≡ false = search rules in
    sym (highest_at ms (length ms) g within two above)
