use Rattle.std.proofs.Common.{true, false, ◌≤◌, map, string_bytes, ◌≡◌, ◌<◌, length, ◌==◌, Err, arith, sym, ap, ◌∙◌}
use Rattle.std.proofs.lemmas.Bool.Decides.{nat_tests}
use Rattle.std.proofs.lemmas.Result.{err_from_is_err_and}
use Rattle.programs.proofs.Choosing.{wrong_words, right_words, lone_word, no_word}
use Rattle.programs.proofs.Limits.{within}
use Rattle.programs.proofs.options.read.Goals as goal

pub returns-in_err-options-clause-chosen : goal.returns-in_err-options-clause-chosen
returns-in_err-options-clause-chosen c =
    let p = err_from_is_err_and c.from_residual.result c.from_residual.ensures.1 in
    p.1 ∙ (wrong_words (λ w. string_bytes w) c.loop-left.options c.loop-left.left.now c.name-item.result c.value-item.result c.in-len2-up.len_at_least c.name-item.is c.value-item.is _ _ c.as_str.ensures.value c.as_str-in-len2-up.ensures.value _ c.with.ensures _ (c.in_err-options.was ∙ ap (λ w. Err w) (sym p.2))) ∙ c.loop-left.invariant

pub loop-left-preserved : goal.loop-left-preserved
loop-left-preserved c = right_words (λ w. string_bytes w) c.loop-left.options c.loop-left.left.now c.name-item.result c.value-item.result c.in-len2-up.len_at_least c.name-item.is c.value-item.is _ _ c.as_str.ensures.value c.as_str-in-len2-up.ensures.value _ c.with.ensures c.in_ok-options.options c.in_ok-options.was ∙ c.loop-left.invariant

pub returns-then-not-is_empty-clause-chosen : goal.returns-then-not-is_empty-clause-chosen
returns-then-not-is_empty-clause-chosen c =
    let test : (length c.loop-left.left.now == 0) ≡ false = sym c.if-not-is_empty.ensures in
    let some : 0 < length c.loop-left.left.now = grind (arith, nat_tests) in
    lone_word (λ w. string_bytes w) c.loop-left.options c.loop-left.left.now c.in_default.len_below some ∙ c.loop-left.invariant

pub returns-clause-within : goal.returns-clause-within
returns-clause-within c =
    let test : (length c.loop-left.left.now == 0) ≡ true = sym c.if-not-is_empty.ensures in
    let none : length c.loop-left.left.now ≤ 0 = grind (arith, nat_tests) in
    within (map (λ w. string_bytes w) c.args.words.now) _ (c.if_few.ensures ∙ (no_word (λ w. string_bytes w) c.loop-left.options c.loop-left.left.now none ∙ c.loop-left.invariant))
