use Rattle.std.proofs.Common.{◌≡◌, ℕ, ◌||◌, Ok, rules, arith, ◌∙◌, ap, bit_or}
use Rattle.std.proofs.lemmas.Str.Pattern.{split_once_first}
use Rattle.rules.specs.Channels.{has}
use Rattle.text.specs.Lists.{ends, covers}
use Rattle.text.proofs.Spans.{has_or}
use Rattle.text.proofs.Readings.{reading_more, reading_stuck, reading_ends, reading_fails, list_is}
use Rattle.text.proofs.list.read_list.Goals as goal

-- the word says a span, whose channels are taken in
pub loop-word-preserved : goal.loop-word-preserved
loop-word-preserved c =
    let parts = rw c.in-Some.is at (split_once_first 44 c.loop-word.rest.now _ c.split_once.ensures.cases (omega arith)) in
    let adds : (n : ℕ) → has (bit_or c.loop-word.set c.set.result) n ≡ (has c.loop-word.set n || covers (ends c.in_ok-read.field-0) n) = λ n. has_or c.loop-word.set c.set.result n ∙ ap (λ b. has c.loop-word.set n || b) (c.set.ensures n) in
    (search rules, reading_more _ _ _ _ _ _ _ c.loop-word.invariant.1 parts.0 parts.1 parts.2 c.in_ok-read.ensures adds)

-- a word in the middle says none
pub returns-in_err-read : goal.returns-in_err-read
returns-in_err-read c =
    let parts = rw c.in-Some.is at (split_once_first 44 c.loop-word.rest.now _ c.split_once.ensures.cases (omega arith)) in
    let said = list_is c.args.text.now _ (search rules) (reading_stuck _ _ _ _ _ c.loop-word.invariant.1 parts.0 parts.1 c.in_err-read.ensures) in
    search rules

-- the last word says none
pub returns-in_err-read-2 : goal.returns-in_err-read-2
returns-in_err-read-2 c =
    let parts = rw c.in_default.is at (split_once_first 44 c.loop-word.rest.now _ c.split_once.ensures.cases (omega arith)) in
    let said = list_is c.args.text.now _ (search rules) (reading_fails _ _ _ _ c.loop-word.invariant.1 parts c.in_err-read-2.ensures) in
    search rules

pub returns : goal.returns
returns c =
    let parts = rw c.in_default.is at (split_once_first 44 c.loop-word.rest.now _ c.split_once.ensures.cases (omega arith)) in
    let adds : (n : ℕ) → has (bit_or c.loop-word.set c.set-2.result) n ≡ (has c.loop-word.set n || covers (ends c.in_ok-read-2.field-0) n) = λ n. has_or c.loop-word.set c.set-2.result n ∙ ap (λ b. has c.loop-word.set n || b) (c.set-2.ensures n) in
    let all = reading_ends _ _ _ _ _ c.loop-word.invariant.1 parts c.in_ok-read-2.ensures adds in
    (all.0, list_is c.args.text.now (Ok all.0) (search rules) all.1, all.2)
