use Rattle.std.proofs.Common.{◌≡◌, ℕ, ◌+◌, ◌&&◌, ◌<◌, nat_lt, map, arith}
use Rattle.rules.specs.Channels.{has}
use Rattle.text.specs.Lists.{Apart, Below, ends, listed}
use Rattle.text.proofs.Spans.{all_passed, passed_with, passed_without, skip_fits}
use Rattle.text.proofs.list.ChannelList.new.Goals.{then-has_channel+in_ok-add_channel, else-has_channel}
use Rattle.text.proofs.list.ChannelList.new.Goals as goal

pub loop-channel-preserved : goal.loop-channel-preserved
loop-channel-preserved c =
    let n = c.loop-channel.channel in
    let xs = map ends c.loop-channel.spans.items in
    let i = c.loop-channel.invariant in
    let low : c.loop-channel.channel < 64 = omega arith in
    record {
      channels = elim c.if-has_channel.branch as (λ _. (m : ℕ) → listed (map ends c.if-has_channel.spans.items) m ≡ (nat_lt m (n + 1) && has c.args.set m)) [
        | then-has_channel+in_ok-add_channel w ↦ rw w.spans-is (passed_with c.args.set n xs _ c.has_channel.result low c.has_channel.ensures w.if-has_channel.true w.in_ok-add_channel.ensures.channels i.channels)
        | else-has_channel w ↦ rw w.spans-is (passed_without c.args.set n xs c.has_channel.result low c.has_channel.ensures w.if-has_channel.false i.channels)
      ];
      below = elim c.if-has_channel.branch as (λ _. Below (n + 1) (map ends c.if-has_channel.spans.items)) [
        | then-has_channel+in_ok-add_channel w ↦ rw w.spans-is w.in_ok-add_channel.ensures.below
        | else-has_channel w ↦ rw w.spans-is (skip_fits n xs i.below)
      ];
      apart = elim c.if-has_channel.branch as (λ _. Apart 0 (map ends c.if-has_channel.spans.items)) [
        | then-has_channel+in_ok-add_channel w ↦ rw w.spans-is w.in_ok-add_channel.ensures.apart
        | else-has_channel w ↦ rw w.spans-is i.apart
      ];
    }

pub returns-clause-channels : goal.returns-clause-channels
returns-clause-channels c = all_passed c.args.set c.loop-channel.channel (map ends c.loop-channel.spans.items) (omega arith) (omega arith) c.loop-channel.invariant.channels
