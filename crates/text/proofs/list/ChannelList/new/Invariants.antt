use Rattle.std.proofs.Common.{◌≡◌, ℕ, map, ◌&&◌, nat_lt}
use Rattle.rules.specs.Channels.{has}
use Rattle.text.specs.Lists.{Apart, Below, ends, listed}
use Rattle.text.proofs.list.ChannelList.new.Given as goal

-- the channels that were passed
abbrev pub invariant-loop-channel : goal.invariant-loop-channel
invariant-loop-channel l = record {
  channels : (c : ℕ) → listed (map ends l.spans.items) c ≡ (nat_lt c l.channel && has l.set c);
  below : Below l.channel (map ends l.spans.items);
  apart : Apart 0 (map ends l.spans.items);
}
