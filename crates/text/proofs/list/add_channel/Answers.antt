use Rattle.std.proofs.Common.{◌≡◌, refl}
use Rattle.text.proofs.Spans.{span_longer, span_next}
use Rattle.text.proofs.list.add_channel.Goals as goal

pub returns-in_ok-push-in-Some-clause-below : goal.returns-in_ok-push-in-Some-clause-below
returns-in_ok-push-in-Some-clause-below c =
    (span_longer c.args.channel c.args.spans.now.items c.pop.new.self.items c.push-in-Some.new.self.items c.in-Some.top _ c.in-Some.ensures.items c.in_ok-push-in-Some.ensures.items refl c.requires.above c.requires.apart).below

pub returns-in_ok-push-in-Some-clause-apart : goal.returns-in_ok-push-in-Some-clause-apart
returns-in_ok-push-in-Some-clause-apart c =
    (span_longer c.args.channel c.args.spans.now.items c.pop.new.self.items c.push-in-Some.new.self.items c.in-Some.top _ c.in-Some.ensures.items c.in_ok-push-in-Some.ensures.items refl c.requires.above c.requires.apart).apart

pub returns-in_ok-push-in-Some-2-2-clause-below : goal.returns-in_ok-push-in-Some-2-2-clause-below
returns-in_ok-push-in-Some-2-2-clause-below c =
    let same : c.in-Some.top ≡ c.in-Some-2.top = cc in
    let far = rw same at c.if-top-channel.false in
    (span_next c.args.channel c.args.spans.now.items c.pop.new.self.items c.push-in-Some-2.new.self.items c.push-in-Some-2-2.new.self.items c.in-Some-2.top _ c.in-Some-2.ensures.items c.in_ok-push-in-Some-2.ensures.items c.in_ok-push-in-Some-2-2.ensures.items refl far c.requires.above c.requires.apart).below

pub returns-in_ok-push-in-Some-2-2-clause-apart : goal.returns-in_ok-push-in-Some-2-2-clause-apart
returns-in_ok-push-in-Some-2-2-clause-apart c =
    let same : c.in-Some.top ≡ c.in-Some-2.top = cc in
    let far = rw same at c.if-top-channel.false in
    (span_next c.args.channel c.args.spans.now.items c.pop.new.self.items c.push-in-Some-2.new.self.items c.push-in-Some-2-2.new.self.items c.in-Some-2.top _ c.in-Some-2.ensures.items c.in_ok-push-in-Some-2.ensures.items c.in_ok-push-in-Some-2-2.ensures.items refl far c.requires.above c.requires.apart).apart
