use Rattle.std.proofs.Common.{rules, Ok, Err, refl}
use Rattle.search.specs.declared.held.Sat.TheVariants.{Plan, None, Open}
use Rattle.search.specs.Sittings.{lent_in}
use Rattle.client.proofs.sit_twice.Goals as goal

pub returns-in_err-next : goal.returns-in_err-next
returns-in_err-next g c = record {
  between = lent_in c.sitting.new.regions c.sitting.new.order c.sitting.new.policy;
  first = Err c.in_err-next.field-0.0;
  sat = c.in_err-next.ensures.answers;
  next = (search rules, refl);
}

pub returns-in-Open : goal.returns-in-Open
returns-in-Open g c = record {
  between = lent_in c.sitting.new.regions c.sitting.new.order c.sitting.new.policy;
  first = Ok (Open c.in-Open.next);
  sat = rw c.in-Open.is at c.in_ok-next.ensures.answers;
  next = search;
}

pub returns-in-Plan : goal.returns-in-Plan
returns-in-Plan g c = record {
  between = lent_in c.sitting.new.regions c.sitting.new.order c.sitting.new.policy;
  first = Ok (Plan c.in-Plan.done);
  sat = rw c.in-Plan.is at c.in_ok-next.ensures.answers;
  next = (refl, refl);
}

pub returns-in-None : goal.returns-in-None
returns-in-None g c = record {
  between = lent_in c.sitting.new.regions c.sitting.new.order c.sitting.new.policy;
  first = Ok (None c.in-None.done);
  sat = rw c.in-None.is at c.in_ok-next.ensures.answers;
  next = (refl, refl);
}
