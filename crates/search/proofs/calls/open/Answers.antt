use Rattle.std.proofs.Common.{refl, rules}
use Rattle.model.specs.Moves.{start}
use Rattle.laws.specs.Sittings.{unsettled}
use Rattle.laws.specs.Runs.{Run, opened}
use Rattle.laws.proofs.Runs.{law}
use Rattle.search.specs.Calls.{opening}
use Rattle.search.proofs.States.{opened_state}
use Rattle.search.proofs.calls.open.Goals as goal

pub returns : goal.returns
returns g c =
    let lists = c.args.lists.now in
    let book = g.B.RuleBook.meaning c.args.book.now in
    let accepted = c.in_ok-vet_open.ensures in
    let run : Run lists book unsettled start = opened (opening lists book.groups book.count) refl (record { groups = refl; rules = refl }) accepted in
    record {
      accepted = accepted;
      groups = refl;
      state = λ branch base. search (rules, opened_state);
      used = search rules;
      begins = (run, refl, refl, law lists book (g.B.RuleBook.lawful c.args.book.now) unsettled start run);
    }
