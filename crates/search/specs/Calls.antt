-- What a call on a search is given, and what it answers and leaves.
use Rattle.std.specs.Prelude.{◌≡◌, ℕ, ◌<◌, ◌&&◌, List, [], length, Some, None, Ok, Err, Result, slice_index}
use Rattle.rules.specs.Refusals.{told}
use Rattle.rules.specs.declared.refusal.Refusal.{Refusal as Fault}
use Rattle.rules.specs.Channels.{has}
use Rattle.model.specs.Masks.{grp, chan}
use Rattle.model.specs.Decisions.{Decision}
use Rattle.laws.specs.Words.{listed?, free?}
use Rattle.laws.specs.Requests.{Request, Refusal}
use Rattle.search.specs.declared.held.Progress.{Progress}
use Rattle.search.specs.Regions.{Sizes}

-- What a call is given: the search's groups and numbers, the lists, the book's groups and rules, the allowance, the sizes of the regions that are only written, and the words of the branch and the base.
abbrev pub asking : ℕ → Progress → List ℕ → ℕ → ℕ → ℕ → Sizes → List ℕ → List ℕ → Request
asking groups p lists book_groups rules allowance z branch base = record {
  lists = lists;
  book_groups = book_groups;
  book_rules = rules;
  groups = groups;
  branch_length = p.branch_len;
  base_used = p.base_used;
  moves = p.counts.moves;
  since = p.since;
  allowance = allowance;
  domains_size = z.domains;
  marks_size = z.marks;
  rule_places = z.ends;
  group_places = z.settled;
  plan_size = z.plan;
  branch = branch;
  base = base;
}

-- The channels of each group that are listed and free after the decisions.
abbrev pub FreeFor : List ℕ → List ℕ → List Decision → Type 0
FreeFor lists sets ds = (w : ℕ) → grp w < length lists → has (slice_index sets (grp w)) (chan w) ≡ (listed? lists w && free? w ds)

-- What an open is given.
abbrev pub opening : List ℕ → ℕ → ℕ → Request
opening lists book_groups rules = record {
  lists = lists;
  book_groups = book_groups;
  book_rules = rules;
  groups = 0;
  branch_length = 0;
  base_used = 0;
  moves = 0;
  since = 0;
  allowance = 0;
  domains_size = 0;
  marks_size = 0;
  rule_places = 0;
  group_places = 0;
  plan_size = 0;
  branch = [];
  base = [];
}

-- A call goes on where no refusal is due, and else is refused for the one that is.
abbrev pub Vets : Result (Unit {0}) Fault → Refusal → Type 0
Vets (Ok _) due = due ≡ None
Vets (Err e) due = due ≡ Some (told e)
