-- What a call is given, and which refusal it answers.
use Rattle.std.specs.Prelude.{ℕ, zero, suc, ◌+◌, ◌*◌, Bool, true, false, ◌&&◌, List, [], ◌∷◌, length, take, Some, None, Option, ◌==◌, nat_le, nat_lt}
use Rattle.model.specs.Decisions.{reduced}
use Rattle.model.specs.Words.{branch_of, recorded}
use Rattle.laws.specs.Words.{branch?, base?}

pub record Request : Type 0 where
  pub lists : List ℕ
  -- the book's numbers of groups and of rules
  pub book_groups : ℕ
  pub book_rules : ℕ
  -- the numbers that the search carries
  pub groups : ℕ
  pub branch_length : ℕ
  pub base_used : ℕ
  pub moves : ℕ
  pub since : ℕ
  pub allowance : ℕ
  -- the sizes of the regions that are only written, and the words of the two that are read
  pub domains_size : ℕ
  pub marks_size : ℕ
  pub rule_places : ℕ
  pub group_places : ℕ
  pub plan_size : ℕ
  pub branch : List ℕ
  pub base : List ℕ

-- A refusal, as number and place, or none.
abbrev pub Refusal : Type 0
Refusal = Option (ℕ × ℕ)

-- The number at place 0 where the test fails.
abbrev pub unless : Bool → ℕ → Refusal
unless true n = None
unless false n = Some (n, 0)

-- The first of two refusals.
abbrev pub or_else : Refusal → Refusal → Refusal
or_else (Some r) q = Some r
or_else None q = q

abbrev pub first_of : List Refusal → Refusal
first_of [] = None
first_of (r ∷ rs) = or_else r (first_of rs)

-- The lowest group, counted from g, with no channel listed.
abbrev pub empty_at : ℕ → ℕ → Refusal → Refusal
empty_at zero g later = Some (3, g)
empty_at (suc m) g later = later

abbrev pub empty_from : ℕ → List ℕ → Refusal
empty_from g [] = None
empty_from g (m ∷ ms) = empty_at m g (empty_from (suc g) ms)

module _ (q : Request) where
  abbrev pub in_range : Bool
  in_range = nat_le 1 (length q.lists) && nat_le (length q.lists) 200

  abbrev pub book_agrees : Bool
  book_agrees = q.book_groups == length q.lists && nat_le q.book_rules 4096

  abbrev pub search_agrees : Bool
  search_agrees = q.groups == length q.lists

  abbrev pub base_fits : Bool
  base_fits = nat_le q.base_used (length q.base) && nat_le (length q.base) 65536

  abbrev pub branch_fits : Bool
  branch_fits = nat_le (64 * q.groups) (length q.branch)

  abbrev pub work_fits : Bool
  work_fits =
      (nat_le q.groups q.domains_size && nat_le 256 q.marks_size)
      && ((nat_le (2 * q.book_rules) q.rule_places && nat_le q.groups q.group_places) && nat_le q.groups q.plan_size)

  -- What the branch words and the used base words must be.
  abbrev pub is_branch_sound : Bool
  is_branch_sound = branch? q.lists (branch_of q.branch q.branch_length)

  abbrev pub is_base_sound : Bool
  is_base_sound = base? q.lists (take q.base_used q.base)

  -- The base has space for the reduced nogoods of the branch's refusals.
  abbrev pub has_space : Bool
  has_space = nat_le (q.base_used + length (recorded (reduced (branch_of q.branch q.branch_length)))) (length q.base)

  -- The checks of each call, in their order.
  abbrev pub open_checks : List Refusal
  open_checks = unless (in_range && book_agrees) 9 ∷ empty_from 0 q.lists ∷ []

  abbrev pub sitting_checks : List Refusal
  sitting_checks =
      unless (in_range && (book_agrees && search_agrees)) 9
      ∷ empty_from 0 q.lists
      ∷ unless (base_fits && (branch_fits && work_fits)) 10
      ∷ unless (nat_le 1 q.allowance && nat_le q.allowance 1000000) 11
      ∷ unless (nat_le (q.moves + q.allowance) 100000000) 12
      ∷ unless is_branch_sound 13
      ∷ unless is_base_sound 16
      ∷ unless (nat_lt q.branch_length (64 * q.groups)) 20
      ∷ []

  abbrev pub restart_checks : List Refusal
  restart_checks =
      unless (in_range && search_agrees) 9
      ∷ empty_from 0 q.lists
      ∷ unless (base_fits && branch_fits) 10
      ∷ unless (nat_le (q.moves + 1) 100000000) 12
      ∷ unless is_branch_sound 13
      ∷ unless is_base_sound 16
      ∷ unless (nat_le 1 q.since) 14
      ∷ unless has_space 15
      ∷ []

  abbrev pub open_refusal : Refusal
  open_refusal = first_of open_checks

  abbrev pub sitting_refusal : Refusal
  sitting_refusal = first_of sitting_checks

  abbrev pub restart_refusal : Refusal
  restart_refusal = first_of restart_checks
