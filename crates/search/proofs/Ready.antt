-- What an accepted sitting may rely on.
use Rattle.std.proofs.Common.{◌≡◌, ℕ, ◌+◌, ◌*◌, ◌≤◌, true, ◌&&◌, eqb, leb, List, length, take, None, sym, ap, ◌∙◌, subst, arith}
use Rattle.std.specs.List.{AllByRecursion}
use Rattle.std.proofs.lemmas.Bool.{and_parts, eqb-true, leb-true}
use Rattle.rules.specs.Meanings.{Meaning}
use Rattle.model.specs.Decisions.{reduced, Nogood}
use Rattle.model.specs.Words.{branch_of, base_of, recorded}
use Rattle.model.proofs.Bases.{base_recorded}
use Rattle.laws.specs.Words.{base?}
use Rattle.laws.specs.Requests.{in_range, book_agrees, search_agrees, base_fits, branch_fits, work_fits, is_branch_sound, is_base_sound, has_space, sitting_checks, restart_checks, sitting_refusal, restart_refusal}
use Rattle.laws.proofs.Refusals.{unless_none, all_none}
use Rattle.laws.proofs.Words.{is_branch, is_base}
use Rattle.search.specs.declared.held.OpenSearch.{OpenSearch}
use Rattle.search.specs.Counts.{Counted}
use Rattle.propagation.specs.Benches.{Roomy}
use Rattle.search.specs.Turns.{Fit}
use Rattle.search.specs.Sittings.{Lent, request}
use Rattle.search.specs.Restarts.{recall}

pub record Ready {O P : Type 0} (book : Meaning) (s : OpenSearch) (lists : List ℕ) (allowance : ℕ) (r : Lent O P) : Type 0 where
  pub groups : book.groups ≡ length lists
  pub rules : book.count ≤ 4096
  pub searched : s.groups ≡ length lists
  pub fit : Fit lists s.at r.branch r.base
  pub counted : Counted allowance s.at
  pub roomy : Roomy (length lists) book.count (length r.domains) (length r.marks) (length r.ends) (length r.settled)
  pub plan : length lists ≤ length r.plan

-- The used words of a base that passes its test.
base_words_lem : (lists ws : List ℕ) → base? lists ws ≡ true → AllByRecursion (Nogood lists) (base_of ws) × (ws ≡ recorded (base_of ws))
base_words_lem lists ws e =
    let b = is_base lists ws e in
    let same : base_of ws ≡ b.0 = ap base_of b.1 ∙ base_recorded b.0 in
    (subst (AllByRecursion (Nogood lists)) (sym same) b.2, b.1 ∙ ap recorded (sym same))

pub ready : {O P : Type 0} (book : Meaning) (s : OpenSearch) (lists : List ℕ) (allowance : ℕ) (r : Lent O P) → sitting_refusal (request s lists book allowance r) ≡ None → Ready book s lists allowance r
ready book s lists allowance r e =
    let q = request s lists book allowance r in
    let n = all_none (sitting_checks q) e in
    let c9 = and_parts (in_range q) (book_agrees q && search_agrees q) (unless_none (in_range q && (book_agrees q && search_agrees q)) 9 n.0) in
    let range = and_parts (leb 1 (length lists)) (leb (length lists) 200) c9.0 in
    let agree = and_parts (book_agrees q) (search_agrees q) c9.1 in
    let books = and_parts (eqb book.groups (length lists)) (leb book.count 4096) agree.0 in
    let c10 = and_parts (base_fits q) (branch_fits q && work_fits q) (unless_none (base_fits q && (branch_fits q && work_fits q)) 10 n.1.1.0) in
    let base = and_parts (leb s.at.base_used (length r.base)) (leb (length r.base) 65536) c10.0 in
    let rest = and_parts (branch_fits q) (work_fits q) c10.1 in
    let work = and_parts (leb s.groups (length r.domains) && leb 256 (length r.marks)) ((leb (2 * book.count) (length r.ends) && leb s.groups (length r.settled)) && leb s.groups (length r.plan)) rest.1 in
    let front = and_parts (leb s.groups (length r.domains)) (leb 256 (length r.marks)) work.0 in
    let back = and_parts (leb (2 * book.count) (length r.ends) && leb s.groups (length r.settled)) (leb s.groups (length r.plan)) work.1 in
    let places = and_parts (leb (2 * book.count) (length r.ends)) (leb s.groups (length r.settled)) back.0 in
    let same : s.groups ≡ length lists = eqb-true s.groups (length lists) agree.1 in
    let moves = leb-true (s.at.counts.moves + allowance) 100000000 (unless_none (leb (s.at.counts.moves + allowance) 100000000) 12 n.1.1.1.1.0) in
    let words = base_words_lem lists (take s.at.base_used r.base) (unless_none (is_base_sound q) 16 n.1.1.1.1.1.1.0) in
    let within = s.within in
    let g1 = leb-true s.groups (length r.domains) front.0 in
    let g2 = leb-true s.groups (length r.settled) places.1 in
    let g3 = leb-true s.groups (length r.plan) back.1 in
    let g4 = leb-true (64 * s.groups) (length r.branch) rest.0 in
    record {
      groups = eqb-true book.groups (length lists) books.0;
      rules = leb-true book.count 4096 books.1;
      searched = same;
      fit = record {
        some = leb-true 1 (length lists) range.0;
        few = leb-true (length lists) 200 range.1;
        branch_in = omega arith;
        branch_room = omega arith;
        base_in = leb-true s.at.base_used (length r.base) base.0;
        base_room = leb-true (length r.base) 65536 base.1;
        sound = is_branch lists (branch_of r.branch s.at.branch_len) (unless_none (is_branch_sound q) 13 n.1.1.1.1.1.0);
        nogoods = words.0;
        words = words.1;
      };
      counted = record { moves = moves; closings = s.counted.closings; restarts = s.counted.restarts; since = s.counted.since };
      roomy = record { domains = omega arith; marks = leb-true 256 (length r.marks) front.1; ends = leb-true (2 * book.count) (length r.ends) places.0; settled = omega arith };
      plan = omega arith;
    }

-- What an accepted restart may rely on.
pub record ReadyRestart (s : OpenSearch) (lists branch base : List ℕ) : Type 0 where
  pub searched : s.groups ≡ length lists
  pub fit : Fit lists s.at branch base
  pub counted : Counted 1 s.at
  pub space : s.at.base_used + length (recorded (reduced (branch_of branch s.at.branch_len))) ≤ length base

pub ready_restart : (s : OpenSearch) (lists branch base : List ℕ) → restart_refusal (recall s lists branch base) ≡ None → ReadyRestart s lists branch base
ready_restart s lists branch base e =
    let q = recall s lists branch base in
    let n = all_none (restart_checks q) e in
    let c9 = and_parts (in_range q) (search_agrees q) (unless_none (in_range q && search_agrees q) 9 n.0) in
    let range = and_parts (leb 1 (length lists)) (leb (length lists) 200) c9.0 in
    let c10 = and_parts (base_fits q) (branch_fits q) (unless_none (base_fits q && branch_fits q) 10 n.1.1.0) in
    let used = and_parts (leb s.at.base_used (length base)) (leb (length base) 65536) c10.0 in
    let same : s.groups ≡ length lists = eqb-true s.groups (length lists) c9.1 in
    let moves = leb-true (s.at.counts.moves + 1) 100000000 (unless_none (leb (s.at.counts.moves + 1) 100000000) 12 n.1.1.1.0) in
    let words = base_words_lem lists (take s.at.base_used base) (unless_none (is_base_sound q) 16 n.1.1.1.1.1.0) in
    let within = s.within in
    let g4 = leb-true (64 * s.groups) (length branch) c10.1 in
    record {
      searched = same;
      fit = record {
        some = leb-true 1 (length lists) range.0;
        few = leb-true (length lists) 200 range.1;
        branch_in = omega arith;
        branch_room = omega arith;
        base_in = leb-true s.at.base_used (length base) used.0;
        base_room = leb-true (length base) 65536 used.1;
        sound = is_branch lists (branch_of branch s.at.branch_len) (unless_none (is_branch_sound q) 13 n.1.1.1.1.0);
        nogoods = words.0;
        words = words.1;
      };
      counted = record { moves = moves; closings = s.counted.closings; restarts = s.counted.restarts; since = s.counted.since };
      space = leb-true (s.at.base_used + length (recorded (reduced (branch_of branch s.at.branch_len)))) (length base) (unless_none (has_space q) 15 n.1.1.1.1.1.1.1.0);
    }
