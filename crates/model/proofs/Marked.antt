-- A branch has no assignment twice, so at most 64 decisions a group.
use Rattle.std.proofs.Common.{◌≡◌, ℕ, suc, ◌*◌, ◌<◌, ◌≤◌, List, [], ◌∷◌, length, get_or, set, replicate, sym, ap, ◌∙◌, arith, lit<, length-set, get_or-set_other}
use lib.ListN.{length-replicate}
use Rattle.model.specs.Masks.{grp}
use Rattle.model.specs.Decisions.{Decision, taken, refused, word, Free, Branch}
use Rattle.model.proofs.Count.{count, count-≤}
use Rattle.model.proofs.Chosen.{given, set_given, empty_given, empty_at}

-- A place for each word, marked by 0 where the word is on the branch.
abbrev marked : ℕ → List Decision → List ℕ
marked m [] = replicate m 64
marked m (d ∷ ds) = set (marked m ds) (word d) 0

marked_length : (m : ℕ) (ds : List Decision) → length (marked m ds) ≡ m
marked_length m [] = length-replicate m 64
marked_length m (d ∷ ds) = length-set (marked m ds) (word d) 0 ∙ marked_length m ds

unmarked : (m w : ℕ) (ds : List Decision) → Free w ds → get_or (marked m ds) w 64 ≡ 64
unmarked m w [] f = empty_at m w
unmarked m w (taken v ∷ ds) f = get_or-set_other (marked m ds) v w 0 64 (λ e. f.0 (ap grp (sym e))) ∙ unmarked m w ds f.1
unmarked m w (refused v ∷ ds) f = get_or-set_other (marked m ds) v w 0 64 (λ e. f.0 (sym e)) ∙ unmarked m w ds f.1

below_all : (n w : ℕ) → grp w < n → w < 64 * n
below_all n w h = omega arith

marks : (lists : List ℕ) (ds : List Decision) → Branch lists ds → count given (marked (64 * length lists) ds) ≡ length ds
marks lists [] b = empty_given (64 * length lists)
marks lists (d ∷ ds) b =
    set_given (marked (64 * length lists) ds) (word d) 0 (rw (marked_length (64 * length lists) ds) (below_all (length lists) (word d) b.0.group)) (unmarked (64 * length lists) (word d) ds b.1) (lit< tt)
    ∙ ap suc (marks lists ds b.2)

pub branch_few : (lists : List ℕ) (ds : List Decision) → Branch lists ds → length ds ≤ 64 * length lists
branch_few lists ds b = omega (arith, marks lists ds b, count-≤ given (marked (64 * length lists) ds), marked_length (64 * length lists) ds)
