-- Every run keeps the branch well formed and the base a list of nogoods.
use Rattle.std.proofs.Common.{◌≡◌, ℕ, true, false, ◌≢◌, List, [], ◌∷◌, ◌++◌, sym, ◌∙◌, subst}
use mathlib.Core.List.{concat-ne-nil}
use Rattle.std.specs.List.{AllByRecursion}
use Rattle.std.proofs.ByRecursion.{All-append, All-push}
use Rattle.std.proofs.lemmas.Bool.{both_ways}
use Rattle.model.specs.Masks.{grp, chan}
use Rattle.rules.specs.Meanings.{Meaning}
use Rattle.model.specs.Decisions.{Decision, taken, refused, takens, reduced, closed, Free, Assignment, Branch, Apart, Nogood}
use Rattle.model.specs.Remains.{Family, Obeys}
use Rattle.model.specs.Moves.{State, start, restarting, Move, close, restart, decide, called, Reach, here, more}

pub apart_push : (ws : List ℕ) (w : ℕ) → Apart ws → AllByRecursion (λ v. grp v ≢ grp w) ws → Apart (ws ++ w ∷ [])
apart_push [] w a f = (tt, tt)
apart_push (v ∷ ws) w a f = (All-push (λ u. grp v ≢ grp u) ws w a.0 f.0, apart_push ws w a.1 f.1)

pub free_takens : (w : ℕ) (ds : List Decision) → Free w ds → AllByRecursion (λ v. grp v ≢ grp w) (takens ds)
free_takens w [] f = tt
free_takens w (taken v ∷ ds) f = All-push (λ v. grp v ≢ grp w) (takens ds) v (free_takens w ds f.1) f.0
free_takens w (refused v ∷ ds) f = free_takens w ds f.1

module _ (lists : List ℕ) where
  pub takens_listed : (ds : List Decision) → Branch lists ds → AllByRecursion (Assignment lists) (takens ds)
  takens_listed [] b = tt
  takens_listed (taken v ∷ ds) b = All-push (Assignment lists) (takens ds) v (takens_listed ds b.2) b.0
  takens_listed (refused v ∷ ds) b = takens_listed ds b.2

  pub takens_apart : (ds : List Decision) → Branch lists ds → Apart (takens ds)
  takens_apart [] b = tt
  takens_apart (taken v ∷ ds) b = apart_push (takens ds) v (takens_apart ds b.2) (free_takens v ds b.1)
  takens_apart (refused v ∷ ds) b = takens_apart ds b.2

  -- The assignments taken, and one more that could be.
  pub nogood : (w : ℕ) (ds : List Decision) → Assignment lists w → Free w ds → Branch lists ds → Nogood lists (takens ds ++ w ∷ [])
  nogood w ds l f b =
      record { some = concat-ne-nil w (takens ds); listed = All-push (Assignment lists) (takens ds) w (takens_listed ds b) l; apart = apart_push (takens ds) w (takens_apart ds b) (free_takens w ds f) }

  pub reduced_nogoods : (ds : List Decision) → Branch lists ds → AllByRecursion (Nogood lists) (reduced ds)
  reduced_nogoods [] b = tt
  reduced_nogoods (taken v ∷ ds) b = reduced_nogoods ds b.2
  reduced_nogoods (refused v ∷ ds) b = All-push (Nogood lists) (reduced ds) (takens ds ++ v ∷ []) (reduced_nogoods ds b.2) (nogood v ds b.0 b.1 b.2)

  pub closed_branch : (ds : List Decision) → Branch lists ds → Branch lists (closed ds)
  closed_branch [] b = tt
  closed_branch (taken v ∷ ds) b = b
  closed_branch (refused v ∷ ds) b = closed_branch ds b.2

-- A group that keeps two channels is not taken, and a channel that it keeps is not refused.
pub free : (k : Family) (w c : ℕ) → k (grp w) (chan w) ≡ true → k (grp w) c ≡ true → c ≢ chan w → (ds : List Decision) → AllByRecursion (Obeys k) ds → Free w ds
free k w c kept other ne [] o = tt
free k w c kept other ne (taken v ∷ ds) o =
    (λ e. ne (o.0 c (rw e other) ∙ sym (o.0 (chan w) (rw e kept))), free k w c kept other ne ds o.1)
free k w c kept other ne (refused v ∷ ds) o =
    (λ e. both_ways (k (grp w) (chan w)) (subst (λ u. k (grp u) (chan u) ≡ false) e o.0) kept, free k w c kept other ne ds o.1)

-- What every run keeps.
pub record Whole (lists : List ℕ) (s : State) : Type 0 where
  pub branch : Branch lists s.branch
  pub base : AllByRecursion (Nogood lists) s.base

module _ (lists : List ℕ) (book : Meaning) (room : ℕ) where
  pub whole_restarting : (s : State) → Whole lists s → Whole lists (restarting s)
  whole_restarting s h = record { branch = tt; base = All-append (Nogood lists) s.base (reduced s.branch) h.base (reduced_nogoods lists s.branch h.branch) }

  pub whole_move : (s t : State) → Move lists book room s t → Whole lists s → Whole lists t
  whole_move s t (close k r dead some) h = record { branch = closed_branch lists s.branch h.branch; base = h.base }
  whole_move s t (restart k r alive wide c one due fits) h = whole_restarting s h
  whole_move s t (decide k r alive w c kept other ne) h =
      record { branch = (r.meets.within (grp w) (chan w) kept, free k w c kept other ne s.branch r.meets.decided, h.branch); base = h.base }
  whole_move s t (called one fits) h = whole_restarting s h

  pub whole_run : (s : State) → Reach lists book room start s → Whole lists s
  whole_run s here = record { branch = tt; base = tt }
  whole_run s (more {t = m} run move) = whole_move m s move (whole_run m run)
