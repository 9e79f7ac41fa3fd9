-- The branch of a run never has all assignments there are: beside the last decided channel its group kept another.
use Rattle.std.proofs.Common.{◌≡◌, ℕ, suc, ◌+◌, ◌*◌, ◌<◌, ◌≤◌, ◌≢◌, ◌⊎◌, List, [], ◌∷◌, length, sym, refl, ap, ◌∙◌, inl, inr, arith}
use Rattle.std.specs.List.{AllByRecursion}
use Rattle.model.specs.Masks.{grp, chan}
use Rattle.rules.specs.Meanings.{Meaning}
use Rattle.model.specs.Decisions.{Decision, taken, refused, word, closed, Free, Assignment, Branch}
use Rattle.model.specs.Moves.{State, Move, close, restart, decide, called}
use Rattle.model.proofs.Formed.{free}
use Rattle.model.proofs.Marked.{branch_few}

-- The branch is empty, or some listed assignment is not on it.
abbrev pub Spare : List ℕ → State → Type 0
Spare lists s = (s.branch ≡ []) ⊎ ((w : ℕ) × Assignment lists w × AllByRecursion (λ d. word d ≢ w) s.branch)

closed_words : (w : ℕ) (ds : List Decision) → AllByRecursion (λ d. word d ≢ w) ds → AllByRecursion (λ d. word d ≢ w) (closed ds)
closed_words w [] h = tt
closed_words w (taken v ∷ ds) h = h
closed_words w (refused v ∷ ds) h = closed_words w ds h.1

free_words : (w : ℕ) (ds : List Decision) → Free w ds → AllByRecursion (λ d. word d ≢ w) ds
free_words w [] f = tt
free_words w (taken v ∷ ds) f = ((λ e. f.0 (ap grp e)), free_words w ds f.1)
free_words w (refused v ∷ ds) f = (f.0, free_words w ds f.1)

group_of : (g c : ℕ) → c < 64 → grp (64 * g + c) ≡ g
group_of g c h = omega arith

channel_of : (g c : ℕ) → c < 64 → chan (64 * g + c) ≡ c
channel_of g c h = omega arith

pub spare_move : (lists : List ℕ) (book : Meaning) (room : ℕ) (s t : State) → Move lists book room s t → Spare lists s → Spare lists t
spare_move lists book room s t (close k l d some) (inl e) = absurd (some (rw e refl))
spare_move lists book room s t (close k l d some) (inr (w, f, h)) = inr (w, f, closed_words w s.branch h)
spare_move lists book room s t (restart k l a w c one due fits) h = inl refl
spare_move lists book room s t (called one fits) h = inl refl
spare_move lists book room s t (decide k l a w c kept other ne) h =
    let listed = l.meets.within (grp w) c other in
    let g = group_of (grp w) c listed.channel in
    let m = channel_of (grp w) c listed.channel in
    let v = 64 * grp w + c in
    let f = free k v (chan w) (rw (g, m) other) (rw g kept) (λ e. ne (sym (e ∙ m))) s.branch l.meets.decided in
    inr (v, rw (g, m) listed, ((λ e. ne (sym (ap chan e ∙ m))), free_words v s.branch f))

-- All decisions as refusals.
abbrev refusals : List Decision → List Decision
refusals [] = []
refusals (d ∷ ds) = refused (word d) ∷ refusals ds

free_refusals : (w : ℕ) (ds : List Decision) → AllByRecursion (λ d. word d ≢ w) ds → Free w (refusals ds)
free_refusals w [] h = tt
free_refusals w (d ∷ ds) h = (h.0, free_refusals w ds h.1)

branch_refusals : (lists : List ℕ) (ds : List Decision) → Branch lists ds → Branch lists (refusals ds)
branch_refusals lists [] b = tt
branch_refusals lists (d ∷ ds) b = (b.0, free_refusals (word d) ds (free_words (word d) ds b.1), branch_refusals lists ds b.2)

length_refusals : (ds : List Decision) → length (refusals ds) ≡ length ds
length_refusals [] = refl
length_refusals (d ∷ ds) = ap suc (length_refusals ds)

pub spare_few : (lists : List ℕ) (ds : List Decision) → 1 ≤ length lists → Branch lists ds → (ds ≡ []) ⊎ ((w : ℕ) × Assignment lists w × AllByRecursion (λ d. word d ≢ w) ds) → length ds < 64 * length lists
spare_few lists ds one b (inl e) = rw e (omega arith)
spare_few lists ds one b (inr (w, f, h)) =
    let few = branch_few lists (refused w ∷ refusals ds) (f, free_refusals w ds h, branch_refusals lists ds b) in
    let n = length_refusals ds in
    omega arith
