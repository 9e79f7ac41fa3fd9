-- How an error, an answer and a report are printed. Assumes nothing.
use Rattle.std.specs.Prelude.{ℕ, suc, List, [], ◌∷◌, ◌++◌, codes, decimal, vec_items}
use Rattle.std.specs.List.{flat_map}
use Rattle.rules.specs.Refusals.{numbered, placed}
use Rattle.model.specs.Masks.{grp, chan}
use Rattle.model.specs.Decisions.{Decision, taken, refused}
use Rattle.model.specs.Words.{decision, base_of}
use Rattle.planner.specs.declared.answer.Answer.{Answer}
use Rattle.planner.specs.declared.answer.Verdict.{Verdict}
use Rattle.planner.specs.declared.answer.Verdict.TheVariants.{Plan, None, Open}
use Rattle.planner.specs.declared.error.PlanError.{PlanError}
use Rattle.planner.specs.declared.error.PlanError.TheVariants.{Refused, NoMemory}
use Rattle.planner.specs.declared.report.Report.{Report}

abbrev pub error_text : PlanError → List ℕ
error_text (Refused r) = codes "refused " ++ (decimal (numbered r) ++ (codes " at " ++ decimal (placed r)))
error_text NoMemory = codes "no memory"

-- a group and its channel
abbrev pub pair_text : ℕ → ℕ → List ℕ
pair_text g c = codes "group " ++ (decimal g ++ (codes " channel " ++ decimal c))

abbrev pub line_text : ℕ → ℕ → List ℕ
line_text g c = codes "group " ++ (decimal g ++ (codes " channel " ++ (decimal c ++ codes "\n")))

-- the lines of the groups from group n on, by their channels
abbrev pub plan_text : ℕ → List ℕ → List ℕ
plan_text n [] = []
plan_text n (c ∷ cs) = line_text n c ++ plan_text (suc n) cs

abbrev pub verdict_text : Verdict → List ℕ
verdict_text (Plan v) = plan_text 0 (vec_items v)
verdict_text None = codes "none\n"
verdict_text Open = codes "open\n"

abbrev pub answer_text : Answer → List ℕ
answer_text a = verdict_text a.verdict ++ (codes "moves " ++ (decimal a.counts.moves ++ (codes " closings " ++ (decimal a.counts.closings ++ (codes " restarts " ++ decimal a.counts.restarts)))))

-- an assignment, by its word
abbrev pub assigned_text : ℕ → List ℕ
assigned_text w = pair_text (grp w) (chan w)

-- a nogood, with a comma before each assignment but the first
abbrev pub listed_text : List ℕ → List ℕ
listed_text [] = []
listed_text (w ∷ ws) = codes " " ++ (assigned_text w ++ flat_map (λ v. codes ", " ++ assigned_text v) ws)

abbrev pub closed_text : List ℕ → List ℕ
closed_text ws = codes "\nclosed:" ++ listed_text ws

abbrev pub decided_text : Decision → List ℕ
decided_text (taken w) = codes "\ntaken: " ++ assigned_text w
decided_text (refused w) = codes "\nrefused: " ++ assigned_text w

abbrev pub none_text : Verdict → List ℕ
none_text (Plan v) = []
none_text None = codes "\nnone: nothing is taken and some group keeps nothing of its list"
none_text Open = []

-- the account, the sentence of a "none", and a line for each nogood and each decision
abbrev pub report_text : Report → List ℕ
report_text r = answer_text r.answer ++ (none_text r.answer.verdict ++ (flat_map (λ n. closed_text n) (base_of (vec_items r.closed)) ++ flat_map (λ w. decided_text (decision w)) (vec_items r.branch)))
