-- The report that the options choose.
use Rattle.std.specs.Prelude.{◌≡◌, ℕ, List, [], None, min}
use Rattle.branching.specs.Order.{OrderMeaning}
use Rattle.branching.specs.Policy.{PolicyMeaning, geometric, steady, clamped}
use Rattle.branching.specs.Fewest.{fewest_first}
use Rattle.branching.specs.Layer.{last_conflict}
use Rattle.planner.specs.declared.report.Report.{Report}
use Rattle.planner.specs.declared.solve.Settings.{Settings}
use Rattle.planner.specs.Accounts.{report_text}
use Rattle.planner.specs.Reports.{Reported}
use Rattle.programs.specs.declared.options.GroupOrder.{GroupOrder}
use Rattle.programs.specs.declared.options.GroupOrder.TheVariants.{Fewest, Last}
use Rattle.programs.specs.declared.options.Restarts.{Restarts}
use Rattle.programs.specs.declared.options.Restarts.TheVariants.{Geometric, Steady}
use Rattle.programs.specs.declared.options.Options.{Options}
use Rattle.programs.specs.Printed.{Printed}

-- the settings of the search, with a base as large as the account's
abbrev pub settings_of : Options → Settings
settings_of o = record { base_words = 4096; sittings = o.sittings; allowance = o.moves }

module _ (o : Options) (job : List ℕ) where
  -- a report of the sittings by an order and a policy that begin with these holdings
  abbrev pub ReportedFrom : {H Q : Type 0} → OrderMeaning H → PolicyMeaning Q → H → Q → Report → Type 0
  ReportedFrom {H = H} {Q = Q} om pm h q r = (h' : H) × (q' : Q) × Reported om pm job (settings_of o) h h' q q' r

  -- by the policy that was chosen
  abbrev pub ByPolicy : {H : Type 0} → OrderMeaning H → H → Restarts → Report → Type 0
  ByPolicy om h Geometric r = ReportedFrom om geometric h 10 r
  ByPolicy om h (Steady c) r = ReportedFrom om steady h (clamped c) r

  -- by the order that was chosen, too
  abbrev pub ByOrder : GroupOrder → Report → Type 0
  ByOrder Fewest r = ByPolicy fewest_first tt o.restarts r
  ByOrder (Last k) r = ByPolicy (last_conflict fewest_first) (record { limit = min 8 k; kept = []; candidate = None; below = tt }) o.restarts r

  -- the text of a report on the bytes
  abbrev pub Reports : List ℕ → Type 0
  Reports text = (r : Report) × ByOrder o.order r × (text ≡ report_text r)

-- what is printed of the bytes by these options
abbrev pub ReportOf : Options → List ℕ → List ℕ → Type 0
ReportOf o = Printed (settings_of o) (Reports o)
