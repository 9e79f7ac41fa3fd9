-- What a program prints of the bytes on its input, and how far it came where the input or the output fails.
use Rattle.std.specs.Prelude.{◌≡◌, ℕ, ◌<◌, ◌≤◌, ◌⊎◌, List, ◌++◌, length, take, Some, Option, Ok, Err, Result, IfSome, MatchResult, codes, decimal}
use Rattle.std.specs.Io.KnownBytes.{Keeps, Appends}
use Rattle.jobs.specs.declared.fault.LoadFault.{LoadFault}
use Rattle.jobs.specs.Jobs.{places, Accepts}
use Rattle.jobs.specs.Numbers.{numbered}
use Rattle.planner.specs.declared.answer.Answer.{Answer}
use Rattle.planner.specs.declared.error.PlanError.{PlanError}
use Rattle.planner.specs.declared.error.PlanError.TheVariants.{Refused, NoMemory}
use Rattle.planner.specs.declared.solve.Settings.{Settings}
use Rattle.rules.specs.Refusals as refusal
use Rattle.planner.specs.Accounts.{answer_text}
use Rattle.planner.specs.Answers.{refusal_of, program, AnsweredByProgram}
use Rattle.planner.specs.Stores.{Faulty}

abbrev pub line : List ℕ → List ℕ
line text = text ++ codes "\n"

abbrev pub refused_line : ℕ → ℕ → List ℕ
refused_line number place = line (codes "refused " ++ (decimal number ++ (codes " at " ++ decimal place)))

-- What is printed of the bytes: one line of a refusal, for input that is too long, for the job's first fault, or for settings past a limit; or the text of an answer. Says tells which text
-- answers the bytes.
pub data Printed (settings : Settings) (Says : List ℕ → List ℕ → Type 0) (bytes : List ℕ) : List ℕ → Type 0 where
  too_long : 65536 < length bytes → Printed settings Says bytes (refused_line 8 65536)
  faulty : length bytes ≤ 65536 → {f : LoadFault} → Faulty bytes places f → Printed settings Says bytes (refused_line (numbered f.fault) f.offset)
  past_limits : length bytes ≤ 65536 → (i : ℕ) → Accepts bytes places i → {number place : ℕ} → refusal_of settings ≡ Some (number, place) → Printed settings Says bytes (refused_line number place)
  answered : length bytes ≤ 65536 → {text : List ℕ} → Says bytes text → Printed settings Says bytes (line text)

-- the text of an answer to the bytes, and the account of them
abbrev pub Accounts : List ℕ → List ℕ → Type 0
Accounts bytes text = (a : Answer) × AnsweredByProgram bytes a × (text ≡ answer_text a)

abbrev pub AccountOf : List ℕ → List ℕ → Type 0
AccountOf = Printed program Accounts

-- the bytes that an input still has, where they are known
abbrev pub IsOn : Option (List ℕ) → List ℕ → Type 0
IsOn known bytes = IfSome known (λ bs. bytes ≡ bs)

-- A text of which P holds is written, once, and nothing else. Where that fails, nothing is, or a front of such a text.
abbrev pub Writes : {A E : Type 0} → (List ℕ → Type 0) → Option (List ℕ) → Option (List ℕ) → Result A E → Type 0
Writes P old new r = MatchResult r
    (λ _. (text : List ℕ) × P text × Appends old new text)
    (λ _. Keeps old new ⊎ ((text : List ℕ) × P text × ((n : ℕ) × Appends old new (take n text))))

-- the line that a reply is printed as, where text has the text of an answer; want of memory has none
module _ {A : Type 0} (text : A → Option (List ℕ)) where
  abbrev pub IsLineOf : Result A PlanError → List ℕ → Type 0
  IsLineOf (Ok a) t = IfSome (text a) (λ s. t ≡ line s)
  IsLineOf (Err (Refused r)) t = t ≡ refused_line (refusal.numbered r) (refusal.placed r)
  IsLineOf (Err NoMemory) t = ⊥

-- The bytes decide what is printed of them.
abbrev pub OneText : (List ℕ → List ℕ → Type 0) → Type 0
OneText Prints = (bytes text other : List ℕ) → Prints bytes text → Prints bytes other → text ≡ other
