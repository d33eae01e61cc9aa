-- What a command that has read its input comes to. Only private clauses cite this module.
use Rattle.std.specs.Prelude.{ℕ, List, Result, Ok, Err}
use Rattle.stride_base.specs.Listed.{Listed}
use Rattle.stride_cli.specs.declared.words.Command.{Command}
use Rattle.stride_cli.specs.declared.refusal.Refusal.{Refusal}
use Rattle.stride_cli.specs.declared.refusal.Refusal.TheVariants as refusals
use Rattle.stride_cli.specs.declared.status.Status.TheVariants as statuses
use Rattle.stride_cli.specs.Answers.{Answer, AnswersInput, done, refused}
use Rattle.stride_cli.specs.Refusals.{status_of}
use Rattle.stride_cli.specs.Settings.{Limits}
use Rattle.stride_cli.specs.Statuses.{fault_seen}

-- the refusal is the answer, where these are the answers; want of memory says nothing
abbrev pub RefusesBy : (Answer → Type 0) → Refusal → Type 0
RefusesBy Answers refusals.NoMemory = Unit {0}
RefusesBy Answers (refusals.NoLinkage fault) = Answers (refused (statuses.NoLinkage (fault_seen fault)))
RefusesBy Answers refusal = Answers (refused (status_of refusal))

-- the refusal is the command's answer
abbrev pub Refuses : Limits → Command → List ℕ → Refusal → Type 0
Refuses limits command bytes refusal = RefusesBy (AnswersInput limits command bytes) refusal

-- the report of the answer, or its refusal, where these are the answers
abbrev pub GivesBy : Result (Listed ℕ) Refusal → (Answer → Type 0) → Type 0
GivesBy (Ok report) Answers = Answers (done report.items)
GivesBy (Err refusal) Answers = RefusesBy Answers refusal

-- what a command that has read its input comes to
abbrev pub Gives : Result (Listed ℕ) Refusal → Limits → Command → List ℕ → Type 0
Gives result limits command bytes = GivesBy result (AnswersInput limits command bytes)
