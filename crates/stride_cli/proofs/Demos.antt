-- What a demonstration answers is told without an input.
use Rattle.std.proofs.Common.{◌≡◌, ◌+◌, ◌≤◌, ℕ, true, List, Option, Some, refl, sym, subst}
use Rattle.stride_cli.specs.declared.refusal.Refusal.{Refusal}
use Rattle.stride_cli.specs.declared.refusal.Refusal.TheVariants as refusals
use Rattle.stride_cli.specs.declared.status.Status.{Status}
use Rattle.stride_cli.specs.declared.words.Command.{Command}
use Rattle.stride_cli.specs.declared.words.Command.TheVariants.{Demo}
use Rattle.stride_cli.specs.Answers.{Answer, AnswersDemo, AnswersInput, done}
use Rattle.stride_cli.specs.Gives.{Refuses}
use Rattle.stride_cli.specs.Looks.{command_looks, demo_looks}
use Rattle.stride_cli.specs.Refusals.{status_of}
use Rattle.stride_cli.specs.Settings.{Limits}
use Rattle.stride_cli.specs.Telling.{OnDemo, ReportedBy, TellsBy}
use Rattle.stride_cli.specs.Words.{reads}

-- nothing is claimed of a command that reads an input
pub reading_no_demo : (command : Command) (Holds : ℕ → Type 0) → reads command ≡ true → OnDemo (Some command) Holds
reading_no_demo (Demo number) Holds reading = absurd (cc)
reading_no_demo command Holds reading = tt

-- what holds of the number where the command is a demonstration
of_number : (command : Command) (Holds : ℕ → Type 0) → ((number : ℕ) → command ≡ Demo number → Holds number) → OnDemo (Some command) Holds
of_number (Demo number) Holds holds = holds number refl
of_number command Holds holds = tt

module _ (limits : Limits) (command : Command) (bytes : List ℕ) where
  demo_told : (number : ℕ) (answer : Answer) → command ≡ Demo number → AnswersInput limits command bytes answer → AnswersDemo number answer
  demo_told number answer is answers = let P : Command → Type 0 = λ c. AnswersInput limits c bytes answer in subst P is answers

  refusal_told : (number : ℕ) (held : Option (List ℕ)) (refusal : Refusal) → command ≡ Demo number → Refuses limits command bytes refusal → TellsBy (AnswersDemo number) held held (status_of refusal)
  refusal_told number held (refusals.Program fault) is answers = demo_told number _ is answers
  refusal_told number held (refusals.Bundle kind offset) is answers = demo_told number _ is answers
  refusal_told number held (refusals.Diverges thread place) is answers = demo_told number _ is answers
  refusal_told number held (refusals.NoLinkage fault) is answers = demo_told number _ is answers
  refusal_told number held (refusals.NotEnabled place fault) is answers = demo_told number _ is answers
  refusal_told number held refusals.NoMemory is answers = tt

  -- the refusal of a demonstration
  pub demo_refused : (held : Option (List ℕ)) (refusal : Refusal) (status : Status) → status ≡ status_of refusal → Refuses limits command bytes refusal → OnDemo (Some command) (λ number. TellsBy (AnswersDemo number) held held status)
  demo_refused held refusal status told answers =
      of_number command (λ number. TellsBy (AnswersDemo number) held held status)
      (λ number is. let P : Status → Type 0 = λ status. TellsBy (AnswersDemo number) held held status in subst P (sym told) (refusal_told number held refusal is answers))

  -- its report, and what became of it
  pub demo_reported : (report : List ℕ) (Put : List ℕ → Type 0) → AnswersInput limits command bytes (done report) → Put report → OnDemo (Some command) (λ number. ReportedBy (AnswersDemo number) Put)
  demo_reported report Put answers put = of_number command (λ number. ReportedBy (AnswersDemo number) Put) (λ number is. (report, (demo_told number (done report) is answers, put)))

  -- its looks
  pub demo_looked : (before after : ℕ) → after ≤ before + command_looks limits command bytes → OnDemo (Some command) (λ number. after ≤ before + demo_looks number)
  demo_looked before after looks =
      let P : Command → Type 0 = λ c. after ≤ before + command_looks limits c bytes in
      of_number command (λ number. after ≤ before + demo_looks number) (λ number is. subst P is looks)
