-- The answer of a live command to the program that its input spells, or its refusal.
use Rattle.std.proofs.Common.{◌≡◌, ℕ, true, List, Option, Some, None, Result, Ok, Err, sym, ap, subst}
use Rattle.stride_isa.specs.Faults.{Fault, IsVerdict}
use Rattle.stride_isa.specs.Laws.{OneVerdict}
use Rattle.stride_isa.specs.Listing.{Listing}
use Rattle.stride_isa.specs.Validity.{IsValid}
use Rattle.assembler.specs.Programs.{LineFault, spelled}
use Rattle.stride_cli.specs.declared.refusal.Refusal.{Refusal}
use Rattle.stride_cli.specs.declared.refusal.Refusal.TheVariants as refusals
use Rattle.stride_cli.specs.declared.status.ProgramFault.{ProgramFault}
use Rattle.stride_cli.specs.declared.status.Status.TheVariants as statuses
use Rattle.stride_cli.specs.declared.words.Live.{Live}
use Rattle.stride_cli.specs.declared.words.Live.TheVariants.{Bundle, Demo, Run}
use Rattle.stride_cli.specs.Answers.{Answer, AnswersProgram, AnswersVerdict, refused}
use Rattle.stride_cli.specs.GivesLive.{RefusesLive}
use Rattle.stride_cli.specs.Inputs.{Accepts}
use Rattle.stride_cli.specs.LiveAnswers.{AnswersLive, AnswersLiveInput}
use Rattle.stride_cli.specs.Settings.{Limits}
use Rattle.stride_cli.specs.Words.{live_reads}
use Rattle.stride_cli.proofs.Accepted.{only_programs, whatever_accepted}

-- what is answered to the text of a command that reads one
of_text : (limits : Limits) (live : Live) (bytes : List ℕ) (answer : Answer) → live_reads live ≡ true → AnswersProgram bytes (spelled bytes) (AnswersLive limits live) answer → AnswersLiveInput limits live bytes answer
of_text limits Run bytes answer reads is = is
of_text limits Bundle bytes answer reads is = is
of_text limits (Demo number) bytes answer reads is = absurd (cc)

to_text : (limits : Limits) (live : Live) (bytes : List ℕ) (answer : Answer) → live_reads live ≡ true → AnswersLiveInput limits live bytes answer → AnswersProgram bytes (spelled bytes) (AnswersLive limits live) answer
to_text limits Run bytes answer reads is = is
to_text limits Bundle bytes answer reads is = is
to_text limits (Demo number) bytes answer reads is = absurd (cc)

-- the refusal of a text
text_refused : (limits : Limits) (live : Live) → live_reads live ≡ true → (bytes : List ℕ) (refusal : Refusal) → Accepts bytes (Err refusal) → RefusesLive limits live bytes refusal
text_refused limits live reads bytes (refusals.Program fault) is =
    of_text limits live bytes (refused (statuses.Program fault)) reads (whatever_accepted bytes (AnswersLive limits live) (refused (statuses.Program fault)) is)
text_refused limits live reads bytes (refusals.Bundle kind offset) is =
    only_programs bytes (spelled bytes) (statuses.Bundle kind offset) (λ fault e. cc) is
text_refused limits live reads bytes (refusals.Diverges thread place) is =
    only_programs bytes (spelled bytes) (statuses.Diverges thread place) (λ fault e. cc) is
text_refused limits live reads bytes (refusals.NoLinkage fault) is =
    only_programs bytes (spelled bytes) (statuses.NoLinkage fault) (λ fault e. cc) is
text_refused limits live reads bytes (refusals.NotEnabled place fault) is =
    only_programs bytes (spelled bytes) (statuses.NotEnabled place fault) (λ fault e. cc) is
text_refused limits live reads bytes refusals.NoMemory is = tt

-- the same of a text that is lent
pub lent_refused : (limits : Limits) (live : Live) → live_reads live ≡ true → (bytes lent : List ℕ) (refusal : Refusal) → lent ≡ bytes → Accepts lent (Err refusal) → RefusesLive limits live bytes refusal
lent_refused limits live reads bytes lent refusal same is =
    let P : List ℕ → Type 0 = λ text. Accepts text (Err refusal) in
    text_refused limits live reads bytes refusal (subst P same is)

-- what is answered to the valid program that the bytes spell
pub to_program : (limits : Limits) (live : Live) → live_reads live ≡ true → (bytes : List ℕ) (p : Listing) (answer : Answer) → spelled bytes ≡ Ok p → IsValid p → AnswersLive limits live p answer → AnswersLiveInput limits live bytes answer
to_program limits live reads bytes p answer spells valid is =
    let Q : Result Listing LineFault → Type 0 = λ s. AnswersProgram bytes s (AnswersLive limits live) answer in
    of_text limits live bytes answer reads (subst Q (sym spells) (None, (valid, is)))

-- a live command refuses no valid program
not_refused : (limits : Limits) (live : Live) (p : Listing) (fault : ProgramFault) → AnswersLive limits live p (refused (statuses.Program fault)) → ⊥
not_refused limits Run p fault is = let e = ap (λ (answer : Answer). answer.status) is.shows in cc
not_refused limits Bundle p fault is = let e = ap (λ (answer : Answer). answer.status) is.shows in cc
not_refused limits (Demo number) p fault is = let e = ap (λ (answer : Answer). answer.status) is.shows in cc

by_verdict : OneVerdict → (limits : Limits) (live : Live) (bytes : List ℕ) (p : Listing) (fault : ProgramFault) → IsValid p → (verdict : Option Fault) → IsVerdict p verdict → AnswersVerdict bytes verdict (AnswersLive limits live p) (refused (statuses.Program fault)) → ⊥
by_verdict law limits live bytes p fault valid (Some first) judged is = let e = law p None (Some first) valid judged in cc
by_verdict law limits live bytes p fault valid None judged is = not_refused limits live p fault is
