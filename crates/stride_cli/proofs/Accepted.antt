-- A program that was read and checked, or its refusal.
use Rattle.std.proofs.Common.{◌≡◌, ℕ, List, Option, Some, None, Result, Ok, Err, refl, sym, ap, subst}
use Rattle.stride_isa.specs.Faults.{Fault, IsFirstFault, IsRefusal}
use Rattle.stride_isa.specs.Listing.{Listing}
use Rattle.stride_isa.specs.declared.check_error.CheckError.{CheckError}
use Rattle.stride_isa.specs.declared.check_error.CheckError.TheVariants.{Bad, NoMemory}
use Rattle.assembler.specs.Programs.{LineFault, spelled}
use Rattle.stride_cli.specs.Inputs.{Accepts, Unanswered}
use Rattle.stride_cli.specs.Answers.{Answer, AnswersProgram, AnswersText, AnswersVerdict, refused, refused_code}
use Rattle.stride_cli.specs.Gives.{RefusesBy}
use Rattle.stride_cli.specs.Refusals.{of_check}
use Rattle.stride_cli.specs.declared.refusal.Refusal.{Refusal}
use Rattle.stride_cli.specs.declared.refusal.Refusal.TheVariants as refusals
use Rattle.stride_cli.specs.declared.status.ProgramFault.{ProgramFault}
use Rattle.stride_cli.specs.declared.status.Status.{Status}
use Rattle.stride_cli.specs.declared.status.Status.TheVariants as statuses

-- a program is refused with its first fault
faulty : (text : List ℕ) (p : Listing) (fault : Fault) → spelled text ≡ Ok p → IsFirstFault p fault.thread fault.instruction fault.kind → AnswersText text Unanswered (refused_code text fault)
faulty text p fault read first =
    let Q : Result Listing LineFault → Type 0 = λ s. AnswersProgram text s Unanswered (refused_code text fault) in
    subst Q (sym read) (Some fault, (first, refl))

-- the refusal of the check is the answer
check_refused : (text : List ℕ) (p : Listing) (error : CheckError) → spelled text ≡ Ok p → IsRefusal p error → Accepts text (Err (of_check text error))
check_refused text p (Bad kind thread instruction) read first = faulty text p (record { kind = kind; thread = thread; instruction = instruction }) read first
check_refused text p NoMemory read first = tt

-- the same of a refusal that is told so
pub check_refused_by : (text : List ℕ) (p : Listing) (error : CheckError) (refusal : Refusal) → spelled text ≡ Ok p → IsRefusal p error → refusal ≡ of_check text error → Accepts text (Err refusal)
check_refused_by text p error refusal read first told =
    let Q : Refusal → Type 0 = λ e. Accepts text (Err e) in
    subst Q (sym told) (check_refused text p error read first)

-- a text is refused for a fault of the program alone
not_by_verdict : (text : List ℕ) (p : Listing) (verdict : Option Fault) (status : Status) → ((fault : ProgramFault) → status ≡ statuses.Program fault → ⊥) → AnswersVerdict text verdict (Unanswered p) (refused status) → ⊥
not_by_verdict text p (Some fault) status program is = program _ (ap (λ (answer : Answer). answer.status) is)
not_by_verdict text p None status program is = is

pub only_programs : (text : List ℕ) (s : Result Listing LineFault) (status : Status) → ((fault : ProgramFault) → status ≡ statuses.Program fault → ⊥) → AnswersProgram text s Unanswered (refused status) → ⊥
only_programs text (Err fault) status program is = program _ (ap (λ (answer : Answer). answer.status) is)
only_programs text (Ok p) status program is = not_by_verdict text p is.0 status program is.1.1

module _ (text : List ℕ) (Accepted : Listing → Answer → Type 0) where
  by_verdict : (p : Listing) (verdict : Option Fault) (answer : Answer) → AnswersVerdict text verdict (Unanswered p) answer → AnswersVerdict text verdict (Accepted p) answer
  by_verdict p (Some fault) answer is = is
  by_verdict p None answer is = absurd is

  by_program : (s : Result Listing LineFault) (answer : Answer) → AnswersProgram text s Unanswered answer → AnswersProgram text s Accepted answer
  by_program (Err fault) answer is = is
  by_program (Ok p) answer is = (is.0, (is.1.0, by_verdict p is.0 answer is.1.1))

  -- an answer to a text that spells no valid program is one whatever is answered to those
  pub whatever_accepted : (answer : Answer) → AnswersText text Unanswered answer → AnswersText text Accepted answer
  whatever_accepted answer is = by_program (spelled text) answer is

  -- the refusal of the text is the answer
  pub text_refused : (refusal : Refusal) → Accepts text (Err refusal) → RefusesBy (AnswersText text Accepted) refusal
  text_refused (refusals.Program fault) is = whatever_accepted _ is
  text_refused (refusals.Bundle kind offset) is = whatever_accepted _ is
  text_refused (refusals.Diverges thread place) is = whatever_accepted _ is
  text_refused (refusals.NoLinkage fault) is = absurd (only_programs text (spelled text) (statuses.NoLinkage fault) (λ fault e. cc) is)
  text_refused (refusals.NotEnabled place fault) is = whatever_accepted _ is
  text_refused refusals.NoMemory is = tt

  -- the same of a text that is lent
  pub lent_refused : (lent : List ℕ) (refusal : Refusal) → lent ≡ text → Accepts lent (Err refusal) → RefusesBy (AnswersText text Accepted) refusal
  lent_refused lent refusal same is =
      let P : List ℕ → Type 0 = λ text. Accepts text (Err refusal) in
      text_refused refusal (subst P same is)
