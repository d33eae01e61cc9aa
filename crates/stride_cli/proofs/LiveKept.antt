-- A live command keeps its promise where it can't read its input, and where it is done; its report is the answer then.
use Rattle.std.proofs.Common.{◌≡◌, ◌∙◌, ℕ, ◌<◌, ◌≤◌, Bool, true, false, List, Option, Some, None, Ok, IfSome, refl, sym, ap, subst, arith, length, nat_lt}
use Rattle.std.proofs.lemmas.Bool.{le-ltb}
use Rattle.std.specs.Bool.{MatchBool}
use Rattle.stride_base.specs.Devices.{Adds, Rose}
use Rattle.stride_base.specs.declared.input_error.InputError.{InputError}
use Rattle.stride_base.specs.declared.input_error.InputError.TheVariants as inputs
use Rattle.stride_base.specs.declared.limits.TheConstants.{INPUT_LIMIT}
use Rattle.stride_isa.specs.Listing.{Listing}
use Rattle.assembler.specs.Programs.{spelled}
use Rattle.stride_cli.specs.declared.status.Status.{Status}
use Rattle.stride_cli.specs.declared.status.Status.TheVariants.{Done, TooLong}
use Rattle.stride_cli.specs.declared.words.Live.{Live}
use Rattle.stride_cli.specs.declared.words.Live.TheVariants.{Bundle, Demo, Run}
use Rattle.stride_cli.specs.Answers.{done, refused}
use Rattle.stride_cli.specs.GivesLive.{IsReportOf}
use Rattle.stride_cli.specs.Headline.{IsLiveKept, IsRecordedRun, World}
use Rattle.stride_cli.specs.LiveAnswers.{AnswersLiveBytes, AnswersLiveInput}
use Rattle.stride_cli.specs.Refusals.{of_input}
use Rattle.stride_cli.specs.Reports.{replay_report}
use Rattle.stride_cli.specs.Settings.{Limits}
use Rattle.stride_cli.specs.Telling.{TellsBy}
use Rattle.stride_cli.specs.Words.{given, live_reads}

not_long : (left : Option (List ℕ)) (bytes : List ℕ) → left ≡ Some bytes → IfSome left (λ bytes. INPUT_LIMIT < length bytes) → length bytes ≤ INPUT_LIMIT → ⊥
not_long left bytes is long short =
    let P : Option (List ℕ) → Type 0 = λ left. IfSome left (λ bytes. INPUT_LIMIT < length bytes) in
    let above : INPUT_LIMIT < length bytes = subst P is long in
    omega (arith, above, short)

module _ (limits : Limits) (left : Option (List ℕ)) (before after : World) where
  by_error : (command : Live) (error : InputError) → live_reads command ≡ true → (error ≡ inputs.ReadFault → Rose before.source_faults after.source_faults)
      → (error ≡ inputs.TooLong → IfSome left (λ bytes. INPUT_LIMIT < length (given (live_reads command) bytes))) → IsLiveKept limits command left before after (of_input error)
  by_error Run inputs.ReadFault reads fault long = λ bytes p is short spells valid. fault refl
  by_error Run inputs.TooLong reads fault long = λ bytes p is short spells valid. absurd (not_long left bytes is (long refl) short)
  by_error Run inputs.NoMemory reads fault long = λ bytes p is short spells valid. tt
  by_error Bundle error reads fault long = tt
  by_error (Demo number) error reads fault long = absurd (cc)

  pub unread_kept : (command : Live) (error : InputError) (status : Status) → status ≡ of_input error → live_reads command ≡ true → (error ≡ inputs.ReadFault → Rose before.source_faults after.source_faults)
      → (error ≡ inputs.TooLong → IfSome left (λ bytes. INPUT_LIMIT < length (given (live_reads command) bytes))) → IsLiveKept limits command left before after status
  unread_kept command error status told reads fault long =
      let P : Status → Type 0 = λ status. IsLiveKept limits command left before after status in
      subst P (sym told) (by_error command error reads fault long)

spelled_once : (text : List ℕ) (one other : Listing) → spelled text ≡ Ok one → spelled text ≡ Ok other → one ≡ other
spelled_once text one other is same = cc

module _ (limits : Limits) (left : Option (List ℕ)) (before after : World) (bytes report lent : List ℕ) (lends : lent ≡ report) (put : Adds before.held after.held lent) where
  -- a live command that is done keeps its promise
  pub done_kept : (command : Live) → IfSome left (λ all. bytes ≡ given (live_reads command) all) → IsReportOf limits command bytes report before.looks after.looks → IsLiveKept limits command left before after Done
  done_kept Run read run = λ all p is short spells valid.
      let P : Option (List ℕ) → Type 0 = λ left. IfSome left (λ all. bytes ≡ all) in
      let R : Listing → Type 0 = λ p. IsRecordedRun limits p replay_report report before.looks after.looks in
      let same : bytes ≡ all = subst P is read in
      record { report = report; run = subst R (spelled_once bytes run.program p run.spells (ap spelled same ∙ spells)) run.run; put = subst (Adds before.held after.held) lends put }
  done_kept Bundle read run = tt
  done_kept (Demo number) read run = record { report = report; run = run; put = subst (Adds before.held after.held) lends put }

within : (long : Bool) (Long Short : Type 0) → long ≡ false → Short → MatchBool long Long Short
within true Long Short is short = absurd (cc)
within false Long Short is short = short

-- the answer to what was read is that to the input
of_read : (limits : Limits) (command : Live) (bytes all report : List ℕ) → bytes ≡ given (live_reads command) all → length bytes ≤ INPUT_LIMIT → AnswersLiveInput limits command bytes (done report) → AnswersLiveBytes limits command all (done report)
of_read limits command bytes all report same short answers =
    let P : List ℕ → Type 0 = λ read. MatchBool (nat_lt INPUT_LIMIT (length read)) (done report ≡ refused TooLong) (AnswersLiveInput limits command read (done report)) in
    subst P same (within (nat_lt INPUT_LIMIT (length bytes)) _ _ (le-ltb INPUT_LIMIT (length bytes) short) answers)

-- a report that was put whole is the answer
pub done_told : (limits : Limits) (command : Live) (left old new : Option (List ℕ)) (bytes report lent : List ℕ) → IfSome left (λ all. bytes ≡ given (live_reads command) all) → length bytes ≤ INPUT_LIMIT → AnswersLiveInput limits command bytes (done report)
    → lent ≡ report → Adds old new lent → IfSome left (λ all. TellsBy (AnswersLiveBytes limits command all) old new Done)
done_told limits command None old new bytes report lent read short answers lends put = tt
done_told limits command (Some all) old new bytes report lent read short answers lends put = (report, (of_read limits command bytes all report read short answers, subst (Adds old new) lends put))
