-- What is answered to an input refuses nothing but what its command can refuse.
use Rattle.std.proofs.Common.{◌≡◌, ℕ, true, false, List, Option, Some, None, Result, Ok, Err, refl, sym, ap, subst, length}
use Rattle.stride_isa.specs.Faults.{Fault}
use Rattle.stride_isa.specs.Listing.{Listing}
use Rattle.sc_machine.specs.Machine.{Machine}
use Rattle.sc_machine.specs.Schedule.{replayed}
use Rattle.interleavings.specs.Driving.{stranger}
use Rattle.interleavings.specs.Recording.{Recording}
use Rattle.log_format.specs.Bundles.{Bundled}
use Rattle.log_format.specs.Reading.{reading, Refusal as FormatRefusal}
use Rattle.assembler.specs.Programs.{LineFault, spelled}
use Rattle.command_words.specs.declared.settings.Command.{Command as Named}
use Rattle.command_words.specs.declared.settings.Command.TheVariants as named
use Rattle.linkage.specs.declared.link_error.LinkError.{LinkError}
use Rattle.linkage.specs.declared.link_error.LinkError.TheVariants as links
use Rattle.stride_base.specs.declared.input_error.InputError.{InputError}
use Rattle.stride_base.specs.declared.input_error.InputError.TheVariants as inputs
use Rattle.stride_cli.specs.declared.refusal.Refusal.{Refusal}
use Rattle.stride_cli.specs.declared.refusal.Refusal.TheVariants as refusals
use Rattle.stride_cli.specs.declared.status.ProgramFault.{ProgramFault}
use Rattle.stride_cli.specs.declared.status.Status.{Status}
use Rattle.stride_cli.specs.declared.status.Status.TheVariants as statuses
use Rattle.stride_cli.specs.declared.words.Command.{Command}
use Rattle.stride_cli.specs.declared.words.Live.{Live}
use Rattle.stride_cli.specs.Answers.{Answer, AnswersBundle, AnswersCanonical, AnswersFollowed, AnswersInference, AnswersInput, AnswersLinks, AnswersLogs, AnswersOrder, AnswersProgram, AnswersRecorded, AnswersRun, AnswersSimulated, AnswersVerdict, order_of, played, program_part, refused, refused_member, shown, unlinked, upgraded}
use Rattle.stride_cli.specs.Gives.{Refuses}
use Rattle.stride_cli.specs.GivesLive.{RefusesLive}
use Rattle.stride_cli.specs.Inferring.{Circular, Diverging, Inference, Inferred, Ordered, Unlinked}
use Rattle.stride_cli.specs.LiveAnswers.{AnswersLiveInput}
use Rattle.stride_cli.specs.Refusable.{CanEnd, Refusable, RefusesOnly, can_refuse}
use Rattle.stride_cli.specs.Refusals.{of_input, status_of}
use Rattle.stride_cli.specs.Settings.{Limits}
use Rattle.stride_cli.specs.Words.{live_named, live_reads, offline_named, reads}

module _ (row : Refusable) where
  -- the answer refuses nothing but what is in the row
  abbrev Fits : Answer → Type 0
  Fits answer = RefusesOnly row answer.status

  module _ (program : row.program ≡ true) where
    by_verdict : (text : List ℕ) (verdict : Option Fault) (Accepted : Answer → Type 0) (answer : Answer) → (Accepted answer → Fits answer) → AnswersVerdict text verdict Accepted answer → Fits answer
    by_verdict text (Some fault) Accepted answer fits is = subst Fits (sym is) program
    by_verdict text None Accepted answer fits is = fits is

    by_program : (text : List ℕ) (s : Result Listing LineFault) (Accepted : Listing → Answer → Type 0) (answer : Answer) → ((p : Listing) → Accepted p answer → Fits answer) → AnswersProgram text s Accepted answer → Fits answer
    by_program text (Err fault) Accepted answer fits is = subst Fits (sym is) program
    by_program text (Ok p) Accepted answer fits is = by_verdict text is.0 (Accepted p) answer (fits p) is.1.1

    by_order : (Answers : List ℕ → Answer → Type 0) (r : Result (List ℕ) LineFault) (answer : Answer) → ((order : List ℕ) → Answers order answer → Fits answer) → AnswersOrder r Answers answer → Fits answer
    by_order Answers (Err fault) answer fits is = subst Fits (sym is) program
    by_order Answers (Ok order) answer fits is = fits order is

  module _ (member : row.member ≡ true) where
    by_played : (run : Option Machine) (p : Listing) (order : List ℕ) (place : ℕ) → Fits (played run (refused_member p order place))
    by_played (Some m) p order place = tt
    by_played None p order place = member

    by_followed : (limits : Limits) (p : Listing) (order : List ℕ) (answer : Answer) → AnswersFollowed limits p order answer → Fits answer
    by_followed limits p order answer is = subst Fits (sym is) (by_played (replayed p limits.fuel order) p order _)

    by_recorded : (limits : Limits) (p : Listing) (found : Option ℕ) (recording : Recording) (answer : Answer) → AnswersRecorded limits p found recording answer → Fits answer
    by_recorded limits p None recording answer is = subst Fits (sym is.shows) tt
    by_recorded limits p (Some place) recording answer is = subst Fits (sym is) member

  module _ (bundle : row.bundle ≡ true) where
    by_shown : (r : Result Bundled FormatRefusal) → Fits (shown r)
    by_shown (Ok read) = tt
    by_shown (Err refusal) = bundle

    by_upgraded : (r : Result Bundled FormatRefusal) → Fits (upgraded r)
    by_upgraded (Ok read) = tt
    by_upgraded (Err refusal) = bundle

    module _ (program : row.program ≡ true) (logs : row.logs ≡ true) where
      by_unlinked : (refusal : LinkError) → RefusesOnly row (unlinked refusal)
      by_unlinked (links.TwiceWritten cell number) = logs
      by_unlinked (links.WriteGap cell number) = logs
      by_unlinked (links.TwiceTurned monitor turn) = logs
      by_unlinked (links.TurnGap monitor turn) = logs
      by_unlinked (links.BoundTooLarge at) = logs
      by_unlinked (links.NoEqualWrite at) = logs
      by_unlinked (links.UpdateMismatch at) = logs
      by_unlinked links.NoMemory = tt

      by_inference : (Shows : Inferred → Answer → Type 0) (inference : Inference) (answer : Answer) → ((inferred : Inferred) → Shows inferred answer → Fits answer) → AnswersInference Shows inference answer → Fits answer
      by_inference Shows (Diverging divergence) answer fits is = subst Fits (sym is) logs
      by_inference Shows (Unlinked refusal) answer fits is = subst Fits (sym is) (by_unlinked refusal)
      by_inference Shows (Circular cycle) answer fits is = subst Fits (sym is) logs
      by_inference Shows (Ordered inferred) answer fits is = fits inferred is

      by_bundle : (Shows : Listing → Bundled → Inferred → Answer → Type 0) (answer : Answer) → ((p : Listing) (read : Bundled) (inferred : Inferred) → Shows p read inferred answer → Fits answer) → (r : Result Bundled FormatRefusal) → AnswersBundle Shows r answer → Fits answer
      by_bundle Shows answer fits (Err refusal) is = subst Fits (sym is) bundle
      by_bundle Shows answer fits (Ok read) is =
          by_program program read.text (spelled read.text) (AnswersLogs Shows read) answer (λ p of_logs. by_inference (Shows p read) of_logs.0 answer (fits p read) of_logs.1.1) is

some_same : {X : Type 0} {x y : X} → Some x ≡ Some y → x ≡ y
some_same e = cc

module _ (limits : Limits) (bytes : List ℕ) where
  abbrev Answered : Answer → Command → Type 0
  Answered answer command = AnswersInput limits command bytes answer

  -- an answer to an input
  answer_fits : (name : Named) (command : Command) (answer : Answer) → offline_named name ≡ Some command → Answered answer command → CanEnd name answer.status
  answer_fits named.Check command answer is answers =
      by_program (can_refuse named.Check) refl bytes (spelled bytes) AnswersCanonical answer (λ p shows. subst (Fits (can_refuse named.Check)) (sym shows) tt) (subst (Answered answer) (sym (some_same is)) answers)
  answer_fits named.Follow command answer is answers =
      by_program (can_refuse named.Follow) refl (program_part bytes) (spelled (program_part bytes)) _ answer
      (λ p. by_order (can_refuse named.Follow) refl (AnswersFollowed limits p) (order_of bytes) answer (λ order. by_followed (can_refuse named.Follow) refl limits p order answer)) (subst (Answered answer) (sym (some_same is)) answers)
  answer_fits named.Sim command answer is answers =
      by_program (can_refuse named.Sim) refl (program_part bytes) (spelled (program_part bytes)) _ answer
      (λ p. by_order (can_refuse named.Sim) refl (AnswersSimulated limits p) (order_of bytes) answer (λ order. by_recorded (can_refuse named.Sim) refl limits p (stranger (length p.threads) order) _ answer)) (subst (Answered answer) (sym (some_same is)) answers)
  answer_fits named.Show command answer is answers = subst (Fits (can_refuse named.Show)) (sym (subst (Answered answer) (sym (some_same is)) answers)) (by_shown (can_refuse named.Show) refl (reading bytes))
  answer_fits named.Upgrade command answer is answers = subst (Fits (can_refuse named.Upgrade)) (sym (subst (Answered answer) (sym (some_same is)) answers)) (by_upgraded (can_refuse named.Upgrade) refl (reading bytes))
  answer_fits named.Infer command answer is answers =
      by_bundle (can_refuse named.Infer) refl refl refl AnswersLinks answer (λ p read inferred shows. subst (Fits (can_refuse named.Infer)) (sym shows) tt) (reading bytes) (subst (Answered answer) (sym (some_same is)) answers)
  answer_fits named.Replay command answer is answers =
      by_bundle (can_refuse named.Replay) refl refl refl AnswersRun answer (λ p read inferred run. subst (Fits (can_refuse named.Replay)) (sym run.shows) tt) (reading bytes) (subst (Answered answer) (sym (some_same is)) answers)
  answer_fits (named.Demo number false) command answer is answers = let demo = subst (Answered answer) (sym (some_same is)) answers in subst (Fits (can_refuse (named.Demo number false))) (sym demo.shows) tt
  answer_fits (named.Demo number true) command answer is answers = absurd (cc)
  answer_fits named.Run command answer is answers = absurd (cc)
  answer_fits named.Bundle command answer is answers = absurd (cc)

  refusal_fits : (name : Named) (command : Command) (refusal : Refusal) → offline_named name ≡ Some command → Refuses limits command bytes refusal → CanEnd name (status_of refusal)
  refusal_fits name command (refusals.Program fault) is answers = answer_fits name command _ is answers
  refusal_fits name command (refusals.Bundle kind offset) is answers = answer_fits name command _ is answers
  refusal_fits name command (refusals.Diverges thread place) is answers = answer_fits name command _ is answers
  refusal_fits name command (refusals.NoLinkage fault) is answers = answer_fits name command _ is answers
  refusal_fits name command (refusals.NotEnabled place fault) is answers = answer_fits name command _ is answers
  refusal_fits name command refusals.NoMemory is answers = tt

  -- the refusal of a command
  pub refused_fits : (name : Named) (command : Command) (refusal : Refusal) (status : Status) → offline_named name ≡ Some command → status ≡ status_of refusal → Refuses limits command bytes refusal → CanEnd name status
  refused_fits name command refusal status is told answers = subst (CanEnd name) (sym told) (refusal_fits name command refusal is answers)

  -- a live command refuses its program alone
  live_program_fits : (name : Named) (live : Live) (fault : ProgramFault) → live_named name ≡ Some live → AnswersLiveInput limits live bytes (refused (statuses.Program fault)) → (can_refuse name).program ≡ true
  live_program_fits named.Show live fault is answers = absurd (cc)
  live_program_fits named.Upgrade live fault is answers = absurd (cc)
  live_program_fits (named.Demo number false) live fault is answers = absurd (cc)
  live_program_fits (named.Demo number true) live fault is answers =
      let P : Live → Type 0 = λ live. AnswersLiveInput limits live bytes (refused (statuses.Program fault)) in
      let demo = subst P (sym (some_same is)) answers in
      let e = ap (λ (answer : Answer). answer.status) demo.shows in
      absurd (cc)
  live_program_fits name live fault is answers = refl

  live_refusal_fits : (name : Named) (live : Live) (refusal : Refusal) → live_named name ≡ Some live → RefusesLive limits live bytes refusal → CanEnd name (status_of refusal)
  live_refusal_fits name live (refusals.Program fault) is refuses = live_program_fits name live fault is refuses
  live_refusal_fits name live refusals.NoMemory is refuses = tt
  live_refusal_fits name live (refusals.Bundle kind offset) is refuses = absurd refuses
  live_refusal_fits name live (refusals.Diverges thread place) is refuses = absurd refuses
  live_refusal_fits name live (refusals.NoLinkage fault) is refuses = absurd refuses
  live_refusal_fits name live (refusals.NotEnabled place fault) is refuses = absurd refuses

  -- the refusal of a live command
  pub live_refused_fits : (name : Named) (live : Live) (refusal : Refusal) (status : Status) → live_named name ≡ Some live → status ≡ status_of refusal → RefusesLive limits live bytes refusal → CanEnd name status
  live_refused_fits name live refusal status is told refuses = subst (CanEnd name) (sym told) (live_refusal_fits name live refusal is refuses)

-- the refusal of an input that can't be read or is too long
input_fits : (name : Named) (error : InputError) → (can_refuse name).input ≡ true → CanEnd name (of_input error)
input_fits name inputs.ReadFault input = input
input_fits name inputs.TooLong input = input
input_fits name inputs.NoMemory input = tt

input_read : (name : Named) (command : Command) → offline_named name ≡ Some command → reads command ≡ true → (can_refuse name).input ≡ true
input_read (named.Demo number false) command is reading =
    let P : Command → Type 0 = λ command. reads command ≡ true in
    let e = subst P (sym (some_same is)) reading in
    absurd (cc)
input_read (named.Demo number true) command is reading = absurd (cc)
input_read name command is reading = refl

live_input_read : (name : Named) (live : Live) → live_named name ≡ Some live → live_reads live ≡ true → (can_refuse name).input ≡ true
live_input_read (named.Demo number true) live is reading =
    let P : Live → Type 0 = λ live. live_reads live ≡ true in
    let e = subst P (sym (some_same is)) reading in
    absurd (cc)
live_input_read (named.Demo number false) live is reading = absurd (cc)
live_input_read name live is reading = refl

pub unread_fits : (name : Named) (command : Command) (error : InputError) (status : Status) → offline_named name ≡ Some command → reads command ≡ true → status ≡ of_input error → CanEnd name status
unread_fits name command error status is reading told = subst (CanEnd name) (sym told) (input_fits name error (input_read name command is reading))

pub live_unread_fits : (name : Named) (live : Live) (error : InputError) (status : Status) → live_named name ≡ Some live → live_reads live ≡ true → status ≡ of_input error → CanEnd name status
live_unread_fits name live error status is reading told = subst (CanEnd name) (sym told) (input_fits name error (live_input_read name live is reading))
