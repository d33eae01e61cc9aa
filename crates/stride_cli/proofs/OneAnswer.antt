-- Words and bytes have one answer at most.
use Rattle.std.proofs.Common.{◌≡◌, ◌∙◌, inl, inr, ℕ, Bool, true, false, List, Option, Some, None, Result, Ok, Err, sym, ap, subst, length, nat_lt}
use Rattle.std.specs.Bool.{MatchBool}
use Rattle.stride_base.specs.declared.limits.TheConstants.{INPUT_LIMIT}
use Rattle.stride_isa.specs.Laws.{OneVerdict}
use Rattle.stride_isa.specs.Listing.{Listing}
use Rattle.sc_machine.specs.Machine.{Machine}
use Rattle.sc_machine.specs.Schedule.{replayed}
use Rattle.interleavings.specs.Driving.{driven, stranger}
use Rattle.interleavings.specs.Following.{follow_all}
use Rattle.interleavings.specs.Recording.{Recording}
use Rattle.command_words.specs.Laws.{OneReading}
use Rattle.command_words.specs.Words.{Word}
use Rattle.log_format.specs.Bundles.{Bundled}
use Rattle.log_format.specs.Reading.{reading, Refusal as FormatRefusal}
use Rattle.assembler.specs.Programs.{LineFault}
use Rattle.stride_cli.specs.declared.words.Command.{Command}
use Rattle.stride_cli.specs.declared.words.Command.TheVariants.{Demo, Check, Follow, Infer, Replay, Show, Sim, Upgrade}
use Rattle.stride_cli.specs.Answers.{Answer, AnswersBundle, AnswersBy, AnswersCanonical, AnswersFollowed, AnswersInference, AnswersInput, AnswersLinks, AnswersLogs, AnswersOrder, AnswersRecorded, AnswersRecording, AnswersRun, AnswersSettings, AnswersSimulated, IsAnswer, done, order_of, program_part, setting_of}
use Rattle.stride_cli.specs.Inferring.{Circular, Diverging, Inference, Inferred, Ordered, Unlinked}
use Rattle.stride_cli.specs.Laws.{OneAnswer}
use Rattle.stride_cli.specs.Reports.{replay_report, sim_report}
use Rattle.stride_cli.specs.Settings.{Limits, limits_of}
use Rattle.stride_cli.specs.Words.{given, reads, offline_named}
use Rattle.stride_cli.proofs.Demonstrations.{one_demo}
use Rattle.stride_cli.proofs.Inferences.{Laws, one_inference}
use Rattle.stride_cli.proofs.Readings.{of_line}
use Rattle.stride_cli.proofs.Texts.{order_once, text_once}

some_same : {X : Type 0} {x y : X} → Some x ≡ Some y → x ≡ y
some_same e = cc

-- the reports of two runs by one schedule are the same
one_run : (p : Listing) (bundle : Bundled) (inferred : Inferred) (answer other : Answer) → AnswersRun p bundle inferred answer → AnswersRun p bundle inferred other → answer ≡ other
one_run p bundle inferred answer other is same =
    let machines : is.machine ≡ same.machine = some_same (sym is.runs ∙ same.runs) in
    is.shows ∙ ap (λ (m : Machine). done (replay_report inferred.schedule m)) machines ∙ sym same.shows

module _ (laws : Laws) (one : OneVerdict) (Shows : Listing → Bundled → Inferred → Answer → Type 0) (alone : (p : Listing) (bundle : Bundled) (inferred : Inferred) (answer other : Answer) → Shows p bundle inferred answer → Shows p bundle inferred other → answer ≡ other) where
  -- one thing is answered at most by what logs come to
  by_inference : (p : Listing) (bundle : Bundled) (inference : Inference) (answer other : Answer) → AnswersInference (Shows p bundle) inference answer → AnswersInference (Shows p bundle) inference other → answer ≡ other
  by_inference p bundle (Diverging divergence) answer other is same = is ∙ sym same
  by_inference p bundle (Unlinked refusal) answer other is same = is ∙ sym same
  by_inference p bundle (Circular cycle) answer other is same = is ∙ sym same
  by_inference p bundle (Ordered inferred) answer other is same = alone p bundle inferred answer other is same

  -- and to the logs of a bundle
  by_logs : (bundle : Bundled) (p : Listing) (answer other : Answer) → AnswersLogs Shows bundle p answer → AnswersLogs Shows bundle p other → answer ≡ other
  by_logs bundle p answer other is same =
      let P : Inference → Type 0 = λ inference. AnswersInference (Shows p bundle) inference answer in
      let e = one_inference laws p (follow_all p bundle.fuel bundle.logs) is.0 same.0 is.1.0 same.1.0 in
      by_inference p bundle same.0 answer other (subst P e is.1.1) same.1.1

  -- and by what bytes read as
  by_reading : (r : Result Bundled FormatRefusal) (answer other : Answer) → AnswersBundle Shows r answer → AnswersBundle Shows r other → answer ≡ other
  by_reading (Err refusal) answer other is same = is ∙ sym same
  by_reading (Ok bundle) answer other is same = text_once bundle.text (AnswersLogs Shows bundle) one (by_logs bundle) answer other is same

-- one recording has one answer at most
module _ (laws : Laws) (limits : Limits) (p : Listing) where
  ordered_same : (one other : Inferred) → Ordered one ≡ Ordered other → one ≡ other
  ordered_same one other e = cc

  by_recording : (recording : Recording) (answer other : Answer) → AnswersRecording limits p recording answer → AnswersRecording limits p recording other → answer ≡ other
  by_recording recording answer other is same =
      let one : is.inferred ≡ same.inferred = ordered_same is.inferred same.inferred (one_inference laws p (follow_all p limits.fuel recording.logs) (Ordered is.inferred) (Ordered same.inferred) is.ordered same.ordered) in
      let machines : is.machine ≡ same.machine = some_same (sym is.runs ∙ ap (λ (i : Inferred). replayed p limits.fuel i.schedule) one ∙ same.runs) in
      is.shows
      ∙ ap (λ (i : Inferred). done (sim_report recording.logs i.links i.schedule is.machine)) one
      ∙ ap (λ (m : Machine). done (sim_report recording.logs same.inferred.links same.inferred.schedule m)) machines
      ∙ sym same.shows

  by_stranger : (found : Option ℕ) (recording : Recording) (answer other : Answer) → AnswersRecorded limits p found recording answer → AnswersRecorded limits p found recording other → answer ≡ other
  by_stranger None recording answer other is same = by_recording recording answer other is same
  by_stranger (Some place) recording answer other is same = is ∙ sym same

  by_order : (r : Result (List ℕ) LineFault) (answer other : Answer) → AnswersOrder r (AnswersSimulated limits p) answer → AnswersOrder r (AnswersSimulated limits p) other → answer ≡ other
  by_order = order_once (AnswersSimulated limits p) (λ order. by_stranger (stranger (length p.threads) order) (driven (setting_of limits p) order))

one_input : Laws → OneVerdict → (limits : Limits) (command : Command) (bytes : List ℕ) (answer other : Answer) → AnswersInput limits command bytes answer → AnswersInput limits command bytes other → answer ≡ other
one_input laws one limits Check bytes answer other is same = text_once bytes AnswersCanonical one (λ p answer other is same. is ∙ sym same) answer other is same
one_input laws one limits Follow bytes answer other is same =
    text_once (program_part bytes) (λ p. AnswersOrder (order_of bytes) (AnswersFollowed limits p)) one (λ p. order_once (AnswersFollowed limits p) (λ order answer other is same. is ∙ sym same) (order_of bytes)) answer other is same
one_input laws one limits Sim bytes answer other is same =
    text_once (program_part bytes) (λ p. AnswersOrder (order_of bytes) (AnswersSimulated limits p)) one (λ p. by_order laws limits p (order_of bytes)) answer other is same
one_input laws one limits Show bytes answer other is same = is ∙ sym same
one_input laws one limits Upgrade bytes answer other is same = is ∙ sym same
one_input laws one limits Infer bytes answer other is same =
    by_reading laws one AnswersLinks (λ p bundle inferred answer other is same. is ∙ sym same) (reading bytes) answer other is same
one_input laws one limits Replay bytes answer other is same = by_reading laws one AnswersRun one_run (reading bytes) answer other is same
one_input laws one limits (Demo number) bytes answer other is same = one_demo laws number answer other is same

by_length : Laws → OneVerdict → (limits : Limits) (too_long : Bool) (command : Command) (bytes : List ℕ) (refusal answer other : Answer) → MatchBool too_long (answer ≡ refusal) (AnswersInput limits command bytes answer) → MatchBool too_long (other ≡ refusal) (AnswersInput limits command bytes other) → answer ≡ other
by_length laws one limits true command bytes refusal answer other is same = is ∙ sym same
by_length laws one limits false command bytes refusal answer other is same = one_input laws one limits command bytes answer other is same

by_command : Laws → OneVerdict → (limits : Limits) (named : Option Command) (bytes : List ℕ) (answer other : Answer) → AnswersBy limits named bytes answer → AnswersBy limits named bytes other → answer ≡ other
by_command laws one limits None bytes answer other is same = is ∙ sym same
by_command laws one limits (Some command) bytes answer other is same =
    let read = given (reads command) bytes in
    by_length laws one limits (nat_lt INPUT_LIMIT (length read)) command read _ answer other is same

by_words : OneReading → Laws → OneVerdict → (words : List Word) (bytes : List ℕ) (answer other : Answer) → IsAnswer words bytes answer → IsAnswer words bytes other → answer ≡ other
by_words reading laws one words bytes answer other (inl is) same =
    by_command laws one (limits_of is.0) (offline_named is.0.command) bytes answer other is.2 (of_line reading (AnswersSettings bytes) words other same is.0 is.1)
by_words reading laws one words bytes answer other (inr is) (inl same) = absurd (is.0 same.0 same.1)
by_words reading laws one words bytes answer other (inr is) (inr same) = is.1 ∙ sym same.1

pub one_answer : OneReading → Laws → OneVerdict → OneAnswer
one_answer reading laws one = λ words bytes answer other is same. by_words reading laws one words bytes answer other is same
