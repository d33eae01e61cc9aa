-- What `bundle` is done with is replayed.
use Rattle.std.proofs.Common.{◌≡◌, ◌∙◌, ℕ, ◌≤◌, Bool, true, false, List, Option, Some, None, Result, Ok, Err, refl, sym, ap, subst, arith, length, nat_lt, le-ltb}
use Rattle.std.specs.Bool.{MatchBool}
use Rattle.stride_base.specs.declared.limits.TheConstants.{INPUT_LIMIT}
use Rattle.stride_isa.specs.Faults.{Fault, IsVerdict}
use Rattle.stride_isa.specs.Laws.{OneVerdict}
use Rattle.stride_isa.specs.Listing.{Listing}
use Rattle.stride_isa.specs.Validity.{IsValid}
use Rattle.assembler.specs.Programs.{LineFault, spelled}
use Rattle.interleavings.specs.Following.{Divergence, Followed}
use Rattle.event_order.specs.Laws.{traces_of}
use Rattle.history_laws.specs.Laws.{SchedulesReplayRecordings}
use Rattle.history_laws.specs.RecordedRuns.{IsScheduleOf}
use Rattle.command_words.specs.Laws.{OneReading}
use Rattle.command_words.specs.Words.{IsLine, Word}
use Rattle.command_words.specs.declared.settings.Settings.{Settings}
use Rattle.log_format.specs.Bundles.{Bundled}
use Rattle.log_format.specs.Laws.{SpellingIsRead}
use Rattle.log_format.specs.Reading.{reading, Refusal as FormatRefusal}
use Rattle.log_format.specs.declared.version.Version.TheVariants.{Two}
use Rattle.stride_cli.specs.declared.status.Status.{Status}
use Rattle.stride_cli.specs.declared.status.Status.TheVariants.{Done, TooLong}
use Rattle.stride_cli.specs.declared.words.Command.{Command}
use Rattle.stride_cli.specs.declared.words.Command.TheVariants.{Infer, Replay}
use Rattle.stride_cli.specs.declared.words.Live.{Live}
use Rattle.stride_cli.specs.declared.words.Live.TheVariants.{Bundle}
use Rattle.stride_cli.specs.Again.{AreRecorded}
use Rattle.stride_cli.specs.Answers.{Answer, AnswersBundle, AnswersBy, AnswersInference, AnswersInput, AnswersLinks, AnswersLogs, AnswersProgram, AnswersRun, AnswersSettings, AnswersVerdict, IsAnswer, done, refused, setting_of}
use Rattle.stride_cli.specs.Inferring.{Circular, Diverging, Inference, Inferred, IsInferredBy, IsInferredOf, Ordered, Unlinked}
use Rattle.stride_cli.specs.LiveAnswers.{AnswersLive, AnswersLiveBundle, AnswersLiveInput, AnswersLiveSettings, AnswersNamed, bundle_of}
use Rattle.stride_cli.specs.LiveLaws.{BundlesAreReplayed, HoldsProgram, HoldsRecording, IsReplayed}
use Rattle.stride_cli.specs.Reports.{replay_report}
use Rattle.stride_cli.specs.Settings.{Limits, limits_of}
use Rattle.stride_cli.specs.Words.{given, live_named, offline_named, reads as reads_input}
use Rattle.stride_cli.proofs.Readings.{of_line}
use Rattle.stride_cli.proofs.Recordings.{Laws as Recorded, unrefused}

-- what the laws say of words, of verdicts, of bundles, and of recordings
pub record Laws : Type 0 where
  pub reading : OneReading
  pub verdict : OneVerdict
  pub read : SpellingIsRead
  pub recorded : Recorded
  pub replays : SchedulesReplayRecordings

some_same : {X : Type 0} {x y : X} → Some x ≡ Some y → x ≡ y
some_same e = cc

-- a refusal is not done
not_done : (status : Status) (report : List ℕ) → (status ≡ Done → ⊥) → done report ≡ refused status → ⊥
not_done status report other is = other (let e = ap (λ (answer : Answer). answer.status) is in cc)

same_report : (report other : List ℕ) → done report ≡ done other → report ≡ other
same_report report other is = ap (λ (answer : Answer). answer.report) is

module _ (laws : Laws) (limits : Limits) (p : Listing) (valid : IsValid p) (bytes : List ℕ) (is : AnswersLiveBundle limits p (done bytes)) where
  some_fuel : 1 ≤ limits.fuel
  some_fuel = is.fits.within.some_fuel

  -- the bundle of the recording
  abbrev bundle : Bundled
  bundle = bundle_of limits p is.recording

  -- the bytes read as the bundle
  reads : reading bytes ≡ Ok bundle
  reads = ap reading (same_report _ _ is.shows) ∙ laws.read Two bundle is.fits

  -- its logs are those of a recording
  abbrev logged : AreRecorded limits p is.recording.logs
  logged = record { recording = is.recording; steps = is.recorded.steps; logs_are = refl; history = is.recorded.history; followed = is.recorded.followed }

  -- the threads that follow its logs
  abbrev followed : List Followed
  followed = is.recorded.followed.followed

  -- the bytes are no longer than an input may be
  within : nat_lt INPUT_LIMIT (length bytes) ≡ false
  within =
      let short = is.short in
      let long = ap length (same_report _ _ is.shows) in
      le-ltb INPUT_LIMIT (length bytes) (omega (arith, short, long))

  module _ (Shows : Listing → Bundled → Inferred → Answer → Type 0) where
    -- what is answered to links with a schedule
    by_inference : (inference : Inference) (answer : Answer) → IsInferredOf (traces_of p followed) inference → AnswersInference (Shows p bundle) inference answer → (inferred : Inferred) × IsInferredOf (traces_of p followed) (Ordered inferred) × Shows p bundle inferred answer
    by_inference (Diverging divergence) answer inferred shows = absurd inferred
    by_inference (Unlinked refusal) answer inferred shows = absurd (unrefused laws.recorded limits some_fuel p valid is.recording.logs logged (Unlinked refusal) answer inferred shows)
    by_inference (Circular cycle) answer inferred shows = absurd (unrefused laws.recorded limits some_fuel p valid is.recording.logs logged (Circular cycle) answer inferred shows)
    by_inference (Ordered given) answer inferred shows = (given, inferred, shows)

    by_logs : (answer : Answer) → AnswersLogs Shows bundle p answer → (inferred : Inferred) × IsInferredOf (traces_of p followed) (Ordered inferred) × Shows p bundle inferred answer
    by_logs answer answered =
        let Q : Result (List Followed) Divergence → Type 0 = λ r. IsInferredBy p r answered.0 in
        by_inference answered.0 answer (subst Q is.recorded.followed.follows answered.1.0) answered.1.1

    by_verdict : (verdict : Option Fault) (answer : Answer) → IsVerdict p verdict → AnswersVerdict bundle.text verdict (AnswersLogs Shows bundle p) answer → AnswersLogs Shows bundle p answer
    by_verdict (Some fault) answer judged answered = let e = laws.verdict p None (Some fault) valid judged in absurd (cc)
    by_verdict None answer judged answered = answered

    by_bundle : (answer : Answer) → AnswersBundle Shows (reading bytes) answer → (inferred : Inferred) × IsInferredOf (traces_of p followed) (Ordered inferred) × Shows p bundle inferred answer
    by_bundle answer answered =
        let P : Result Bundled FormatRefusal → Type 0 = λ r. AnswersBundle Shows r answer in
        let Q : Result Listing LineFault → Type 0 = λ s. AnswersProgram bundle.text s (AnswersLogs Shows bundle) answer in
        let judged = subst Q is.text (subst P reads answered) in
        by_logs answer (by_verdict judged.0 answer judged.1.0 judged.1.1)

  -- the answer of a command to them
  by_command : (set : Limits) (command : Command) (named : Option Command) (answer : Answer) → reads_input command ≡ true → named ≡ Some command → AnswersBy set named bytes answer → AnswersInput set command bytes answer
  by_command set command named answer read names answered =
      let P : Option Command → Type 0 = λ c. AnswersBy set c bytes answer in
      let R : Bool → Type 0 = λ b. MatchBool (nat_lt INPUT_LIMIT (length (given b bytes))) (answer ≡ refused TooLong) (AnswersInput set command (given b bytes) answer) in
      let Q : Bool → Type 0 = λ b. MatchBool b (answer ≡ refused TooLong) (AnswersInput set command bytes answer) in
      subst Q within (subst R read (subst P names answered))

  -- the answer to words that name one
  by_words : (words : List Word) (answer : Answer) (command : Command) → IsAnswer words bytes answer → (settings : Settings) → IsLine words settings → reads_input command ≡ true → offline_named settings.command ≡ Some command → AnswersInput (limits_of settings) command bytes answer
  by_words words answer command answered settings line read names =
      by_command (limits_of settings) command (offline_named settings.command) answer read names (of_line laws.reading (AnswersSettings bytes) words answer answered settings line)

  replayed_so : (answer : Answer) → AnswersBundle AnswersRun (reading bytes) answer → IsReplayed limits p is.recording is.recorded answer
  replayed_so answer answered =
      let found = by_bundle AnswersRun answer answered in
      let inferring : IsScheduleOf (setting_of limits p) is.recording found.0.schedule = record { all = followed; follows = is.recorded.followed.follows; links = found.0.links; whole = found.1.0; least = found.1.1 } in
      let replay = laws.replays (setting_of limits p) is.recording found.0.schedule valid some_fuel is.recorded inferring in
      let same = some_same (sym found.2.runs ∙ replay.1.runs) in
      record { schedule = found.0.schedule; inferred = inferring; machine = replay.0; replay = replay.1; shows = found.2.shows ∙ ap (λ m. done (replay_report found.0.schedule m)) same }

  holds_recording : HoldsRecording limits p bytes
  holds_recording = record {
    recording = is.recording;
    recorded = is.recorded;
    reads = reads;
    inferred = λ words answer answered settings line named. ap (λ (a : Answer). a.status) (by_bundle AnswersLinks answer (by_words words answer Infer answered settings line refl (ap offline_named named))).2;
    replayed = λ words answer answered settings line named. replayed_so answer (by_words words answer Replay answered settings line refl (ap offline_named named));
  }

module _ (laws : Laws) (limits : Limits) (input bytes : List ℕ) where
  by_valid : (p : Listing) → spelled input ≡ Ok p → (verdict : Option Fault) → IsVerdict p verdict → AnswersVerdict input verdict (AnswersLive limits Bundle p) (done bytes) → HoldsProgram limits input bytes
  by_valid p spells (Some fault) judged is = absurd (not_done _ bytes (λ e. cc) is)
  by_valid p spells None judged is = record { program = p; spells = spells; valid = judged; holds = holds_recording laws limits p judged bytes is }

  by_spelled : (s : Result Listing LineFault) → spelled input ≡ s → AnswersProgram input s (AnswersLive limits Bundle) (done bytes) → HoldsProgram limits input bytes
  by_spelled (Err fault) spells is = absurd (not_done _ bytes (λ e. cc) is)
  by_spelled (Ok p) spells is = by_valid p spells is.0 is.1.0 is.1.1

  by_length : (too_long : Bool) → MatchBool too_long (done bytes ≡ refused TooLong) (AnswersLiveInput limits Bundle input (done bytes)) → HoldsProgram limits input bytes
  by_length true is = absurd (not_done TooLong bytes (λ e. cc) is)
  by_length false is = by_spelled (spelled input) refl is

module _ (laws : Laws) (settings : Settings) (input bytes : List ℕ) where
  by_live : (live : Option Live) → live ≡ Some Bundle → AnswersNamed live input settings (done bytes) → HoldsProgram (limits_of settings) input bytes
  by_live live named is =
      let P : Option Live → Type 0 = λ live. AnswersNamed live input settings (done bytes) in
      by_length laws (limits_of settings) input bytes (nat_lt INPUT_LIMIT (length input)) (subst P named is)

pub bundles_are_replayed : Laws → BundlesAreReplayed
bundles_are_replayed laws = λ words input bytes is settings line named.
    by_live laws settings input bytes (live_named settings.command) (ap live_named named) (of_line laws.reading (AnswersLiveSettings input) words (done bytes) is settings line)
