-- What `run` reports is the replay of the recording that was made.
use Rattle.std.proofs.Common.{◌≡◌, ◌∙◌, inl, inr, ℕ, ◌+◌, ◌≤◌, ◌++◌, List, Some, Result, Ok, Err, refl, sym, ap, subst, length}
use Rattle.std.proofs.lemmas.List.{length-map}
use Rattle.stride_isa.specs.Listing.{Listing}
use Rattle.stride_isa.specs.Validity.{IsValid}
use Rattle.assembler.specs.Programs.{LineFault}
use Rattle.interleavings.specs.declared.event.LogEntry.{LogEntry}
use Rattle.interleavings.specs.declared.traces.Place.{Place}
use Rattle.interleavings.specs.Following.{Divergence, Followed, follow_all}
use Rattle.interleavings.specs.Recording.{Recording}
use Rattle.interleavings.specs.TraceLists.{TraceLists}
use Rattle.linkage.specs.Sources.{event_count}
use Rattle.event_order.specs.Laws.{ExtensionsAreWhole}
use Rattle.history_laws.specs.Laws.{SchedulesReplayRecordings}
use Rattle.history_laws.specs.RecordedRuns.{IsScheduleOf}
use Rattle.replayer.specs.Replays.{Results}
use Rattle.stride_cli.specs.Again.{AreRecorded, IsLogged, IsRunAgain}
use Rattle.stride_cli.specs.Answers.{setting_of}
use Rattle.stride_cli.specs.Headline.{IsRecordedRun, look_limit}
use Rattle.stride_cli.specs.Inferring.{Inferred, IsInferred, IsInferredBy, IsInferredOf, Ordered}
use Rattle.stride_cli.specs.LiveLooks.{RunLooks}
use Rattle.stride_cli.specs.Looks.{followed_looks}
use Rattle.stride_cli.specs.Playing.{IsPlayed, TellsSummary}
use Rattle.stride_cli.specs.Reports.{replay_report, schedule_section, summary_report}
use Rattle.stride_cli.specs.Runs.{run_section}
use Rattle.stride_cli.specs.Settings.{Limits}

some_same : {X : Type 0} {x y : X} → Some x ≡ Some y → x ≡ y
some_same e = cc

-- logs of a recording are logs of the steps of its history
pub logged_steps : (limits : Limits) (p : Listing) (logs : List (List LogEntry)) → IsLogged limits p logs → AreRecorded limits p logs
logged_steps limits p logs logged = record {
  recording = logged.recording;
  steps = logged.recorded.steps;
  logs_are = logged.logs_are;
  history = logged.recorded.history;
  followed = logged.recorded.followed;
}

-- the least schedule has a member for each event
whole_schedule : ExtensionsAreWhole → (traces : TraceLists) (inferred : Inferred) → IsInferredOf traces (Ordered inferred) → length inferred.schedule ≡ event_count traces
whole_schedule law traces inferred is =
    let least = is.1 in
    ap length least.of_places ∙ (length-map least.places (λ (at : Place). at.thread) ∙ law traces inferred.links least.places least.extends)

-- a schedule that logs come to is one of their recording
schedule_of : (limits : Limits) (p : Listing) (recording : Recording) (inferred : Inferred) (r : Result (List Followed) Divergence) → follow_all p limits.fuel recording.logs ≡ r → IsInferredBy p r (Ordered inferred) → IsScheduleOf (setting_of limits p) recording inferred.schedule
schedule_of limits p recording inferred (Err divergence) follows is = absurd (cc)
schedule_of limits p recording inferred (Ok all) follows is = record { all = all; follows = follows; links = inferred.links; whole = is.0; least = is.1 }

-- so many looks were enough to find the schedule
pub found_within : ExtensionsAreWhole → (traces : TraceLists) (inferred : Inferred) (before after : ℕ) → IsInferredOf traces (Ordered inferred) → after ≤ before + look_limit (event_count traces) → after ≤ before + look_limit (length inferred.schedule)
found_within whole traces inferred before after is looks =
    rw (whole_schedule whole traces inferred is) looks

module _ (limits : Limits) (p : Listing) (logs : List (List LogEntry)) (traces : TraceLists) (logged : IsLogged limits p logs) (again : IsRunAgain p limits.fuel logs traces) where
  -- the threads follow the logs of the recording
  follows : follow_all p limits.fuel logged.recording.logs ≡ Ok again.all
  follows = ap (follow_all p limits.fuel) logged.logs_are ∙ again.follows

  -- the schedule is inferred from the recording
  is_inferred : (inferred : Inferred) → IsInferredOf traces (Ordered inferred) → IsScheduleOf (setting_of limits p) logged.recording inferred.schedule
  is_inferred inferred is =
      let P : TraceLists → Type 0 = λ traces. IsInferredOf traces (Ordered inferred) in
      let whole = subst P again.traces_are is in
      record { all = again.all; follows = follows; links = inferred.links; whole = whole.0; least = whole.1 }

  -- the report is that of the recording's replay
  pub run_found : ExtensionsAreWhole → SchedulesReplayRecordings → (inferred : Inferred) (results : Results) (report : List ℕ) (before after : ℕ) → IsPlayed p limits.fuel traces inferred results → report ≡ schedule_section inferred.schedule ++ run_section results → after ≤ before + look_limit (event_count traces) → IsRecordedRun limits p replay_report report before after
  run_found whole replays inferred results report before after is put looks =
      let plays = is.run in
      let inferring = is_inferred inferred is.ordered in
      let replay = replays (setting_of limits p) logged.recording inferred.schedule again.valid again.some logged.recorded inferring in
      let same : plays.machine ≡ replay.0 = some_same (sym plays.runs ∙ replay.1.runs) in
      let shown : report ≡ replay_report inferred.schedule plays.machine = put ∙ ap (λ (r : Results). schedule_section inferred.schedule ++ run_section r) plays.shows in
      record {
        recording = logged.recording;
        recorded = logged.recorded;
        schedule = inferred.schedule;
        inferred = inferring;
        machine = replay.0;
        replay = replay.1;
        reported = shown ∙ ap (replay_report inferred.schedule) same;
        found = found_within whole traces inferred before after is.ordered looks;
      }

  -- no more looks were taken than are enough for the recording's events
  pub run_looks : (before after : ℕ) → after ≤ before + look_limit (event_count traces) → RunLooks limits (Ok p) before after
  run_looks before after looks =
      let R : TraceLists → Type 0 = λ traces. after ≤ before + look_limit (event_count traces) in
      inr (record { recording = logged.recording; recorded = logged.recorded; all = again.all; follows = follows; within = subst R again.traces_are looks })

-- where no look was taken
unmoved : (limits : Limits) (s : Result Listing LineFault) (before after : ℕ) → after ≡ before → RunLooks limits s before after
unmoved limits (Ok p) before after same = inl same
unmoved limits (Err fault) before after same = same

-- the summary of a recording's logs is that of its replay
pub summary_run : SchedulesReplayRecordings → (limits : Limits) (p : Listing) (logs : List (List LogEntry)) (report : List ℕ) (before after : ℕ) → IsValid p → 1 ≤ limits.fuel → IsLogged limits p logs → TellsSummary p limits.fuel logs report before after
    → IsRecordedRun limits p (summary_report p) report before after
summary_run replays limits p logs report before after valid some logged told =
    let P : List (List LogEntry) → Type 0 = λ logs. IsInferred p limits.fuel logs (Ordered told.inferred) in
    let inferring = schedule_of limits p logged.recording told.inferred (follow_all p limits.fuel logged.recording.logs) refl (subst P (sym logged.logs_are) told.ordered) in
    let replay = replays (setting_of limits p) logged.recording told.inferred.schedule valid some logged.recorded inferring in
    let same : told.machine ≡ replay.0 = some_same (sym told.runs ∙ replay.1.runs) in
    record {
      recording = logged.recording;
      recorded = logged.recorded;
      schedule = told.inferred.schedule;
      inferred = inferring;
      machine = replay.0;
      replay = replay.1;
      reported = told.shows ∙ ap (summary_report p told.inferred.schedule) same;
      found = told.found;
    }

-- no more looks were taken than are enough for the events of a recording with these logs
pub logged_looks : (limits : Limits) (p : Listing) (logs : List (List LogEntry)) (before after : ℕ) → IsLogged limits p logs → after ≤ before + followed_looks look_limit p (follow_all p limits.fuel logs) → RunLooks limits (Ok p) before after
logged_looks limits p logs before after logged looks =
    let again = logged.recorded.followed in
    let R : Result (List Followed) Divergence → Type 0 = λ r. after ≤ before + followed_looks look_limit p r in
    let within = subst R (ap (follow_all p limits.fuel) (sym logged.logs_are) ∙ again.follows) looks in
    inr (record { recording = logged.recording; recorded = logged.recorded; all = again.followed; follows = again.follows; within = within })
