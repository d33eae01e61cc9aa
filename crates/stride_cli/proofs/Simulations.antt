-- An order that names threads of a valid program alone has an answer of `sim`, which is the run of its recording.
use Rattle.std.proofs.Common.{◌≡◌, ℕ, ◌≤◌, List, Option, Some, None, Result, refl, sym, subst, length}
use Rattle.stride_isa.specs.Listing.{Listing}
use Rattle.stride_isa.specs.Validity.{IsValid}
use Rattle.interleavings.specs.Driving.{driven, stranger, whole_run}
use Rattle.interleavings.specs.Following.{Divergence, Followed}
use Rattle.interleavings.specs.Laws.{DrivenIsAHistory, DrivenIsFollowed}
use Rattle.interleavings.specs.Recording.{Recording, Setting}
use Rattle.event_order.specs.Laws.{ExtensionsAreRuns, FollowedAreInRange, RunsAsFollowed, traces_of}
use Rattle.history_laws.specs.HistoryEvents.{AreEventsOf}
use Rattle.history_laws.specs.Laws.{HistoriesHaveOrders, RecordingsAreHistories}
use Rattle.stride_cli.specs.Answers.{Answer, AnswersRecorded, AnswersRecording, AnswersSimulated, done, refused, setting_of}
use Rattle.stride_cli.specs.declared.status.MemberFault.TheVariants.{NoThread}
use Rattle.stride_cli.specs.declared.status.Status.TheVariants.{NotEnabled}
use Rattle.stride_cli.specs.Inferring.{Inferred, IsInferredBy, IsInferredOf, Ordered}
use Rattle.stride_cli.specs.Reports.{sim_report}
use Rattle.stride_cli.specs.Settings.{Limits}
use Rattle.stride_cli.proofs.LeastRuns.{least_runs}

-- what the laws say of recordings, of histories and of the direct order
pub record Laws : Type 0 where
  pub history : DrivenIsAHistory
  pub followed : DrivenIsFollowed
  pub range : FollowedAreInRange
  pub events : RecordingsAreHistories
  pub orders : HistoriesHaveOrders
  pub runs : ExtensionsAreRuns

module _ (laws : Laws) (limits : Limits) (some : 1 ≤ limits.fuel) (p : Listing) (valid : IsValid p) (order : List ℕ) (known : stranger (length p.threads) order ≡ None) where
  -- how the program is recorded
  abbrev setting : Setting
  setting = setting_of limits p

  -- its recording
  abbrev recording : Recording
  recording = driven setting order

  -- the threads run again by its logs
  abbrev followed : List Followed
  followed = (laws.followed setting order known).followed

  -- the run by the least schedule of their events
  recorded_run : (inferred : Inferred) → IsInferredOf (traces_of p followed) (Ordered inferred) → RunsAsFollowed p limits.fuel followed inferred.schedule
  recorded_run inferred is = least_runs laws.runs p valid limits.fuel some recording.logs followed (laws.followed setting order known).follows inferred is

  -- the events are those of a history
  are_events : AreEventsOf (whole_run setting order).steps (traces_of p followed)
  are_events =
      let again = laws.followed setting order known in
      laws.events setting recording (whole_run setting order).steps (laws.history setting order known) again
      (laws.range p limits.fuel recording.logs again.followed valid some again.follows)

  pub recording_answer : (answer : Answer) × AnswersRecording limits p recording answer
  recording_answer =
      let found = laws.orders (whole_run setting order).steps (traces_of p followed) are_events in
      let inferred : Inferred = record { links = found.0; schedule = found.2.0 } in
      let run = recorded_run inferred (found.1, found.2.1) in
      let Q : Result (List Followed) Divergence → Type 0 = λ r. IsInferredBy p r (Ordered inferred) in (
        done (sim_report recording.logs inferred.links inferred.schedule run.machine),
        record {
          inferred = inferred;
          ordered = subst Q (sym (laws.followed setting order known).follows) (found.1, found.2.1);
          machine = run.machine;
          runs = run.runs;
          shows = refl;
        },
      )

module _ (laws : Laws) (limits : Limits) (some : 1 ≤ limits.fuel) (p : Listing) (valid : IsValid p) where
  by_stranger : (order : List ℕ) (found : Option ℕ) → stranger (length p.threads) order ≡ found → (answer : Answer) × AnswersRecorded limits p found (driven (setting_of limits p) order) answer
  by_stranger order None is = recording_answer laws limits some p valid order is
  by_stranger order (Some place) is = (refused (NotEnabled place NoThread), refl)

  -- an order has an answer of `sim`
  pub simulation : (order : List ℕ) → (answer : Answer) × AnswersSimulated limits p order answer
  simulation order = by_stranger order (stranger (length p.threads) order) refl
