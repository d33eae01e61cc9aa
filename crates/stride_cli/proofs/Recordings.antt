-- A recording is linked and ordered.
use Rattle.std.proofs.Common.{◌≡◌, ◌∙◌, ◌≤◌, List, Result, Ok, sym, ap, subst}
use Rattle.stride_isa.specs.Listing.{Listing}
use Rattle.stride_isa.specs.Validity.{IsValid}
use Rattle.interleavings.specs.declared.event.LogEntry.{LogEntry}
use Rattle.interleavings.specs.Following.{Divergence, Followed, follow_all}
use Rattle.interleavings.specs.TraceLists.{TraceLists}
use Rattle.event_order.specs.Laws.{FollowedAreInRange, traces_of}
use Rattle.history_laws.specs.HistoryEvents.{AreEventsOf}
use Rattle.history_laws.specs.Laws.{HistoriesAreLinked, HistoriesAreOrdered, RecordingsAreHistories}
use Rattle.stride_cli.specs.declared.refusal.Refusal.TheVariants as refusals
use Rattle.stride_cli.specs.declared.status.LinkageFault.{LinkageFault}
use Rattle.stride_cli.specs.Again.{AreRecorded, IsRecorded}
use Rattle.stride_cli.specs.Answers.{Answer, AnswersInference, setting_of}
use Rattle.stride_cli.specs.Bundles.{Nothing, RefusesEvents}
use Rattle.stride_cli.specs.Inferring.{Circular, Diverging, Inference, IsInferredOf, Ordered, Unlinked}
use Rattle.stride_cli.specs.Settings.{Limits}
use Rattle.stride_cli.proofs.Inferences.{ring_before}

-- what the laws say of recordings
pub record Laws : Type 0 where
  pub range : FollowedAreInRange
  pub events : RecordingsAreHistories
  pub linked : HistoriesAreLinked
  pub ordered : HistoriesAreOrdered

-- threads that were followed, as what comes of following
abbrev given : List Followed → Result (List Followed) Divergence
given all = Ok all

given_same : (one other : List Followed) → given one ≡ given other → one ≡ other
given_same one other e = cc

-- the threads follow the logs of a recording
pub logs_follow : (limits : Limits) (p : Listing) (logs : List (List LogEntry)) (recorded : AreRecorded limits p logs) → follow_all p limits.fuel logs ≡ given recorded.followed.followed
logs_follow limits p logs recorded = sym (ap (follow_all p limits.fuel) recorded.logs_are) ∙ recorded.followed.follows

module _ (laws : Laws) (limits : Limits) (some : 1 ≤ limits.fuel) (p : Listing) (valid : IsValid p) (logs : List (List LogEntry)) (logged : AreRecorded limits p logs) where
  -- the events of the threads that follow the logs
  abbrev events : TraceLists
  events = traces_of p logged.followed.followed

  -- they are those of the recording's history
  are_events : AreEventsOf logged.steps events
  are_events =
      let range = laws.range p limits.fuel logged.recording.logs logged.followed.followed valid some logged.followed.follows in
      laws.events (setting_of limits p) logged.recording logged.steps logged.history logged.followed range

  -- nothing that they come to is a refusal
  pub unrefused : (inference : Inference) (answer : Answer) → IsInferredOf events inference → AnswersInference Nothing inference answer → ⊥
  unrefused (Diverging divergence) answer is refused = is
  unrefused (Unlinked refusal) answer is refused = laws.linked logged.steps events are_events refusal is.refused
  unrefused (Circular cycle) answer is refused =
      laws.ordered logged.steps events is.0 are_events is.1.0.linked cycle (ring_before events is.0 cycle is.1.1.round.goes_round)
  unrefused (Ordered inferred) answer is refused = refused

-- so the events of threads that were run again by the logs of a recording are not refused
pub not_refused : Laws → (limits : Limits) (p : Listing) (logs : List (List LogEntry)) (traces : TraceLists) → IsRecorded limits p logs traces → (fault : LinkageFault) → RefusesEvents traces (refusals.NoLinkage fault) → ⊥
not_refused laws limits p logs traces recorded fault is =
    let again = recorded.again in
    let logged = recorded.logged in
    let same : again.all ≡ logged.followed.followed = given_same again.all logged.followed.followed (sym again.follows ∙ logs_follow limits p logs logged) in
    let P : TraceLists → Type 0 = λ traces. IsInferredOf traces is.0 in
    unrefused laws limits again.some p again.valid logs logged is.0 _ (subst P (again.traces_are ∙ ap (traces_of p) same) is.1.0) is.1.1
