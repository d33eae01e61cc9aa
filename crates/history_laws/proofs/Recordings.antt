-- The events that follow from the logs of a recording are those of its history.
use Rattle.std.proofs.Common.{◌≡◌, ℕ, List, [], length, map, slice_index_or, sym, ◌∙◌, ap, inl, inr, arith}
use Rattle.std.proofs.lemmas.Bool.{cases_lt}
use Rattle.std.proofs.lemmas.List.{get_or_past}
use Rattle.std.proofs.lemmas.List.FromFn.{get_or-map-range_with_len, length-map-range_with_len}
use Rattle.stride_isa.specs.Listing.{starts_of}
use Rattle.sc_machine.specs.Schedule.{thread_numbers}
use Rattle.interleavings.specs.declared.event.Event.{Event}
use Rattle.interleavings.specs.History.{Person, Step}
use Rattle.interleavings.specs.Recording.{Recording, Setting, IsFollowed, IsHistoryOf, activity_of}
use Rattle.interleavings.specs.TraceLists.{events_of}
use Rattle.event_order.specs.Laws.{traces_of}
use Rattle.histories.specs.Laws.{StrangersAreNewcomers}
use Rattle.history_laws.specs.Laws.{RecordingsAreHistories}

-- the events of each thread
followed_events : StrangersAreNewcomers → (g : Setting) (recording : Recording) (steps : List Step) → IsHistoryOf g recording steps → (followed : IsFollowed g recording steps) → (t : ℕ) → events_of (traces_of g.program followed.followed) t ≡ (activity_of g steps t).events
followed_events strangers g recording steps history followed t = ap (λ (rows : List (List Event)). slice_index_or rows t []) followed.events ∙ elim (cases_lt t (length g.program.threads)) [
  | inl less ↦ get_or-map-range_with_len (λ u. (activity_of g steps u).events) 0 (length g.program.threads) t t [] less (omega arith)
  | inr past ↦ get_or_past (map (λ u. (activity_of g steps u).events) (thread_numbers g.program)) t [] (omega (arith, length-map-range_with_len (λ u. (activity_of g steps u).events) 0 (length g.program.threads)))
      ∙ sym (ap (λ (p : Person). p.activity.events) (strangers (starts_of g.program.decls) steps t (λ s among e. (let less = history.threads s among in absurd (omega arith)))))
]

-- of any recording
pub recorded-history : StrangersAreNewcomers → RecordingsAreHistories
recorded-history strangers g recording steps history followed range = record {
  lawful = history.lawful;
  at_rest = history.at_rest;
  events = followed_events strangers g recording steps history followed;
  range = range;
}
