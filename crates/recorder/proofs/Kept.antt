-- What was recorded of each thread makes one recording, where it is of one history.
use Rattle.std.proofs.Common.{◌≡◌, ℕ, zero, suc, ◌+◌, ◌<◌, ◌≤◌, List, [], ◌∷◌, Some, Ok, length, map, refl, sym, ap, subst, ◌∙◌, arith}
use Rattle.std.proofs.lemmas.Option.{same_Some, slice_get_within}
use Rattle.std.specs.List.{AllByRecursion, range_with_len, slice_get}
use Rattle.stride_base.specs.Listed.{Listed}
use Rattle.stride_isa.specs.Laws.{EachCellStarts}
use Rattle.stride_isa.specs.Listing.{cell_count, starts_of}
use Rattle.sc_machine.specs.declared.end.End.{End}
use Rattle.sc_machine.specs.Schedule.{thread_numbers}
use Rattle.sc_machine.specs.ThreadStep.{end_of}
use Rattle.interleavings.specs.declared.activity.Activity.{Activity}
use Rattle.interleavings.specs.declared.activity.Phase.{Phase}
use Rattle.interleavings.specs.declared.activity.Phase.TheVariants.{Idle, Loaded, Numbered, Marked, Fetched, Stored, Looked}
use Rattle.interleavings.specs.declared.event.LogEntry.{LogEntry}
use Rattle.interleavings.specs.AtomicStep.{Drawn, IsIdle, Value}
use Rattle.interleavings.specs.Events.{log_of}
use Rattle.interleavings.specs.Following.{Followed, follow_all, follow_all_from, thread_before}
use Rattle.interleavings.specs.History.{Step}
use Rattle.interleavings.specs.Recording.{Recording, Setting, IsAtRest, IsEndAfter, IsFollowed, IsHistoryOf, IsRecording, activity_of, state_of}
use Rattle.shared_rule.specs.Closing.{AreCounted, IsOneHistory, IsWhole, last_word}
use Rattle.shared_rule.specs.declared.closed.Closed.{Closed}
use Rattle.shared_rule.specs.declared.limits.TheConstants.{DRAW_LIMIT}
use Rattle.shared_rule.specs.declared.view.View.{View}
use Rattle.recorder.specs.declared.slot.Slot.{Slot}
use Rattle.recorder.specs.declared.taken.Taken.{Taken}
use Rattle.recorder.specs.Halves.{AreKept}
use Rattle.recorder.specs.Sessions.{recording_in}
use Rattle.recorder.proofs.Rows.{by_places, in_range}

-- there is what was gathered for each slot
pub kept_count : (g : Setting) (t : ℕ) (slots : List Slot) (gathered : List Activity) → AreKept g t slots gathered → length slots ≡ length gathered
kept_count g t [] [] kept = refl
kept_count g t [] (activity ∷ gathered) kept = absurd kept
kept_count g t (slot ∷ slots) [] kept = absurd kept
kept_count g t (slot ∷ slots) (activity ∷ gathered) kept = ap suc (kept_count g (t + 1) slots gathered kept.1)

-- no log is longer than the fuel
pub kept_short : (g : Setting) (t : ℕ) (slots : List Slot) (gathered : List Activity) → AreKept g t slots gathered → AllByRecursion (λ (log : Listed LogEntry). length log.items ≤ g.fuel) (map (λ (slot : Slot). slot.log) slots)
kept_short g t [] [] kept = tt
kept_short g t [] (activity ∷ gathered) kept = absurd kept
kept_short g t (slot ∷ slots) [] kept = absurd kept
kept_short g t (slot ∷ slots) (activity ∷ gathered) kept = (kept.0.short, kept_short g (t + 1) slots gathered kept.1)

-- the logs are those of the events that were finished
kept_logs : (g : Setting) (t : ℕ) (slots : List Slot) (gathered : List Activity) → AreKept g t slots gathered → map (λ (slot : Slot). slot.log.items) slots ≡ map (λ (activity : Activity). log_of activity.events) gathered
kept_logs g t [] [] kept = refl
kept_logs g t [] (activity ∷ gathered) kept = absurd kept
kept_logs g t (slot ∷ slots) [] kept = absurd kept
kept_logs g t (slot ∷ slots) (activity ∷ gathered) kept =
    ap (λ log. log ∷ map (λ (slot : Slot). slot.log.items) slots) kept.0.recorded.logged
    ∙ ap (λ logs. log_of activity.events ∷ logs) (kept_logs g (t + 1) slots gathered kept.1)

-- each thread ended as what was gathered at its place says
kept_ends : (g : Setting) (t : ℕ) (slots : List Slot) (gathered : List Activity) → AreKept g t slots gathered → (k : ℕ) (end : End) (activity : Activity) → slice_get (map (λ (slot : Slot). slot.end) slots) k ≡ Some end → slice_get gathered k ≡ Some activity → IsEndAfter g (t + k) activity.looks end
kept_ends g t [] [] kept k end activity found there = absurd (grind arith)
kept_ends g t [] (first ∷ gathered) kept k end activity found there = absurd kept
kept_ends g t (slot ∷ slots) [] kept k end activity found there = absurd kept
kept_ends g t (slot ∷ slots) (first ∷ gathered) kept zero end activity found there =
    let here : t ≡ t + 0 = omega arith in
    subst (λ n. IsEndAfter g n activity.looks end) here
    (subst (λ (a : Activity). IsEndAfter g t a.looks end) (same_Some first activity there)
    (subst (λ e. IsEndAfter g t first.looks e) (same_Some slot.end end found) kept.0.recorded.gave_up))
kept_ends g t (slot ∷ slots) (first ∷ gathered) kept (suc k) end activity found there =
    let here : t + 1 + k ≡ t + suc k = omega arith in
    subst (λ n. IsEndAfter g n activity.looks end) here (kept_ends g (t + 1) slots gathered kept.1 k end activity found there)

-- following the logs from this number on gives what was gathered and printed, and how the threads ended
record Follows (g : Setting) (t : ℕ) (slots : List Slot) (gathered : List Activity) : Type 0 where
  followed : List Followed
  follows : follow_all_from g.program g.fuel t (length slots) (map (λ (slot : Slot). slot.log.items) slots) ≡ Ok followed
  events : map (λ (f : Followed). f.events) followed ≡ map (λ (activity : Activity). activity.events) gathered
  outputs : map (λ (f : Followed). f.thread.out) followed ≡ map (λ (slot : Slot). slot.out.items) slots
  ends : map (λ (f : Followed). end_of f.thread) followed ≡ map (λ (slot : Slot). slot.end) slots

kept_follows : (g : Setting) (t : ℕ) (slots : List Slot) (gathered : List Activity) → AreKept g t slots gathered → Follows g t slots gathered
unfolding follow_all_from
kept_follows g t [] [] kept = record { followed = []; follows = refl; events = refl; outputs = refl; ends = refl }
kept_follows g t [] (activity ∷ gathered) kept = absurd kept
kept_follows g t (slot ∷ slots) [] kept = absurd kept
kept_follows g t (slot ∷ slots) (activity ∷ gathered) kept =
    let rest = kept_follows g (t + 1) slots gathered kept.1 in
    let first = kept.0.recorded in
    let others = follow_all_from g.program g.fuel (t + 1) (length slots) (map (λ (slot : Slot). slot.log.items) slots) in
    record {
      followed = first.followed ∷ rest.followed;
      follows = ap (λ r. thread_before t r others) first.follows ∙ ap (λ r. thread_before t (Ok first.followed) r) rest.follows;
      events = ap (λ es. es ∷ map (λ (f : Followed). f.events) rest.followed) first.events ∙ ap (λ xs. activity.events ∷ xs) rest.events;
      outputs = ap (λ out. out ∷ map (λ (f : Followed). f.thread.out) rest.followed) first.output ∙ ap (λ xs. slot.out.items ∷ xs) rest.outputs;
      ends = ap (λ end. end ∷ map (λ (f : Followed). end_of f.thread) rest.followed) first.ended ∙ ap (λ xs. slot.end ∷ xs) rest.ends;
    }

ends_count : (slots : List Slot) → length (map (λ (slot : Slot). slot.end) slots) ≡ length slots
ends_count [] = refl
ends_count (slot ∷ slots) = ap suc (ends_count slots)

at_rest : (phase : Phase) → IsIdle phase → IsAtRest phase
at_rest Idle idle = tt
at_rest (Loaded cell value) idle = absurd idle
at_rest (Numbered cell n) idle = absurd idle
at_rest (Marked cell n) idle = absurd idle
at_rest (Fetched cell n old) idle = absurd idle
at_rest (Stored cell n old value) idle = absurd idle
at_rest (Looked monitor turn) idle = absurd idle

-- what slots and closed words come to
abbrev pub recording_of : Setting → List Slot → Closed → Recording
recording_of g slots closed = record {
  logs = map (λ (slot : Slot). slot.log.items) slots;
  outputs = map (λ (slot : Slot). slot.out.items) slots;
  ends = map (λ (slot : Slot). slot.end) slots;
  last_values = map (λ cell. last_word closed (Value cell)) (range_with_len 0 (cell_count g.program.decls));
}

module _ (g : Setting) (slots : List Slot) (gathered : List Activity) (closed : Closed) (steps : List Step) (count : length slots ≡ length g.program.threads) (kept : AreKept g 0 slots gathered) (one : IsOneHistory (starts_of g.program.decls) gathered closed steps) where
  same_count : length gathered ≡ length g.program.threads
  same_count = sym (kept_count g 0 slots gathered kept) ∙ count

  people : gathered ≡ map (activity_of g steps) (thread_numbers g.program)
  people =
      by_places (activity_of g steps) gathered 0 (λ k below. let here : k ≡ 0 + k = omega arith in one.threads k below ∙ ap (λ t. Some (activity_of g steps t)) here)
      ∙ ap (λ n. map (activity_of g steps) (range_with_len 0 n)) same_count

  through : {Y : Type 0} (f : Activity → Y) (ts : List ℕ) → map f (map (activity_of g steps) ts) ≡ map (λ t. f (activity_of g steps t)) ts
  through f [] = refl
  through f (t ∷ ts) = ap (λ ys. f (activity_of g steps t) ∷ ys) (through f ts)

  by_threads : {Y : Type 0} (f : Activity → Y) → map f gathered ≡ map (λ t. f (activity_of g steps t)) (thread_numbers g.program)
  by_threads f = ap (map f) people ∙ through f (thread_numbers g.program)

  kept_history : EachCellStarts → IsHistoryOf g (recording_of g slots closed) steps
  kept_history law = record {
    lawful = one.lawful;
    threads = λ s among. subst (λ n. s.who < n) same_count (one.only s among);
    logs = kept_logs g 0 slots gathered kept ∙ by_threads (λ activity. log_of activity.events);
    at_rest = λ t. at_rest (activity_of g steps t).phase (one.idle t);
    last_values = sym (in_range (λ cell. (state_of g steps).words (Value cell)) (λ cell. last_word closed (Value cell)) 0 (cell_count g.program.decls) (λ cell below. one.words (Value cell) (omega (arith, below, law g.program.decls))));
  }

  kept_followed : IsFollowed g (recording_of g slots closed) steps
  unfolding follow_all
  kept_followed =
      let all = kept_follows g 0 slots gathered kept in
      record {
        followed = all.followed;
        follows = subst (λ n. follow_all_from g.program g.fuel 0 n (map (λ (slot : Slot). slot.log.items) slots) ≡ Ok all.followed) count all.follows;
        events = all.events ∙ by_threads (λ activity. activity.events);
        outputs = all.outputs;
        ends = all.ends;
      }

  pub kept_recording : EachCellStarts → IsRecording g (recording_of g slots closed)
  kept_recording law = record {
    steps = steps;
    history = kept_history law;
    followed = kept_followed;
    ends = λ t end found.
        let below : t < length gathered = omega (arith, slice_get_within (map (λ (slot : Slot). slot.end) slots) t end found, ends_count slots, kept_count g 0 slots gathered kept) in
        let here : 0 + t ≡ t = omega arith in
        subst (λ n. IsEndAfter g n (activity_of g steps t).looks end) here (kept_ends g 0 slots gathered kept t end (activity_of g steps t) found (one.threads t below));
  }

-- once all that were drawn are gathered, what was recorded of each thread is a recording
pub finished_recording : EachCellStarts → (g : Setting) (slots : List Slot) (v : View) (closed : Closed) → length slots ≡ length g.program.threads → AreKept g 0 slots v.gathered → v.starts ≡ starts_of g.program.decls → v.draws + length slots ≡ DRAW_LIMIT → IsWhole v closed → AreCounted v closed → IsRecording g (recording_of g slots closed)
finished_recording law g slots v closed count kept starts draws whole counted =
    let all : length v.gathered ≡ last_word closed Drawn = omega (arith, kept_count g 0 slots v.gathered kept, draws, counted.gathered, counted.drawn) in
    let one = whole all in
    kept_recording g slots v.gathered closed one.0 count kept (subst (λ values. IsOneHistory values v.gathered closed one.0) starts one.1) law

items_of : {X : Type 0} (f : Slot → Listed X) (slots : List Slot) → map (λ (list : Listed X). list.items) (map f slots) ≡ map (λ slot. (f slot).items) slots
items_of f [] = refl
items_of f (slot ∷ slots) = ap (λ xs. (f slot).items ∷ xs) (items_of f slots)

-- the recording of what was taken from the slots and from the closed words
pub taken_recording : (g : Setting) (slots : List Slot) (closed : Closed) (taken : Taken) → taken.logs.items ≡ map (λ (slot : Slot). slot.log) slots → taken.outputs.items ≡ map (λ (slot : Slot). slot.out) slots → taken.ends.items ≡ map (λ (slot : Slot). slot.end) slots → taken.last_values.items ≡ map (λ cell. last_word closed (Value cell)) (range_with_len 0 (cell_count g.program.decls)) → recording_in taken ≡ recording_of g slots closed
taken_recording g slots closed taken logs outputs ends values =
    let by_log = ap (map (λ (log : Listed LogEntry). log.items)) logs ∙ items_of (λ slot. slot.log) slots in
    let by_out = ap (map (λ (output : Listed ℕ). output.items)) outputs ∙ items_of (λ slot. slot.out) slots in
    ap (λ (xs : List (List LogEntry)). record { logs = xs; outputs = map (λ (output : Listed ℕ). output.items) taken.outputs.items; ends = taken.ends.items; last_values = taken.last_values.items }) by_log
    ∙ ap (λ (xs : List (List ℕ)). record { logs = map (λ (slot : Slot). slot.log.items) slots; outputs = xs; ends = taken.ends.items; last_values = taken.last_values.items }) by_out
    ∙ ap (λ (xs : List End). record { logs = map (λ (slot : Slot). slot.log.items) slots; outputs = map (λ (slot : Slot). slot.out.items) slots; ends = xs; last_values = taken.last_values.items }) ends
    ∙ ap (λ (xs : List ℕ). record { logs = map (λ (slot : Slot). slot.log.items) slots; outputs = map (λ (slot : Slot). slot.out.items) slots; ends = map (λ (slot : Slot). slot.end) slots; last_values = xs }) values
