-- What holds of every recording, whatever the program and the order are, and of following.
use Rattle.std.specs.Prelude.{◌≡◌, ◌≤◌, ◌<◌, ℕ, true, false, List, [], ◌∷◌, ◌++◌, Some, None, Ok, length, option_and_then, slice_get}
use Rattle.std.specs.List.{AllByRecursion}
use Rattle.stride_isa.specs.Listing.{Listing, op_at}
use Rattle.stride_isa.specs.declared.op.Op.TheVariants as ops
use Rattle.sc_machine.specs.declared.end.End.TheVariants.{Stopped}
use Rattle.sc_machine.specs.declared.stop.Stop.TheVariants as stops
use Rattle.sc_machine.specs.ThreadStep.{Thread, start_thread, settled, stop_of}
use Rattle.sc_machine.specs.Schedule.{stopped}
use Rattle.interleavings.specs.declared.event.Event.{Event}
use Rattle.interleavings.specs.declared.event.LogEntry.{LogEntry}
use Rattle.interleavings.specs.declared.rest.Rest.{Rest}
use Rattle.interleavings.specs.AtomicStep.{held_turn}
use Rattle.interleavings.specs.EventStep.{after_event}
use Rattle.interleavings.specs.Events.{log_of, entered_by, left_by}
use Rattle.interleavings.specs.Following.{Followed, no_turns, follow}
use Rattle.interleavings.specs.Walking.{is_exit, IsMet, Walks, held_by, turns_by}
use Rattle.interleavings.specs.Recording.{Setting, activity_of, gives_up, GaveUpAt, IsHistoryOf, IsFollowed, IsRecording}
use Rattle.interleavings.specs.Driving.{advance_all, begun, settle_all, is_left, driven, whole_run, stranger}

-- the recording that an order of the program's threads gives is that of its run's steps, which are a history, and after
-- which each thread is at rest
abbrev pub DrivenIsAHistory : Type 0
DrivenIsAHistory = (g : Setting) (order : List ℕ) → stranger (length g.program.threads) order ≡ None → IsHistoryOf g (driven g order) (whole_run g order).steps

-- each thread that is run again by its log of the recording that an order gives makes the events of that run, with the same
-- output and the same end
abbrev pub DrivenIsFollowed : Type 0
DrivenIsFollowed = (g : Setting) (order : List ℕ) → stranger (length g.program.threads) order ≡ None → IsFollowed g (driven g order) (whole_run g order).steps

-- no log of the recording that an order gives has more entries than a thread has fuel
abbrev pub DrivenIsShort : Type 0
DrivenIsShort = (g : Setting) (order : List ℕ) → 1 ≤ g.fuel → stranger (length g.program.threads) order ≡ None → AllByRecursion (λ log. length log ≤ g.fuel) (driven g order).logs

-- a thread whose row of odd looks has reached the patience ended as stopped; with some patience it did so at the entry into
-- the monitor of that row, as soon as the row was that long
abbrev pub DrivenGivesUp : Type 0
DrivenGivesUp = (g : Setting) (order : List ℕ) → stranger (length g.program.threads) order ≡ None → (t : ℕ) → t < length g.program.threads → gives_up g.patience (activity_of g (whole_run g order).steps t).looks ≡ true → (pc : ℕ) × (slice_get (driven g order).ends t ≡ Some (Stopped pc)) × (1 ≤ g.patience → GaveUpAt g t (activity_of g (whole_run g order).steps t).looks pc)

-- where each thread that was stopped had given up, so that none was left waiting, what an order gives is a recording
abbrev pub DrivenIsARecording : Type 0
DrivenIsARecording = (g : Setting) (order : List ℕ) → 1 ≤ g.patience → stranger (length g.program.threads) order ≡ None → ((t pc : ℕ) → slice_get (driven g order).ends t ≡ Some (Stopped pc) → gives_up g.patience (activity_of g (whole_run g order).steps t).looks ≡ true) → IsRecording g (driven g order)

-- once a run has settled, no thread of the program has anything left, so the bound on the steps of settling is never met
abbrev pub NothingIsLeft : Type 0
NothingIsLeft = (g : Setting) (order : List ℕ) → stranger (length g.program.threads) order ≡ None → (rest : Rest) (t : ℕ) → t < length g.program.threads → is_left rest g t (settle_all g (advance_all g order (begun g))) ≡ false

-- after an event a thread has made more instructions than before
abbrev pub EventMakesMore : Type 0
EventMakesMore = (p : Listing) (fuel t : ℕ) (event : Event) (s : Thread) → s.made < (after_event p fuel t event s).made

-- a thread that is run again by a log uses each entry of it, in order: the events that it makes have this very log
abbrev pub FollowedUsesItsLog : Type 0
FollowedUsesItsLog = (p : Listing) (fuel t : ℕ) (log : List LogEntry) (followed : Followed) → 1 ≤ fuel → follow p fuel t log ≡ Ok followed → log_of followed.events ≡ log

-- a thread goes from its local start by these events to this state, at which it stands at no exit
pub record IsWalk (p : Listing) (fuel t : ℕ) (es : List Event) (last : Thread) : Type 0 where
  pub walks : Walks p fuel t es no_turns (settled p fuel t start_thread) last
  pub inside : is_exit (stop_of p t last) ≡ false

-- a thread that was run again by its log went by the events that it made, and was stopped where they led if it had not ended
abbrev pub FollowedWalks : Type 0
FollowedWalks = (p : Listing) (fuel t : ℕ) (log : List LogEntry) (followed : Followed) → 1 ≤ fuel → follow p fuel t log ≡ Ok followed → (last : Thread) × IsWalk p fuel t followed.events last × (followed.thread ≡ stopped last)

-- a thread that goes by some events is run again through them by their log
abbrev pub WalksAreFollowed : Type 0
WalksAreFollowed = (p : Listing) (fuel t : ℕ) (es : List Event) (last : Thread) → IsWalk p fuel t es last → follow p fuel t (log_of es) ≡ Ok (record { events = es; thread = stopped last })

-- a thread comes from its local start to this state by these events
abbrev pub ComesBy : Listing → ℕ → ℕ → List Event → Thread → Type 0
ComesBy p fuel t es last = Walks p fuel t es no_turns (settled p fuel t start_thread) last

-- a thread that has come by some events goes on by one that its instruction meets
abbrev pub WalksGoOn : Type 0
WalksGoOn = (p : Listing) (fuel t : ℕ) (es : List Event) (last : Thread) (event : Event) → ComesBy p fuel t es last → IsMet (stop_of p t last) (turns_by es no_turns) event → ComesBy p fuel t (es ++ event ∷ []) (after_event p fuel t event last)

-- where a thread stands that has come by some events: at an exit it holds the monitor for the turn of its last entry into it;
-- at an entry its instruction enters that monitor; and it was not stopped
pub record StandsBy (p : Listing) (t : ℕ) (es : List Event) (last : Thread) : Type 0 where
  pub holds : (monitor : ℕ) → stop_of p t last ≡ stops.Exit monitor → held_turn monitor (held_by es []) ≡ Some (turns_by es no_turns monitor)
  pub enters : (monitor : ℕ) → stop_of p t last ≡ stops.Enter monitor → op_at p t last.pc ≡ ops.Enter monitor
  pub goes_on : (pc : ℕ) → last.ended ≡ Some (Stopped pc) → ⊥

-- each thread that has come by some events stands so
abbrev pub WalksStand : Type 0
WalksStand = (p : Listing) (fuel t : ℕ) (es : List Event) (last : Thread) → ComesBy p fuel t es last → StandsBy p t es last

-- the event at a place of these ends a turn that an earlier one of them begins
pub record EndsEnter (es : List Event) (place monitor turn : ℕ) : Type 0 where
  pub begun : ℕ
  pub before : begun < place
  pub entered : option_and_then entered_by (slice_get es begun) ≡ Some (record { monitor = monitor; turn = turn })

-- each exit of a thread that goes from event to event ends a turn that an earlier enter of the thread began
abbrev pub ExitsEndEnters : Type 0
ExitsEndEnters = (p : Listing) (fuel t : ℕ) (es : List Event) (last : Thread) → IsWalk p fuel t es last → (place monitor turn : ℕ) → option_and_then left_by (slice_get es place) ≡ Some (record { monitor = monitor; turn = turn }) → EndsEnter es place monitor turn
