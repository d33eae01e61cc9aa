-- A thread that stands at an exit, and what its step leaves of its fuel.
use Rattle.std.proofs.Common.{◌≡◌, ℕ, ◌-◌, ◌<◌, true, List, length, refl, sym, ◌∙◌, ap, subst, inl, inr, arith, Option, Some, None}
use Rattle.std.proofs.lemmas.Bool.{true≢false}
use Rattle.std.proofs.lemmas.List.{get_or-set_same}
use Rattle.stride_isa.specs.Limits.{monitor_limit}
use Rattle.stride_isa.specs.Listing.{op_at}
use Rattle.sc_machine.specs.declared.end.End.{End}
use Rattle.sc_machine.specs.declared.stop.Stop.{Stop}
use Rattle.sc_machine.specs.declared.stop.Stop.TheVariants as stops
use Rattle.sc_machine.specs.ThreadStep.{Thread, Row, start_thread, row, holds, now_unless, settled, stop_in, stop_of}
use Rattle.sc_machine.specs.ThreadRun.{IsShared}
use Rattle.interleavings.specs.declared.activity.HeldTurn.{HeldTurn}
use Rattle.interleavings.specs.Following.{no_turns}
use Rattle.interleavings.specs.declared.event.Event.{Event}
use Rattle.interleavings.specs.declared.event.Event.TheVariants as events
use Rattle.interleavings.specs.AtomicStep.{held_turn, turn_or_zero}
use Rattle.interleavings.specs.Recording.{Setting, activity_of}
use Rattle.interleavings.specs.Driving.{Drive, thread_of, next_step, stepped_if, advance}
use Rattle.interleavings.specs.Walking.{is_exit}
use Rattle.interleavings.specs.EventStep.{after_event}
use Rattle.interleavings.proofs.Advances.{IsRun, fits_stop}
use Rattle.interleavings.proofs.HeldFlags.{none_held}
use Rattle.interleavings.proofs.MachineLaws.{MachineLaws, IsAlive, start-alive, after_event-made}
use Rattle.interleavings.proofs.Walked.{HasWalked, not_given_up}
use Rattle.interleavings.proofs.Walks.{walks-alive}

-- a thread that stands at an exit has not ended
not_ended : (ended : Option End) (r : Row) (monitor : ℕ) → stop_in (now_unless ended r) ≡ stops.Exit monitor → ended ≡ None
not_ended None r monitor e = refl
not_ended (Some end) r monitor e = cc

-- it holds the monitor, so it is not at its start, and has fuel left
exit_has_fuel : (g : Setting) (t : ℕ) (s : Thread) (monitor : ℕ) → stop_of g.program t s ≡ stops.Exit monitor → IsAlive g.fuel s → s.made < g.fuel
exit_has_fuel g t s monitor e (inl left) = left (not_ended s.ended (row g.program (op_at g.program t s.pc) s.pc s.stack s.locals s.held) monitor e)
exit_has_fuel g t s monitor e (inr start) =
    let holding : holds s.held monitor ≡ true = (fits_stop (stops.Exit monitor) g t s tt e).at_exit in
    absurd (true≢false (sym holding ∙ ap (λ (x : Thread). holds x.held monitor) start ∙ none_held monitor_limit monitor))

-- it came there by its events, and did not give up
alive_at_exit : MachineLaws → (g : Setting) (t : ℕ) (s : Thread) (monitor : ℕ) (done : List Event) (held : List HeldTurn) → stop_of g.program t s ≡ stops.Exit monitor → HasWalked g t s done held → IsAlive g.fuel s
alive_at_exit laws g t s monitor done held e walked =
    let alive : IsAlive g.fuel walked.last = walks-alive laws g.program g.fuel t done no_turns (settled g.program g.fuel t start_thread) walked.last walked.walks (start-alive laws g.program g.fuel t) in
    subst (λ (x : Thread). IsAlive g.fuel x) (sym (not_given_up g t s walked.last (subst IsShared (sym e) tt) walked.stands)) alive

-- by the stop
advanced-falls : MachineLaws → (g : Setting) (t : ℕ) (stop : Stop) (d : Drive) → t < length g.program.threads → stop_of g.program t (thread_of d t) ≡ stop → is_exit stop ≡ true → IsRun g d → g.fuel - (thread_of (stepped_if g (next_step t stop (activity_of g d.steps t).phase) d) t).made < g.fuel - (thread_of d t).made
advanced-falls laws g t (stops.Exit monitor) d there e exit run =
    let s = thread_of d t in
    let event : Event = events.Exit monitor (turn_or_zero (held_turn monitor (activity_of g d.steps t).held)) in
    let made : (thread_of (stepped_if g (next_step t (stops.Exit monitor) (activity_of g d.steps t).phase) d) t).made ≡ (after_event g.program g.fuel t event s).made =
    ap (λ (x : Thread). x.made) (get_or-set_same d.threads t (after_event g.program g.fuel t event s) start_thread (omega (arith, there, run.count))) in
    omega (arith, made, after_event-made laws g.program g.fuel t event s, exit_has_fuel g t s monitor e (alive_at_exit laws g t s monitor (activity_of g d.steps t).events (activity_of g d.steps t).held e (run.walked t there)))
advanced-falls laws g t stop d there e exit run = absurd (true≢false (sym exit))

-- the exit leaves less of its fuel
pub exit_falls : MachineLaws → (g : Setting) (t : ℕ) (d : Drive) → t < length g.program.threads → is_exit (stop_of g.program t (thread_of d t)) ≡ true → IsRun g d → g.fuel - (thread_of (advance g t d) t).made < g.fuel - (thread_of d t).made
unfolding advance
exit_falls laws g t d there exit run = advanced-falls laws g t (stop_of g.program t (thread_of d t)) d there refl exit run
