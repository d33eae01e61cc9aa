-- A thread whose row of odd looks has reached the patience ended as stopped, at the entry into the monitor of that row.
use Rattle.std.proofs.Common.{◌≡◌, ℕ, zero, suc, ◌+◌, ◌<◌, ◌≤◌, ◌==◌, Bool, true, false, cond, if◌then◌else◌, List, [], ◌∷◌, Option, Some, None, length, map, get_or, refl, sym, ◌∙◌, ap, subst, inl, inr, arith}
use Rattle.std.proofs.lemmas.Bool.{true≢false, cases_eq, cond_both, leb-true, leb-false}
use Rattle.std.proofs.lemmas.List.{get_or-set_same, get_or-set_other}
use Rattle.std.specs.Prelude.{nat_le, slice_get, unwrap_or}
use Rattle.stride_isa.specs.Listing.{op_at}
use Rattle.stride_isa.specs.declared.op.Op.TheVariants as ops
use Rattle.sc_machine.specs.declared.end.End.{End}
use Rattle.sc_machine.specs.declared.end.End.TheVariants.{Stopped}
use Rattle.sc_machine.specs.declared.stop.Stop.{Stop}
use Rattle.sc_machine.specs.declared.stop.Stop.TheVariants as stops
use Rattle.sc_machine.specs.ThreadRun.{IsShared}
use Rattle.sc_machine.specs.ThreadStep.{Thread, Row, row, now_unless, start_thread, stop_in, stop_of, end_of}
use Rattle.sc_machine.specs.Schedule.{stopped}
use Rattle.interleavings.specs.declared.activity.Activity.{Activity}
use Rattle.interleavings.specs.declared.activity.OddLooks.{OddLooks}
use Rattle.interleavings.specs.declared.activity.Phase.{Phase}
use Rattle.interleavings.specs.declared.activity.Phase.TheVariants.{Loaded, Numbered, Looked}
use Rattle.interleavings.specs.declared.event.Event.{Event}
use Rattle.interleavings.specs.AtomicStep.{word_of, is_even, one_more, looked, looks_after, activity_after}
use Rattle.interleavings.specs.History.{Step}
use Rattle.interleavings.specs.Recording.{Setting, state_of, activity_of, gives_up, GaveUpAt}
use Rattle.interleavings.specs.Driving.{Drive, read_kind, write_kind, update_kind, at_of, thread_of, next_step, finished_in, thread_after, stepped, stepped_if, advance, advance_all, begun, driven, recording_of, stranger, whole_run}
use Rattle.interleavings.proofs.Advances.{IsRun, advance-run, fits_stop}
use Rattle.interleavings.proofs.Beginning.{begun-run, begun-calm}
use Rattle.interleavings.proofs.HeldFlags.{EntersAt}
use Rattle.interleavings.proofs.InPlace.{AreInPlace, IsInPlaceAfter, IsPatient, in_place_after}
use Rattle.interleavings.proofs.NextSteps.{kind_at, step_at}
use Rattle.interleavings.proofs.Reaching.{reached-run, reached-settled}
use Rattle.interleavings.proofs.Settling.{settled_run}
use Rattle.interleavings.proofs.StepPeople.{step_here, step_elsewhere}
use Rattle.interleavings.proofs.Strangers.{known_first}

-- the thread was stopped where it stood, which was where it gave up
record IsStoppedAt (g : Setting) (t : ℕ) (looks : Option OddLooks) (s : Thread) : Type 0 where
  pub stopped : s.ended ≡ Some (Stopped s.pc)
  pub gave_up : 1 ≤ g.patience → GaveUpAt g t looks s.pc

-- if it gives up
abbrev IsStoppedIf : Setting → ℕ → Option OddLooks → Thread → Type 0
IsStoppedIf g t looks s = gives_up g.patience looks ≡ true → IsStoppedAt g t looks s

-- each thread of the run
abbrev AreStopped : Setting → Drive → Type 0
AreStopped g d = (t : ℕ) → t < length g.program.threads → IsStoppedIf g t (activity_of g d.steps t).looks (thread_of d t)

-- a thread at a shared instruction has not ended
not_ended : (ended : Option End) (r : Row) → IsShared (stop_in (now_unless ended r)) → ended ≡ None
not_ended None r shared = refl
not_ended (Some end) r shared = absurd shared

-- a count that was below the patience, and is not after one more, is the patience
counted : (same : Bool) (patience count : ℕ) → 1 ≤ patience → count < patience → patience ≤ cond same (count + 1) 1 → cond same (count + 1) 1 ≡ patience
counted true patience count some below reached = omega arith
counted false patience count some below reached = omega arith

-- the same of a row with one more odd look
counted_looks : (patience monitor : ℕ) (odd : Option OddLooks) → 1 ≤ patience → gives_up patience odd ≡ false → gives_up patience (Some (one_more monitor odd)) ≡ true → (one_more monitor odd).count ≡ patience
counted_looks patience monitor None some calm gives = omega (arith, leb-true patience 1 gives)
counted_looks patience monitor (Some odd) some calm gives =
    counted (odd.mon == monitor) patience odd.count some (leb-false patience odd.count calm) (leb-true patience (if odd.mon == monitor then odd.count + 1 else 1) gives)

-- and the row is of this monitor
one_more-mon : (monitor : ℕ) (odd : Option OddLooks) → (one_more monitor odd).mon ≡ monitor
one_more-mon monitor None = refl
one_more-mon monitor (Some odd) = refl

-- a thread whose look used up its patience gave up at the entry at which it stands
look-gave_up : (g : Setting) (t pc monitor : ℕ) (even : Bool) (odd : Option OddLooks) → op_at g.program t pc ≡ ops.Enter monitor → gives_up g.patience odd ≡ false → gives_up g.patience (looked even monitor odd) ≡ true → 1 ≤ g.patience → GaveUpAt g t (looked even monitor odd) pc
look-gave_up g t pc monitor true odd enters calm gives some = absurd (true≢false (sym gives))
look-gave_up g t pc monitor false odd enters calm gives some = (counted_looks g.patience monitor odd some calm gives, enters ∙ ap (λ m. ops.Enter m) (sym (one_more-mon monitor odd)))

-- a step that is no look keeps the row
read_keeps : (phase : Phase) (at : ℕ) (odd : Option OddLooks) (met : ℕ) → looks_after (read_kind phase) at odd met ≡ odd
read_keeps (Loaded cell value) at odd met = refl
read_keeps phase at odd met = refl

write_keeps : (phase : Phase) (at : ℕ) (odd : Option OddLooks) (met : ℕ) → looks_after (write_kind phase) at odd met ≡ odd
write_keeps (Numbered cell n) at odd met = refl
write_keeps phase at odd met = refl

update_keeps : (phase : Phase) (at : ℕ) (odd : Option OddLooks) (met : ℕ) → looks_after (update_kind phase) at odd met ≡ odd
update_keeps (Numbered cell n) at odd met = refl
update_keeps phase at odd met = refl

-- a step that keeps the row of a patient thread makes none that gives up
kept-gave_up : (g : Setting) (t pc : ℕ) (new odd : Option OddLooks) → new ≡ odd → gives_up g.patience odd ≡ false → gives_up g.patience new ≡ true → GaveUpAt g t new pc
kept-gave_up g t pc new odd same calm gives = absurd (true≢false (sym gives ∙ ap (gives_up g.patience) same ∙ calm))

-- a thread whose step used up its patience gave up at the entry at which it stands
step-gave_up : (g : Setting) (t pc : ℕ) (stop : Stop) (phase : Phase) (odd : Option OddLooks) (met : ℕ) → IsShared stop → EntersAt stop (op_at g.program t pc) → IsPatient g.patience stop odd → gives_up g.patience (looks_after (kind_at stop phase) (at_of stop) odd met) ≡ true → 1 ≤ g.patience → GaveUpAt g t (looks_after (kind_at stop phase) (at_of stop) odd met) pc
step-gave_up g t pc (stops.Read cell) phase odd met shared enters calm gives some = kept-gave_up g t pc _ odd (read_keeps phase cell odd met) calm gives
step-gave_up g t pc (stops.Write cell value) phase odd met shared enters calm gives some = kept-gave_up g t pc _ odd (write_keeps phase cell odd met) calm gives
step-gave_up g t pc (stops.Update cell change) phase odd met shared enters calm gives some = kept-gave_up g t pc _ odd (update_keeps phase cell odd met) calm gives
step-gave_up g t pc (stops.Enter monitor) (Looked at turn) odd met shared enters calm gives some = kept-gave_up g t pc odd odd refl calm gives
step-gave_up g t pc (stops.Enter monitor) phase odd met shared enters calm gives some = look-gave_up g t pc monitor (is_even met) odd enters calm gives some
step-gave_up g t pc (stops.Exit monitor) phase odd met shared enters calm gives some = kept-gave_up g t pc odd odd refl calm gives
step-gave_up g t pc (stops.Ended end) phase odd met shared enters calm gives some = absurd shared

-- after its own step, by what that finished
after-stopped : (g : Setting) (t : ℕ) (stop : Stop) (s : Thread) (activity : Activity) (finished : Option Event) → s.ended ≡ None → IsInPlaceAfter g.patience stop s.held activity.name activity.phase activity.held activity.looks finished → (gives_up g.patience activity.looks ≡ true → 1 ≤ g.patience → GaveUpAt g t activity.looks s.pc) → IsStoppedIf g t activity.looks (thread_after g t finished activity.looks s)
after-stopped g t stop s activity (Some event) open_yet after_step gave_up = λ gives. absurd (true≢false (sym gives ∙ (after_step (stops.Read 0)).patient))
after-stopped g t stop s activity None open_yet after_step gave_up = λ gives.
    cond_both (gives_up g.patience activity.looks) (stopped s) s (λ x. IsStoppedAt g t activity.looks x)
    (λ e. record { stopped = ap (λ ended. Some (unwrap_or ended (Stopped s.pc))) open_yet; gave_up = gave_up gives })
    (λ calm. absurd (true≢false (sym gives ∙ calm)))

module _ (g : Setting) (t : ℕ) (stop : Stop) (d : Drive) (there : t < length g.program.threads) (shared : IsShared stop) (e : stop_of g.program t (thread_of d t) ≡ stop) (run : IsRun g d) (each : AreStopped g d) where
  abbrev s : Thread
  s = thread_of d t

  abbrev old : Activity
  old = activity_of g d.steps t

  abbrev next : Step
  next = step_at t stop old.phase

  abbrev new : Activity
  new = activity_after next.kind next.at next.value old ((state_of g d.steps).words (word_of next.kind next.at))

  -- the thread that makes it
  here : IsStoppedIf g t (activity_of g (next ∷ d.steps) t).looks (thread_after g t (finished_in (state_of g d.steps) next) (activity_of g (next ∷ d.steps) t).looks s)
  here =
      let in_place : AreInPlace g.patience stop s.held old = subst (λ (x : Stop). AreInPlace g.patience x s.held old) e (run.in_place t there) in
      let unended : s.ended ≡ None = not_ended s.ended (row g.program (op_at g.program t s.pc) s.pc s.stack s.locals s.held) (subst IsShared (sym e) shared) in
      subst (λ (a : Activity). IsStoppedIf g t a.looks (thread_after g t (finished_in (state_of g d.steps) next) a.looks s)) (sym (step_here g next d.steps))
      (after-stopped g t stop s new (finished_in (state_of g d.steps) next) unended (in_place_after g.patience stop s.held old.name old.phase old.events old.held old.looks _ shared in_place)
      (step-gave_up g t s.pc stop old.phase old.looks _ shared (fits_stop stop g t s shared e).enters in_place.patient))

  -- and each thread
  stepped-stopped : AreStopped g (stepped g next d)
  stepped-stopped u below = elim (cases_eq u t) [
    | inl same ↦ subst (λ (x : ℕ). IsStoppedIf g x (activity_of g (next ∷ d.steps) x).looks (thread_of (stepped g next d) x)) (sym same)
        (subst (λ (x : Thread). IsStoppedIf g t (activity_of g (next ∷ d.steps) t).looks x) (sym (get_or-set_same d.threads t _ start_thread (omega (arith, run.count)))) here)
    | inr other ↦ subst (λ (x : Thread). IsStoppedIf g u (activity_of g (next ∷ d.steps) u).looks x) (sym (get_or-set_other d.threads t u _ start_thread other))
        (subst (λ (a : Activity). IsStoppedIf g u a.looks (thread_of d u)) (sym (step_elsewhere g next d.steps u other)) (each u below))
  ]

-- by the stop
advanced-stopped : (g : Setting) (t : ℕ) (stop : Stop) (d : Drive) → t < length g.program.threads → stop_of g.program t (thread_of d t) ≡ stop → IsRun g d → AreStopped g d → AreStopped g (stepped_if g (next_step t stop (activity_of g d.steps t).phase) d)
advanced-stopped g t (stops.Read cell) d there e run each = stepped-stopped g t (stops.Read cell) d there tt e run each
advanced-stopped g t (stops.Write cell value) d there e run each = stepped-stopped g t (stops.Write cell value) d there tt e run each
advanced-stopped g t (stops.Update cell change) d there e run each = stepped-stopped g t (stops.Update cell change) d there tt e run each
advanced-stopped g t (stops.Enter monitor) d there e run each = stepped-stopped g t (stops.Enter monitor) d there tt e run each
advanced-stopped g t (stops.Exit monitor) d there e run each = stepped-stopped g t (stops.Exit monitor) d there tt e run each
advanced-stopped g t (stops.Ended end) d there e run each = each

advance-stopped : (g : Setting) (t : ℕ) (d : Drive) → t < length g.program.threads → IsRun g d → AreStopped g d → AreStopped g (advance g t d)
unfolding advance
advance-stopped g t d there run each = advanced-stopped g t (stop_of g.program t (thread_of d t)) d there refl run each

-- along an order
order-stopped : (g : Setting) (order : List ℕ) (d : Drive) → stranger (length g.program.threads) order ≡ None → IsRun g d → AreStopped g d → AreStopped g (advance_all g order d)
unfolding advance_all stranger
order-stopped g [] d known run each = each
order-stopped g (t ∷ ts) d known run each =
    let first = known_first (nat_le (length g.program.threads) t) (length g.program.threads) t (stranger (length g.program.threads) ts) refl known in
    order-stopped g ts (advance g t d) first.1 (advance-run g t d first.0 run) (advance-stopped g t d first.0 run each)

-- at the start nobody has looked
begun-stopped : (g : Setting) → AreStopped g (begun g)
begun-stopped g t below gives = absurd (true≢false (sym gives ∙ ap (gives_up g.patience) (begun-calm g t below)))

-- a run that has settled
settled-stopped : (g : Setting) (order : List ℕ) → stranger (length g.program.threads) order ≡ None → AreStopped g (settled_run g order)
settled-stopped g order known =
    let reached = reached-settled g order known in
    subst (λ (d : Drive). AreStopped g d) (sym reached.same) (order-stopped g reached.order (begun g) reached.known (begun-run g) (begun-stopped g))

-- the end of a thread in a list of them
end_at : (threads : List Thread) (t : ℕ) → t < length threads → slice_get (map end_of (map stopped threads)) t ≡ Some (end_of (get_or threads t start_thread))
end_at [] t below = absurd (omega arith)
end_at (s ∷ threads) zero below = refl
end_at (s ∷ threads) (suc t) below = end_at threads t (omega arith)

pub driven-gives_up : (g : Setting) (order : List ℕ) → stranger (length g.program.threads) order ≡ None → (t : ℕ) → t < length g.program.threads → gives_up g.patience (activity_of g (whole_run g order).steps t).looks ≡ true → (pc : ℕ) × (slice_get (driven g order).ends t ≡ Some (Stopped pc)) × (1 ≤ g.patience → GaveUpAt g t (activity_of g (whole_run g order).steps t).looks pc)
unfolding driven recording_of whole_run
driven-gives_up g order known t below gives =
    let d = settled_run g order in
    let s = thread_of d t in
    let at_stop = settled-stopped g order known t below gives in (
      s.pc,
      end_at d.threads t (omega (arith, (reached-run g d (reached-settled g order known)).count)) ∙ ap (λ ended. Some (unwrap_or ended (Stopped s.pc))) at_stop.stopped,
      at_stop.gave_up,
    )
