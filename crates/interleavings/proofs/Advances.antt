-- What holds of a run under way, whatever order it is driven in, and that one atomic step of a thread keeps it.
use Rattle.std.proofs.Common.{◌≡◌, ℕ, ◌+◌, ◌<◌, Bool, true, false, cond, List, [], ◌∷◌, Option, Some, None, length, refl, sym, ◌∙◌, ap, subst, inl, inr, arith}
use Rattle.std.proofs.lemmas.Bool.{cases_eq, cond_both, leb-false}
use Rattle.std.proofs.lemmas.List.{get_or-set_same, get_or-set_other, length-set}
use Rattle.std.specs.Option.{option_map}
use Rattle.std.specs.Prelude.{nat_le}
use Rattle.stride_isa.specs.Listing.{op_at, starts_of}
use Rattle.sc_machine.specs.declared.stop.Stop.{Stop}
use Rattle.sc_machine.specs.declared.stop.Stop.TheVariants as stops
use Rattle.sc_machine.specs.ThreadRun.{IsShared}
use Rattle.sc_machine.specs.ThreadStep.{Thread, start_thread, answered, stop_of, done_held}
use Rattle.sc_machine.specs.Schedule.{stopped}
use Rattle.interleavings.specs.declared.activity.Activity.{Activity}
use Rattle.interleavings.specs.declared.activity.Phase.{Phase}
use Rattle.interleavings.specs.declared.event.Event.{Event}
use Rattle.interleavings.specs.AtomicStep.{Number, word_of, May, is_even, activity_after, phase_after}
use Rattle.interleavings.specs.Events.{word_given}
use Rattle.interleavings.specs.History.{Step, after, IsHistory}
use Rattle.interleavings.specs.Recording.{Setting, state_of, activity_of, gives_up, Among}
use Rattle.interleavings.specs.Driving.{Drive, thread_of, at_of, next_step, finished_in, thread_after, stepped, stepped_if, advance, advance_all, stranger}
use Rattle.interleavings.specs.Following.{no_turns}
use Rattle.interleavings.specs.EventStep.{after_event}
use Rattle.interleavings.proofs.HeldFlags.{flags_after, FitsStop, IsAnsweredAs, stands_answered, settled-held}
use Rattle.interleavings.proofs.StepPeople.{step_here, step_elsewhere}
use Rattle.interleavings.proofs.OddNumbers.{Claims, odd_after}
use Rattle.interleavings.specs.Walking.{turns_by}
use Rattle.interleavings.proofs.Finishes.{IsFinished, step_finishes}
use Rattle.interleavings.proofs.InPlace.{AreInPlace, IsInPlaceAfter, may_next, in_place_after, turn_at_exit}
use Rattle.interleavings.proofs.Walked.{HasWalked, thread_after-walked}
use Rattle.interleavings.proofs.NextSteps.{kind_at, step_at}

-- what a thread has done and is doing fits where it stands
abbrev pub IsThreadInPlace : Setting → ℕ → Thread → Activity → Type 0
IsThreadInPlace g t s activity = AreInPlace g.patience (stop_of g.program t s) s.held activity

-- a thread has claimed the number of a cell after these steps
abbrev pub IsClaimed : Setting → List Step → ℕ → Type 0
IsClaimed g steps cell = (t : ℕ) × (t < length g.program.threads) × Claims cell (activity_of g steps t).phase

-- a thread came to where it stands by what it has done
abbrev pub HasThreadWalked : Setting → ℕ → Thread → Activity → Type 0
HasThreadWalked g t s activity = HasWalked g t s activity.events activity.held

-- the steps of a run are a history of the program's threads, each thread is in place and came there by its events, and
-- each number that is odd was made so by a writer that has not completed it
pub record IsRun (g : Setting) (d : Drive) : Type 0 where
  pub lawful : IsHistory (starts_of g.program.decls) d.steps
  pub members : (s : Step) → Among s d.steps → s.who < length g.program.threads
  pub count : length d.threads ≡ length g.program.threads
  pub in_place : (t : ℕ) → t < length g.program.threads → IsThreadInPlace g t (thread_of d t) (activity_of g d.steps t)
  pub walked : (t : ℕ) → t < length g.program.threads → HasThreadWalked g t (thread_of d t) (activity_of g d.steps t)
  pub odd : (cell : ℕ) → is_even ((state_of g d.steps).words (Number cell)) ≡ false → IsClaimed g d.steps cell

-- the instruction fits the stop of a thread that stands at a shared one
pub fits_stop : (stop : Stop) (g : Setting) (t : ℕ) (s : Thread) → IsShared stop → stop_of g.program t s ≡ stop → FitsStop stop (op_at g.program t s.pc) s.held
fits_stop stop g t s shared e = by_stop stop shared (subst (λ (x : Stop). IsAnsweredAs x (op_at g.program t s.pc) s.held) e (stands_answered g.program t s))
  where
    by_stop : (x : Stop) → IsShared x → IsAnsweredAs x (op_at g.program t s.pc) s.held → FitsStop x (op_at g.program t s.pc) s.held
    by_stop (stops.Read cell) shared h = h
    by_stop (stops.Write cell value) shared h = h
    by_stop (stops.Update cell change) shared h = h
    by_stop (stops.Enter monitor) shared h = h
    by_stop (stops.Exit monitor) shared h = h
    by_stop (stops.Ended end) shared h = absurd shared

-- a thread that is in place after a step is so where it stands then
thread_after-in_place : (g : Setting) (t : ℕ) (s : Thread) (stop : Stop) (activity : Activity) (finished : Option Event) → stop_of g.program t s ≡ stop → done_held (op_at g.program t s.pc) s.held ≡ flags_after stop s.held → IsInPlaceAfter g.patience stop s.held activity.name activity.phase activity.held activity.looks finished → IsThreadInPlace g t (thread_after g t finished activity.looks s) activity
thread_after-in_place g t s stop activity (Some event) e flags after_step =
    let made = after_event g.program g.fuel t event s in
    let same : made.held ≡ flags_after stop s.held = settled-held g.program g.fuel t (answered g.program g.fuel t (word_given event) s) ∙ flags in
    subst (λ (f : List Bool). AreInPlace g.patience (stop_of g.program t made) f activity) (sym same) (after_step (stop_of g.program t made))
thread_after-in_place g t s stop activity None e flags after_step = cond_both (gives_up g.patience activity.looks) (stopped s) s (λ x. IsThreadInPlace g t x activity) (λ gives. after_step.1 _ gives) (λ calm. subst (λ (x : Stop). AreInPlace g.patience x s.held activity) (sym e) (after_step.0 calm))

-- along equations of the thread and of what it does
thread_in_place-along : (g : Setting) (t : ℕ) (s s' : Thread) (activity activity' : Activity) → s' ≡ s → activity' ≡ activity → IsThreadInPlace g t s activity → IsThreadInPlace g t s' activity'
thread_in_place-along g t s s' activity activity' same_thread same_activity h = subst (λ (x : Thread). IsThreadInPlace g t x activity') (sym same_thread) (subst (λ (x : Activity). IsThreadInPlace g t s x) (sym same_activity) h)

-- one that claimed the cell still does after a step, if it does where the step is its own
still_claimed : (g : Setting) (s : Step) (steps : List Step) (cell : ℕ) → (Claims cell (activity_of g steps s.who).phase → Claims cell (activity_of g (s ∷ steps) s.who).phase) → IsClaimed g steps cell → IsClaimed g (s ∷ steps) cell
still_claimed g s steps cell still w = (
  w.0,
  w.1,
  elim (cases_eq w.0 s.who) [
    | inl same ↦ subst (λ (x : ℕ). Claims cell (activity_of g (s ∷ steps) x).phase) (sym same) (still (subst (λ (x : ℕ). Claims cell (activity_of g steps x).phase) same w.2))
    | inr other ↦ subst (λ (a : Activity). Claims cell a.phase) (sym (step_elsewhere g s steps w.0 other)) w.2
  ],
)

module _ (g : Setting) (t : ℕ) (stop : Stop) (d : Drive) (there : t < length g.program.threads) (shared : IsShared stop) (e : stop_of g.program t (thread_of d t) ≡ stop) (run : IsRun g d) where
  -- its next step
  abbrev next : Step
  next = step_at t stop (activity_of g d.steps t).phase

  -- the thread is in place at its stop
  in_place_here : AreInPlace g.patience stop (thread_of d t).held (activity_of g d.steps t)
  in_place_here = subst (λ (x : Stop). AreInPlace g.patience x (thread_of d t).held (activity_of g d.steps t)) e (run.in_place t there)

  -- its next step may be made
  may_here : May (kind_at stop (activity_of g d.steps t).phase) (at_of stop) (activity_of g d.steps t)
  may_here = may_next g.patience stop (thread_of d t).held (activity_of g d.steps t) shared (fits_stop stop g t (thread_of d t) shared e).at_exit in_place_here

  -- the steps are those of the program's threads
  stepped-members : (s : Step) → Among s (stepped g next d).steps → s.who < length g.program.threads
  stepped-members s (inl same) = subst (λ (x : Step). x.who < length g.program.threads) (sym same) there
  stepped-members s (inr among) = run.members s among

  -- the thread after its step
  stepped_thread : Thread
  stepped_thread = let step = next in thread_after g t (finished_in (state_of g d.steps) step) (activity_of g (step ∷ d.steps) t).looks (thread_of d t)

  -- it is in place after its step
  stepped-in_place_here : IsThreadInPlace g t stepped_thread (activity_of g (stepped g next d).steps t)
  unfolding stepped_thread
  stepped-in_place_here =
      let old = activity_of g d.steps t in
      let step = step_at t stop old.phase in
      let st = state_of g d.steps in
      let met = st.words (word_of step.kind step.at) in
      let new = activity_after step.kind step.at step.value old met in
      let fits : IsThreadInPlace g t (thread_after g t (finished_in st step) new.looks (thread_of d t)) new =
      thread_after-in_place g t (thread_of d t) stop new (finished_in st step) e (fits_stop stop g t (thread_of d t) shared e).flags_are
      (in_place_after g.patience stop (thread_of d t).held old.name old.phase old.events old.held old.looks met shared in_place_here) in
      subst (λ (a : Activity). IsThreadInPlace g t (thread_after g t (finished_in st step) a.looks (thread_of d t)) a) (sym (step_here g step d.steps)) fits

  -- and so is each thread
  stepped-in_place : (u : ℕ) → u < length g.program.threads → IsThreadInPlace g u (thread_of (stepped g next d) u) (activity_of g (stepped g next d).steps u)
  unfolding stepped_thread
  stepped-in_place u below = elim (cases_eq u t) [
    | inl same ↦ subst (λ (x : ℕ). IsThreadInPlace g x (thread_of (stepped g next d) x) (activity_of g (stepped g next d).steps x)) (sym same)
        (let activity = activity_of g (stepped g next d).steps t in
        thread_in_place-along g t stepped_thread (thread_of (stepped g next d) t) activity activity (get_or-set_same d.threads t stepped_thread start_thread (omega (arith, run.count))) refl stepped-in_place_here)
    | inr other ↦ thread_in_place-along g u (thread_of d u) (thread_of (stepped g next d) u) (activity_of g d.steps u) (activity_of g (stepped g next d).steps u)
        (get_or-set_other d.threads t u stepped_thread start_thread other)
        (step_elsewhere g (next) d.steps u other)
        (run.in_place u below)
  ]

  -- the thread came to where it stands after its step
  stepped-walked_here : HasThreadWalked g t stepped_thread (activity_of g (stepped g next d).steps t)
  unfolding stepped_thread
  stepped-walked_here =
      let s = thread_of d t in
      let old = activity_of g d.steps t in
      let step = step_at t stop old.phase in
      let st = state_of g d.steps in
      let met = st.words (word_of step.kind step.at) in
      let new = activity_after step.kind step.at step.value old met in
      let holds = turn_at_exit stop s.held old.held (fits_stop stop g t s shared e).at_exit in_place_here.turns in
      let finishes = step_finishes stop old.name old.phase old.events old.held old.looks (turns_by old.events no_turns) met shared in_place_here.fits holds (run.walked t there).entered in
      let walked : HasThreadWalked g t (thread_after g t (finished_in st step) new.looks s) new =
      thread_after-walked g t s old.events old.held new.held (finished_in st step) new.looks (subst IsShared (sym e) shared) (run.walked t there)
      (subst (λ (x : Stop). IsFinished x (turns_by old.events no_turns) old.held new.held (finished_in st step)) (sym e) finishes) in
      subst (λ (a : Activity). HasThreadWalked g t (thread_after g t (finished_in st step) a.looks s) a) (sym (step_here g step d.steps)) walked

  -- and so did each thread
  stepped-walked : (u : ℕ) → u < length g.program.threads → HasThreadWalked g u (thread_of (stepped g next d) u) (activity_of g (stepped g next d).steps u)
  unfolding stepped_thread
  stepped-walked u below = elim (cases_eq u t) [
    | inl same ↦ subst (λ (x : ℕ). HasThreadWalked g x (thread_of (stepped g next d) x) (activity_of g (stepped g next d).steps x)) (sym same)
        (subst (λ (s : Thread). HasThreadWalked g t s (activity_of g (stepped g next d).steps t)) (sym (get_or-set_same d.threads t stepped_thread start_thread (omega (arith, run.count)))) stepped-walked_here)
    | inr other ↦ subst (λ (s : Thread). HasThreadWalked g u s (activity_of g (stepped g next d).steps u)) (sym (get_or-set_other d.threads t u stepped_thread start_thread other))
        (subst (λ (a : Activity). HasThreadWalked g u (thread_of d u) a) (sym (step_elsewhere g (next) d.steps u other)) (run.walked u below))
  ]

  -- each number that is odd was made so by a writer that has not completed it
  stepped-odd : (cell : ℕ) → is_even ((state_of g (stepped g next d).steps).words (Number cell)) ≡ false → IsClaimed g (stepped g next d).steps cell
  unfolding after
  stepped-odd cell odd =
      let activity = activity_of g d.steps t in
      let step = step_at t stop activity.phase in
      let here : (activity_of g (step ∷ d.steps) t).phase ≡ phase_after step.kind step.at step.value activity.phase ((state_of g d.steps).words (word_of step.kind step.at)) = ap (λ (a : Activity). a.phase) (step_here g step d.steps) in
      elim (odd_after (state_of g d.steps).words cell step.kind step.at step.value activity.name activity.phase activity.events activity.held activity.looks may_here.begins odd) [
        | inl now ↦ (t, there, subst (λ (x : Phase). Claims cell x) (sym here) now)
        | inr (was, still) ↦ still_claimed g step d.steps cell (subst (λ (x : Phase). Claims cell activity.phase → Claims cell x) (sym here) still) (run.odd cell was)
      ]

  -- the step keeps what holds of a run
  stepped-run : IsRun g (stepped g next d)
  unfolding IsHistory
  stepped-run = record {
    lawful = (may_here, run.lawful);
    members = stepped-members;
    count = length-set d.threads t _ ∙ run.count;
    in_place = stepped-in_place;
    walked = stepped-walked;
    odd = stepped-odd;
  }

-- by the stop: a step at a shared instruction, or none at an end
advanced-run : (g : Setting) (t : ℕ) (stop : Stop) (d : Drive) → t < length g.program.threads → stop_of g.program t (thread_of d t) ≡ stop → IsRun g d → IsRun g (stepped_if g (next_step t stop (activity_of g d.steps t).phase) d)
advanced-run g t (stops.Read cell) d there e run = stepped-run g t (stops.Read cell) d there tt e run
advanced-run g t (stops.Write cell value) d there e run = stepped-run g t (stops.Write cell value) d there tt e run
advanced-run g t (stops.Update cell change) d there e run = stepped-run g t (stops.Update cell change) d there tt e run
advanced-run g t (stops.Enter monitor) d there e run = stepped-run g t (stops.Enter monitor) d there tt e run
advanced-run g t (stops.Exit monitor) d there e run = stepped-run g t (stops.Exit monitor) d there tt e run
advanced-run g t (stops.Ended end) d there e run = run

-- one atomic step of a thread keeps what holds of a run
pub advance-run : (g : Setting) (t : ℕ) (d : Drive) → t < length g.program.threads → IsRun g d → IsRun g (advance g t d)
unfolding advance
advance-run g t d there run = advanced-run g t (stop_of g.program t (thread_of d t)) d there refl run

-- the place of a stranger among the rest counts from the first
no_stranger : (b : Bool) (rest : Option ℕ) → cond b (Some 0) (option_map (λ place. place + 1) rest) ≡ None → (b ≡ false) × (rest ≡ None)
no_stranger true rest e = cc
no_stranger false None e = (refl, refl)
no_stranger false (Some place) e = cc

-- the steps of an order that names threads of the program keep it
pub advance_all-run : (g : Setting) (order : List ℕ) (d : Drive) → stranger (length g.program.threads) order ≡ None → IsRun g d → IsRun g (advance_all g order d)
unfolding advance_all stranger
advance_all-run g [] d known run = run
advance_all-run g (t ∷ ts) d known run =
    let parts = no_stranger (nat_le (length g.program.threads) t) (stranger (length g.program.threads) ts) known in
    advance_all-run g ts (advance g t d) parts.1 (advance-run g t d (leb-false (length g.program.threads) t parts.0) run)
