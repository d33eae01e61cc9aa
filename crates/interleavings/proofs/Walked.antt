-- A thread of a run came to where it stands by its events, and does so still after a step.
use Rattle.std.proofs.Common.{◌≡◌, ℕ, false, List, [], ◌∷◌, ◌++◌, Option, Some, None, refl, sym, ◌∙◌, ap, subst, inl, inr}
use Rattle.std.proofs.lemmas.Bool.{cond_both}
use Rattle.std.specs.Prelude.{◌⊎◌}
use Rattle.sc_machine.specs.ThreadRun.{IsShared}
use Rattle.sc_machine.specs.ThreadStep.{Thread, start_thread, settled, stop_of}
use Rattle.sc_machine.specs.Schedule.{stopped}
use Rattle.interleavings.specs.declared.activity.HeldTurn.{HeldTurn}
use Rattle.interleavings.specs.declared.activity.OddLooks.{OddLooks}
use Rattle.interleavings.specs.declared.event.Event.{Event}
use Rattle.interleavings.specs.AtomicStep.{with_event}
use Rattle.interleavings.specs.Recording.{Setting}
use Rattle.interleavings.specs.Driving.{thread_after}
use Rattle.interleavings.specs.Recording.{gives_up}
use Rattle.interleavings.specs.Following.{no_turns}
use Rattle.interleavings.specs.Walking.{is_exit, IsMet, Walks, turns_by}
use Rattle.interleavings.specs.EventStep.{after_event}
use Rattle.interleavings.proofs.Finishes.{HasEntered, IsFinished}
use Rattle.interleavings.proofs.Walks.{turns_by-on, walks_on}

-- the thread came to where it stands by these events, or gave up there, which it does at no exit; the turns that it holds
-- are those of its last entries
pub record HasWalked (g : Setting) (t : ℕ) (s : Thread) (done : List Event) (held : List HeldTurn) : Type 0 where
  pub last : Thread
  pub walks : Walks g.program g.fuel t done no_turns (settled g.program g.fuel t start_thread) last
  pub stands : (s ≡ last) ⊎ ((s ≡ stopped last) × (is_exit (stop_of g.program t last) ≡ false))
  pub entered : HasEntered held (turns_by done no_turns)

-- a thread at a shared instruction has not given up
pub not_given_up : (g : Setting) (t : ℕ) (s last : Thread) → IsShared (stop_of g.program t s) → (s ≡ last) ⊎ ((s ≡ stopped last) × (is_exit (stop_of g.program t last) ≡ false)) → s ≡ last
not_given_up g t s last shared (inl same) = same
not_given_up g t s last shared (inr (same, inside)) = absurd (subst (λ (x : Thread). IsShared (stop_of g.program t x)) same shared)

-- by what the step finished
pub thread_after-walked : (g : Setting) (t : ℕ) (s : Thread) (done : List Event) (old new : List HeldTurn) (finished : Option Event) (row : Option OddLooks) → IsShared (stop_of g.program t s) → HasWalked g t s done old → IsFinished (stop_of g.program t s) (turns_by done no_turns) old new finished → HasWalked g t (thread_after g t finished row s) (with_event done finished) new
thread_after-walked g t s done old new (Some event) row shared walked finishes =
    let same : s ≡ walked.last = not_given_up g t s walked.last shared walked.stands in
    record {
      last = after_event g.program g.fuel t event s;
      walks = subst (λ (x : Thread). Walks g.program g.fuel t (done ++ event ∷ []) no_turns (settled g.program g.fuel t start_thread) (after_event g.program g.fuel t event x)) (sym same)
          (walks_on g.program g.fuel t done no_turns (settled g.program g.fuel t start_thread) walked.last event walked.walks (subst (λ (x : Thread). IsMet (stop_of g.program t x) (turns_by done no_turns) event) same finishes.0));
      stands = inl refl;
      entered = subst (λ (turns : ℕ → ℕ). HasEntered new turns) (sym (turns_by-on done no_turns event)) finishes.1;
    }
thread_after-walked g t s done old new None row shared walked finishes =
    let same : s ≡ walked.last = not_given_up g t s walked.last shared walked.stands in
    let entered : HasEntered new (turns_by done no_turns) = subst (λ (held : List HeldTurn). HasEntered held (turns_by done no_turns)) (sym finishes.0) walked.entered in
    cond_both (gives_up g.patience row) (stopped s) s (λ x. HasWalked g t x done new)
    (λ gives. record {
      last = walked.last;
      walks = walked.walks;
      stands = inr (ap stopped same, sym (ap (λ (x : Thread). is_exit (stop_of g.program t x)) same) ∙ finishes.1);
      entered = entered;
    })
    (λ calm. record {
      last = walked.last;
      walks = walked.walks;
      stands = inl same;
      entered = entered;
    })

-- a thread that has made no event and holds nothing
pub start-walked : (g : Setting) (t : ℕ) → HasWalked g t (settled g.program g.fuel t start_thread) [] []
start-walked g t = record {
  last = settled g.program g.fuel t start_thread;
  walks = refl;
  stands = inl refl;
  entered = λ monitor turn e. cc;
}
