-- A run at its start: each thread has drawn its name and stands at its first shared instruction or its end.
use Rattle.std.proofs.Common.{◌≡◌, ℕ, zero, suc, ◌+◌, ◌<◌, ◌≤◌, List, [], ◌∷◌, None, length, refl, sym, ◌∙◌, ap, subst, inl, inr, arith}
use Rattle.std.proofs.lemmas.Bool.{true≢false, cases_eq}
use Rattle.std.proofs.lemmas.List.FromFn.{get_or-map-range_with_len, length-map-range_with_len}
use Rattle.std.specs.List.{range_with_len}
use Rattle.std.specs.Prelude.{IsSome}
use Rattle.stride_isa.specs.Limits.{monitor_limit}
use Rattle.stride_isa.specs.Listing.{starts_of}
use Rattle.sc_machine.specs.ThreadStep.{Thread, start_thread, holds, settled, stop_of}
use Rattle.interleavings.specs.declared.activity.Activity.{Activity}
use Rattle.interleavings.specs.declared.activity.HeldTurn.{HeldTurn}
use Rattle.interleavings.specs.declared.activity.Phase.{Phase}
use Rattle.interleavings.specs.declared.activity.Phase.TheVariants.{Idle}
use Rattle.interleavings.specs.declared.event.Event.{Event}
use Rattle.interleavings.specs.declared.kind.Kind.TheVariants as by
use Rattle.interleavings.specs.AtomicStep.{Number, May, is_even, activity_after}
use Rattle.interleavings.specs.History.{Step, newcomer, after, IsHistory}
use Rattle.interleavings.specs.Recording.{Setting, state_of, activity_of, gives_up, Among}
use Rattle.interleavings.specs.Driving.{thread_of, draws, begun}
use Rattle.interleavings.proofs.HeldFlags.{settled-held, none_held}
use Rattle.interleavings.proofs.InPlace.{IsPhaseAt, patient_at}
use Rattle.interleavings.proofs.Advances.{IsThreadInPlace, HasThreadWalked, IsRun}
use Rattle.interleavings.proofs.StepPeople.{step_here, step_elsewhere}
use Rattle.interleavings.proofs.Walked.{HasWalked, start-walked}

-- a thread that has drawn its name and done nothing else
record IsNamed (activity : Activity) : Type 0 where
  named : IsSome activity.name
  idle : activity.phase ≡ Idle
  calm : activity.looks ≡ None
  nothing : activity.events ≡ []
  free : activity.held ≡ []

-- the threads below i have drawn their names, and nothing else was done
record HaveDrawn (g : Setting) (i : ℕ) (steps : List Step) : Type 0 where
  lawful : IsHistory (starts_of g.program.decls) steps
  members : (s : Step) → Among s steps → s.who < length g.program.threads
  named : (t : ℕ) → t < i → IsNamed (activity_of g steps t)
  new : (t : ℕ) → i ≤ t → activity_of g steps t ≡ newcomer.activity
  even : (cell : ℕ) → (state_of g steps).words (Number cell) ≡ 0

-- the step by which a thread draws its name
abbrev draw : ℕ → Step
draw t = record { who = t; kind = by.Draw; at = 0; value = 0 }

-- a newcomer that draws is named
named_newcomer : (activity : Activity) (met : ℕ) → newcomer.activity ≡ activity → IsNamed (activity_after by.Draw 0 0 activity met)
named_newcomer activity met e = subst (λ (a : Activity). IsNamed (activity_after by.Draw 0 0 a met)) e (record { named = refl; idle = refl; calm = refl; nothing = refl; free = refl })

-- the next thread draws
draws_next : (g : Setting) (i : ℕ) (steps : List Step) → i < length g.program.threads → HaveDrawn g i steps → HaveDrawn g (i + 1) (draw i ∷ steps)
unfolding after IsHistory
draws_next g i steps below h = record {
  lawful = (subst (λ (a : Activity). May by.Draw 0 a) (sym (h.new i (omega arith))) (record { begins = tt; suits = refl }), h.lawful);
  members = λ s among. elim among [ inl same ↦ subst (λ (x : Step). x.who < length g.program.threads) (sym same) below | inr rest ↦ h.members s rest ];
  named = λ t lt. elim (cases_eq t i) [
    | inl same ↦ subst (λ (x : ℕ). IsNamed (activity_of g (draw i ∷ steps) x)) (sym same)
        (subst (λ (a : Activity). IsNamed a) (sym (step_here g (draw i) steps)) (named_newcomer (activity_of g steps i) _ (sym (h.new i (omega arith)))))
    | inr other ↦ subst (λ (a : Activity). IsNamed a) (sym (step_elsewhere g (draw i) steps t other)) (h.named t (omega arith))
  ];
  new = λ t le. step_elsewhere g (draw i) steps t (λ same. omega arith) ∙ h.new t (omega arith);
  even = λ cell. h.even cell;
}

-- the rest of the threads draw in order of number
draws_all : (g : Setting) (i k : ℕ) (steps : List Step) → i + k ≡ length g.program.threads → HaveDrawn g i steps → HaveDrawn g (length g.program.threads) (draws (range_with_len i k) steps)
draws_all g i zero steps e h = let same : i ≡ length g.program.threads = omega arith in subst (λ (x : ℕ). HaveDrawn g x steps) same h
draws_all g i (suc k) steps e h = draws_all g (i + 1) k (draw i ∷ steps) (omega arith) (draws_next g i steps (omega arith) h)

-- before the draws
none_drawn : (g : Setting) → HaveDrawn g 0 []
unfolding after IsHistory
none_drawn g = record {
  lawful = tt;
  members = λ s among. absurd among;
  named = λ t below. absurd (omega arith);
  new = λ t le. refl;
  even = λ cell. refl;
}

-- a thread that has drawn its name and holds no monitor is in place wherever it stands
named-in_place : (g : Setting) (t : ℕ) (s : Thread) (activity : Activity) → s.held ≡ start_thread.held → IsNamed activity → IsThreadInPlace g t s activity
named-in_place g t s activity flags h = record {
  named = h.named;
  fits = subst (λ (x : Phase). IsPhaseAt x (stop_of g.program t s)) (sym h.idle) tt;
  turns = λ monitor up. absurd (true≢false (sym up ∙ ap (λ x. holds x monitor) flags ∙ none_held monitor_limit monitor));
  patient = patient_at g.patience (stop_of g.program t s) activity.looks (ap (λ x. gives_up g.patience x) h.calm);
}

-- it came to where it stands by no event
named-walked : (g : Setting) (t : ℕ) (s : Thread) (activity : Activity) → s ≡ settled g.program g.fuel t start_thread → IsNamed activity → HasThreadWalked g t s activity
named-walked g t s activity start h =
    subst (λ (x : Thread). HasThreadWalked g t x activity) (sym start)
    (subst (λ (es : List Event). HasWalked g t (settled g.program g.fuel t start_thread) es activity.held) (sym h.nothing)
    (subst (λ (held : List HeldTurn). HasWalked g t (settled g.program g.fuel t start_thread) [] held) (sym h.free) (start-walked g t)))

-- what holds of a run holds at its start
pub begun-run : (g : Setting) → IsRun g (begun g)
unfolding begun
begun-run g =
    let n = length g.program.threads in
    let h = draws_all g 0 n [] (omega arith) (none_drawn g) in
    let local : ℕ → Thread = λ t. settled g.program g.fuel t start_thread in
    let started : (t : ℕ) → t < n → thread_of (begun g) t ≡ local t = λ t below. get_or-map-range_with_len local 0 n t t start_thread below (omega arith) in
    record {
      lawful = h.lawful;
      members = h.members;
      count = length-map-range_with_len local 0 n;
      in_place = λ t below. named-in_place g t (thread_of (begun g) t) (activity_of g (begun g).steps t)
          (ap (λ (s : Thread). s.held) (started t below) ∙ settled-held g.program g.fuel t start_thread)
          (h.named t below);
      walked = λ t below. named-walked g t (thread_of (begun g) t) (activity_of g (begun g).steps t) (started t below) (h.named t below);
      odd = λ cell odd. absurd (true≢false (sym (ap is_even (h.even cell)) ∙ odd));
    }

-- nobody has looked at a monitor then
pub begun-calm : (g : Setting) (t : ℕ) → t < length g.program.threads → (activity_of g (begun g).steps t).looks ≡ None
unfolding begun
begun-calm g t below = ((draws_all g 0 (length g.program.threads) [] (omega arith) (none_drawn g)).named t below).calm
