-- What a look, an entry and an exit leave of what a pass does.
use Rattle.std.proofs.Common.{◌≡◌, ℕ, ◌+◌, ◌*◌, ◌/◌, ◌%◌, ◌==◌, ◌∙◌, Bool, true, ◌∷◌, Option, Some, None, sym, ap, arith, eq-eqb}
use Rattle.std.proofs.lemmas.Bool.{ne_eqb}
use Rattle.interleavings.specs.declared.activity.Activity.{Activity}
use Rattle.interleavings.specs.declared.activity.Phase.TheVariants.{Idle, Looked}
use Rattle.interleavings.specs.declared.event.Event.TheVariants as events
use Rattle.interleavings.specs.declared.kind.Kind.TheVariants as by
use Rattle.interleavings.specs.AtomicStep.{activity_after, entered_if, held_if, is_even, looked, phase_if, turn_in, with_event}
use Rattle.shared_rule.specs.declared.view.View.{View}
use Rattle.shared_rule.specs.Passes.{HasFinished, IsSameBeside}
use Rattle.shared_rule.specs.Plays.{IsHalf, Makes}
use Rattle.monitors.specs.Turns.{HasMissed, IsEntered, activity_looked}

-- a look that met this word, by what it answers
looked_activity : (monitor met : ℕ) (result : Option ℕ) (a : Activity) → IsHalf result met → activity_after by.Look monitor 0 a met ≡ activity_looked monitor result a
looked_activity monitor met (Some turn) a is =
    let even : is_even met ≡ true = eq-eqb (met % 2) 0 (omega arith) in
    let half : met / 2 ≡ turn = omega arith in
    ap (λ b. record { name = a.name; phase = phase_if b (Looked monitor (met / 2)) Idle; events = a.events; held = a.held; looks = looked b monitor a.looks }) even
    ∙ ap (λ n. record { name = a.name; phase = Looked monitor n; events = a.events; held = a.held; looks = None }) half
looked_activity monitor met None a odd =
    ap (λ b. record { name = a.name; phase = phase_if b (Looked monitor (met / 2)) Idle; events = a.events; held = a.held; looks = looked b monitor a.looks }) odd

-- what an entry leaves, by whether the monitor was as it was seen
abbrev entry_activity : ℕ → ℕ → Activity → Bool → Activity
entry_activity monitor turn a met = record {
  name = a.name;
  phase = Idle;
  events = with_event a.events (entered_if met monitor (turn + 1));
  held = held_if met (record { mon = monitor; turn = turn + 1 }) a.held;
  looks = a.looks;
}

module _ (monitor seen met : ℕ) (before now : View) (makes : Makes by.Enter monitor 0 before met now) (looked : before.activity.phase ≡ Looked monitor seen) where
  entry_left : now.activity ≡ entry_activity monitor seen before.activity (met == 2 * seen)
  entry_left = ap (λ (v : View). v.activity) makes.view ∙ ap (λ phase. entry_activity monitor (turn_in phase) before.activity (met == 2 * turn_in phase)) looked

  entry_same : IsSameBeside before now
  entry_same = record {
    live = ap (λ (v : View). v.live) makes.view;
    gathered = ap (λ (v : View). v.gathered) makes.view;
    starts = ap (λ (v : View). v.starts) makes.view;
    draws = ap (λ (v : View). v.draws) makes.view;
  }

  pub entry_made : (turn : ℕ) → IsEntered (Some turn) seen met → HasFinished (events.Enter monitor turn) before now
  entry_made turn is = record {
    activity = entry_left
        ∙ ap (entry_activity monitor seen before.activity) (eq-eqb met (2 * seen) is.0)
        ∙ ap (λ n. record { name = before.activity.name; phase = Idle; events = with_event before.activity.events (Some (events.Enter monitor n)); held = record { mon = monitor; turn = n } ∷ before.activity.held; looks = before.activity.looks }) (sym is.1);
    same = entry_same;
  }

  pub entry_missed : IsEntered None seen met → HasMissed before now
  entry_missed other = record {
    activity = entry_left ∙ ap (entry_activity monitor seen before.activity) (ne_eqb met (2 * seen) other);
    same = entry_same;
  }
