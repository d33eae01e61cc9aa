-- What a pass has done that looks at a monitor until it enters or gives up.
use Rattle.std.proofs.Common.{◌≡◌, ℕ, zero, suc, ◌+◌, ◌-◌, ◌<◌, ◌≤◌, ◌∙◌, arith, if◌then◌else◌, [], ◌∷◌, ◌++◌, Option, Some, None, length, refl, sym, ap, subst, eq-eqb}
use Rattle.std.specs.Prelude.{IsSome}
use Rattle.interleavings.specs.declared.activity.Activity.{Activity}
use Rattle.interleavings.specs.declared.activity.OddLooks.{OddLooks}
use Rattle.interleavings.specs.declared.activity.Phase.{Phase}
use Rattle.interleavings.specs.declared.activity.Phase.TheVariants.{Idle, Looked}
use Rattle.interleavings.specs.declared.event.Event.TheVariants.{Enter}
use Rattle.interleavings.specs.AtomicStep.{one_more}
use Rattle.monitors.specs.Turns.{HasLooked, HasMissed, activity_looked}
use Rattle.shared_rule.specs.declared.limits.TheConstants.{EVENT_LIMIT}
use Rattle.shared_rule.specs.declared.view.View.{View}
use Rattle.shared_rule.specs.Passes.{HasFinished, IsReady, IsSameBeside}
use Rattle.recorder.specs.Accessing.{HasGivenUp}

-- a row of so many odd looks at a monitor
abbrev row : ℕ → ℕ → Option OddLooks
row monitor zero = None
row monitor (suc n) = Some (record { mon = monitor; count = suc n })

-- the same of some number of looks
abbrev row_of : ℕ → ℕ → Option OddLooks
row_of monitor n = Some (record { mon = monitor; count = n })

row_is : (monitor n k : ℕ) → n ≡ suc k → row monitor n ≡ row_of monitor n
row_is monitor n k is = ap (row monitor) is ∙ ap (row_of monitor) (sym is)

row_more : (monitor count : ℕ) → Some (one_more monitor (row monitor count)) ≡ row monitor (count + 1)
row_more monitor zero = refl
row_more monitor (suc n) = ap (λ b. row_of monitor (if b then suc n + 1 else 1)) (eq-eqb monitor monitor refl) ∙ sym (row_is monitor (suc n + 1) (suc n) (omega arith))

-- the activity in another phase and with another row of odd looks
abbrev looking : Activity → Phase → Option OddLooks → Activity
looking a phase looks = record { name = a.name; phase = phase; events = a.events; held = a.held; looks = looks }

-- the pass is idle, and has found the monitor held so often in a row
pub record IsLooking (monitor count : ℕ) (before now : View) : Type 0 where
  pub activity : now.activity ≡ looking before.activity Idle (row monitor count)
  pub same : IsSameBeside before now

beside : (before now next : View) → IsSameBeside before now → IsSameBeside now next → IsSameBeside before next
beside before now next first second = record {
  live = second.live ∙ first.live;
  gathered = second.gathered ∙ first.gathered;
  starts = second.starts ∙ first.starts;
  draws = second.draws ∙ first.draws;
}

module _ (monitor count : ℕ) (before now : View) (is : IsLooking monitor count before now) where
  pub looking_ready : IsReady before → IsReady now
  looking_ready ready = record {
    idle = ap (λ (a : Activity). a.phase) is.activity;
    named = subst (λ (a : Activity). IsSome a.name) (sym is.activity) ready.named;
    room = subst (λ (a : Activity). length a.events < EVENT_LIMIT) (sym is.activity) ready.room;
  }

  pub looking_more : (next : View) → HasLooked monitor None now next → IsLooking monitor (count + 1) before next
  looking_more next looked = record {
    activity = looked.activity ∙ ap (activity_looked monitor None) is.activity ∙ ap (looking before.activity Idle) (row_more monitor count);
    same = beside before now next is.same looked.same;
  }

  pub given_up : (patience : ℕ) → count ≡ patience → 1 ≤ patience → HasGivenUp monitor patience before now
  given_up patience count_is some = record {
    activity = is.activity
        ∙ ap (λ n. looking before.activity Idle (row monitor n)) count_is
        ∙ ap (looking before.activity Idle) (row_is monitor patience (patience - 1) (omega (arith, some)));
    same = is.same;
  }

  -- the monitor was found free
  module _ (turn : ℕ) (saw : View) (looked : HasLooked monitor (Some turn) now saw) where
    saw_is : saw.activity ≡ looking before.activity (Looked monitor turn) None
    saw_is = looked.activity ∙ ap (activity_looked monitor (Some turn)) is.activity

    pub saw_free : saw.activity.phase ≡ Looked monitor turn
    saw_free = ap (λ (a : Activity). a.phase) saw_is

    pub looking_again : (next : View) → HasMissed saw next → IsLooking monitor 0 before next
    looking_again next missed = record {
      activity = missed.activity ∙ ap (λ (a : Activity). looking a Idle a.looks) saw_is;
      same = beside before saw next (beside before now saw is.same looked.same) missed.same;
    }

    pub entered_then : before.activity.looks ≡ None → (entered : ℕ) (next : View) → HasFinished (Enter monitor entered) saw next → HasFinished (Enter monitor entered) before next
    entered_then calm entered next finished = record {
      activity = finished.activity
          ∙ ap (λ (a : Activity). record { name = a.name; phase = Idle; events = a.events ++ Enter monitor entered ∷ []; held = record { mon = monitor; turn = entered } ∷ a.held; looks = a.looks }) saw_is
          ∙ ap (λ looks. record { name = before.activity.name; phase = Idle; events = before.activity.events ++ Enter monitor entered ∷ []; held = record { mon = monitor; turn = entered } ∷ before.activity.held; looks = looks }) (sym calm);
      same = beside before saw next (beside before now saw is.same looked.same) finished.same;
    }
