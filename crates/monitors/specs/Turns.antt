-- What an entry into a monitor answers, and what looks and entries leave.
use Rattle.std.specs.Prelude.{◌≡◌, ◌≢◌, ℕ, ◌+◌, ◌*◌, Option, Some, None}
use Rattle.interleavings.specs.declared.activity.Activity.{Activity}
use Rattle.interleavings.specs.declared.activity.Phase.TheVariants.{Idle, Looked}
use Rattle.interleavings.specs.AtomicStep.{one_more}
use Rattle.shared_rule.specs.declared.view.View.{View}
use Rattle.shared_rule.specs.Passes.{IsSameBeside}

-- an entry: the turn, where the monitor was still as it was seen, and nothing where it was not
abbrev pub IsEntered : Option ℕ → ℕ → ℕ → Type 0
IsEntered (Some turn) seen met = (met ≡ 2 * seen) × (turn ≡ seen + 1)
IsEntered None seen met = met ≢ 2 * seen

-- what a thread has done and is doing after a look: where the monitor was free it may enter, and its row of odd looks is over;
-- where it was held the row is one longer
abbrev pub activity_looked : ℕ → Option ℕ → Activity → Activity
activity_looked monitor (Some turn) a = record { name = a.name; phase = Looked monitor turn; events = a.events; held = a.held; looks = None }
activity_looked monitor None a = record { name = a.name; phase = Idle; events = a.events; held = a.held; looks = Some (one_more monitor a.looks) }

-- the pass has looked at the monitor; nothing else of what it does has changed
pub record HasLooked (monitor : ℕ) (turn : Option ℕ) (before now : View) : Type 0 where
  pub activity : now.activity ≡ activity_looked monitor turn before.activity
  pub same : IsSameBeside before now

-- an entry came too late; the pass is idle, and nothing else of what it does has changed
pub record HasMissed (before now : View) : Type 0 where
  pub activity : now.activity ≡ record {
    name = before.activity.name;
    phase = Idle;
    events = before.activity.events;
    held = before.activity.held;
    looks = before.activity.looks;
  }
  pub same : IsSameBeside before now
