-- What a pass is left with by waiting. Only private clauses cite this module.
use Rattle.std.specs.Prelude.{◌≡◌, ℕ, Some}
use Rattle.interleavings.specs.declared.activity.Phase.TheVariants.{Idle, Loaded}
use Rattle.interleavings.specs.declared.event.Event.TheVariants.{Read}
use Rattle.shared_rule.specs.declared.view.View.{View}
use Rattle.shared_rule.specs.Passes.{HasFinished, IsSameBeside}

-- a read whose value was loaded was finished, with this bound
abbrev pub HasWaited : ℕ → View → ℕ → View → Type 0
HasWaited cell before bound now = (value : ℕ) → before.activity.phase ≡ Loaded cell value → HasFinished (Read cell value bound) before now

-- the pass found the monitor held so often in a row; nothing else of what it knows has changed
pub record HasGivenUp (monitor patience : ℕ) (before now : View) : Type 0 where
  pub activity : now.activity ≡ record {
    name = before.activity.name;
    phase = Idle;
    events = before.activity.events;
    held = before.activity.held;
    looks = Some (record { mon = monitor; count = patience });
  }
  pub same : IsSameBeside before now
