-- What contracts see of the shared words and of a pass.
use Rattle.std.specs.Prelude.{◌≡◌, ℕ, ◌<◌, true, List, [], ◌∷◌, ◌++◌, length, IsSome}
use Rattle.atomic_table.specs.declared.shared.Seat.{Seat}
use Rattle.interleavings.specs.declared.activity.Phase.TheVariants.{Idle}
use Rattle.interleavings.specs.declared.event.Event.{Event}
use Rattle.interleavings.specs.AtomicStep.{SharedWord, Drawn, Value, Number, Monitor}
use Rattle.interleavings.specs.Walking.{held_by_event}
use Rattle.shared_rule.specs.declared.limits.TheConstants.{EVENT_LIMIT}
use Rattle.shared_rule.specs.declared.shared.Shared.{Shared}
use Rattle.shared_rule.specs.declared.view.View.{View}
use Rattle.shared_rule.specs.Views.{first_view}

-- what a pass knows
abbrev pub view_of : Seat (Unit {0}) View → View
view_of pass = pass.me.0

-- the starting values of the cells
abbrev pub starts_in : Shared → List ℕ
starts_in shared = shared.table.shared.key.starts.items

-- how many monitors there are
abbrev pub monitors_in : Shared → ℕ
monitors_in shared = shared.table.shared.key.monitors

-- the pass is one of these shared words, and has not been taken in by another
pub record IsPassOf (shared : Shared) (pass : Seat (Unit {0}) View) : Type 0 where
  pub table : pass.table_id ≡ shared.table.shared.table_id
  pub slots : pass.me.1 ≡ []
  pub live : pass.me.0.live ≡ true
  pub starts : pass.me.0.starts ≡ starts_in shared

-- the word is one of these: its cell or its monitor is there
abbrev pub IsWordOf : Shared → SharedWord → Type 0
IsWordOf shared Drawn = ⊥
IsWordOf shared (Value cell) = cell < length (starts_in shared)
IsWordOf shared (Number cell) = cell < length (starts_in shared)
IsWordOf shared (Monitor monitor) = monitor < monitors_in shared

-- the table is of these starting values and so many monitors, and the first pass has done nothing; by the rule the words then
-- hold the starting values and otherwise 0
pub record IsPrepared (starts : List ℕ) (monitors : ℕ) (shared : Shared) (pass : Seat (Unit {0}) View) : Type 0 where
  pub starts_are : starts_in shared ≡ starts
  pub monitors_are : monitors_in shared ≡ monitors
  pub pass_of : IsPassOf shared pass
  pub view : view_of pass ≡ first_view starts

-- the pass may begin an event: it is at no shared instruction, has a name, and has finished fewer events than it can
pub record IsReady (v : View) : Type 0 where
  pub idle : v.activity.phase ≡ Idle
  pub named : IsSome v.activity.name
  pub room : length v.activity.events < EVENT_LIMIT

-- what a pass knows beside its own thread is as before
pub record IsSameBeside (before now : View) : Type 0 where
  pub live : now.live ≡ before.live
  pub gathered : now.gathered ≡ before.gathered
  pub starts : now.starts ≡ before.starts
  pub draws : now.draws ≡ before.draws

-- the pass has finished this event, by which it holds the turns that it does; its name, its odd looks, what it gathered and its
-- draws are as before
pub record HasFinished (event : Event) (before now : View) : Type 0 where
  pub activity : now.activity ≡ record {
    name = before.activity.name;
    phase = Idle;
    events = before.activity.events ++ event ∷ [];
    held = held_by_event event before.activity.held;
    looks = before.activity.looks;
  }
  pub same : IsSameBeside before now
