-- How a writer comes to a number of its own.
use Rattle.std.specs.Prelude.{◌≡◌, ◌≢◌, ℕ, ◌*◌, false, List, [], ◌∷◌}
use Rattle.interleavings.specs.declared.activity.Phase.TheVariants.{Marked}
use Rattle.interleavings.specs.declared.kind.Kind.TheVariants as by
use Rattle.interleavings.specs.AtomicStep.{is_even}
use Rattle.shared_rule.specs.declared.view.View.{View}
use Rattle.shared_rule.specs.Passes.{IsSameBeside}
use Rattle.shared_rule.specs.Views.{view_after}

-- a try to claim that failed: the number was odd, or it was even and another word was met in its place
pub data Try : Type 0 where
  Odd : ℕ → Try
  Lost : ℕ → ℕ → Try

abbrev pub IsTry : Try → Type 0
IsTry (Odd met) = is_even met ≡ false
IsTry (Lost n other) = other ≢ 2 * n

-- the view after a try at a cell
abbrev pub after_try : ℕ → View → Try → View
after_try cell v (Odd met) = view_after by.SeeNumber cell 0 v met
after_try cell v (Lost n other) = view_after by.Claim cell 0 (view_after by.SeeNumber cell 0 v (2 * n)) other

-- after several, the last of them first
abbrev pub after_tries : ℕ → View → List Try → View
after_tries cell v [] = v
after_tries cell v (t ∷ tries) = after_try cell (after_tries cell v tries) t

abbrev pub AreTries : List Try → Type 0
AreTries [] = Unit {0}
AreTries (t ∷ tries) = IsTry t × AreTries tries

-- a row of steps: tries that failed, and then a look at the even number and the claim of the next one
pub record Takes (cell : ℕ) (before : View) (number : ℕ) (now : View) : Type 0 where
  pub tries : List Try
  pub failed : AreTries tries
  pub view : now ≡ view_after by.Claim cell 0 (view_after by.SeeNumber cell 0 (after_tries cell before tries) (2 * number)) (2 * number)

-- the pass has claimed the cell, the number having been seen; nothing else of what it does has changed
pub record HasClaimed (cell number : ℕ) (before now : View) : Type 0 where
  pub activity : now.activity ≡ record {
    name = before.activity.name;
    phase = Marked cell number;
    events = before.activity.events;
    held = before.activity.held;
    looks = before.activity.looks;
  }
  pub seen : now.seen ≡ before.seen
  pub same : IsSameBeside before now
