-- What a read leaves as it was while it waits for an even number, and what it comes to.
use Rattle.std.proofs.Common.{◌≡◌, ℕ, ◌*◌, ◌/◌, ◌%◌, ◌∙◌, true, false, Option, Some, None, refl, sym, ap, subst, arith, eq-eqb}
use Rattle.interleavings.specs.declared.activity.Activity.{Activity}
use Rattle.interleavings.specs.declared.activity.Phase.{Phase}
use Rattle.interleavings.specs.declared.activity.Phase.TheVariants.{Idle, Loaded}
use Rattle.interleavings.specs.declared.event.Event.{Event}
use Rattle.interleavings.specs.declared.event.Event.TheVariants.{Read}
use Rattle.interleavings.specs.declared.kind.Kind.TheVariants as by
use Rattle.interleavings.specs.AtomicStep.{HasLoaded, activity_after, ended_read, is_even, phase_if, read_if, with_event}
use Rattle.shared_rule.specs.declared.view.View.{View}
use Rattle.shared_rule.specs.Passes.{HasFinished, IsSameBeside}
use Rattle.shared_rule.specs.Plays.{Makes}
use Rattle.shared_rule.specs.Views.{view_after}
use Rattle.recorder.specs.Accessing.{HasWaited}

-- the activity with another event, if there is one, and in another phase
abbrev changed : Activity → Phase → Option Event → Activity
changed a phase event = record { name = a.name; phase = phase; events = with_event a.events event; held = a.held; looks = a.looks }

-- nothing that the pass does, and nothing that it knows beside, has changed
pub record IsWaiting (before now : View) : Type 0 where
  pub activity : now.activity ≡ before.activity
  pub same : IsSameBeside before now

pub waiting_first : (v : View) → IsWaiting v v
waiting_first v = record { activity = refl; same = record { live = refl; gathered = refl; starts = refl; draws = refl } }

pub still_loaded : (cell : ℕ) (before now : View) → IsWaiting before now → HasLoaded cell before.activity.phase → HasLoaded cell now.activity.phase
still_loaded cell before now is loaded = subst (λ (a : Activity). HasLoaded cell a.phase) (sym is.activity) loaded

-- a load of the number
module _ (cell met : ℕ) (before now next : View) (is : IsWaiting before now) (view_is : next ≡ view_after by.NumberLoad cell 0 now met) where
  shown : next.activity ≡ activity_after by.NumberLoad cell 0 before.activity met
  shown = ap (λ (v : View). v.activity) view_is ∙ ap (λ (a : Activity). activity_after by.NumberLoad cell 0 a met) is.activity

  beside : IsSameBeside before next
  beside = record {
    live = ap (λ (v : View). v.live) view_is ∙ is.same.live;
    gathered = ap (λ (v : View). v.gathered) view_is ∙ is.same.gathered;
    starts = ap (λ (v : View). v.starts) view_is ∙ is.same.starts;
    draws = ap (λ (v : View). v.draws) view_is ∙ is.same.draws;
  }

  pub waiting_still : is_even met ≡ false → IsWaiting before next
  waiting_still odd = record {
    activity = shown ∙ ap (λ b. changed before.activity (phase_if b Idle before.activity.phase) (read_if b before.activity.phase (met / 2))) odd;
    same = beside;
  }

  pub waited : (bound : ℕ) → met ≡ 2 * bound → HasWaited cell before bound next
  waited bound met_is value loaded =
      let even : is_even met ≡ true = eq-eqb (met % 2) 0 (omega arith) in
      let half : met / 2 ≡ bound = omega arith in
      record {
        activity = shown
            ∙ ap (λ b. changed before.activity (phase_if b Idle before.activity.phase) (read_if b before.activity.phase (met / 2))) even
            ∙ ap (λ phase. changed before.activity Idle (ended_read phase (met / 2))) loaded
            ∙ ap (λ n. changed before.activity Idle (Some (Read cell value n))) half;
        same = beside;
      }

-- a read that met an even number at once, and one that met an odd one first
module _ (cell value bound met : ℕ) (before loaded now : View) (loads : Makes by.ValueLoad cell 0 before value loaded) where
  loaded_is : loaded.activity ≡ changed before.activity (Loaded cell value) None
  loaded_is = ap (λ (v : View). v.activity) loads.view

  -- the event of the whole read
  whole : HasFinished (Read cell value bound) loaded now → HasFinished (Read cell value bound) before now
  whole finished = record {
    activity = finished.activity ∙ ap (λ a. changed a Idle (Some (Read cell value bound))) loaded_is;
    same = record {
      live = finished.same.live ∙ ap (λ (v : View). v.live) loads.view;
      gathered = finished.same.gathered ∙ ap (λ (v : View). v.gathered) loads.view;
      starts = finished.same.starts ∙ ap (λ (v : View). v.starts) loads.view;
      draws = finished.same.draws ∙ ap (λ (v : View). v.draws) loads.view;
    };
  }

  pub read_at_once : now ≡ view_after by.NumberLoad cell 0 loaded met → met ≡ 2 * bound → HasFinished (Read cell value bound) before now
  read_at_once view_is met_is = whole (waited cell met loaded loaded now (waiting_first loaded) view_is bound met_is value (ap (λ (a : Activity). a.phase) loaded_is))

  module _ (odd_view : View) (view_is : odd_view ≡ view_after by.NumberLoad cell 0 loaded met) (odd : is_even met ≡ false) where
    odd_is : IsWaiting loaded odd_view
    odd_is = waiting_still cell met loaded loaded odd_view (waiting_first loaded) view_is odd

    pub odd_loaded : HasLoaded cell odd_view.activity.phase
    odd_loaded = subst (λ (a : Activity). HasLoaded cell a.phase) (sym (odd_is.activity ∙ loaded_is)) refl

    pub read_later : HasWaited cell odd_view bound now → HasFinished (Read cell value bound) before now
    read_later waits =
        let finished = waits value (ap (λ (a : Activity). a.phase) (odd_is.activity ∙ loaded_is)) in
        whole (record {
          activity = finished.activity ∙ ap (λ a. changed a Idle (Some (Read cell value bound))) odd_is.activity;
          same = record {
            live = finished.same.live ∙ odd_is.same.live;
            gathered = finished.same.gathered ∙ odd_is.same.gathered;
            starts = finished.same.starts ∙ odd_is.same.starts;
            draws = finished.same.draws ∙ odd_is.same.draws;
          };
        })
