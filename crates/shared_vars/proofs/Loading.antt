-- What a read leaves as it was while it waits for an even number, and what it comes to.
use Rattle.std.proofs.Common.{◌≡◌, ℕ, ◌*◌, ◌/◌, ◌%◌, ◌∙◌, true, false, List, [], ◌∷◌, Option, Some, None, refl, sym, ap, subst, arith}
use Rattle.std.proofs.lemmas.Bool.{eq-eqb}
use Rattle.interleavings.specs.declared.activity.Activity.{Activity}
use Rattle.interleavings.specs.declared.activity.Phase.{Phase}
use Rattle.interleavings.specs.declared.activity.Phase.TheVariants.{Idle, Loaded}
use Rattle.interleavings.specs.declared.activity.SeenNumber.{SeenNumber}
use Rattle.interleavings.specs.declared.event.Event.{Event}
use Rattle.interleavings.specs.declared.event.Event.TheVariants.{Read}
use Rattle.interleavings.specs.declared.kind.Kind.TheVariants as by
use Rattle.interleavings.specs.AtomicStep.{HasLoaded, is_even, phase_if, read_if, with_event, seen_if, activity_after}
use Rattle.shared_rule.specs.declared.view.View.{View}
use Rattle.shared_rule.specs.Passes.{IsSameBeside, HasFinished}
use Rattle.shared_rule.specs.Plays.{Makes}
use Rattle.shared_rule.specs.Views.{view_after}
use Rattle.shared_vars.specs.Accessing.{AreOdd, after_loads, Reads, Waits}

-- the activity with other events and in another phase
abbrev changed : Activity → Phase → Option Event → Activity
changed a phase event = record { name = a.name; phase = phase; events = with_event a.events event; held = a.held; looks = a.looks }

-- the value is loaded, and the numbers that were loaded so far were odd
pub record IsLoading (cell value : ℕ) (before now : View) : Type 0 where
  pub mets : List ℕ
  pub odd : AreOdd mets
  pub view : now ≡ after_loads cell (view_after by.ValueLoad cell 0 before value) mets
  pub activity : now.activity ≡ changed before.activity (Loaded cell value) None
  pub seen : now.seen ≡ before.seen
  pub same : IsSameBeside before now

pub loading : (cell value : ℕ) (before now : View) → Makes by.ValueLoad cell 0 before value now → IsLoading cell value before now
loading cell value before now makes = record {
  mets = [];
  odd = tt;
  view = makes.view;
  activity = ap (λ (v : View). v.activity) makes.view;
  seen = ap (λ (v : View). v.seen) makes.view;
  same = record {
    live = ap (λ (v : View). v.live) makes.view;
    gathered = ap (λ (v : View). v.gathered) makes.view;
    starts = ap (λ (v : View). v.starts) makes.view;
    draws = ap (λ (v : View). v.draws) makes.view;
  };
}

pub is_loaded : (cell value : ℕ) (before now : View) → IsLoading cell value before now → HasLoaded cell now.activity.phase
is_loaded cell value before now is = subst (λ (a : Activity). HasLoaded cell a.phase) (sym is.activity) refl

module _ (cell value met : ℕ) (before now next : View) (is : IsLoading cell value before now) (view_is : next ≡ view_after by.NumberLoad cell 0 now met) where
  shown : next.activity ≡ activity_after by.NumberLoad cell 0 (changed before.activity (Loaded cell value) None) met
  shown = ap (λ (v : View). v.activity) view_is ∙ ap (λ (a : Activity). activity_after by.NumberLoad cell 0 a met) is.activity

  seen_then : next.seen ≡ seen_if (is_even met) (record { cell = cell; number = met / 2 }) before.seen
  seen_then = ap (λ (v : View). v.seen) view_is ∙ ap (λ (seen : List SeenNumber). seen_if (is_even met) (record { cell = cell; number = met / 2 }) seen) is.seen

  beside : IsSameBeside before next
  beside = record {
    live = ap (λ (v : View). v.live) view_is ∙ is.same.live;
    gathered = ap (λ (v : View). v.gathered) view_is ∙ is.same.gathered;
    starts = ap (λ (v : View). v.starts) view_is ∙ is.same.starts;
    draws = ap (λ (v : View). v.draws) view_is ∙ is.same.draws;
  }

  pub loading_still : is_even met ≡ false → IsLoading cell value before next
  loading_still odd = record {
    mets = met ∷ is.mets;
    odd = (odd, is.odd);
    view = view_is ∙ ap (λ v. view_after by.NumberLoad cell 0 v met) is.view;
    activity = shown ∙ ap (λ b. changed before.activity (phase_if b Idle (Loaded cell value)) (read_if b (Loaded cell value) (met / 2))) odd;
    seen = seen_then ∙ ap (λ b. seen_if b (record { cell = cell; number = met / 2 }) before.seen) odd;
    same = beside;
  }

  module _ (bound : ℕ) (met_is : met ≡ 2 * bound) where
    even : is_even met ≡ true
    even = eq-eqb (met % 2) 0 (omega arith)

    half : met / 2 ≡ bound
    half = omega arith

    pub read_made : Reads cell before value bound next
    read_made = record {
      mets = is.mets;
      odd = is.odd;
      view = view_is ∙ ap (λ v. view_after by.NumberLoad cell 0 v met) is.view ∙ ap (λ m. view_after by.NumberLoad cell 0 (after_loads cell (view_after by.ValueLoad cell 0 before value) is.mets) m) met_is;
    }

    pub read_finished : HasFinished (Read cell value bound) before next
    read_finished = record {
      activity = shown
          ∙ ap (λ b. changed before.activity (phase_if b Idle (Loaded cell value)) (read_if b (Loaded cell value) (met / 2))) even
          ∙ ap (λ m. changed before.activity Idle (Some (Read cell value m))) half;
      same = beside;
    }

-- the number has been loaded, and was odd each time
pub record IsWaiting (cell : ℕ) (before now : View) : Type 0 where
  pub mets : List ℕ
  pub odd : AreOdd mets
  pub view : now ≡ after_loads cell before mets
  pub phase : now.activity.phase ≡ before.activity.phase
  pub seen : now.seen ≡ before.seen

pub waiting_first : (cell : ℕ) (v : View) → IsWaiting cell v v
waiting_first cell v = record { mets = []; odd = tt; view = refl; phase = refl; seen = refl }

pub waiting_still : (cell met : ℕ) (before now next : View) → IsWaiting cell before now → next ≡ view_after by.NumberLoad cell 0 now met → is_even met ≡ false → IsWaiting cell before next
waiting_still cell met before now next is view_is odd = record {
  mets = met ∷ is.mets;
  odd = (odd, is.odd);
  view = view_is ∙ ap (λ v. view_after by.NumberLoad cell 0 v met) is.view;
  phase = ap (λ (v : View). v.activity.phase) view_is ∙ ap (λ b. phase_if b Idle now.activity.phase) odd ∙ is.phase;
  seen = ap (λ (v : View). v.seen) view_is ∙ ap (λ b. seen_if b (record { cell = cell; number = met / 2 }) now.seen) odd ∙ is.seen;
}

pub still_loaded : (cell : ℕ) (before now : View) → IsWaiting cell before now → HasLoaded cell before.activity.phase → HasLoaded cell now.activity.phase
still_loaded cell before now is loaded = subst (HasLoaded cell) (sym is.phase) loaded

pub waited : (cell met bound : ℕ) (before now next : View) → IsWaiting cell before now → next ≡ view_after by.NumberLoad cell 0 now met → met ≡ 2 * bound → Waits cell before bound next
waited cell met bound before now next is view_is met_is = record {
  mets = is.mets;
  odd = is.odd;
  view = view_is ∙ ap (λ v. view_after by.NumberLoad cell 0 v met) is.view ∙ ap (λ m. view_after by.NumberLoad cell 0 (after_loads cell before is.mets) m) met_is;
}

-- more loads of an odd number leave a read where it was
loading_more : (cell value : ℕ) (before now : View) (mets : List ℕ) → IsLoading cell value before now → AreOdd mets → IsLoading cell value before (after_loads cell now mets)
loading_more cell value before now [] is odd = is
loading_more cell value before now (met ∷ mets) is odd = loading_still cell value met before (after_loads cell now mets) (after_loads cell now (met ∷ mets)) (loading_more cell value before now mets is odd.1) refl odd.0

-- a read that met an even number at once, and one that met an odd one first
module _ (cell value bound met : ℕ) (before loaded now : View) (loads : Makes by.ValueLoad cell 0 before value loaded) where
  module _ (view_is : now ≡ view_after by.NumberLoad cell 0 loaded met) (met_is : met ≡ 2 * bound) where
    pub read_at_once : Reads cell before value bound now × HasFinished (Read cell value bound) before now
    read_at_once =
        let is = loading cell value before loaded loads in
        (read_made cell value met before loaded now is view_is bound met_is, read_finished cell value met before loaded now is view_is bound met_is)

  module _ (odd_view : View) (view_is : odd_view ≡ view_after by.NumberLoad cell 0 loaded met) (odd : is_even met ≡ false) (waits : Waits cell odd_view bound now) where
    pub read_later : Reads cell before value bound now × HasFinished (Read cell value bound) before now
    read_later =
        let first = loading_still cell value met before loaded odd_view (loading cell value before loaded loads) view_is odd in
        let is = loading_more cell value before odd_view waits.mets first waits.odd in
        (read_made cell value (2 * bound) before (after_loads cell odd_view waits.mets) now is waits.view bound refl, read_finished cell value (2 * bound) before (after_loads cell odd_view waits.mets) now is waits.view bound refl)
