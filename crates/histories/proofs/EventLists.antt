-- Lists of events with one more at their end.
use Rattle.std.proofs.Common.{◌≡◌, ◌⊎◌, ℕ, zero, suc, List, [], ◌∷◌, ◌++◌, length, Option, Some, None, option_and_then, slice_get, refl, ◌∙◌, ap, inl, inr}
use Rattle.std.proofs.lemmas.Option.{none-some, option_and_then_some}
use Rattle.interleavings.specs.declared.event.Event.{Event}
use Rattle.interleavings.specs.AtomicStep.{with_event}

pushed_where : (events : List Event) (new event : Event) (i : ℕ) → slice_get (events ++ new ∷ []) i ≡ Some event → (slice_get events i ≡ Some event) ⊎ ((i ≡ length events) × (Some new ≡ Some event))
pushed_where [] new event zero e = inr (refl, e)
pushed_where [] new event (suc i) e = inl e
pushed_where (first ∷ events) new event zero e = inl e
pushed_where (first ∷ events) new event (suc i) e = elim (pushed_where events new event i e) [ inl old ↦ inl old | inr is ↦ inr (ap suc is.0, is.1) ]

-- an event was there before or is the new one
pub event_where : (events : List Event) (new : Option Event) (event : Event) (i : ℕ) → slice_get (with_event events new) i ≡ Some event → (slice_get events i ≡ Some event) ⊎ ((i ≡ length events) × (new ≡ Some event))
event_where events None event i e = inl e
event_where events (Some new) event i e = pushed_where events new event i e

pushed_kept : (events : List Event) (new event : Event) (i : ℕ) → slice_get events i ≡ Some event → slice_get (events ++ new ∷ []) i ≡ Some event
pushed_kept [] new event i e = absurd (none-some event e)
pushed_kept (first ∷ events) new event zero e = e
pushed_kept (first ∷ events) new event (suc i) e = pushed_kept events new event i e

-- an event that was there is there
pub event_kept : (events : List Event) (new : Option Event) (event : Event) (i : ℕ) → slice_get events i ≡ Some event → slice_get (with_event events new) i ≡ Some event
event_kept events None event i e = e
event_kept events (Some new) event i e = pushed_kept events new event i e

-- and what it tells
pub told_kept : {A : Type 0} (f : Event → Option A) (events : List Event) (new : Option Event) (i : ℕ) (x : A) → option_and_then f (slice_get events i) ≡ Some x → option_and_then f (slice_get (with_event events new) i) ≡ Some x
told_kept f events new i x e = option_and_then_some f (slice_get events i) x e (λ event is tells. ap (option_and_then f) (event_kept events new event i is) ∙ tells)

-- the new event is at the end
pub event_new : (events : List Event) (new : Event) → slice_get (events ++ new ∷ []) (length events) ≡ Some new
event_new [] new = refl
event_new (first ∷ events) new = event_new events new
