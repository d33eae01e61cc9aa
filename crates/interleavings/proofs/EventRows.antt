-- What a row shows of its events once one more is kept.
use Rattle.std.proofs.Common.{◌≡◌, ℕ, List, [], ◌∷◌, ◌++◌, length, map, refl, ap, arith}
use Rattle.std.specs.List.{AllByRecursion}
use Rattle.std.proofs.lemmas.List.{get_or_append_left, length-append, map-append}
use Rattle.std.proofs.Math.Seq.{get_or-append_seam}
use Rattle.interleavings.specs.declared.event.Event.{Event}
use Rattle.interleavings.specs.declared.event.Event.TheVariants as events
use Rattle.interleavings.specs.declared.event_row.Exchange.{Exchange}
use Rattle.interleavings.specs.declared.event_row.Kept.{Kept}
use Rattle.interleavings.specs.declared.event_row.Kept.TheVariants as kept
use Rattle.interleavings.specs.KeptEvents.{IsKept, event_of, exchanges_of, kept_of}
use Rattle.interleavings.proofs.TraceLemmas.{each_more}

-- beside more updates an entry is still kept
entry_stays : (us vs : List Exchange) (k : Kept) → IsKept us k → IsKept (us ++ vs) k
entry_stays us vs (kept.Read cell bound value) h = tt
entry_stays us vs (kept.Write cell number value) h = tt
entry_stays us vs (kept.Update cell number at) h = rw (length-append us vs) (omega arith)
entry_stays us vs (kept.Enter monitor turn) h = tt
entry_stays us vs (kept.Exit monitor turn) h = tt

entries_stay : (us vs : List Exchange) (ks : List Kept) → AllByRecursion (IsKept us) ks → AllByRecursion (IsKept (us ++ vs)) ks
entries_stay us vs [] h = tt
entries_stay us vs (k ∷ ks) h = (entry_stays us vs k h.0, entries_stay us vs ks h.1)

-- and shows the same event
event_stays : (us vs : List Exchange) (k : Kept) → IsKept us k → event_of (us ++ vs) k ≡ event_of us k
event_stays us vs (kept.Read cell bound value) h = refl
event_stays us vs (kept.Write cell number value) h = refl
event_stays us vs (kept.Update cell number at) h =
    ap (λ (e : Exchange). events.Update cell e.old e.new number) (get_or_append_left us vs (record { old = 0; new = 0 }) at h)
event_stays us vs (kept.Enter monitor turn) h = refl
event_stays us vs (kept.Exit monitor turn) h = refl

pub events_stay : (us vs : List Exchange) (ks : List Kept) → AllByRecursion (IsKept us) ks → map (event_of (us ++ vs)) ks ≡ map (event_of us) ks
events_stay us vs [] h = refl
events_stay us vs (k ∷ ks) h =
    let head = event_stays us vs k h.0 in
    let tail = events_stay us vs ks h.1 in
    cc

-- an event is kept once its values are
own_stays : (us : List Exchange) (e : Event) → IsKept (us ++ exchanges_of e) (kept_of e (length us))
own_stays us (events.Read cell value bound) = tt
own_stays us (events.Write cell value number) = tt
own_stays us (events.Update cell old new number) = simp length-append (omega arith)
own_stays us (events.Enter monitor turn) = tt
own_stays us (events.Exit monitor turn) = tt

-- and is shown
own_shows : (us : List Exchange) (e : Event) → event_of (us ++ exchanges_of e) (kept_of e (length us)) ≡ e
own_shows us (events.Read cell value bound) = refl
own_shows us (events.Write cell value number) = refl
own_shows us (events.Update cell old new number) =
    ap (λ (e : Exchange). events.Update cell e.old e.new number) (get_or-append_seam us (record { old = old; new = new }) [] (record { old = 0; new = 0 }))
own_shows us (events.Enter monitor turn) = refl
own_shows us (events.Exit monitor turn) = refl

-- a row with one more event
pub pushed_kept : (us : List Exchange) (ks : List Kept) (e : Event) (at : ℕ) → at ≡ length us → AllByRecursion (IsKept us) ks → AllByRecursion (IsKept (us ++ exchanges_of e)) (ks ++ kept_of e at ∷ [])
pushed_kept us ks e at next h =
    let own : IsKept (us ++ exchanges_of e) (kept_of e at) = rw next (own_stays us e) in
    each_more (IsKept (us ++ exchanges_of e)) ks (kept_of e at) (entries_stay us (exchanges_of e) ks h) own

pub pushed_shows : (us : List Exchange) (ks : List Kept) (e : Event) (at : ℕ) → at ≡ length us → AllByRecursion (IsKept us) ks → map (event_of (us ++ exchanges_of e)) (ks ++ kept_of e at ∷ []) ≡ map (event_of us) ks ++ e ∷ []
pushed_shows us ks e at next h =
    let before = events_stay us (exchanges_of e) ks h in
    let here = own_shows us e in
    rw (next, map-append, before, here) refl
