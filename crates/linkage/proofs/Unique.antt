-- Events have one list of links, one first refusal and one answer at most.
use Rattle.std.proofs.Common.{◌≡◌, ◌∙◌, ℕ, ◌⊎◌, inl, inr, List, [], refl, sym, ap, arith}
use Rattle.std.specs.Prelude.{Option, Some, None, Result, Ok, Err}
use Rattle.std.specs.Option.{option_and_then}
use Rattle.std.proofs.lemmas.Grind.{common_steps}
use Rattle.std.proofs.lemmas.List.{ext_get_or}
use Rattle.interleavings.specs.declared.event.Event.{Event}
use Rattle.interleavings.specs.declared.event.Event.TheVariants.{Read, Write, Update, Enter, Exit}
use Rattle.interleavings.specs.declared.traces.Place.{Place}
use Rattle.interleavings.specs.Events.{bound_of, read_of}
use Rattle.interleavings.specs.TraceLists.{TraceLists}
use Rattle.linkage.specs.declared.link_error.LinkError.{LinkError}
use Rattle.linkage.specs.declared.link_error.LinkError.TheVariants.{TwiceWritten, WriteGap, TwiceTurned, TurnGap, BoundTooLarge, NoEqualWrite, UpdateMismatch, NoMemory}
use Rattle.linkage.specs.Answers.{IsAnswer, IsTold}
use Rattle.linkage.specs.Refusals.{IsFirstRefusal}
use Rattle.linkage.specs.Sources.{event_at, IsReadAt}
use Rattle.linkage.specs.Links.{IsLink, IsLinked, link_at, links_of}

-- what the event at a place is: it has no bound, or it is a read
pub kinds : (event : Option Event) → (option_and_then bound_of event ≡ None) ⊎ ((cell : ℕ) × (value : ℕ) × (bound : ℕ) × (option_and_then read_of event ≡ Some (record { cell = cell; value = value })) × (option_and_then bound_of event ≡ Some bound))
kinds None = inl refl
kinds (Some (Read cell value bound)) = inr (cell, value, bound, refl, refl)
kinds (Some (Write cell value number)) = inl refl
kinds (Some (Update cell old new number)) = inl refl
kinds (Some (Enter monitor turn)) = inl refl
kinds (Some (Exit monitor turn)) = inl refl

same_number : (traces : TraceLists) (cell value bound one other : ℕ) → IsLink traces cell value bound one → IsLink traces cell value bound other → one ≡ other
same_number traces cell value bound one other a b =
    omega (arith, a.greatest other b.within b.equal, b.greatest one a.within a.equal)

same_link : (traces : TraceLists) (one other : List (List (Option ℕ))) → IsLinked traces one → IsLinked traces other → (place : Place) → link_at one place ≡ link_at other place
same_link traces one other a b place =
    elim (kinds (event_at traces place)) [
      | inl none ↦ a.others place none ∙ sym (b.others place none)
      | inr read ↦ (
          let is : IsReadAt traces place read.0 read.1 read.2 = record { met = read.3; within = read.4 } in
          let x = a.reads place read.0 read.1 read.2 is in
          let y = b.reads place read.0 read.1 read.2 is in
          x.1 ∙ ap Some (same_number traces read.0 read.1 read.2 x.0 y.0 x.2 y.2) ∙ sym y.1)
    ]

pub same_links : (traces : TraceLists) (one other : List (List (Option ℕ))) → IsLinked traces one → IsLinked traces other → one ≡ other
same_links traces one other a b =
    ext_get_or [] one other (a.threads ∙ sym b.threads) (λ t below.
    ext_get_or None (links_of one t) (links_of other t) (a.counts t ∙ sym (b.counts t)) (λ i inside. same_link traces one other a b (record { thread = t; place = i })))

same_refusal : (traces : TraceLists) (one other : LinkError) → IsFirstRefusal traces one → IsFirstRefusal traces other → one ≡ other
same_refusal traces one other a b = grind (arith, common_steps)

-- what is told is the first refusal, unless memory ran out
told_refused : (traces : TraceLists) (refusal : LinkError) → IsTold traces refusal → (refusal ≡ NoMemory → ⊥) → IsFirstRefusal traces refusal
told_refused traces NoMemory told ample = absurd (ample refl)
told_refused traces (TwiceWritten cell number) told ample = told
told_refused traces (WriteGap cell number) told ample = told
told_refused traces (TwiceTurned monitor turn) told ample = told
told_refused traces (TurnGap monitor turn) told ample = told
told_refused traces (BoundTooLarge place) told ample = told
told_refused traces (NoEqualWrite place) told ample = told
told_refused traces (UpdateMismatch place) told ample = told

pub same_answer : (traces : TraceLists) (one other : Result (List (List (Option ℕ))) LinkError) → IsAnswer traces one → IsAnswer traces other → (one ≡ Err NoMemory → ⊥) → (other ≡ Err NoMemory → ⊥) → one ≡ other
same_answer traces (Ok links) (Ok others) a b ample ample' = ap Ok (same_links traces links others a.linked b.linked)
same_answer traces (Ok links) (Err refusal) a b ample ample' = absurd (a.unrefused refusal (told_refused traces refusal b (λ e. ample' (ap Err e))).refused)
same_answer traces (Err refusal) (Ok links) a b ample ample' = absurd (b.unrefused refusal (told_refused traces refusal a (λ e. ample (ap Err e))).refused)
same_answer traces (Err refusal) (Err others) a b ample ample' =
    ap Err (same_refusal traces refusal others (told_refused traces refusal a (λ e. ample (ap Err e))) (told_refused traces others b (λ e. ample' (ap Err e))))
