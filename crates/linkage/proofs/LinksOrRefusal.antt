-- Events have links, or something is refused first.
use Rattle.std.proofs.Common.{List, Option, None, length, refl, inl, inr, ℕ}
use Rattle.interleavings.specs.TraceLists.{TraceLists}
use Rattle.interleavings.specs.declared.traces.Place.{Place}
use Rattle.linkage.specs.declared.link_error.LinkError.{LinkError}
use Rattle.linkage.specs.declared.link_error.LinkError.TheVariants.{BoundTooLarge, NoEqualWrite, UpdateMismatch}
use Rattle.linkage.specs.declared.misfits.Misfits.{Misfits}
use Rattle.linkage.specs.Answers.{IsWhole}
use Rattle.linkage.specs.Laws.{LinksOrRefusal}
use Rattle.linkage.specs.Misfitting.{IsProgress}
use Rattle.linkage.specs.Refusals.{IsRefused}
use Rattle.linkage.proofs.Bounds.{bounded}
use Rattle.linkage.proofs.FirstRefusals.{first_or_none}
use Rattle.linkage.proofs.Progress.{whole_end}
use Rattle.linkage.proofs.ThereLinks.{rows_there}

module _ (traces : TraceLists) (none : (refusal : LinkError) → IsRefused traces refusal → ⊥) where
  -- no misfits
  abbrev no_misfits : Misfits
  no_misfits = record { too_large = None; unequal = None; mismatch = None }

  abbrev anywhere : Place → Type 0
  anywhere place = Unit {0}

  -- where nothing is refused, no event misfits
  all_fit : IsProgress traces anywhere no_misfits
  all_fit = record {
    too_large = λ place seen. none (BoundTooLarge place);
    unequal = λ fit place seen. none (NoEqualWrite place);
    mismatch = λ fit place seen. none (UpdateMismatch place);
  }

  -- and there are links
  whole : (links : List (List (Option ℕ))) × IsWhole traces links
  whole =
      let rows = rows_there traces (length traces.events) in
      (rows.0, whole_end traces anywhere (λ place there. tt) (λ refusal refused. absurd (none refusal refused)) no_misfits all_fit rows.0 rows.1 refl)

-- events have links, or something is refused first
pub links_or_refusal : LinksOrRefusal
links_or_refusal traces = let bound = bounded traces in elim (first_or_none traces bound.0 bound.1) [
  | inl first ↦ inr first
  | inr none ↦ inl (whole traces none)
]
