use Rattle.std.proofs.Common.{ap, sym, subst, List, length, ℕ}
use Rattle.std.specs.Prelude.{Option}
use Rattle.linkage.specs.declared.placing.Placing.{Placing}
use Rattle.linkage.specs.AllOf.{WriteGiven}
use Rattle.linkage.specs.Placing.{AreWriteSpans, IsPlacedAnswer}
use Rattle.linkage.specs.Spans.{AreTops}
use Rattle.linkage.proofs.PlacedWrites.{placed_row, placed_fit}
use Rattle.linkage.proofs.row.row_of.Goals as goal

pub returns-in-Some-clause-row : goal.returns-in-Some-clause-row
returns-in-Some-clause-row g c =
    let traces = c.args.traces.now in
    let spans = c.in_ok-spans.spans in
    let P : List ℕ → Type 0 = λ greatest. AreTops (WriteGiven traces) (length traces.starts) greatest in
    let Q : Option Placing → Type 0 = λ placing. IsPlacedAnswer traces spans placing in
    let are : AreWriteSpans traces spans = record { shape = c.in_ok-spans.ensures.spans; tops = subst P (ap (λ v. v.items) (sym c.in_ok-spans.ensures.greatest)) c.requires.greatest } in
    let placed = subst Q c.in-Some.is c.in_ok-placing.ensures.placing in
    (placed_row traces spans are c.in-Some.placing placed.0 placed.1 placed.2, placed_fit traces spans are c.in-Some.placing placed.0 placed.1)
