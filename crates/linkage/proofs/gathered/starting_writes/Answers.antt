use Rattle.std.proofs.Common.{◌≡◌, ◌∙◌, ℕ, ap, refl, subst, sym, length, arith, length-append}
use Rattle.std.specs.Prelude.{Some, slice_get}
use Rattle.std.proofs.lemmas.Option.{slice_get-get_or}
use Rattle.linkage.specs.declared.numbered.Numbered.{Numbered}
use Rattle.linkage.specs.AllOf.{WriteGiven, AreStartingWrites}
use Rattle.linkage.proofs.AllOfLists.{starts_more}
use Rattle.linkage.proofs.Frontier.{same_numbered}
use Rattle.linkage.proofs.gathered.starting_writes.Goals as goal

pub loop-cell-preserved : goal.loop-cell-preserved
loop-cell-preserved c =
    let cell = c.loop-cell.cell in
    let starts = c.args.traces.now.starts in
    let start : slice_get starts cell ≡ Some c.start_of.result = slice_get-get_or starts cell 0 (omega (arith, c.cells-cell-end.ensures.count)) ∙ ap Some (sym c.start_of.ensures) in
    let value : (item : Numbered ℕ) → slice_get starts item.owner ≡ Some item.value → item.owner ≡ cell → item.value ≡ c.start_of.result = λ item is own.
    let there : slice_get starts cell ≡ Some item.value = rw own at is in cc in (
      rw c.in_ok-push.ensures.items
          (starts_more (WriteGiven c.args.traces.now) cell c.loop-cell.writes.items (record { owner = cell; number = 0; value = c.start_of.result }) refl (refl, start) (λ item gives own. same_numbered item _ own gives.0 (value item gives.1 own)) c.loop-cell.invariant.0),
      ap length c.in_ok-push.ensures.items ∙ omega (arith, length-append {A = Numbered ℕ}, c.loop-cell.invariant.1),
    )

pub returns-clause-writes : goal.returns-clause-writes
returns-clause-writes c =
    let P : ℕ → Type 0 = λ cells. AreStartingWrites c.args.traces.now cells c.loop-cell.writes.items in
    subst P (omega (arith, c.loop-cell-test.false, c.cells-cell-end.ensures.count)) c.loop-cell.invariant
