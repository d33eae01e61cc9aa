use Rattle.std.proofs.Common.{ℕ, ◌+◌, ◌≤◌, length, map, arith}
use Rattle.std.proofs.lemmas.Result.{err_from_is_err_and}
use Rattle.interleavings.specs.TraceLists.{events_of}
use Rattle.linkage.specs.Misfitting.{IsAmongFirst}
use Rattle.linkage.proofs.Progress.{rows_all, told_end, whole_end}
use Rattle.linkage.proofs.Reaching.{gone_most}
use Rattle.linkage.proofs.linking.link_all.Goals as goal

pub returns-in_err-link_round-clause-looks : goal.returns-in_err-link_round-clause-looks
returns-in_err-link_round-clause-looks g c =
    let to = c.loop-from.from + 1024 in
    omega (arith, gone_most c.args.traces.now to to 0, c.link_round.ensures.looks, c.loop-from.invariant.looks)

pub returns-in_err-told-clause-answer : goal.returns-in_err-told-clause-answer
returns-in_err-told-clause-answer g c =
    let error = err_from_is_err_and c.from_residual-in_err-told.result c.from_residual-in_err-told.ensures.1 in
    let from = c.loop-from.from in
    let most : (t : ℕ) → length (events_of c.args.traces.now t) ≤ from = λ t. omega (arith, c.loop-from-test.false, c.longest-longest.ensures.longest t) in
    rw (error.1, error.2) (told_end c.args.traces.now (IsAmongFirst from) (λ place there. omega (arith, there.0, most place.thread)) c.requires.numbers c.loop-from.misfits c.loop-from.invariant.progress c.in_err-told.field-0.0 c.in_err-told.ensures)

pub returns-in_err-told-clause-looks : goal.returns-in_err-told-clause-looks
returns-in_err-told-clause-looks g c =
    let from = c.loop-from.from in
    omega (arith, gone_most c.args.traces.now from from 0, c.loop-from.invariant.looks)

pub returns-clause-answer : goal.returns-clause-answer
returns-clause-answer g c =
    let traces = c.args.traces.now in
    let from = c.loop-from.from in
    let rows = map (λ row. row.items) c.loop-from.rows.items in
    let most : (t : ℕ) → length (events_of traces t) ≤ from = λ t. omega (arith, c.loop-from-test.false, c.longest-longest.ensures.longest t) in
    whole_end traces (IsAmongFirst from) (λ place there. omega (arith, there.0, most place.thread)) c.requires.numbers c.loop-from.misfits c.loop-from.invariant.progress rows (rows_all traces from rows most c.loop-from.invariant.rows) c.in_ok-told.ensures

pub returns-clause-looks : goal.returns-clause-looks
returns-clause-looks g c =
    let from = c.loop-from.from in
    omega (arith, gone_most c.args.traces.now from from 0, c.loop-from.invariant.looks)
