use Rattle.std.proofs.Common.{◌≡◌, ℕ, ◌+◌, ◌<◌, ◌≤◌, List, [], ◌∷◌, ◌++◌, length, sym, subst, arith}
use Rattle.std.proofs.lemmas.List.{map_push}
use Rattle.std.proofs.lemmas.List.Sums.{sum_by_more, sum_by_more_le}
use Rattle.stride_isa.specs.Limits.{fuel_limit}
use Rattle.event_order.specs.Deeds.{AreRowsOf, size}
use Rattle.event_order.specs.Tables.{rows_of}
use Rattle.event_order.specs.declared.deed.Deed.{Deed}
use Rattle.event_order.proofs.Making.{few_more, rows_more}
use Rattle.event_order.proofs.deeds.Deeds.of.Goals as goal

pub loop-thread-preserved : goal.loop-thread-preserved
loop-thread-preserved g c =
    let traces = c.args.traces.now in
    let links = c.args.links.now in
    let thread = c.loop-thread.thread in
    let old = rows_of c.loop-thread.rows.items in
    let row = c.in_ok-row_of.field-0.items in
    let there : thread < length traces.events = (let small = c.loop-thread-test.true in let count = c.threads-thread-end.ensures.count in omega arith) in
    let same : old ++ row ∷ [] ≡ rows_of c.push.new.self.items = sym (rw c.in_ok-push.ensures.items (map_push (λ r. r.items) c.loop-thread.rows.items c.in_ok-row_of.field-0)) in
    let P : List (List Deed) → Type 0 = λ rows. AreRowsOf traces links (thread + 1) rows in
    let Q : List (List Deed) → Type 0 = λ rows. (t : ℕ) → size rows t ≤ fuel_limit in
    record {
      rows = subst P same (rows_more traces links thread old row c.loop-thread.invariant.rows c.in_ok-row_of.ensures.deeds);
      few = subst Q same (few_more fuel_limit old row c.loop-thread.invariant.few c.in_ok-row_of.ensures.few);
      looks = (let more = sum_by_more length traces.events thread [] there in let now = c.row_of.ensures.looks in let before = c.loop-thread.invariant.looks in omega arith);
    }

pub returns-in_err-row_of-clause-looks : goal.returns-in_err-row_of-clause-looks
returns-in_err-row_of-clause-looks g c =
    let there : c.loop-thread.thread < length c.args.traces.now.events = (let small = c.loop-thread-test.true in let count = c.threads-thread-end.ensures.count in omega arith) in
    let most = sum_by_more_le length c.args.traces.now.events c.loop-thread.thread [] there in
    let now = c.row_of.ensures.looks in
    let before = c.loop-thread.invariant.looks in
    omega arith

pub returns-in_err-push-clause-looks : goal.returns-in_err-push-clause-looks
returns-in_err-push-clause-looks g c =
    let there : c.loop-thread.thread < length c.args.traces.now.events = (let small = c.loop-thread-test.true in let count = c.threads-thread-end.ensures.count in omega arith) in
    let most = sum_by_more_le length c.args.traces.now.events c.loop-thread.thread [] there in
    let now = c.row_of.ensures.looks in
    let before = c.loop-thread.invariant.looks in
    omega arith
