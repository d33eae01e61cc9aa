use Rattle.std.proofs.Common.{◌≡◌, ◌+◌, ◌-◌, ◌<◌, ◌∙◌, Some, length, set, sym, ap, arith}
use Rattle.event_order.specs.Tables.{counted, is_given, rows_of}
use Rattle.event_order.proofs.Rows.{count_read, count_taken, count_there, count_within, given_one}
use Rattle.event_order.proofs.table.Counts.lower.Goals as goal

pub index_mut-row-requires : goal.index_mut-row-requires
index_mut-row-requires c =
    let rows = c.args.self.now.rows in
    let there : c.in_ok-slot.slot.row < length rows.items = count_there rows.items c.in_ok-slot.slot (c.requires c.in_ok-slot.slot c.in_ok-slot.was) in
    let count = rows.ok.0 in
    omega arith

pub index-requires : goal.index-requires
index-requires c =
    let row = c.index_mut-row.result.now in
    let within : c.in_ok-slot.slot.number < length row.items = count_within c.args.self.now.rows.items c.in_ok-slot.slot (c.requires c.in_ok-slot.slot c.in_ok-slot.was) row c.index_mut-row.ensures.value in
    let count = row.ok.0 in
    omega arith

pub overflow_sub-count : goal.overflow_sub-count
overflow_sub-count c =
    let some = c.requires c.in_ok-slot.slot c.in_ok-slot.was in
    let read = count_read c.args.self.now.rows.items c.in_ok-slot.slot some c.index_mut-row.result.now c.index_mut-row.ensures.value c.index.result.now c.index.ensures in
    omega arith

pub index_mut-requires : goal.index_mut-requires
index_mut-requires c =
    let row = c.index_mut-row.result.now in
    let within : c.in_ok-slot.slot.number < length row.items = count_within c.args.self.now.rows.items c.in_ok-slot.slot (c.requires c.in_ok-slot.slot c.in_ok-slot.was) row c.index_mut-row.ensures.value in
    let count = row.ok.0 in
    omega arith

pub returns-then-count-eq0-clause-counts : goal.returns-then-count-eq0-clause-counts
returns-then-count-eq0-clause-counts c = λ at.
    let rows = c.args.self.now.rows.items in
    let slot = c.in_ok-slot.slot in
    let new = counted (rows_of (set rows slot.row (Rattle.std.specs.Vec.with_item c.index_mut-row.result.now slot.number (c.index.result.now - 1)))) at in
    count_taken rows slot (c.requires slot c.in_ok-slot.was) c.index_mut-row.result.now c.index_mut-row.ensures.value c.index.result.now c.index.ensures at
    ∙ ap (λ g. new + is_given g at) (sym c.in_ok-slot.was)

pub returns-else-count-eq0-clause-counts : goal.returns-else-count-eq0-clause-counts
returns-else-count-eq0-clause-counts c = λ at.
    let rows = c.args.self.now.rows.items in
    let slot = c.in_ok-slot.slot in
    let new = counted (rows_of (set rows slot.row (Rattle.std.specs.Vec.with_item c.index_mut-row.result.now slot.number (c.index.result.now - 1)))) at in
    count_taken rows slot (c.requires slot c.in_ok-slot.was) c.index_mut-row.result.now c.index_mut-row.ensures.value c.index.result.now c.index.ensures at
    ∙ ap (λ g. new + is_given g at) (sym c.in_ok-slot.was)

pub returns-else-count-eq0-clause-emptied : goal.returns-else-count-eq0-clause-emptied
returns-else-count-eq0-clause-emptied c = λ at is none.
    let rows = c.args.self.now.rows.items in
    let slot = c.in_ok-slot.slot in
    let some = c.requires slot c.in_ok-slot.was in
    let row = c.index_mut-row.result.now in
    let read : counted (rows_of rows) slot ≡ c.index.result.now = count_read rows slot some row c.index_mut-row.ensures.value c.index.result.now c.index.ensures in
    let same : slot ≡ at = (let both : Some slot ≡ Some at = sym c.in_ok-slot.was ∙ is in cc) in
    let old : counted (rows_of rows) slot ≡ counted (rows_of rows) at = ap (counted (rows_of rows)) same in
    let given : is_given (Some slot) at ≡ 1 = given_one slot at same in
    let taken = count_taken rows slot some row c.index_mut-row.ensures.value c.index.result.now c.index.ensures at in
    absurd (omega (arith, c.if-count-eq0.false))
