use Rattle.std.proofs.Common.{◌<◌, ◌+◌, Some, length, refl, sym, ◌∙◌, ap, arith}
use Rattle.event_order.specs.Tables.{counted, is_given, rows_of}
use Rattle.event_order.proofs.Rows.{count_added, number_row, number_within}
use Rattle.event_order.proofs.table.Counts.raise.Goals as goal

pub index_mut-row-requires : goal.index_mut-row-requires
index_mut-row-requires c =
    let rows = c.make_number.new.self.rows in
    let there : c.in-Some.slot.row < length rows.items = number_row rows.items c.in-Some.slot c.in_ok-make_number.ensures.there in
    let count = rows.ok.0 in
    omega arith

pub index-requires : goal.index-requires
index-requires c =
    let row = c.index_mut-row.result.now in
    let within : c.in-Some.slot.number < length row.items = number_within c.make_number.new.self.rows.items c.in-Some.slot c.in_ok-make_number.ensures.there row c.index_mut-row.ensures.value in
    let count = row.ok.0 in
    omega arith

pub overflow_add-count : goal.overflow_add-count
overflow_add-count c =
    let slot = c.in-Some.slot in
    let rows = c.make_number.new.self.rows.items in
    let row = c.index_mut-row.result.now in
    let has = c.in_ok-make_number.ensures.there in
    let added = count_added rows slot row row c.index.result.now (number_row rows slot has) c.index_mut-row.ensures.value (number_within rows slot has row c.index_mut-row.ensures.value) (λ i. refl) c.index.ensures in
    let few = c.requires slot c.in-Some.is in
    let same = c.in_ok-make_number.ensures.same slot in
    let value = added.0 in
    omega arith

pub index_mut-requires : goal.index_mut-requires
index_mut-requires c =
    let row = c.index_mut-row.result.now in
    let within : c.in-Some.slot.number < length row.items = number_within c.make_number.new.self.rows.items c.in-Some.slot c.in_ok-make_number.ensures.there row c.index_mut-row.ensures.value in
    let count = row.ok.0 in
    omega arith

pub returns-in_ok-make_number : goal.returns-in_ok-make_number
returns-in_ok-make_number c = λ at.
    let slot = c.in-Some.slot in
    let rows = c.make_number.new.self.rows.items in
    let row = c.index_mut-row.result.now in
    let has = c.in_ok-make_number.ensures.there in
    let added = count_added rows slot row row c.index.result.now (number_row rows slot has) c.index_mut-row.ensures.value (number_within rows slot has row c.index_mut-row.ensures.value) (λ i. refl) c.index.ensures in
    let old = counted (rows_of c.args.self.now.rows.items) at in
    added.1 at ∙ (ap (λ n. n + is_given (Some slot) at) (c.in_ok-make_number.ensures.same at) ∙ ap (λ g. old + is_given g at) (sym c.in-Some.is))
