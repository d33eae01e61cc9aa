use Rattle.std.proofs.Common.{length, ◌∙◌, ap, arith}
use Rattle.event_order.proofs.Rows.{grown_row, grown_same}
use Rattle.event_order.proofs.table.Counts.grow.Goals as goal

pub returns-clause-there : goal.returns-clause-there
returns-clause-there c =
    let same = ap length (grown_row c.add_rows.new.self.rows.items c.args.slot c.index_mut-row.result.now c.add_numbers.new.row c.in_ok-add_rows.ensures.there c.index_mut-row.ensures.value) in
    let there = c.in_ok-add_numbers.ensures.there in
    omega arith

pub returns-clause-same : goal.returns-clause-same
returns-clause-same c = λ at.
    grown_same c.add_rows.new.self.rows.items c.args.slot c.index_mut-row.result.now c.add_numbers.new.row c.in_ok-add_rows.ensures.there c.index_mut-row.ensures.value c.add_numbers.ensures.same at ∙ c.in_ok-add_rows.ensures.same at

pub returns-in_err-add_numbers-clause-same : goal.returns-in_err-add_numbers-clause-same
returns-in_err-add_numbers-clause-same c = λ at.
    grown_same c.add_rows.new.self.rows.items c.args.slot c.index_mut-row.result.now c.add_numbers.new.row c.in_ok-add_rows.ensures.there c.index_mut-row.ensures.value c.add_numbers.ensures.same at ∙ c.in_ok-add_rows.ensures.same at
