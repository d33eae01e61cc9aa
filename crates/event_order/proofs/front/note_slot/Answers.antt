use Rattle.std.proofs.Common.{◌<◌, ◌≤◌, length, arith}
use Rattle.std.proofs.lemmas.List.{length-map}
use Rattle.event_order.specs.Tables.{rows_of}
use Rattle.event_order.proofs.Waiters.{anyone_past, anyone_within, kept_note, noted_note}
use Rattle.event_order.proofs.front.note_slot.Goals as goal

pub returns-then-slot-len-2-clause-kept : goal.returns-then-slot-len-2-clause-kept
returns-then-slot-len-2-clause-kept c =
    let rows = c.args.waiters.now in
    let row = c.index_mut-row.result.now in
    let there : c.args.slot.row < length rows.items = (let count = rows.ok.0 in let is = c.len.ensures in let small = c.if-slot-len.true in omega arith) in
    let within : c.args.slot.number < length row.items = (let count = row.ok.0 in let is = c.len-then-slot-len.ensures in let small = c.if-slot-len-2.true in omega arith) in
    kept_note rows.items c.args.slot row c.with.result there c.index_mut-row.ensures.value within c.index-known.result.now c.index-known.ensures c.with.ensures.kept

pub returns-then-slot-len-2-clause-noted : goal.returns-then-slot-len-2-clause-noted
returns-then-slot-len-2-clause-noted c =
    let rows = c.args.waiters.now in
    let row = c.index_mut-row.result.now in
    let there : c.args.slot.row < length rows.items = (let count = rows.ok.0 in let is = c.len.ensures in let small = c.if-slot-len.true in omega arith) in
    let within : c.args.slot.number < length row.items = (let count = row.ok.0 in let is = c.len-then-slot-len.ensures in let small = c.if-slot-len-2.true in omega arith) in
    noted_note rows.items c.args.slot row c.with.result there c.index_mut-row.ensures.value within c.args.thread c.with.ensures.here

pub returns-else-slot-len-2-clause-noted : goal.returns-else-slot-len-2-clause-noted
returns-else-slot-len-2-clause-noted c =
    let rows = c.args.waiters.now in
    let row = c.index_mut-row.result.now in
    let there : c.args.slot.row < length rows.items = (let count = rows.ok.0 in let is = c.len.ensures in let small = c.if-slot-len.true in omega arith) in
    let past : length row.items ≤ c.args.slot.number = (let count = row.ok.0 in let is = c.len-then-slot-len.ensures in let large = c.if-slot-len-2.false in omega arith) in
    anyone_within rows.items c.args.slot row c.args.thread c.requires there past

pub returns-else-slot-len-clause-noted : goal.returns-else-slot-len-clause-noted
returns-else-slot-len-clause-noted c =
    let rows = c.args.waiters.now in
    let past : length (rows_of rows.items) ≤ c.args.slot.row = simp length-map (let count = rows.ok.0 in let is = c.len.ensures in let large = c.if-slot-len.false in let past : length rows.items ≤ c.args.slot.row = omega arith in past) in
    anyone_past (rows_of rows.items) c.args.slot c.args.thread c.requires past
