use Rattle.std.proofs.Common.{◌≡◌, ℕ, None, length, sym, ◌∙◌, ap, subst}
use Rattle.event_order.specs.Fronts.{done_of}
use Rattle.event_order.specs.Tables.{IsPut, entry, rows_of}
use Rattle.event_order.specs.declared.slot.Slot.{Slot}
use Rattle.event_order.proofs.Meets.{back_is, mark_less, mark_of, some_back, walk_more, walk_start}
use Rattle.event_order.proofs.Rows.{two_numbers}
use Rattle.event_order.proofs.walking.walk_back.Goals as goal

pub loop-again-init : goal.loop-again-init
loop-again-init c =
    let none : (slot : Slot) → entry (rows_of c.new-marks.result.rows.items) slot ≡ None = λ slot. ap (λ rows. entry (rows_of rows) slot) c.new-marks.ensures in
    rw c.new-met.ensures.items (walk_start c.args.deeds.now (done_of c.args.done.now) c.args.first (entry (rows_of c.new-marks.result.rows.items)) none c.requires.first)

pub returns-in-Some : goal.returns-in-Some
returns-in-Some c =
    let marks = entry (rows_of c.loop-again.marks.rows.items) in
    let mark : c.mark_of-mark.result ≡ mark_of c.loop-again.at = two_numbers c.mark_of-mark.result (mark_of c.loop-again.at) c.mark_of-mark.ensures.row c.mark_of-mark.ensures.number in
    record {
      at = c.loop-again.at;
      chain = c.loop-again.invariant.chain;
      starts = c.loop-again.invariant.starts;
      there = c.loop-again.invariant.found c.loop-again.at c.in-Some.again (ap marks (sym mark) ∙ (sym c.get.ensures ∙ c.in-Some.is));
      once = c.loop-again.invariant.once;
    }

pub unwrap-at-requires : goal.unwrap-at-requires
unwrap-at-requires c = some_back c.args.deeds.now (done_of c.args.done.now) c.loop-again.at c.step_back.result c.requires.all c.loop-again.invariant.remains c.step_back.ensures

pub loop-again-smaller : goal.loop-again-smaller
loop-again-smaller c =
    let marks = entry (rows_of c.loop-again.marks.rows.items) in
    let new = entry (rows_of c.put.new.self.rows.items) in
    let mark : c.mark_of-mark.result ≡ mark_of c.loop-again.at = two_numbers c.mark_of-mark.result (mark_of c.loop-again.at) c.mark_of-mark.ensures.row c.mark_of-mark.ensures.number in
    let unmarked : marks (mark_of c.loop-again.at) ≡ None = ap marks (sym mark) ∙ (sym c.get.ensures ∙ c.in_default.is) in
    let put : IsPut marks (mark_of c.loop-again.at) (length c.loop-again.met.items) new =
    (let P : ℕ → Type 0 = λ n. IsPut marks c.mark_of-mark.result n new in
    let Q : Slot → Type 0 = λ s. IsPut marks s (length c.loop-again.met.items) new in
    subst Q mark (subst P (c.len.ensures ∙ c.loop-again.met.ok.0) c.in_ok-put.ensures)) in
    mark_less c.args.deeds.now (done_of c.args.done.now) c.args.first c.loop-again.met.items marks new c.loop-again.at c.loop-again.invariant unmarked put

pub loop-again-preserved : goal.loop-again-preserved
loop-again-preserved c =
    let marks = entry (rows_of c.loop-again.marks.rows.items) in
    let new = entry (rows_of c.put.new.self.rows.items) in
    let mark : c.mark_of-mark.result ≡ mark_of c.loop-again.at = two_numbers c.mark_of-mark.result (mark_of c.loop-again.at) c.mark_of-mark.ensures.row c.mark_of-mark.ensures.number in
    let unmarked : marks (mark_of c.loop-again.at) ≡ None = ap marks (sym mark) ∙ (sym c.get.ensures ∙ c.in_default.is) in
    let put : IsPut marks (mark_of c.loop-again.at) (length c.loop-again.met.items) new =
    (let P : ℕ → Type 0 = λ n. IsPut marks c.mark_of-mark.result n new in
    let Q : Slot → Type 0 = λ s. IsPut marks s (length c.loop-again.met.items) new in
    subst Q mark (subst P (c.len.ensures ∙ c.loop-again.met.ok.0) c.in_ok-put.ensures)) in
    rw c.in_ok-push.ensures.items
    (walk_more c.args.deeds.now (done_of c.args.done.now) c.args.first c.loop-again.met.items marks new c.loop-again.at c.loop-again.invariant unmarked put c.unwrap-at.result
    (back_is c.args.deeds.now (done_of c.args.done.now) c.loop-again.at c.unwrap-at.result c.step_back.result c.loop-again.invariant.remains c.unwrap-at.ensures c.step_back.ensures))
