use Rattle.std.proofs.Common.{◌≡◌, ◌<◌, ◌∙◌, false, length, arith, sym, get_or}
use Rattle.std.proofs.lemmas.List.{get_or_read}
use Rattle.stride_isa.proofs.MarksLemmas.{visits_new}
use Rattle.stride_isa.proofs.reaching.Growing.visit.Goals as goal

pub returns-clause-visits : goal.returns-clause-visits
returns-clause-visits c =
    let marks = c.args.self.now.marks.items in
    let there : c.place-place.result < length marks = omega arith in
    let free : get_or marks c.place-place.result false ≡ false = sym (get_or_read marks _ _ there c.index.ensures false) ∙ c.if-index.false in
    rw (c.in_ok-push.ensures.items, c.place-place.ensures)
    (visits_new marks c.args.self.now.work.items c.args.pair c.requires.inside c.requires.shallow (rw c.place-place.ensures at free))
