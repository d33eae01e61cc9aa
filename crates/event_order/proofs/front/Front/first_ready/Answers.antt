use Rattle.std.proofs.Common.{◌≡◌, ◌<◌, None, length, sym, ◌∙◌, subst, inl, inr, arith}
use Rattle.std.proofs.lemmas.Bool.{cases_lt}
use Rattle.std.proofs.lemmas.List.{get_or_past, get_or_read}
use Rattle.event_order.specs.Fronts.{IsNextAt, done_of, next_of}
use Rattle.event_order.specs.Tables.{counted, rows_of}
use Rattle.event_order.specs.declared.front.Next.{Next}
use Rattle.event_order.specs.declared.front.Next.TheVariants.{Ready, Ended}
use Rattle.event_order.proofs.Nexts.{is_ready, known_ready}
use Rattle.event_order.proofs.front.Front.first_ready.Goals as goal

pub returns-in_err-thread : goal.returns-in_err-thread
returns-in_err-thread c =
    let rows = c.args.deeds.now in
    let counts = counted (rows_of c.args.self.now.waiting.rows.items) in
    let done = done_of c.args.self.now.done.items in
    let nexts = c.args.self.now.next.items in
    rw c.from_residual.ensures (λ thread small is.
    let found = known_ready rows counts done thread (next_of nexts thread) (c.requires.nexts.each thread small) is in
    c.in_err-thread.ensures thread (c.requires.ready.has thread found.0 found.1))

pub returns : goal.returns
returns c =
    let rows = c.args.deeds.now in
    let counts = counted (rows_of c.args.self.now.waiting.rows.items) in
    let done = done_of c.args.self.now.done.items in
    let nexts = c.args.self.now.next.items in
    let thread = c.in_ok-thread.thread in
    let only = c.requires.ready.only thread c.in_ok-thread.ensures.0 in
    let there : thread < length nexts = elim (cases_lt thread (length nexts)) [
      | inl small ↦ small
      | inr past ↦ absurd (let both : Ended ≡ Ready only.0 = sym (get_or_past nexts thread Ended past) ∙ only.1 in cc)
    ] in
    let within : thread < length rows = (let count = c.requires.nexts.count in omega arith) in
    let here : c.index.result.now ≡ next_of nexts thread = get_or_read nexts thread c.index.result.now there c.index.ensures Ended in
    let P : Next → Type 0 = λ next. IsNextAt rows counts None (record { thread = thread; place = done thread }) next in
    let ready : IsNextAt rows counts None (record { thread = thread; place = done thread }) (Ready c.in-Ready.deed) = subst P c.in-Ready.is (subst P (sym here) (c.requires.nexts.each thread within)) in (
      within,
      is_ready rows counts done thread c.in-Ready.deed ready,
      (λ other less is.
          let found = known_ready rows counts done other (next_of nexts other) (c.requires.nexts.each other (omega arith)) is in
          c.in_ok-thread.ensures.1 other less (c.requires.ready.has other found.0 found.1)),
      ready.0,
    )
