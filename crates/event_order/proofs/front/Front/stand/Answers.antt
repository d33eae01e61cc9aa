use Rattle.std.proofs.Common.{◌≡◌, ℕ, ◌+◌, List, Some, None, inl, inr, set, arith, ap, sym, subst, ◌∙◌}
use Rattle.std.proofs.lemmas.Bool.{cases_lt}
use Rattle.std.proofs.lemmas.List.{get_or_read}
use Rattle.std.proofs.lemmas.Option.{slice_get_within}
use Rattle.interleavings.specs.declared.traces.Place.{Place}
use Rattle.event_order.specs.Deeds.{deeds_of}
use Rattle.event_order.specs.Fronts.{AreNexts, done_of, waiting}
use Rattle.event_order.specs.Tables.{counted, is_given, rows_of}
use Rattle.event_order.specs.declared.front.Next.{Next}
use Rattle.event_order.proofs.Nexts.{nexts_stood}
use Rattle.event_order.proofs.Waiting.{front_raised, gives_deed, gives_there, thread_there, waiting_for}
use Rattle.event_order.proofs.front.Front.stand.Goals as goal

pub lower-emptied-requires : goal.lower-emptied-requires
lower-emptied-requires c = λ slot is.
    let rows = c.args.deeds.now in
    let done = done_of c.args.self.now.done.items in
    let at : Place = record { thread = c.args.ready.thread; place = done c.args.ready.thread } in
    let there = slice_get_within (deeds_of rows at.thread) at.place c.args.ready.deed c.requires.deed in
    let counts = c.requires.front.counts_are slot in
    elim (cases_lt 0 (waiting rows done slot)) [
      | inl some ↦ omega arith
      | inr none ↦ absurd (waiting_for rows done slot at (record { remains = record { there = there; waits = omega arith }; gives = gives_deed rows at c.args.ready.deed c.requires.deed ∙ (sym c.gives.ensures ∙ is) }) (omega arith))
    ]

pub wake-self-requires-clause-nexts : goal.wake-self-requires-clause-nexts
wake-self-requires-clause-nexts c =
    let rows = c.args.deeds.now in
    let done = c.args.self.now.done.items in
    let thread = c.args.ready.thread in
    let there = thread_there rows thread (done_of done thread) (slice_get_within (deeds_of rows thread) (done_of done thread) c.args.ready.deed c.requires.deed) in
    let P : List ℕ → Type 0 = λ now. AreNexts rows (counted (rows_of c.lower-emptied.new.self.rows.items)) (Some c.in-Some.slot) now c.keep-self.new.next.items in
    let Q : List Next → Type 0 = λ nexts. AreNexts rows (counted (rows_of c.lower-emptied.new.self.rows.items)) (Some c.in-Some.slot) (set done thread (c.index.result.now + 1)) nexts in
    subst P (sym c.deref.ensures.value) (subst Q (sym c.keep-self.ensures.next)
    (nexts_stood rows (counted (rows_of c.args.self.now.waiting.rows.items)) (counted (rows_of c.lower-emptied.new.self.rows.items)) c.gives.result (Some c.in-Some.slot) done c.args.self.now.next.items thread (c.index.result.now + 1) c.judge-now.result
    c.requires.front.threads there c.lower-emptied.ensures.counts c.in-Some.ensures.emptied c.requires.nexts c.judge-now.ensures))

pub returns-in_default-clause-nexts : goal.returns-in_default-clause-nexts
returns-in_default-clause-nexts c =
    let rows = c.args.deeds.now in
    let done = c.args.self.now.done.items in
    let thread = c.args.ready.thread in
    let there = thread_there rows thread (done_of done thread) (slice_get_within (deeds_of rows thread) (done_of done thread) c.args.ready.deed c.requires.deed) in
    let Q : List Next → Type 0 = λ nexts. AreNexts rows (counted (rows_of c.lower-emptied.new.self.rows.items)) None (set done thread (c.index.result.now + 1)) nexts in
    subst Q (sym c.keep-self.ensures.next)
    (nexts_stood rows (counted (rows_of c.args.self.now.waiting.rows.items)) (counted (rows_of c.lower-emptied.new.self.rows.items)) c.gives.result None done c.args.self.now.next.items thread (c.index.result.now + 1) c.judge-now.result
    c.requires.front.threads there c.lower-emptied.ensures.counts c.in_default.ensures.emptied c.requires.nexts c.judge-now.ensures)

pub returns-in-Some-clause-front : goal.returns-in-Some-clause-front
returns-in-Some-clause-front c =
    let rows = c.args.deeds.now in
    let done = c.args.self.now.done.items in
    let thread = c.args.ready.thread in
    let small = slice_get_within (deeds_of rows thread) (done_of done thread) c.args.ready.deed c.requires.deed in
    let there = thread_there rows thread (done_of done thread) small in
    let place : c.index.result.now ≡ done_of done thread = get_or_read done thread c.index.result.now (let count = c.requires.front.threads in omega arith) c.index.ensures 0 in
    front_raised rows (counted (rows_of c.args.self.now.waiting.rows.items)) (counted (rows_of c.lower-emptied.new.self.rows.items)) done thread c.index.result.now c.requires.front place small
    (λ slot. c.lower-emptied.ensures.counts slot ∙ ap (λ g. counted (rows_of c.lower-emptied.new.self.rows.items) slot + is_given g slot) (c.gives.ensures ∙ sym (gives_there rows thread c.index.result.now (done_of done thread) c.args.ready.deed place c.requires.deed)))

pub returns-in_default-clause-front : goal.returns-in_default-clause-front
returns-in_default-clause-front c =
    let rows = c.args.deeds.now in
    let done = c.args.self.now.done.items in
    let thread = c.args.ready.thread in
    let small = slice_get_within (deeds_of rows thread) (done_of done thread) c.args.ready.deed c.requires.deed in
    let there = thread_there rows thread (done_of done thread) small in
    let place : c.index.result.now ≡ done_of done thread = get_or_read done thread c.index.result.now (let count = c.requires.front.threads in omega arith) c.index.ensures 0 in
    front_raised rows (counted (rows_of c.args.self.now.waiting.rows.items)) (counted (rows_of c.lower-emptied.new.self.rows.items)) done thread c.index.result.now c.requires.front place small
    (λ slot. c.lower-emptied.ensures.counts slot ∙ ap (λ g. counted (rows_of c.lower-emptied.new.self.rows.items) slot + is_given g slot) (c.gives.ensures ∙ sym (gives_there rows thread c.index.result.now (done_of done thread) c.args.ready.deed place c.requires.deed)))
