use Rattle.std.proofs.Common.{◌≡◌, ◌∙◌, inl, inr, refl, set, sym, subst}
use Rattle.event_order.specs.Fronts.{AreReady}
use Rattle.event_order.specs.Tables.{rows_of}
use Rattle.event_order.specs.declared.front.Next.{Next}
use Rattle.event_order.specs.declared.front.Next.TheVariants.{Ready, Waits, Ended}
use Rattle.event_order.proofs.Waiters.{ready_put, unready_put, waiters_put}
use Rattle.event_order.proofs.front.keep.Goals as goal

pub returns-in-Ready-clause-waiters : goal.returns-in-Ready-clause-waiters
returns-in-Ready-clause-waiters c =
    waiters_put c.args.next.now.items (rows_of c.args.waiters.now.items) (rows_of c.note.new.waiters.items) c.args.thread c.args.now c.requires.there c.note.ensures.kept c.note.ensures.noted c.requires.waiters

pub returns-in-Ready-clause-ready : goal.returns-in-Ready-clause-ready
returns-in-Ready-clause-ready c =
    let P : Next → Type 0 = λ now. AreReady (set c.args.next.now.items c.args.thread now) c.with.result in
    subst P (sym c.in-Ready.is) (ready_put c.args.next.now.items c.args.thread c.in-Ready.deed c.args.ready c.with.result c.requires.there c.with.ensures.here c.with.ensures.kept c.with.ensures.only c.requires.ready)

pub returns-in-Waits : goal.returns-in-Waits
returns-in-Waits c = record {
  next = refl;
  waiters = waiters_put c.args.next.now.items (rows_of c.args.waiters.now.items) (rows_of c.note.new.waiters.items) c.args.thread c.args.now c.requires.there c.note.ensures.kept c.note.ensures.noted c.requires.waiters;
  ready = unready_put c.args.next.now.items c.args.thread c.args.now c.args.ready c.without.result c.requires.there (λ deed same. elim c.in-Waits.is [
    | inl waits ↦ let both : Waits waits.0 ≡ Ready deed = sym waits.1 ∙ same in cc
    | inr ended ↦ let both : Ended ≡ Ready deed = sym ended ∙ same in cc
  ]) c.without.ensures.gone c.without.ensures.kept c.without.ensures.only c.requires.ready;
}
