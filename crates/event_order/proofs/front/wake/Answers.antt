use Rattle.std.proofs.Common.{◌≡◌, ◌<◌, ◌∙◌, ℕ, List, length, inl, inr, refl, sym, ap, subst}
use Rattle.std.proofs.lemmas.Bool.{true≢false, cases_lt}
use Rattle.std.proofs.lemmas.List.{get_or_past, length-set}
use Rattle.event_order.specs.Fronts.{next_of, waiters_of}
use Rattle.event_order.specs.Tables.{counted, rows_of}
use Rattle.event_order.specs.ThreadSets.{Has}
use Rattle.event_order.specs.declared.front.Next.{Next}
use Rattle.event_order.specs.declared.front.Next.TheVariants.{Waits, Ended}
use Rattle.event_order.specs.declared.thread_set.ThreadSet.{ThreadSet}
use Rattle.event_order.proofs.Waiters.{IsKnown, known_again, known_all, known_first, known_passed}
use Rattle.event_order.proofs.front.wake.Goals as goal

pub loop-thread-init : goal.loop-thread-init
loop-thread-init c =
    let is : c.waiters_at-left.result ≡ waiters_of (rows_of c.args.waiters.now.items) c.args.emptied = c.waiters_at-left.ensures ∙ ap (λ w. waiters_of (rows_of w) c.args.emptied) c.deref.ensures.value in
    record {
      count = c.requires.nexts.count;
      known = known_first c.args.deeds.now (counted (rows_of c.args.waiting.now.rows.items)) c.args.done.now c.args.emptied c.args.next.now.items c.waiters_at-left.result
          (λ thread waits. subst (λ (w : ThreadSet). Has w thread) (sym is) (c.requires.waiters thread c.args.emptied waits)) c.requires.nexts;
      waiters = c.requires.waiters;
      ready = c.requires.ready;
    }

pub loop-thread-preserved-then-waits_at : goal.loop-thread-preserved-then-waits_at
loop-thread-preserved-then-waits_at c =
    let rows = c.args.deeds.now in
    let counts = counted (rows_of c.args.waiting.now.rows.items) in
    let nexts = c.loop-thread.next.items in
    let thread = c.in-Some.thread in
    let less = c.without-left.result in
    let waits : next_of nexts thread ≡ Waits c.args.emptied = ap (λ all. next_of all thread) (sym c.deref-in-Some.ensures.value) ∙ c.if-waits_at.ensures.0 refl in
    let there : thread < length nexts = elim (cases_lt thread (length nexts)) [
      | inl small ↦ small
      | inr past ↦ absurd (let both : Ended ≡ Waits c.args.emptied = sym (get_or_past nexts thread Ended past) ∙ waits in cc)
    ] in
    let P : List Next → Type 0 = λ all. (other : ℕ) → other < length rows → IsKnown rows counts c.args.done.now c.args.emptied all less other in
    record {
      count = ap length c.keep-ready.ensures.next ∙ (length-set nexts thread c.judge-now.result ∙ c.loop-thread.invariant.count);
      known = subst P (sym c.keep-ready.ensures.next) (known_again rows counts c.args.done.now c.args.emptied nexts c.loop-thread.left less thread c.judge-now.result there c.without-left.ensures.kept c.judge-now.ensures c.loop-thread.invariant.known);
      waiters = c.keep-ready.ensures.waiters;
      ready = c.keep-ready.ensures.ready;
    }

pub loop-thread-preserved : goal.loop-thread-preserved
loop-thread-preserved c = record {
  count = c.loop-thread.invariant.count;
  known = known_passed c.args.deeds.now (counted (rows_of c.args.waiting.now.rows.items)) c.args.done.now c.args.emptied c.loop-thread.next.items c.loop-thread.left c.without-left.result c.in-Some.thread c.without-left.ensures.kept (λ small is. true≢false (sym (c.if-waits_at.ensures.1 (ap (λ all. next_of all c.in-Some.thread) c.deref-in-Some.ensures.value ∙ is)))) c.loop-thread.invariant.known;
  waiters = c.loop-thread.invariant.waiters;
  ready = c.loop-thread.invariant.ready;
}

pub returns-clause-nexts : goal.returns-clause-nexts
returns-clause-nexts c = known_all c.args.deeds.now (counted (rows_of c.args.waiting.now.rows.items)) c.args.done.now c.args.emptied c.loop-thread.next.items c.loop-thread.left c.loop-thread.invariant.count c.in_default.ensures c.loop-thread.invariant.known
