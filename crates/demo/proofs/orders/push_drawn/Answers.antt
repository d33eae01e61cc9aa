use Rattle.std.proofs.Common.{◌≡◌, ◌+◌, ◌*◌, ◌%◌, ◌∙◌, ap, arith, refl, rules, sym}
use Rattle.demo.specs.Demo.{drawn_part, place_of, thread_count, turns}
use Rattle.demo.specs.Draws.{draw, next_draw}
use Rattle.demo.proofs.DrawLemmas.{draw-more, drawn-more}
use Rattle.demo.proofs.orders.push_drawn.Goals as goal

-- the next draw
next_drawn : (c : goal.After-push_spare) → c.next_draw-draw.result ≡ draw c.args.number (1 + 2 * c.thread_count-threads.result + (c.loop.counter + 1))
next_drawn c =
    let place = 1 + 2 * c.thread_count-threads.result + c.loop.counter in
    c.next_draw-draw.ensures.is ∙ (ap next_draw c.loop.invariant.drawn ∙ (sym (draw-more c.args.number place) ∙ ap (draw c.args.number) (omega arith)))

pub loop-preserved : goal.loop-preserved
loop-preserved c = record {
  small = search rules;
  drawn = next_drawn c;
  items = (
      let first = place_of c.thread_count-threads.result in
      let thread = c.drawn_thread.result in
      let same : thread ≡ draw c.args.number (first + c.loop.counter) % thread_count c.args.number = (
      let drawn : c.next_draw-draw.result ≡ draw c.args.number (first + c.loop.counter) = next_drawn c ∙ ap (draw c.args.number) (omega arith) in
      rw (c.drawn_thread.ensures, drawn, c.thread_count-threads.ensures.is) refl) in
      drawn-more c.args.number first c.loop.counter thread c.args.order.now.items c.loop.order.items c.push_spare.new.self.items c.loop.invariant.items same c.push_spare.ensures.items);
  spare = omega arith;
}

pub returns-clause-items : goal.returns-clause-items
unfolding drawn_part
returns-clause-items c =
    let e : c.loop.counter ≡ turns c.args.number = omega arith in
    rw (e, c.thread_count-threads.ensures.is) at c.loop.invariant.items
