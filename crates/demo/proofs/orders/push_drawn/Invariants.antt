use Rattle.std.proofs.Common.{◌≡◌, ◌+◌, ◌*◌, ◌<◌, ◌++◌, map}
use Rattle.std.specs.List.{range_with_len}
use Rattle.demo.specs.Demo.{drawn_thread, place_of}
use Rattle.demo.specs.Draws.{draw, draw_bound}
use Rattle.demo.proofs.orders.push_drawn.Given as goal

abbrev pub invariant-loop : goal.invariant-loop
invariant-loop l = record {
  small : l.draw < draw_bound;
  drawn : l.draw ≡ draw l.number (1 + 2 * l.threads + l.counter);
  items : l.order.items ≡ l.initial.order.items ++ map (drawn_thread l.number) (range_with_len (place_of l.threads) l.counter);
  spare : l.order.spare + l.counter ≡ l.initial.order.spare;
}
