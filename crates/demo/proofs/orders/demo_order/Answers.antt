use Rattle.std.proofs.Common.{refl}
use Rattle.demo.specs.Demo.{demo_order, even_part, threads_of}
use Rattle.demo.proofs.orders.demo_order.Goals as goal

pub returns-clause-is : goal.returns-clause-is
unfolding demo_order even_part threads_of
returns-clause-is c =
    rw (c.push_even.ensures.items, c.push_drawn.ensures.items, c.in_ok-reserve.ensures.items, c.new-order.ensures.items, c.turns-turns.ensures.is, c.thread_count-threads.ensures.is) refl

pub returns-clause-named : goal.returns-clause-named
returns-clause-named c = rw (returns-clause-is c) (c.demo_orders_name_threads.ensures c.args.number)
