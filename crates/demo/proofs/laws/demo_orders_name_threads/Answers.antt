use Rattle.demo.proofs.OrderLemmas.{demo_orders_named}
use Rattle.demo.proofs.laws.demo_orders_name_threads.Goals as goal

pub returns : goal.returns
returns c = demo_orders_named
