use Rattle.std.proofs.Common.{arith, []}
use Rattle.command_words.proofs.Readings.{demo_of_three, demo_of_two}
use Rattle.command_words.proofs.values.command_of.Goals as goal

pub returns-in-demo : goal.returns-in-demo
returns-in-demo c = demo_of_two c.args.positionals.now (record { ref_ptr = (0, 0); now = [] }) c.demo.result (omega arith) (omega arith) c.in-demo.is-demo c.demo.ensures

pub returns-in-demo-2 : goal.returns-in-demo-2
returns-in-demo-2 c =
    demo_of_three c.args.positionals.now (record { ref_ptr = (0, 0); now = [] }) c.demo-in-demo-2.result (omega arith) (omega arith) c.in-demo-2.is-demo c.in-demo-2.is-live
    c.demo-in-demo-2.ensures
