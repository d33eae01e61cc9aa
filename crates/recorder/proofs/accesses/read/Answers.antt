use Rattle.shared_rule.specs.Passes.{view_of}
use Rattle.recorder.proofs.Waiting.{read_later}
use Rattle.recorder.proofs.accesses.read.Goals as goal

pub returns-in-None-clause-event : goal.returns-in-None-clause-event
returns-in-None-clause-event g c =
    let load = c.in-None.ensures.step in
    read_later c.args.cell c.load_value-value.result c.wait_for_bound.result load.0 (view_of c.args.pass.now) (view_of c.load_value-value.new.pass) (view_of c.wait_for_bound.new.pass) c.load_value-value.ensures.step (view_of c.load_number.new.pass) load.1.view load.2 c.wait_for_bound.ensures.waited
