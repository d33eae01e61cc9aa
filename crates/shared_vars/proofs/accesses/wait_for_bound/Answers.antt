use Rattle.shared_rule.specs.Passes.{view_of}
use Rattle.shared_vars.proofs.Loading.{waiting_still}
use Rattle.shared_vars.proofs.accesses.wait_for_bound.Goals as goal

pub loop-preserved : goal.loop-preserved
loop-preserved g c =
    let load = c.in-None-load_number.ensures.step in
    record {
      iterator = (tt, tt);
      pass = c.load_number.ensures.pass;
      waiting = waiting_still c.args.cell load.0 (view_of c.args.pass.now) (view_of c.loop.pass) (view_of c.load_number.new.pass) c.loop.invariant.waiting load.1.view load.2;
    }
