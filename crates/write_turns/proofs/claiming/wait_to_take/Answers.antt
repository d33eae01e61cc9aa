use Rattle.std.proofs.Common.{◌*◌, sym}
use Rattle.std.proofs.lemmas.Bool.{eqb-false}
use Rattle.shared_rule.specs.Passes.{view_of}
use Rattle.write_turns.proofs.Tried.{tried_odd, tried_lost}
use Rattle.write_turns.proofs.claiming.wait_to_take.Goals as goal

pub loop-preserved-in-Some-see : goal.loop-preserved-in-Some-see
loop-preserved-in-Some-see g c =
    let saw = c.in-Some-see.ensures.step in
    let claim = c.if-try_claim.ensures.step in
    record {
      iterator = (tt, tt);
      pass = c.try_claim.ensures.pass;
      tried = tried_lost c.args.cell saw.0 c.in-Some-see.seen claim.0 (view_of c.args.pass.now) (view_of c.loop.pass) (view_of c.see.new.pass) (view_of c.try_claim.new.pass) c.requires.ready.idle c.loop.invariant.tried saw.1 saw.2 claim.1
          (eqb-false claim.0 (2 * c.in-Some-see.seen) (sym claim.2));
    }

pub loop-preserved : goal.loop-preserved
loop-preserved g c =
    let saw = c.in-None-see.ensures.step in
    record {
      iterator = (tt, tt);
      pass = c.see.ensures.pass;
      tried = tried_odd c.args.cell saw.0 (view_of c.args.pass.now) (view_of c.loop.pass) (view_of c.see.new.pass) c.requires.ready.idle c.loop.invariant.tried saw.1 saw.2;
    }
