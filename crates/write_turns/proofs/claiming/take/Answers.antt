use Rattle.std.proofs.Common.{◌*◌, sym, subst}
use Rattle.std.proofs.lemmas.Bool.{eqb-false}
use Rattle.shared_rule.specs.Passes.{view_of}
use Rattle.write_turns.proofs.Tried.{HasTried, takes_later, tried_first, tried_lost, tried_odd}
use Rattle.write_turns.proofs.claiming.take.Goals as goal
use Rattle.write_turns.proofs.claiming.take.Goals.{in-Some+else-try_claim, in_default}

pub returns-clause-steps : goal.returns-clause-steps
returns-clause-steps g c =
    let before = view_of c.args.pass.now in
    let tried : HasTried c.args.cell before (view_of c.match-see.pass) = elim c.match-see.branch [
      | in-Some+else-try_claim w ↦
          let saw = w.in-Some.ensures.step in
          let claim = w.if-try_claim.ensures.step in
          subst (λ pass. HasTried c.args.cell before (view_of pass)) (sym w.pass-is)
          (tried_lost c.args.cell saw.0 w.in-Some.seen claim.0 before before (view_of c.see.new.pass) (view_of w.try_claim.new.pass) c.requires.ready.idle (tried_first c.args.cell before) saw.1 saw.2 claim.1
          (eqb-false claim.0 (2 * w.in-Some.seen) (sym claim.2)))
      | in_default w ↦
          let saw = w.in_default.ensures.step in
          subst (λ pass. HasTried c.args.cell before (view_of pass)) (sym w.pass-is)
          (tried_odd c.args.cell saw.0 before before (view_of c.see.new.pass) c.requires.ready.idle (tried_first c.args.cell before) saw.1 saw.2)
    ] in
    takes_later c.args.cell c.wait_to_take.result before (view_of c.match-see.pass) (view_of c.wait_to_take.new.pass) tried c.wait_to_take.ensures.steps
