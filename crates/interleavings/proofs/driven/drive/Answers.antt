use Rattle.std.proofs.Common.{◌≡◌, ℕ, None, sym, subst, arith}
use Rattle.interleavings.specs.Recording.{Setting}
use Rattle.interleavings.specs.Driving.{advance_all, begun, driven}
use Rattle.interleavings.specs.Driving.{settle_all, stranger}
use Rattle.interleavings.specs.DrivenSeen.{recording_seen}
use Rattle.interleavings.proofs.Strangers.{all_known}
use Rattle.interleavings.proofs.Ending.{follow_may, settle_may, settled_shows, whole_driven}
use Rattle.interleavings.proofs.FewLogs.{few_logs}
use Rattle.interleavings.proofs.driven.drive.Goals as goal

pub follow-requires-clause-known : goal.follow-requires-clause-known
follow-requires-clause-known c = λ place lt.
    omega (arith, all_known c.threads.result c.args.order.now (sym c.in_default.ensures) place lt, c.threads.ensures.count, c.in_ok-sim.ensures.count)

pub follow-requires-clause-goes : goal.follow-requires-clause-goes
follow-requires-clause-goes c =
    let g : Setting = record { program = c.args.program.now; fuel = c.args.fuel; patience = c.args.patience } in
    follow_may g c.args.order.now c.in_ok-sim.sim c.in_ok-sim.sim c.in_ok-sim.sim c.in_ok-sim.ensures c.requires.short

pub settle-requires : goal.settle-requires
settle-requires c =
    let g : Setting = record { program = c.args.program.now; fuel = c.args.fuel; patience = c.args.patience } in
    settle_may g c.args.order.now c.in_ok-sim.sim c.follow.new.self c.follow.new.self c.in_ok-sim.ensures c.requires.short c.requires.limit (subst (λ (n : ℕ). stranger n c.args.order.now ≡ None) c.threads.ensures.count (sym c.in_default.ensures)) c.in_ok-follow.ensures

pub recorded-requires : goal.recorded-requires
recorded-requires c =
    let g : Setting = record { program = c.args.program.now; fuel = c.args.fuel; patience = c.args.patience } in
    (settled_shows g c.args.order.now c.in_ok-sim.sim c.follow.new.self c.settle.new.self c.in_ok-sim.ensures c.in_ok-follow.ensures c.in_ok-settle.ensures).whole

pub returns-clause-recording : goal.returns-clause-recording
returns-clause-recording c =
    let g : Setting = record { program = c.args.program.now; fuel = c.args.fuel; patience = c.args.patience } in
    whole_driven g c.args.order.now c.in_ok-sim.sim c.follow.new.self c.settle.new.self c.in_ok-sim.ensures (recording_seen c.in_ok-recorded.field-0)
    (c.in_ok-recorded.ensures g (settle_all g (advance_all g c.args.order.now (begun g)))
    (settled_shows g c.args.order.now c.in_ok-sim.sim c.follow.new.self c.settle.new.self c.in_ok-sim.ensures c.in_ok-follow.ensures c.in_ok-settle.ensures))

pub returns-clause-few : goal.returns-clause-few
returns-clause-few c =
    let g : Setting = record { program = c.args.program.now; fuel = c.args.fuel; patience = c.args.patience } in
    let is : recording_seen c.in_ok-recorded.field-0 ≡ driven g c.args.order.now =
    whole_driven g c.args.order.now c.in_ok-sim.sim c.follow.new.self c.settle.new.self c.in_ok-sim.ensures (recording_seen c.in_ok-recorded.field-0)
    (c.in_ok-recorded.ensures g (settle_all g (advance_all g c.args.order.now (begun g)))
    (settled_shows g c.args.order.now c.in_ok-sim.sim c.follow.new.self c.settle.new.self c.in_ok-sim.ensures c.in_ok-follow.ensures c.in_ok-settle.ensures)) in
    few_logs g c.args.order.now c.in_ok-recorded.field-0 is (omega (arith, c.threads.ensures.count, c.threads.ensures.small))
