use Rattle.std.proofs.Common.{arith}
use Rattle.linkage.proofs.MarkedTurns.{marked_start, marked_starts}
use Rattle.linkage.proofs.turn_marks.starting_marks.Goals as goal

pub loop-monitor-preserved : goal.loop-monitor-preserved
loop-monitor-preserved c =
    record {
      entered = rw c.place-place.ensures.place (marked_start c.args.traces.now c.args.spans.now c.requires c.loop-monitor.monitor c.loop-monitor.entered.items (omega (arith, c.monitors-monitor-end.ensures.count)) c.loop-monitor.invariant.entered);
      left = rw c.place-place.ensures.place (marked_start c.args.traces.now c.args.spans.now c.requires c.loop-monitor.monitor c.loop-monitor.left.items (omega (arith, c.monitors-monitor-end.ensures.count)) c.loop-monitor.invariant.left);
    }

pub returns : goal.returns
returns c =
    marked_starts c.args.traces.now c.args.spans.now c.requires c.loop-monitor.monitor (record { entered = c.loop-monitor.entered; left = c.loop-monitor.left }) (omega (arith, c.loop-monitor-test.false, c.monitors-monitor-end.ensures.count)) c.loop-monitor.invariant.entered c.loop-monitor.invariant.left
