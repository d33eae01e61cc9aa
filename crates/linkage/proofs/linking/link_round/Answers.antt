use Rattle.std.proofs.Common.{◌+◌, map, arith}
use Rattle.std.proofs.lemmas.List.{map-set}
use Rattle.linkage.proofs.Progress.{gone_in_round, round_begins, round_ends, rows_begin, rows_on}
use Rattle.linkage.proofs.Reaching.{gone_on}
use Rattle.linkage.proofs.linking.link_round.Goals as goal

pub loop-thread-init : goal.loop-thread-init
loop-thread-init g c =
    let traces = c.args.traces.now in
    record {
      finder = c.requires.finder;
      progress = round_begins traces c.args.from c.args.to c.args.misfits.now c.requires.progress;
      rows = rows_begin traces c.args.from c.args.to _ c.requires.rows;
      looks = omega arith;
    }

pub returns-in_err-link_part-clause-looks : goal.returns-in_err-link_part-clause-looks
returns-in_err-link_part-clause-looks g c =
    let traces = c.args.traces.now in
    let t = c.loop-thread.thread in
    omega (arith, gone_on traces c.args.from c.args.to t (omega arith), gone_in_round traces c.args.from c.args.to (t + 1) c.requires.order, c.link_part.ensures.looks, c.loop-thread.invariant.looks)

pub loop-thread-preserved : goal.loop-thread-preserved
loop-thread-preserved g c =
    let traces = c.args.traces.now in
    let t = c.loop-thread.thread in
    record {
      finder = c.in_ok-link_part.ensures.finder;
      progress = c.in_ok-link_part.ensures.progress;
      rows = rw map-set (rows_on traces c.args.from c.args.to t (map (λ row. row.items) c.loop-thread.rows.items) c.link_part.new.row.items (omega arith) c.loop-thread.invariant.rows c.in_ok-link_part.ensures.row);
      looks = omega (arith, gone_on traces c.args.from c.args.to t (omega arith), c.link_part.ensures.looks, c.loop-thread.invariant.looks);
    }

pub returns-clause-progress : goal.returns-clause-progress
returns-clause-progress g c =
    round_ends c.args.traces.now c.args.from c.args.to c.loop-thread.misfits c.loop-thread.thread (omega arith) c.loop-thread.invariant.progress
