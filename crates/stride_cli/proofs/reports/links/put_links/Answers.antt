use Rattle.std.proofs.Common.{◌+◌, [], arith, drop, get_or, length}
use Rattle.std.proofs.lemmas.List.Sums.{sum_by_more}
use Rattle.stride_cli.specs.Reports.{link_lines, links_lines}
use Rattle.stride_cli.proofs.Lines.{links_lines-next, one_line}
use Rattle.stride_cli.proofs.reports.links.put_links.Goals as goal

pub loop-thread-preserved : goal.loop-thread-preserved
loop-thread-preserved g c =
    let rows = c.args.links.now in
    let t = c.loop-thread.thread in
    let sum = sum_by_more length c.args.traces.now.events t [] (omega (arith, c.loop-thread-test.true, c.threads-thread-end.ensures.count)) in
    record {
      lines =
          one_line c.loop-thread.report.items (link_lines t 0 (get_or rows t [])) (links_lines (t + 1) (drop (t + 1) rows)) (links_lines t (drop t rows)) _ c.put_thread_links.new.report.items
          c.in_ok-put_thread_links.ensures.lines (links_lines-next t rows (omega (arith, c.loop-thread-test.true, c.threads-thread-end.ensures.count, c.requires.threads))) c.loop-thread.invariant.lines;
      looks = omega (arith, sum, c.in_ok-put_thread_links.ensures.looks, c.count.ensures.count, c.loop-thread.invariant.looks);
    }
