use Rattle.std.proofs.Common.{◌+◌, [], ◌∷◌, None, arith, drop, get_or}
use Rattle.linkage.specs.Links.{links_of}
use Rattle.stride_cli.specs.Reports.{link_lines}
use Rattle.stride_cli.proofs.Lines.{link_lines-next, one_line}
use Rattle.stride_cli.proofs.reports.links.put_thread_links.Goals as goal

pub loop-place-preserved : goal.loop-place-preserved
loop-place-preserved g c =
    let row = links_of c.args.links.now c.args.thread in
    let t = c.args.thread in
    let i = c.loop-place.place in
    record {
      lines =
          one_line c.loop-place.report.items (link_lines t i (get_or row i None ∷ [])) (link_lines t (i + 1) (drop (i + 1) row)) (link_lines t i (drop i row)) _ c.put_link.new.report.items
          c.in_ok-put_link.ensures.line (link_lines-next t i row (omega (arith, c.requires.count, c.loop-place-test.true))) c.loop-place.invariant.lines;
      looks = omega (arith, c.in_ok-put_link.ensures.look, c.loop-place.invariant.looks);
    }
