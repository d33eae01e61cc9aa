use Rattle.std.proofs.Common.{◌≡◌, ◌≤◌, ◌+◌, ◌++◌, drop}
use Rattle.linkage.specs.Links.{links_of}
use Rattle.stride_cli.specs.Reports.{link_lines}
use Rattle.stride_cli.proofs.reports.links.put_thread_links.Given as goal

-- what was put and the lines of the links that are left are the start and all lines; a look was taken at each link so far
abbrev pub invariant-loop-place : goal.invariant-loop-place
invariant-loop-place g l = record {
  lines : l.report.items ++ link_lines l.thread l.place (drop l.place (links_of l.links l.thread)) ≡ l.fn.report.items ++ link_lines l.thread 0 (links_of l.links l.thread);
  looks : l.steps ≤ l.initial.steps + l.place;
}
