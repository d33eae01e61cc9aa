use Rattle.std.proofs.Common.{◌≡◌, ◌≤◌, ◌+◌, ◌++◌, drop, length, take}
use Rattle.std.specs.List.{sum_by}
use Rattle.stride_cli.specs.Reports.{links_lines, links_section}
use Rattle.stride_cli.proofs.reports.links.put_links.Given as goal

-- what was put and the lines of the threads that are left are the start and the whole section; a look was taken at each link
-- so far
abbrev pub invariant-loop-thread : goal.invariant-loop-thread
invariant-loop-thread g l = record {
  lines : l.report.items ++ links_lines l.thread (drop l.thread l.links) ≡ l.fn.report.items ++ links_section l.links;
  looks : l.steps ≤ l.initial.steps + sum_by length (take l.thread l.traces.events);
}
