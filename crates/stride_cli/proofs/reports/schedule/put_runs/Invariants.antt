use Rattle.std.proofs.Common.{◌≡◌, ◌≤◌, ◌+◌, ◌++◌, drop}
use Rattle.stride_cli.specs.Reports.{run_lines}
use Rattle.stride_cli.proofs.reports.schedule.put_runs.Given as goal

-- what was put and the lines of the runs that are left, with the turns of this one so far, are the start and all lines
abbrev pub invariant-loop-next : goal.invariant-loop-next
invariant-loop-next l = record {
  lines : l.report.items ++ run_lines l.thread l.count (drop l.next-index l.rest) ≡ l.fn.report.items ++ run_lines l.first 1 l.rest;
  few : l.count ≤ l.next-index + 1;
}
