use Rattle.std.proofs.Common.{◌≡◌, ◌++◌, drop}
use Rattle.stride_cli.specs.Reports.{end_lines, ends_section}
use Rattle.stride_cli.proofs.reports.ends.put_ends.Given as goal

-- what was put and the lines that are left are the start and the whole section
abbrev pub invariant-loop-thread : goal.invariant-loop-thread
invariant-loop-thread l = l.report.items ++ end_lines l.thread (drop l.thread l.ends) ≡ l.fn.report.items ++ ends_section l.ends
