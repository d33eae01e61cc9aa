use Rattle.std.proofs.Common.{◌≡◌, ◌++◌, drop}
use Rattle.stride_cli.specs.Reports.{log_lines}
use Rattle.stride_cli.proofs.reports.logs.put_log.Given as goal

-- what was put and the lines that are left are the start and the whole log
abbrev pub invariant-loop-entry : goal.invariant-loop-entry
invariant-loop-entry l = l.report.items ++ log_lines l.thread (drop l.entry-index l.log) ≡ l.fn.report.items ++ log_lines l.thread l.log
