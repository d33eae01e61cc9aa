use Rattle.std.proofs.Common.{◌≡◌, ◌++◌, drop, map}
use Rattle.stride_cli.specs.Reports.{logs_lines, logs_section}
use Rattle.stride_cli.proofs.reports.logs.put_logs.Given as goal

-- what was put and the logs that are left are the start and the whole section
abbrev pub invariant-loop-thread : goal.invariant-loop-thread
invariant-loop-thread l =
    l.report.items ++ logs_lines l.thread (map (λ log. log.items) (drop l.thread l.logs)) ≡ l.fn.report.items ++ logs_section (map (λ log. log.items) l.logs)
