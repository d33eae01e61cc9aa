use Rattle.std.proofs.Common.{◌≡◌, ◌++◌, drop}
use Rattle.std.specs.List.{flat_map}
use Rattle.assembler.specs.Canonical.{line_of, monitor_words}
use Rattle.assembler.proofs.printing.put_monitors.Given as goal

-- what was written and the lines that are left are the start and all lines
abbrev pub invariant-loop-at : goal.invariant-loop-at
invariant-loop-at l =
    l.text.items ++ flat_map (λ name. line_of (monitor_words name)) (drop l.at l.program.monitors) ≡ l.fn.text.items ++ flat_map (λ name. line_of (monitor_words name)) l.program.monitors
