use Rattle.std.proofs.Common.{◌≡◌, ◌++◌, drop}
use Rattle.std.specs.List.{flat_map}
use Rattle.assembler.specs.Canonical.{line_of, thread_lines}
use Rattle.assembler.proofs.printing.put_threads.Given as goal

-- what was written and the threads that are left are the start and all threads
abbrev pub invariant-loop-thread : goal.invariant-loop-thread
invariant-loop-thread l =
    l.text.items ++ flat_map (λ code. flat_map line_of (thread_lines l.program code)) (drop l.thread l.program.threads) ≡ l.fn.text.items ++ flat_map (λ code. flat_map line_of (thread_lines l.program code)) l.program.threads
