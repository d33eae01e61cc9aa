use Rattle.std.proofs.Common.{◌≡◌, ◌++◌, ℕ, length, map}
use Rattle.std.specs.Vec.Iter.{into_iter_items, into_iter_len}
use Rattle.stride_base.specs.Listed.{Listed}
use Rattle.sc_machine.specs.StandingThread.{Standing}
use Rattle.sc_machine.specs.ThreadStep.{end_of}
use Rattle.interleavings.proofs.results.end_all.Given as goal

-- the ends and the outputs so far, and those of the threads that are left
abbrev pub invariant-loop-thread : goal.invariant-loop-thread
invariant-loop-thread l =
    (l.ends.items ++ map (λ (s : Standing). end_of s.state) (into_iter_items l.thread-iterator) ≡ map (λ (s : Standing). end_of s.state) l.fn.threads.items)
    × (map (λ (output : Listed ℕ). output.items) l.outputs.items ++ map (λ (s : Standing). s.state.out) (into_iter_items l.thread-iterator) ≡ map (λ (s : Standing). s.state.out) l.fn.threads.items)
    × (into_iter_len l.thread-iterator ≡ length (into_iter_items l.thread-iterator))
