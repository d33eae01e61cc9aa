use Rattle.std.proofs.Common.{◌≡◌, ◌+◌, ◌≤◌, length}
use Rattle.std.specs.List.{slice_index_or}
use Rattle.stride_base.specs.declared.limits.TheConstants.{INPUT_LIMIT}
use Rattle.assembler.specs.CodeLines.{ahead, nowhere, thread_places}
use Rattle.assembler.specs.Programs.{forms_in}
use Rattle.assembler.proofs.code_lines.find_thread.Given as goal

-- the thread that is looked for is so many threads ahead
abbrev pub invariant-loop-bytes : goal.invariant-loop-bytes
invariant-loop-bytes l =
    (slice_index_or (ahead l.number (forms_in l.rest)).threads l.left nowhere ≡ slice_index_or (thread_places l.text) l.thread nowhere) × (l.number + length l.rest ≤ INPUT_LIMIT + 1)

abbrev pub decreases-loop-bytes : goal.decreases-loop-bytes
decreases-loop-bytes l = length l.rest
