use Rattle.std.proofs.Common.{◌≡◌, ◌+◌, ◌≤◌, length}
use Rattle.std.specs.List.{slice_index_or}
use Rattle.stride_base.specs.declared.limits.TheConstants.{INPUT_LIMIT}
use Rattle.assembler.specs.CodeLines.{ahead}
use Rattle.assembler.specs.Programs.{forms_in}
use Rattle.assembler.proofs.code_lines.line_in_thread.Given as goal

-- the instruction that is looked for is so many instructions ahead
abbrev pub invariant-loop-bytes : goal.invariant-loop-bytes
invariant-loop-bytes l =
    (slice_index_or (ahead l.number (forms_in l.rest)).code l.left l.begins ≡ slice_index_or (ahead (l.begins + 1) (forms_in l.text)).code l.instruction l.begins) × (l.number + length l.rest ≤ INPUT_LIMIT + 1)

abbrev pub decreases-loop-bytes : goal.decreases-loop-bytes
decreases-loop-bytes l = length l.rest
