use Rattle.std.proofs.Common.{◌≡◌, ◌+◌, ◌≤◌, ℕ, List, length}
use Rattle.stride_base.specs.declared.limits.TheConstants.{INPUT_LIMIT}
use Rattle.assembler.specs.Labels.{place_of}
use Rattle.assembler.specs.Naming.{position_of}
use Rattle.assembler.specs.Programs.{forms_in, or_else}
use Rattle.assembler.proofs.thread_labels.places_in.Given as goal

abbrev pub invariant-loop-bytes : goal.invariant-loop-bytes
invariant-loop-bytes l =
    ((name : List ℕ) → or_else (position_of l.places name) (place_of name l.position (forms_in l.rest)) ≡ place_of name 0 (forms_in l.text)) × (l.position + length l.rest ≤ INPUT_LIMIT)

abbrev pub decreases-loop-bytes : goal.decreases-loop-bytes
decreases-loop-bytes l = length l.rest
