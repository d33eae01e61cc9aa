use Rattle.std.proofs.Common.{◌≡◌, ℕ, ◌<◌, true, false}
use Rattle.std.specs.Prelude.{slice_index}
use Rattle.std.specs.List.{slice_index_or}
use Rattle.linkage.specs.Spans.{place_of}
use Rattle.linkage.proofs.turn_marks.are_left.Given as goal

abbrev pub invariant-loop-monitor : goal.invariant-loop-monitor
invariant-loop-monitor l = (monitor turn : ℕ) → monitor < l.monitor → turn < slice_index l.spans.greatest.items monitor → slice_index_or l.left (place_of l.spans monitor turn) false ≡ true

abbrev pub invariant-loop-turn : goal.invariant-loop-turn
invariant-loop-turn l = (turn : ℕ) → turn < l.turn → slice_index_or l.left (place_of l.spans l.monitor turn) false ≡ true
