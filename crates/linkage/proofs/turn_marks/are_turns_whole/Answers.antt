use Rattle.std.proofs.Common.{List, Bool, subst, arith}
use Rattle.linkage.specs.Turns.{AreBelowLeft}
use Rattle.linkage.proofs.MarkedTurns.{marked_fit}
use Rattle.linkage.proofs.turn_marks.are_turns_whole.Goals as goal

pub returns-clause-whole : goal.returns-clause-whole
returns-clause-whole g c =
    λ whole.
    let P : List Bool → Type 0 = λ left. AreBelowLeft c.args.spans.now left in
    marked_fit c.args.traces.now c.args.spans.now c.requires.spans c.loop-thread.thread c.loop-thread.marks (omega (arith, c.loop-thread-test.false, c.threads-thread-end.ensures.count)) c.requires.numbers c.loop-thread.invariant.marked
    (subst P c.as_slice.ensures.value (c.are_left.ensures whole))
