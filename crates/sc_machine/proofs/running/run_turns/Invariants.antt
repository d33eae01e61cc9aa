use Rattle.std.proofs.Common.{◌≡◌, ◌+◌, ◌-◌, ◌*◌, ◌≤◌, None, length}
use Rattle.stride_isa.specs.Limits.{stack_limit}
use Rattle.sc_machine.specs.Limits.{line_limit}
use Rattle.sc_machine.specs.Running.{going}
use Rattle.sc_machine.specs.ThreadRunInside.{IsRun}
use Rattle.sc_machine.specs.ThreadStep.{settled}
use Rattle.sc_machine.specs.TurnsInARow.{beside}
use Rattle.sc_machine.proofs.Turning.{Turning}
use Rattle.sc_machine.proofs.running.run_turns.Given as goal

-- the thread took the turns so far and settles from here where it then stands, and room is left for what it may print
abbrev pub invariant-instructions : goal.invariant-instructions
invariant-instructions l = record {
  run : IsRun l.task.program.now l.task.thread l.task.fuel l.at.pc l.at.top.depth l.at.made None;
  turning : Turning l.task.program.now l.task.fuel l.task.thread l.limit l.left
      (beside l.initial.cells l.initial.holders (settled l.task.program.now l.task.fuel l.task.thread (going l.initial.at l.initial.words l.initial.locals l.initial.held l.initial.out.items)))
      (going l.at l.words l.locals l.held l.out.items) l.cells l.holders;
  made : l.initial.at.made ≤ l.at.made;
  spare : line_limit * (l.task.fuel - l.at.made) ≤ l.out.spare;
  used : l.out.spare + length l.out.items ≡ l.initial.out.spare + length l.initial.out.items;
  whole : length l.words ≡ stack_limit;
  long : length l.cells ≡ length l.initial.cells;
  monitors : length l.holders ≡ length l.initial.holders;
}

abbrev pub decreases-instructions : goal.decreases-instructions
decreases-instructions l = l.task.fuel - l.at.made
