use Rattle.std.proofs.Common.{ℕ, length, refl, ap, length-append, arith}
use Rattle.stride_base.specs.Listed.{Listed}
use Rattle.sc_machine.specs.ThreadStep.{settled}
use Rattle.sc_machine.proofs.Inside.{enough_for, room_for, is_run_after_going, spent, unspent}
use Rattle.sc_machine.proofs.RanOn.{length-operands, settled-going, settled-ending, stayed, is_run_ended, is_run_standing}
use Rattle.sc_machine.proofs.Turning.{is_run_after_passing, passes_on, stays_ended, stays_still, turning_begins, turning_goes, turning_ran}
use Rattle.sc_machine.proofs.running.run_turns.Goals as goal

pub execute-requires-clause-enough : goal.execute-requires-clause-enough
execute-requires-clause-enough c =
    enough_for _ _ _ _ _ _ c.op-op.ensures.is (length-operands _ _ (omega arith)) (c.op-op.ensures.fine _ c.instructions.invariant.run.reaches)

pub execute-requires-clause-room : goal.execute-requires-clause-room
execute-requires-clause-room c =
    room_for _ _ _ _ _ _ c.op-op.ensures.is (length-operands _ _ (omega arith)) (c.op-op.ensures.fine _ c.instructions.invariant.run.reaches)

pub instructions-init : goal.instructions-init
instructions-init c = record {
  run = c.requires.run;
  turning = turning_begins _ _ _ _ _ _ _;
  made = omega arith;
  spare = c.requires.spare;
  used = refl;
  whole = c.told-words;
  long = refl;
  monitors = refl;
}

pub returns-then-at-task-clause-ran : goal.returns-then-at-task-clause-ran
returns-then-at-task-clause-ran c =
    turning_ran _ _ _ _ _ _ _ _ _
    (turning_goes _ _ _ _ _ _ _ _ _ c.instructions.invariant.turning _ _ _
    (settled-going _ _ _ _ _ _ _ _ _ _ c.op-op.ensures.is (c.instructions.invariant.run.going refl) c.in-Goes.ensures.done (spent _ _ c.if-at-task.true))
    c.in-Goes.ensures.done.cells_same c.in-Goes.ensures.done.holders_same)
    _ _ _ refl refl (λ some. stays_ended _ _ _ _)

pub returns-then-at-task-clause-run : goal.returns-then-at-task-clause-run
returns-then-at-task-clause-run c =
    is_run_after_going _ _ _ _ _ _ _ _ _ _ _ _ _ _ _ _ _ c.instructions.invariant.run (length-operands _ _ (omega arith)) (length-operands _ _ (omega arith)) c.op-op.ensures.is (c.op-op.ensures.fine _ c.instructions.invariant.run.reaches) c.in-Goes.ensures.done.made (spent _ _ c.if-at-task.true)

pub instructions-preserved-else-at-task : goal.instructions-preserved-else-at-task
instructions-preserved-else-at-task c = record {
  run = is_run_after_going _ _ _ _ _ _ _ _ _ _ _ _ _ _ _ _ _ c.instructions.invariant.run (length-operands _ _ (omega arith)) (length-operands _ _ (omega arith)) c.op-op.ensures.is (c.op-op.ensures.fine _ c.instructions.invariant.run.reaches) c.in-Goes.ensures.done.made (unspent _ _ _ refl c.if-at-task.false);
  turning = turning_goes _ _ _ _ _ _ _ _ _ c.instructions.invariant.turning _ _ _
      (settled-going _ _ _ _ _ _ _ _ _ _ c.op-op.ensures.is (c.instructions.invariant.run.going refl) c.in-Goes.ensures.done (unspent _ _ _ refl c.if-at-task.false))
      c.in-Goes.ensures.done.cells_same c.in-Goes.ensures.done.holders_same;
  made = omega arith;
  spare = omega (arith, c.in-Goes.ensures.done.made.room, c.in-Goes.ensures.done.made.few);
  used = omega (arith, c.in-Goes.ensures.done.made.room, ap length c.in-Goes.ensures.done.made.printed, length-append {A = ℕ});
  whole = c.execute.array_long;
  long = omega arith;
  monitors = omega arith;
}

pub returns-then-at-task-2-clause-ran : goal.returns-then-at-task-2-clause-ran
returns-then-at-task-2-clause-ran c =
    turning_ran _ _ _ _ _ _ _ _ _
    (passes_on _ _ _ _ _ _ _ _ _ _ c.op-op.ensures.is (rw c.number-thread.ensures at c.in-Passes.ensures.done) (spent _ _ c.if-at-task-2.true) _ _ c.instructions.invariant.turning)
    _ _ _ refl refl (λ some. stays_ended _ _ _ _)

pub returns-then-at-task-2-clause-run : goal.returns-then-at-task-2-clause-run
returns-then-at-task-2-clause-run c =
    is_run_after_passing _ _ _ _ _ _ _ _ _ _ c.op-op.ensures.is (rw c.number-thread.ensures at c.in-Passes.ensures.done) (spent _ _ c.if-at-task-2.true) _ _ c.instructions.invariant.run (length-operands _ _ (omega arith)) (length-operands _ _ (omega arith)) (c.op-op.ensures.fine _ c.instructions.invariant.run.reaches)

pub instructions-preserved : goal.instructions-preserved
instructions-preserved c =
    let passed = rw c.number-thread.ensures at c.in-Passes.ensures.done in
    record {
      run = is_run_after_passing _ _ _ _ _ _ _ _ _ _ c.op-op.ensures.is passed (unspent _ _ _ refl c.if-at-task-2.false) _ _ c.instructions.invariant.run (length-operands _ _ (omega arith)) (length-operands _ _ (omega arith)) (c.op-op.ensures.fine _ c.instructions.invariant.run.reaches);
      turning = passes_on _ _ _ _ _ _ _ _ _ _ c.op-op.ensures.is passed (unspent _ _ _ refl c.if-at-task-2.false) _ _ c.instructions.invariant.turning;
      made = omega arith;
      spare = omega (arith, ap (λ (out : Listed ℕ). out.spare) c.in-Passes.ensures.done.out_same);
      used = omega (arith, ap (λ (out : Listed ℕ). out.spare) c.in-Passes.ensures.done.out_same, ap (λ (out : Listed ℕ). length out.items) c.in-Passes.ensures.done.out_same);
      whole = c.execute.array_long;
      long = omega arith;
      monitors = omega arith;
    }

pub returns-in-Ends-clause-ran : goal.returns-in-Ends-clause-ran
returns-in-Ends-clause-ran c =
    turning_ran _ _ _ _ _ _ _ _ _
    (turning_goes _ _ _ _ _ _ _ _ _ c.instructions.invariant.turning _ _ _
    (settled-ending _ _ _ _ _ _ _ _ _ c.op-op.ensures.is (c.instructions.invariant.run.going refl) c.in-Ends.ensures.done)
    c.in-Ends.ensures.done.cells_same c.in-Ends.ensures.done.holders_same)
    _ _ _ refl refl (λ some. stays_ended _ _ _ _)

pub returns-in-Ends-clause-run : goal.returns-in-Ends-clause-run
returns-in-Ends-clause-run c =
    is_run_ended _ _ _ _ _ _ _ _ _ _ _ _ _ _ _ c.instructions.invariant.run (length-operands _ _ (omega arith)) (length-operands _ _ (omega arith)) c.in-Ends.ensures.done.made

pub returns-in-Stands-clause-ran : goal.returns-in-Stands-clause-ran
returns-in-Stands-clause-ran c =
    let p = c.args.task.program.now in
    let alone = c.in-Stands.ensures.done.0 in
    let still = stayed p c.args.task.thread c.instructions.at.pc c.instructions.at.made c.op-op.result.now _ _ c.op-op.ensures.is alone in
    turning_ran _ _ _ _ _ _ _ _ _
    (turning_goes _ _ _ _ _ _ _ _ _ c.instructions.invariant.turning _ _ _ (ap (settled _ _ _) still.same) alone.cells_same alone.holders_same)
    _ _ _ refl still.stands
    (λ some. stays_still _ _ _ _ _ _ still.stop_is alone.holders_same (rw c.number-thread.ensures at (c.in-Stands.ensures.done.1 some)))

pub returns-in-Stands-clause-run : goal.returns-in-Stands-clause-run
returns-in-Stands-clause-run c =
    is_run_standing _ _ _ _ _ _ c.op-op.result.now _ _ _ _ _ _ _ _ c.instructions.invariant.run (length-operands _ _ (omega arith)) (length-operands _ _ (omega arith)) c.in-Stands.ensures.done.0.made
