use Rattle.std.proofs.Common.{ap, arith, length-take, take}
use Rattle.stride_isa.specs.Listing.{instruction_count}
use Rattle.demo.proofs.CodeLemmas.{instruction_count-with_code, with_code-more}
use Rattle.demo.proofs.programs.add_code.Goals as goal

pub add_op-requires-clause-room : goal.add_op-requires-clause-room
add_op-requires-clause-room c =
    let part = take c.loop-op.op-index c.args.code.now in
    omega (arith, ap (λ p. instruction_count p.threads) c.loop-op.invariant, instruction_count-with_code c.args.program.now part, length-take c.loop-op.op-index c.args.code.now)

pub loop-op-preserved : goal.loop-op-preserved
loop-op-preserved c =
    with_code-more c.args.program.now c.loop-op.program c.add_op.new.program c.args.code.now c.loop-op.op-index _ c.loop-op-test.true c.loop-op.invariant c.in_ok-add_op.ensures
