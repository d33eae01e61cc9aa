use Rattle.std.proofs.Common.{◌≡◌, ◌∙◌, ap, arith, length}
use Rattle.std.proofs.lemmas.List.FromFn.{length-map-range_with_len}
use Rattle.stride_isa.specs.Listing.{instruction_count}
use Rattle.demo.specs.Demo.{code_of, demo_program, thread_count, threads_of}
use Rattle.demo.proofs.CodeLemmas.{instruction_count-workers, length-worker, program_of-more}
use Rattle.demo.proofs.programs.listed.Goals as goal

pub add_code-requires-clause-thread : goal.add_code-requires-clause-thread
add_code-requires-clause-thread c =
    omega (arith, ap (λ p. length p.threads) c.loop-thread.invariant, length-map-range_with_len (code_of c.args.number) 0 c.loop-thread.thread)

pub add_code-requires-clause-room : goal.add_code-requires-clause-room
add_code-requires-clause-room c =
    let long = ap length c.worker-code.ensures ∙ length-worker c.rounds_of.result c.amount_of.result in
    omega (arith, long, ap (λ p. instruction_count p.threads) c.loop-thread.invariant, instruction_count-workers c.args.number 0 c.loop-thread.thread)

pub loop-thread-preserved : goal.loop-thread-preserved
loop-thread-preserved c =
    let code : c.worker-code.result ≡ code_of c.args.number c.loop-thread.thread = cc (c.rounds_of.ensures.is, c.amount_of.ensures) in
    program_of-more c.args.number c.loop-thread.thread c.loop-thread.program c.add_code.new.program c.worker-code.result c.loop-thread.invariant code c.in_ok-add_code.ensures

pub returns : goal.returns
unfolding demo_program threads_of
returns c =
    let e : c.loop-thread.thread ≡ thread_count c.args.number = omega arith in rw e at c.loop-thread.invariant
