use Rattle.std.proofs.Common.{ℕ, List, Err, ap, map, sym, subst, ◌∙◌, arith}
use Rattle.std.proofs.lemmas.List.{length-map}
use Rattle.stride_base.specs.Listed.{Listed}
use Rattle.interleavings.specs.declared.event.LogEntry.{LogEntry}
use Rattle.thread_rerun.specs.Shows.{AtThread}
use Rattle.thread_rerun.proofs.Threads.{starts, room, more, fails, no_log, log_left, all_run}
use Rattle.thread_rerun.proofs.rerunning.rerun.Goals as goal

abbrev items : Listed LogEntry → List LogEntry
items log = log.items

pub loop-thread-init : goal.loop-thread-init
loop-thread-init c =
    starts c.args.program.now c.args.fuel _ (record { traces = c.in_ok-new.field-0; outputs = c.new-2.result; ends = c.new-3.result }) c.in_ok-new.ensures (ap (map (λ out. out.items)) c.new-2.ensures.items) c.new-3.ensures.items

pub returns-in_default : goal.returns-in_default
returns-in_default c =
    no_log c.args.program.now c.args.fuel (map items c.args.logs.now.items) c.loop-thread.thread c.loop-thread.rerun c.loop-thread.invariant (omega (arith, c.loop-thread-test.true, c.threads-threads.ensures.count)) (omega (arith, c.in_default.ensures.none, length-map c.args.logs.now.items items))

pub rerun_thread-requires-clause-room : goal.rerun_thread-requires-clause-room
rerun_thread-requires-clause-room c = room c.args.program.now c.args.fuel (map items c.args.logs.now.items) c.loop-thread.thread c.loop-thread.rerun c.loop-thread.invariant (omega (arith, c.loop-thread-test.true, c.threads-threads.ensures.count)) c.each_cell_starts.ensures

pub returns-in_err-rerun_thread : goal.returns-in_err-rerun_thread
returns-in_err-rerun_thread c =
    fails c.args.program.now c.args.fuel (map items c.args.logs.now.items) c.loop-thread.thread c.loop-thread.rerun c.loop-thread.invariant (omega (arith, c.loop-thread-test.true, c.threads-threads.ensures.count))
    c.in-Some.log.now (omega (arith, c.in-Some.ensures.some, length-map c.args.logs.now.items items)) c.in-Some.ensures.log c.rerun_thread.new.rerun c.in_err-rerun_thread.field-0.0 c.from_residual-in_err-rerun_thread.result c.in_err-rerun_thread.ensures c.from_residual-in_err-rerun_thread.ensures.1

pub loop-thread-preserved : goal.loop-thread-preserved
loop-thread-preserved c =
    more c.args.program.now c.args.fuel (map items c.args.logs.now.items) c.loop-thread.thread c.loop-thread.rerun c.loop-thread.invariant (omega (arith, c.loop-thread-test.true, c.threads-threads.ensures.count))
    c.in-Some.log.now (omega (arith, c.in-Some.ensures.some, length-map c.args.logs.now.items items)) c.in-Some.ensures.log c.rerun_thread.new.rerun c.in_ok-rerun_thread.ensures

pub returns-then-len-threads : goal.returns-then-len-threads
returns-then-len-threads c =
    log_left c.args.program.now c.args.fuel (map items c.args.logs.now.items) c.loop-thread.rerun
    (subst (λ (t : ℕ). AtThread c.args.program.now c.args.fuel (map items c.args.logs.now.items) t c.loop-thread.rerun) (omega (arith, c.loop-thread-test.false, c.loop-thread.auto.thread-end, c.threads-threads.ensures.count)) c.loop-thread.invariant)
    (omega (arith, c.if-len-threads.true, c.len.ensures.len, c.threads-threads.ensures.count, length-map c.args.logs.now.items items))
    ∙ ap (λ t. Err (record { thread = t; place = 0 })) (sym c.threads-threads.ensures.count)

pub returns : goal.returns
returns c =
    all_run c.args.program.now c.args.fuel (map items c.args.logs.now.items) c.loop-thread.rerun
    (subst (λ (t : ℕ). AtThread c.args.program.now c.args.fuel (map items c.args.logs.now.items) t c.loop-thread.rerun) (omega (arith, c.loop-thread-test.false, c.loop-thread.auto.thread-end, c.threads-threads.ensures.count)) c.loop-thread.invariant)
    (omega (arith, c.if-len-threads.false, c.len.ensures.len, c.threads-threads.ensures.count, length-map c.args.logs.now.items items))
