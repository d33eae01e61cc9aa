use Rattle.std.proofs.Common.{◌≡◌, ◌++◌, ◌∷◌, []}
use Rattle.std.proofs.lemmas.Result.{err_from_is_err_and}
use Rattle.std.proofs.lemmas.List.{map_push}
use Rattle.log_format.specs.Bundles.{lists_of}
use Rattle.log_format.specs.Reading.{logs_at}
use Rattle.log_format.proofs.Loops.{logs-go_on, logs-end, logs-done}
use Rattle.log_format.proofs.logs.logs_at.Goals as goal

pub returns-in_err-log : goal.returns-in_err-log
returns-in_err-log c =
    let p = err_from_is_err_and c.from_residual-in_err-log.result c.from_residual-in_err-log.ensures.1 in
    rw (p.1, p.2) (logs-end c.args.version c.args.fuel (lists_of c.loop.logs.items) c.args.threads c.loop.counter c.loop.rest.now (logs_at c.args.version c.args.fuel c.args.threads c.args.bytes.now) c.in_err-log.field-0.0 c.loop-test.true c.in_err-log.ensures c.loop.invariant)

pub loop-preserved : goal.loop-preserved
loop-preserved c =
    let log = c.in_ok-log.log in
    let e : lists_of c.push.new.self.items ≡ lists_of c.loop.logs.items ++ log.items ∷ [] = rw c.in_ok-push.ensures.items (map_push _ c.loop.logs.items log) in
    rw e (logs-go_on c.args.version c.args.fuel (lists_of c.loop.logs.items) c.args.threads c.loop.counter c.loop.rest.now (logs_at c.args.version c.args.fuel c.args.threads c.args.bytes.now) log.items c.in_ok-log.after.now c.loop-test.true c.in_ok-log.ensures c.loop.invariant)

pub returns : goal.returns
returns c = logs-done c.args.version c.args.fuel (lists_of c.loop.logs.items) c.args.threads c.loop.counter c.loop.rest.now (logs_at c.args.version c.args.fuel c.args.threads c.args.bytes.now) c.loop-test.false c.loop.invariant
