use Rattle.std.proofs.lemmas.Result.{err_from_is_err_and}
use Rattle.log_format.specs.Reading.{letters_at}
use Rattle.log_format.proofs.Loops.{letters-go_on, letters-end, letters-done}
use Rattle.log_format.proofs.parts.after_letters.Goals as goal

pub returns-in_err-rest : goal.returns-in_err-rest
returns-in_err-rest c =
    let p = err_from_is_err_and c.from_residual.result c.from_residual.ensures.1 in
    rw (p.1, p.2) (letters-end c.in_err-rest.field-0.0 c.args.wanted.now c.loop-want.want-index c.loop-want.rest.now (letters_at c.args.wanted.now c.args.bytes.now) c.loop-want-test.true c.in_err-rest.ensures c.loop-want.invariant)

pub loop-want-preserved : goal.loop-want-preserved
loop-want-preserved c =
    letters-go_on c.args.wanted.now c.loop-want.want-index c.loop-want.rest.now c.in_ok-rest.rest.now (letters_at c.args.wanted.now c.args.bytes.now) c.loop-want-test.true c.in_ok-rest.ensures c.loop-want.invariant

pub returns : goal.returns
returns c =
    letters-done c.args.wanted.now c.loop-want.want-index c.loop-want.rest.now (letters_at c.args.wanted.now c.args.bytes.now) c.loop-want-test.false c.loop-want.invariant
