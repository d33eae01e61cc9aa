use Rattle.std.proofs.Common.{◌∙◌, ap, take}
use Rattle.std.proofs.lemmas.Result.{err_from_is_err_and}
use Rattle.stride_cli.specs.Answers.{AnswersFollowed, AnswersOrder, AnswersSimulated, order_of, program_part}
use Rattle.stride_cli.proofs.Accepted.{lent_refused}
use Rattle.stride_cli.proofs.input.read_input.Goals as goal

pub returns-in_err-program-clause-follow : goal.returns-in_err-program-clause-follow
returns-in_err-program-clause-follow c =
    let p = err_from_is_err_and c.from_residual.result c.from_residual.ensures.1 in
    let same = c.split_at.ensures.front ∙ ap (λ n. take n c.args.bytes.now) (ap (λ s. s.program_end) c.split_order-split.ensures.split) in
    rw (p.1, p.2) (λ limits. lent_refused (program_part c.args.bytes.now) (λ p. AnswersOrder (order_of c.args.bytes.now) (AnswersFollowed limits p)) c.split_at.result.0.now c.in_err-program.field-0.0 same c.in_err-program.ensures)

pub returns-in_err-program-clause-sim : goal.returns-in_err-program-clause-sim
returns-in_err-program-clause-sim c =
    let p = err_from_is_err_and c.from_residual.result c.from_residual.ensures.1 in
    let same = c.split_at.ensures.front ∙ ap (λ n. take n c.args.bytes.now) (ap (λ s. s.program_end) c.split_order-split.ensures.split) in
    rw (p.1, p.2) (λ limits. lent_refused (program_part c.args.bytes.now) (λ p. AnswersOrder (order_of c.args.bytes.now) (AnswersSimulated limits p)) c.split_at.result.0.now c.in_err-program.field-0.0 same c.in_err-program.ensures)
