use Rattle.stride_cli.proofs.Accepted.{check_refused_by}
use Rattle.stride_cli.proofs.input.accept.Goals as goal

pub returns-in-Err : goal.returns-in-Err
returns-in-Err c =
    check_refused_by c.args.text.now c.in_ok-program.program c.in-Err.error c.refused_by_check.result c.in_ok-program.ensures c.in-Err.ensures.refused c.refused_by_check.ensures
