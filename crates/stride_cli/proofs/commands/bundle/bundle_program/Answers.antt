use Rattle.std.proofs.Common.{refl}
use Rattle.std.proofs.lemmas.Result.{err_from_is_err_and}
use Rattle.stride_cli.specs.LimitsSeen.{limits_seen}
use Rattle.stride_cli.specs.declared.words.Live.TheVariants.{Bundle as Bundling}
use Rattle.stride_cli.proofs.LivePrograms.{lent_refused}
use Rattle.stride_cli.proofs.commands.bundle.bundle_program.Goals as goal

pub returns-in_err-program : goal.returns-in_err-program
returns-in_err-program g c =
    let p = err_from_is_err_and c.from_residual.result c.from_residual.ensures.1 in
    rw (p.1, p.2) (lent_refused (limits_seen c.args.limits) Bundling refl c.args.bytes.items c.as_slice-given.result.now c.in_err-program.field-0.0 c.as_slice-given.ensures c.in_err-program.ensures)
