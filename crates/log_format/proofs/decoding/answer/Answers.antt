use Rattle.log_format.proofs.BundleLaws.{error_is_inside}
use Rattle.log_format.proofs.decoding.answer.Goals as goal

pub told-requires : goal.told-requires
told-requires c = error_is_inside c.args.bytes.now c.in-Err.error c.in-Err.ensures
