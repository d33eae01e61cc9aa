use Rattle.std.proofs.Common.{refl}
use Rattle.std.proofs.lemmas.Result.{err_from_is_err_and}
use Rattle.interleavings.specs.Following.{follow_all}
use Rattle.log_format.specs.Bundles.{bundled, lists_of}
use Rattle.thread_rerun.specs.Rerunning.{rerun_seen}
use Rattle.stride_cli.specs.Answers.{AnswersLinks, AnswersRun}
use Rattle.stride_cli.proofs.Bundles.{lent_refused, again_ok, rerun_refused}
use Rattle.stride_cli.proofs.LeastRuns.{events_few}
use Rattle.stride_cli.proofs.inferring.rerun_bundle.Goals as goal

pub returns-in_err-program-clause-infer : goal.returns-in_err-program-clause-infer
returns-in_err-program-clause-infer c =
    let exact = rw c.as_slice-all.ensures at c.in_ok-bundle.ensures.exact in
    let p = err_from_is_err_and c.from_residual-in_err-program.result c.from_residual-in_err-program.ensures.1 in
    rw (p.1, p.2)
    (lent_refused AnswersLinks c.args.bytes.items (bundled c.in_ok-bundle.bundle) c.as_slice-text.result.now c.in_err-program.field-0.0 exact c.as_slice-text.ensures c.in_err-program.ensures)

pub returns-in_err-program-clause-replay : goal.returns-in_err-program-clause-replay
returns-in_err-program-clause-replay c =
    let exact = rw c.as_slice-all.ensures at c.in_ok-bundle.ensures.exact in
    let p = err_from_is_err_and c.from_residual-in_err-program.result c.from_residual-in_err-program.ensures.1 in
    rw (p.1, p.2)
    (lent_refused AnswersRun c.args.bytes.items (bundled c.in_ok-bundle.bundle) c.as_slice-text.result.now c.in_err-program.field-0.0 exact c.as_slice-text.ensures c.in_err-program.ensures)

pub returns-in_err-rerun-clause-infer : goal.returns-in_err-rerun-clause-infer
returns-in_err-rerun-clause-infer c =
    let exact = rw c.as_slice-all.ensures at c.in_ok-bundle.ensures.exact in
    let p = err_from_is_err_and c.from_residual-in_err-rerun.result c.from_residual-in_err-rerun.ensures.1 in
    let accepted = rw c.as_slice-text.ensures at c.in_ok-program.ensures in
    rw (p.1, p.2)
    (rerun_refused AnswersLinks c.args.bytes.items (bundled c.in_ok-bundle.bundle) c.in_ok-program.program c.in_err-rerun.field-0.0 exact accepted.0 accepted.1 c.in_err-rerun.ensures)

pub returns-in_err-rerun-clause-replay : goal.returns-in_err-rerun-clause-replay
returns-in_err-rerun-clause-replay c =
    let exact = rw c.as_slice-all.ensures at c.in_ok-bundle.ensures.exact in
    let p = err_from_is_err_and c.from_residual-in_err-rerun.result c.from_residual-in_err-rerun.ensures.1 in
    let accepted = rw c.as_slice-text.ensures at c.in_ok-program.ensures in
    rw (p.1, p.2)
    (rerun_refused AnswersRun c.args.bytes.items (bundled c.in_ok-bundle.bundle) c.in_ok-program.program c.in_err-rerun.field-0.0 exact accepted.0 accepted.1 c.in_err-rerun.ensures)

pub returns-clause-rerun : goal.returns-clause-rerun
returns-clause-rerun c =
    let exact = rw c.as_slice-all.ensures at c.in_ok-bundle.ensures.exact in
    let bundle = c.in_ok-bundle.bundle in
    let accepted = rw c.as_slice-text.ensures at c.in_ok-program.ensures in
    let within = c.in_ok-bundle.ensures.spelled.1.0.within in
    let again = again_ok c.in_ok-program.program (follow_all c.in_ok-program.program bundle.fuel (lists_of bundle.logs.items)) (rerun_seen c.in_ok-rerun.rerun) c.in_ok-rerun.ensures in
    record {
      bundle = bundled bundle;
      reads = exact;
      program = accepted.0;
      valid = accepted.1;
      fuel_is = refl;
      some = within.some_fuel;
      most = within.fuel;
      all = again.0;
      follows = again.1.0;
      traces_are = again.1.1;
      kept = c.threads.ensures.kept;
    }

pub returns-clause-few : goal.returns-clause-few
returns-clause-few c = events_few _ c.threads.ensures.kept
