use Rattle.std.proofs.Common.{◌≡◌, ap, refl}
use Rattle.stride_cli.specs.Answers.{AnswersLinks, done}
use Rattle.stride_cli.specs.Inferring.{Inferred, Ordered}
use Rattle.stride_cli.specs.Reports.{infer_report}
use Rattle.stride_cli.proofs.Bundles.{to_events}
use Rattle.stride_cli.proofs.commands.infer.infer_bundle.Goals as goal

pub returns-clause-answer : goal.returns-clause-answer
returns-clause-answer g c =
    let rerun = c.in_ok-rerun.rerun in
    let order = c.in_ok-order.order in
    let inferred : Inferred = record { links = order.links; schedule = order.schedule.items } in
    let report : c.put_schedule.new.report.items ≡ infer_report order.links order.schedule.items =
    rw (c.in_ok-put_schedule.ensures, c.in_ok-put_links.ensures.section, c.new-report.ensures.items, c.as_slice.ensures) refl in
    to_events AnswersLinks c.args.bytes.items rerun.program rerun.fuel rerun.traces (Ordered inferred) (done c.put_schedule.new.report.items) c.in_ok-rerun.ensures.rerun c.in_ok-order.ensures.ordered (ap done report)
