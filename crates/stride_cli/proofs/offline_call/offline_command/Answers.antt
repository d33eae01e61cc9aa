use Rattle.std.proofs.Common.{◌∙◌, sym}
use Rattle.stride_cli.specs.LimitsSeen.{limits_seen}
use Rattle.stride_cli.proofs.Demos.{demo_refused, reading_no_demo}
use Rattle.stride_cli.proofs.Refusable.{refused_fits, unread_fits}
use Rattle.stride_cli.proofs.offline_call.offline_command.Goals as goal

pub returns-in-Err-clause-refusals : goal.returns-in-Err-clause-refusals
returns-in-Err-clause-refusals g c = λ name is. unread_fits name c.args.command c.in-Err.error c.unread.result is (sym c.reads_input.ensures ∙ c.in-Err.ensures.fails) c.unread.ensures

pub returns-in-Err-clause-demo_answer : goal.returns-in-Err-clause-demo_answer
returns-in-Err-clause-demo_answer g c = reading_no_demo c.args.command _ (sym c.reads_input.ensures ∙ c.in-Err.ensures.fails)

pub returns-in-Err-clause-demo_within : goal.returns-in-Err-clause-demo_within
returns-in-Err-clause-demo_within g c = reading_no_demo c.args.command _ (sym c.reads_input.ensures ∙ c.in-Err.ensures.fails)

pub returns-in-Err-report_of-clause-refusals : goal.returns-in-Err-report_of-clause-refusals
returns-in-Err-report_of-clause-refusals g c = λ name is. refused_fits (limits_seen c.args.limits) c.in-Ok.bytes.items name c.args.command c.in-Err-report_of.refusal c.into_status.result is c.into_status.ensures c.in-Err-report_of.ensures.answer

pub returns-in-Err-report_of-clause-demo_answer : goal.returns-in-Err-report_of-clause-demo_answer
returns-in-Err-report_of-clause-demo_answer g c =
    demo_refused (limits_seen c.args.limits) c.args.command c.in-Ok.bytes.items (g.K.Sink.held c.args.sink.now) c.in-Err-report_of.refusal c.into_status.result c.into_status.ensures c.in-Err-report_of.ensures.answer
