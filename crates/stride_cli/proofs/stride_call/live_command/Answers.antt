use Rattle.std.proofs.Common.{◌≡◌, ◌∙◌, ◌<◌, Bool, Err, IfSome, ap, sym, subst, length}
use Rattle.stride_base.specs.declared.limits.TheConstants.{INPUT_LIMIT}
use Rattle.stride_cli.specs.Headline.{World}
use Rattle.stride_cli.specs.LimitsSeen.{limits_seen}
use Rattle.stride_cli.specs.Words.{given}
use Rattle.stride_cli.proofs.LiveKept.{done_kept, done_told, unread_kept}
use Rattle.stride_cli.proofs.Refusable.{live_refused_fits, live_unread_fits}
use Rattle.stride_cli.proofs.stride_call.live_command.Goals as goal

pub returns-in-Err-clause-promise : goal.returns-in-Err-clause-promise
returns-in-Err-clause-promise g c =
    let before : World = record { held = g.K.Sink.held c.args.sink.now; sink_faults = g.K.Sink.faults c.args.sink.now; source_faults = g.S.Source.faults c.args.source.now; looks = c.args.steps.now } in
    let after : World = record { held = g.K.Sink.held c.args.sink.now; sink_faults = g.K.Sink.faults c.args.sink.now; source_faults = g.S.Source.faults c.read_bytes.new.source; looks = c.args.steps.now } in
    let Long : Bool → Type 0 = λ reads. IfSome (g.S.Source.left c.args.source.now) (λ bytes. INPUT_LIMIT < length (given reads bytes)) in
    unread_kept (limits_seen c.args.limits) (g.S.Source.left c.args.source.now) before after c.args.command c.in-Err.error c.unread.result c.unread.ensures (sym c.reads_input.ensures ∙ c.in-Err.ensures.fails)
    (λ is. c.in-Err.ensures.read_fault (ap Err is)) (λ is. subst Long c.reads_input.ensures (c.in-Err.ensures.too_long (ap Err is)))

pub returns-in-Err-clause-refusals : goal.returns-in-Err-clause-refusals
returns-in-Err-clause-refusals g c = λ name is. live_unread_fits name c.args.command c.in-Err.error c.unread.result is (sym c.reads_input.ensures ∙ c.in-Err.ensures.fails) c.unread.ensures

pub returns-in-Err-live_report_of-clause-refusals : goal.returns-in-Err-live_report_of-clause-refusals
returns-in-Err-live_report_of-clause-refusals g c = λ name is. live_refused_fits (limits_seen c.args.limits) c.in-Ok.bytes.items name c.args.command c.in-Err-live_report_of.refusal c.into_status.result is c.into_status.ensures c.in-Err-live_report_of.ensures.answer

pub returns-in-Ok-put_all-clause-promise : goal.returns-in-Ok-put_all-clause-promise
returns-in-Ok-put_all-clause-promise g c =
    let before : World = record { held = g.K.Sink.held c.args.sink.now; sink_faults = g.K.Sink.faults c.args.sink.now; source_faults = g.S.Source.faults c.args.source.now; looks = c.args.steps.now } in
    let after : World = record { held = g.K.Sink.held c.put_all.new.sink; sink_faults = g.K.Sink.faults c.put_all.new.sink; source_faults = g.S.Source.faults c.read_bytes.new.source; looks = c.live_report_of.new.steps } in
    let Read : Bool → Type 0 = λ reads. IfSome (g.S.Source.left c.args.source.now) (λ all. c.in-Ok.bytes.items ≡ given reads all) in
    done_kept (limits_seen c.args.limits) (g.S.Source.left c.args.source.now) before after c.in-Ok.bytes.items c.in-Ok-live_report_of.report.items c.as_slice.result.now c.as_slice.ensures c.in-Ok-put_all.ensures.ok c.args.command
    (subst Read c.reads_input.ensures c.in-Ok.ensures.all) c.in-Ok-live_report_of.ensures.run

pub returns-in-Ok-put_all-clause-answer : goal.returns-in-Ok-put_all-clause-answer
returns-in-Ok-put_all-clause-answer g c =
    let Read : Bool → Type 0 = λ reads. IfSome (g.S.Source.left c.args.source.now) (λ all. c.in-Ok.bytes.items ≡ given reads all) in
    done_told (limits_seen c.args.limits) c.args.command (g.S.Source.left c.args.source.now) (g.K.Sink.held c.args.sink.now) (g.K.Sink.held c.put_all.new.sink) c.in-Ok.bytes.items c.in-Ok-live_report_of.report.items c.as_slice.result.now
    (subst Read c.reads_input.ensures c.in-Ok.ensures.all) c.in-Ok.ensures.within c.in-Ok-live_report_of.ensures.answer c.as_slice.ensures c.in-Ok-put_all.ensures.ok

pub returns-in-Ok-put_all-clause-write_fault : goal.returns-in-Ok-put_all-clause-write_fault
returns-in-Ok-put_all-clause-write_fault g c = tt
