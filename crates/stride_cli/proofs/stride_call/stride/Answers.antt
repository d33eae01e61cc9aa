use Rattle.std.proofs.Common.{◌≡◌, ◌≤◌, ◌+◌, [], IfSome}
use Rattle.std.specs.Bool.{MatchBool}
use Rattle.command_words.specs.Words.{IsNoLine}
use Rattle.stride_cli.specs.Answers.{AnswersDemo}
use Rattle.stride_cli.specs.Headline.{IsDemoKeptBy, IsKeptBy, World}
use Rattle.stride_cli.specs.LiveAnswers.{AnswersLiveSettings}
use Rattle.stride_cli.specs.LiveLooks.{NamedLooks, OnUncounted}
use Rattle.stride_cli.specs.Looks.{demo_looks}
use Rattle.stride_cli.specs.Refusable.{CanEnd}
use Rattle.stride_cli.specs.Settings.{limits_of}
use Rattle.stride_cli.specs.Telling.{OnDemo, OnDone, TellsBy}
use Rattle.stride_cli.specs.Words.{live_named, named_reads, offline_named}
use Rattle.stride_cli.proofs.Readings.{in_range, line_done, no_line_answer, no_line_usage, of_reading}
use Rattle.stride_cli.proofs.stride_call.stride.Goals as goal

pub stride_by-requires-after_bounds : goal.stride_by-requires-after_bounds
stride_by-requires-after_bounds g c κs within = in_range _ c.in-Ok.settings c.in-Ok.ensures

pub returns-in-Ok-clause-headline : goal.returns-in-Ok-clause-headline
returns-in-Ok-clause-headline g c =
    let before : World = record { held = g.K.Sink.held c.args.sink.now; sink_faults = g.K.Sink.faults c.args.sink.now; source_faults = g.S.Source.faults c.args.source.now; looks = c.args.steps.now } in
    let after : World = record { held = g.K.Sink.held c.stride_by.new.sink; sink_faults = g.K.Sink.faults c.stride_by.new.sink; source_faults = g.S.Source.faults c.stride_by.new.source; looks = c.stride_by.new.steps } in
    of_reading c.one_reading.ensures _ (λ settings. IsKeptBy settings (g.S.Source.left c.args.source.now) before after c.stride_by.result) c.in-Ok.settings c.in-Ok.ensures c.stride_by.ensures.promise

pub returns-in-Ok-clause-demo_headline : goal.returns-in-Ok-clause-demo_headline
returns-in-Ok-clause-demo_headline g c =
    let before : World = record { held = g.K.Sink.held c.args.sink.now; sink_faults = g.K.Sink.faults c.args.sink.now; source_faults = g.S.Source.faults c.args.source.now; looks = c.args.steps.now } in
    let after : World = record { held = g.K.Sink.held c.stride_by.new.sink; sink_faults = g.K.Sink.faults c.stride_by.new.sink; source_faults = g.S.Source.faults c.stride_by.new.source; looks = c.stride_by.new.steps } in
    of_reading c.one_reading.ensures _ (λ settings. IsDemoKeptBy settings before after c.stride_by.result) c.in-Ok.settings c.in-Ok.ensures c.stride_by.ensures.demo_promise

pub returns-in-Ok-clause-usage : goal.returns-in-Ok-clause-usage
returns-in-Ok-clause-usage g c = line_done _ c.in-Ok.settings c.stride_by.result c.in-Ok.ensures c.stride_by.ensures.used

pub returns-in-Ok-clause-end : goal.returns-in-Ok-clause-end
returns-in-Ok-clause-end g c =
    of_reading c.one_reading.ensures _ (λ settings. MatchBool (named_reads (live_named settings.command) (offline_named settings.command)) (OnDone c.stride_by.result (IfSome (g.S.Source.left c.stride_by.new.source) (λ rest. rest ≡ []))) (c.stride_by.new.source ≡ c.args.source.now)) c.in-Ok.settings c.in-Ok.ensures c.stride_by.ensures.end

pub returns-in-Ok-clause-refusals : goal.returns-in-Ok-clause-refusals
returns-in-Ok-clause-refusals g c = of_reading c.one_reading.ensures _ (λ settings. CanEnd settings.command c.stride_by.result) c.in-Ok.settings c.in-Ok.ensures c.stride_by.ensures.refusals

pub returns-in-Ok-clause-demo_answer : goal.returns-in-Ok-clause-demo_answer
returns-in-Ok-clause-demo_answer g c =
    of_reading c.one_reading.ensures _ (λ settings. OnDemo (offline_named settings.command) (λ number. TellsBy (AnswersDemo number) (g.K.Sink.held c.args.sink.now) (g.K.Sink.held c.stride_by.new.sink) c.stride_by.result)) c.in-Ok.settings c.in-Ok.ensures c.stride_by.ensures.demo_answer

pub returns-in-Ok-clause-demo_within : goal.returns-in-Ok-clause-demo_within
returns-in-Ok-clause-demo_within g c =
    of_reading c.one_reading.ensures _ (λ settings. OnDemo (offline_named settings.command) (λ number. c.stride_by.new.steps ≤ c.args.steps.now + demo_looks number)) c.in-Ok.settings c.in-Ok.ensures c.stride_by.ensures.demo_within

pub returns-in-Ok-clause-uncounted : goal.returns-in-Ok-clause-uncounted
returns-in-Ok-clause-uncounted g c =
    of_reading c.one_reading.ensures _ (λ settings. OnUncounted (live_named settings.command) (offline_named settings.command) (c.stride_by.new.steps ≡ c.args.steps.now)) c.in-Ok.settings c.in-Ok.ensures c.stride_by.ensures.uncounted

pub returns-in-Ok-clause-looks : goal.returns-in-Ok-clause-looks
returns-in-Ok-clause-looks g c =
    of_reading c.one_reading.ensures _ (λ settings. IfSome (g.S.Source.left c.args.source.now) (λ bytes. NamedLooks (limits_of settings) (live_named settings.command) (offline_named settings.command) bytes c.args.steps.now c.stride_by.new.steps)) c.in-Ok.settings c.in-Ok.ensures c.stride_by.ensures.looks

pub returns-in-Err-Usage-clause-headline : goal.returns-in-Err-Usage-clause-headline
returns-in-Err-Usage-clause-headline g c =
    let none : IsNoLine _ = rw c.in-Err-Usage.field-0-is at c.in-Err-Usage.ensures in
    λ settings line. absurd (none settings line)

pub returns-in-Err-Usage-clause-answer : goal.returns-in-Err-Usage-clause-answer
returns-in-Err-Usage-clause-answer g c = no_line_answer AnswersLiveSettings _ (g.S.Source.left c.args.source.now) (rw c.in-Err-Usage.field-0-is at c.in-Err-Usage.ensures)

pub returns-in-Err-Usage-clause-demo_headline : goal.returns-in-Err-Usage-clause-demo_headline
returns-in-Err-Usage-clause-demo_headline g c =
    let none : IsNoLine _ = rw c.in-Err-Usage.field-0-is at c.in-Err-Usage.ensures in
    λ settings line. absurd (none settings line)

pub returns-in-Err-Usage-clause-usage : goal.returns-in-Err-Usage-clause-usage
returns-in-Err-Usage-clause-usage g c = no_line_usage _ (rw c.in-Err-Usage.field-0-is at c.in-Err-Usage.ensures)

pub returns-in-Err-Usage-clause-end : goal.returns-in-Err-Usage-clause-end
returns-in-Err-Usage-clause-end g c =
    let none : IsNoLine _ = rw c.in-Err-Usage.field-0-is at c.in-Err-Usage.ensures in
    λ settings line. absurd (none settings line)

pub returns-in-Ok-clause-refused : goal.returns-in-Ok-clause-refused
returns-in-Ok-clause-refused g c = λ none. absurd (none c.in-Ok.settings c.in-Ok.ensures)

pub returns-in-Err-Usage-clause-demo_answer : goal.returns-in-Err-Usage-clause-demo_answer
returns-in-Err-Usage-clause-demo_answer g c =
    let none : IsNoLine _ = rw c.in-Err-Usage.field-0-is at c.in-Err-Usage.ensures in
    λ settings line. absurd (none settings line)
