use Rattle.std.specs.Bool.{MatchBool}
use Rattle.std.proofs.Common.{[], ◌≡◌, ◌≤◌, ◌+◌, IfSome, None}
use Rattle.command_words.specs.Words.{IsNoLine}
use Rattle.stride_cli.specs.Answers.{AnswersDemo, AnswersSettings}
use Rattle.stride_cli.specs.Looks.{OnUnlinking, demo_looks, most_looks}
use Rattle.stride_cli.specs.Refusable.{CanEnd}
use Rattle.stride_cli.specs.Settings.{limits_of}
use Rattle.stride_cli.specs.Telling.{OnDemo, OnDone, TellsBy}
use Rattle.stride_cli.specs.Words.{named_reads, offline_named}
use Rattle.stride_cli.proofs.Readings.{in_range, no_line_answer, no_line_refused, of_reading, refused_line}
use Rattle.stride_cli.proofs.offline_call.offline.Goals as goal

pub offline_by-requires : goal.offline_by-requires
offline_by-requires g c = in_range _ c.in-Ok.settings c.in-Ok.ensures

pub returns-in-Ok-clause-usage : goal.returns-in-Ok-clause-usage
returns-in-Ok-clause-usage g c =
    refused_line c.one_reading.ensures _ c.in-Ok.settings (λ settings. offline_named settings.command ≡ None) c.offline_by.result c.in-Ok.ensures c.offline_by.ensures.usage

pub returns-in-Ok-clause-end : goal.returns-in-Ok-clause-end
returns-in-Ok-clause-end g c =
    of_reading c.one_reading.ensures _ (λ settings. MatchBool (named_reads None (offline_named settings.command)) (OnDone c.offline_by.result (IfSome (g.S.Source.left c.offline_by.new.source) (λ rest. rest ≡ []))) (c.offline_by.new.source ≡ c.args.source.now)) c.in-Ok.settings c.in-Ok.ensures c.offline_by.ensures.end

pub returns-in-Ok-clause-refusals : goal.returns-in-Ok-clause-refusals
returns-in-Ok-clause-refusals g c = of_reading c.one_reading.ensures _ (λ settings. CanEnd settings.command c.offline_by.result) c.in-Ok.settings c.in-Ok.ensures c.offline_by.ensures.refusals

pub returns-in-Ok-clause-demo_answer : goal.returns-in-Ok-clause-demo_answer
returns-in-Ok-clause-demo_answer g c =
    of_reading c.one_reading.ensures _ (λ settings. OnDemo (offline_named settings.command) (λ number. TellsBy (AnswersDemo number) (g.K.Sink.held c.args.sink.now) (g.K.Sink.held c.offline_by.new.sink) c.offline_by.result)) c.in-Ok.settings c.in-Ok.ensures c.offline_by.ensures.demo_answer

pub returns-in-Ok-clause-demo_within : goal.returns-in-Ok-clause-demo_within
returns-in-Ok-clause-demo_within g c =
    of_reading c.one_reading.ensures _ (λ settings. OnDemo (offline_named settings.command) (λ number. c.offline_by.new.steps ≤ c.args.steps.now + demo_looks number)) c.in-Ok.settings c.in-Ok.ensures c.offline_by.ensures.demo_within

pub returns-in-Ok-clause-uncounted : goal.returns-in-Ok-clause-uncounted
returns-in-Ok-clause-uncounted g c =
    of_reading c.one_reading.ensures _ (λ settings. OnUnlinking (offline_named settings.command) (c.offline_by.new.steps ≡ c.args.steps.now)) c.in-Ok.settings c.in-Ok.ensures c.offline_by.ensures.uncounted

pub returns-in-Ok-clause-looks : goal.returns-in-Ok-clause-looks
returns-in-Ok-clause-looks g c =
    of_reading c.one_reading.ensures _ (λ settings. IfSome (g.S.Source.left c.args.source.now) (λ bytes. c.offline_by.new.steps ≤ c.args.steps.now + most_looks (limits_of settings) (offline_named settings.command) bytes)) c.in-Ok.settings c.in-Ok.ensures c.offline_by.ensures.looks

pub returns-in-Err-Usage-clause-answer : goal.returns-in-Err-Usage-clause-answer
returns-in-Err-Usage-clause-answer g c = no_line_answer AnswersSettings _ (g.S.Source.left c.args.source.now) (rw c.in-Err-Usage.field-0-is at c.in-Err-Usage.ensures)

pub returns-in-Err-Usage-clause-usage : goal.returns-in-Err-Usage-clause-usage
returns-in-Err-Usage-clause-usage g c = no_line_refused _ (λ settings. offline_named settings.command ≡ None) (rw c.in-Err-Usage.field-0-is at c.in-Err-Usage.ensures)

pub returns-in-Err-Usage-clause-end : goal.returns-in-Err-Usage-clause-end
returns-in-Err-Usage-clause-end g c =
    let none : IsNoLine _ = rw c.in-Err-Usage.field-0-is at c.in-Err-Usage.ensures in
    λ settings line. absurd (none settings line)

pub returns-in-Ok-clause-refused : goal.returns-in-Ok-clause-refused
returns-in-Ok-clause-refused g c = λ none. absurd (none c.in-Ok.settings c.in-Ok.ensures)

pub returns-in-Err-Usage-clause-demo_answer : goal.returns-in-Err-Usage-clause-demo_answer
returns-in-Err-Usage-clause-demo_answer g c =
    let none : IsNoLine _ = rw c.in-Err-Usage.field-0-is at c.in-Err-Usage.ensures in
    λ settings line. absurd (none settings line)
