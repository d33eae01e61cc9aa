use Rattle.std.proofs.Common.{◌≤◌, ◌+◌, Option, Some, IfSome, sym, subst}
use Rattle.stride_cli.specs.declared.words.Command.{Command}
use Rattle.stride_cli.specs.Answers.{AnswersBy, AnswersDemo}
use Rattle.stride_cli.specs.Looks.{demo_looks, most_looks}
use Rattle.stride_cli.specs.Settings.{Limits, limits_of}
use Rattle.stride_cli.specs.Telling.{OnDemo, TellsBy}
use Rattle.stride_cli.proofs.offline_call.offline_by.Goals as goal

pub returns-in-Some-clause-answer : goal.returns-in-Some-clause-answer
returns-in-Some-clause-answer g c =
    let Told : Limits → Option Command → Type 0 = λ limits named. IfSome (g.S.Source.left c.args.source.now) (λ bytes. TellsBy (AnswersBy limits named bytes) (g.K.Sink.held c.args.sink.now) (g.K.Sink.held c.offline_command.new.sink) c.offline_command.result) in
    let P : Limits → Type 0 = λ limits. Told limits (Some c.in-Some.command) in
    let Q : Option Command → Type 0 = λ named. Told (limits_of c.args.settings) named in
    subst Q c.in-Some.ensures (subst P c.of.ensures c.offline_command.ensures.answer)

pub returns-in-Some-clause-looks : goal.returns-in-Some-clause-looks
returns-in-Some-clause-looks g c =
    let Looked : Limits → Option Command → Type 0 = λ limits named. IfSome (g.S.Source.left c.args.source.now) (λ bytes. c.offline_command.new.steps ≤ c.args.steps.now + most_looks limits named bytes) in
    let P : Limits → Type 0 = λ limits. Looked limits (Some c.in-Some.command) in
    let Q : Option Command → Type 0 = λ named. Looked (limits_of c.args.settings) named in
    subst Q c.in-Some.ensures (subst P c.of.ensures c.offline_command.ensures.looks)

pub returns-in-Some-clause-refusals : goal.returns-in-Some-clause-refusals
returns-in-Some-clause-refusals g c = c.offline_command.ensures.refusals c.args.settings.command (sym c.in-Some.ensures)

pub returns-in-Some-clause-demo_answer : goal.returns-in-Some-clause-demo_answer
returns-in-Some-clause-demo_answer g c =
    let P : Option Command → Type 0 = λ named. OnDemo named (λ number. TellsBy (AnswersDemo number) (g.K.Sink.held c.args.sink.now) (g.K.Sink.held c.offline_command.new.sink) c.offline_command.result) in
    subst P c.in-Some.ensures c.offline_command.ensures.demo_answer

pub returns-in-Some-clause-demo_within : goal.returns-in-Some-clause-demo_within
returns-in-Some-clause-demo_within g c =
    let P : Option Command → Type 0 = λ named. OnDemo named (λ number. c.offline_command.new.steps ≤ c.args.steps.now + demo_looks number) in
    subst P c.in-Some.ensures c.offline_command.ensures.demo_within
