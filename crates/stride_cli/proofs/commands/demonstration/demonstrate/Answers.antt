use Rattle.std.proofs.Common.{◌≡◌, ◌∙◌, None, ap, sym, length}
use Rattle.std.proofs.lemmas.Result.{IfOk-weaker}
use Rattle.interleavings.specs.Driving.{driven, stranger, whole_run}
use Rattle.log_format.specs.Bundles.{lists_of}
use Rattle.stride_cli.specs.Answers.{setting_of}
use Rattle.stride_cli.specs.LimitsSeen.{limits_seen}
use Rattle.stride_cli.proofs.Demonstrations.{known_members, looks_by, summary_by}
use Rattle.stride_cli.proofs.commands.demonstration.demonstrate.Goals as goal

pub drive_known-requires-clause-known : goal.drive_known-requires-clause-known
drive_known-requires-clause-known g c =
    let named = c.in_ok-order.ensures.named.named in
    rw (c.in_ok-program.ensures.valid.threads, c.as_slice.ensures) (known_members _ c.in_ok-order.order.items named)

pub summarize-requires : goal.summarize-requires
summarize-requires g c =
    let setting = setting_of (limits_seen c.of_demonstrations-limits.result) c.in_ok-program.program in
    let order = c.as_slice.result.now in
    let known : stranger (length c.in_ok-program.program.threads) order ≡ None = rw (c.in_ok-program.ensures.valid.threads, c.as_slice.ensures) (known_members _ c.in_ok-order.order.items c.in_ok-order.ensures.named.named) in
    record {
      recorded = record {
        recording = driven setting order;
        steps = (whole_run setting order).steps;
        logs_are = sym (ap (λ r. r.logs) c.in_ok-driven.ensures);
        history = c.driven_is_a_history.ensures setting order known;
        followed = c.driven_is_followed.ensures setting order known;
      };
    }

pub returns-clause-answer : goal.returns-clause-answer
returns-clause-answer g c =
    IfOk-weaker c.summarize.result _ _
    (λ report told.
    summary_by c.args.number c.in_ok-program.program (limits_seen c.of_demonstrations-limits.result) (lists_of c.in_ok-driven.driven.logs.items) c.args.steps.now c.summarize.new.steps c.in_ok-program.ensures.is c.of_demonstrations-limits.ensures
    c.as_slice.result.now (c.as_slice.ensures ∙ c.in_ok-order.ensures.is) (ap (λ r. r.logs) c.in_ok-driven.ensures) report.items told)
    c.summarize.ensures.told

pub returns-clause-looks : goal.returns-clause-looks
returns-clause-looks g c =
    rw (looks_by c.args.number c.in_ok-program.program (limits_seen c.of_demonstrations-limits.result) (lists_of c.in_ok-driven.driven.logs.items) c.args.steps.now c.summarize.new.steps c.in_ok-program.ensures.is c.of_demonstrations-limits.ensures c.as_slice.result.now
    (c.as_slice.ensures ∙ c.in_ok-order.ensures.is) (ap (λ r. r.logs) c.in_ok-driven.ensures))
    c.summarize.ensures.looks
