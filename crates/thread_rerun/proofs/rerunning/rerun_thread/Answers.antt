use Rattle.std.proofs.Common.{refl, ap, map, ◌∙◌}
use Rattle.std.proofs.lemmas.List.{map-append}
use Rattle.thread_rerun.proofs.Appending.{from_start, thread_ends, thread_fails_as}
use Rattle.thread_rerun.specs.Rerunning.{rerun_seen}
use Rattle.thread_rerun.proofs.rerunning.rerun_thread.Goals as goal

pub returns-in_err-follow_log : goal.returns-in_err-follow_log
returns-in_err-follow_log c =
    thread_fails_as c.args.program.now c.args.fuel c.args.thread c.args.log.now c.in_ok-follower.follower c.follow_log.new.follower c.args.rerun.now.traces c.follow_log.new.traces
    (from_start c.args.program.now c.args.fuel c.args.thread c.args.log.now c.in_ok-follower.follower c.in_ok-follower.ensures.thread c.in_ok-follower.ensures.place c.in_ok-follower.ensures.turns)
    c.args.rerun.now (record { traces = c.follow_log.new.traces; outputs = c.args.rerun.now.outputs; ends = c.args.rerun.now.ends }) c.in_err-follow_log.field-0.0 c.from_residual-in_err-follow_log.result c.in_err-follow_log.ensures c.from_residual-in_err-follow_log.ensures.1

pub returns : goal.returns
returns c =
    thread_ends c.args.program.now c.args.fuel c.args.thread c.args.log.now c.in_ok-follower.follower c.follow_log.new.follower c.args.rerun.now.traces c.follow_log.new.traces
    (from_start c.args.program.now c.args.fuel c.args.thread c.args.log.now c.in_ok-follower.follower c.in_ok-follower.ensures.thread c.in_ok-follower.ensures.place c.in_ok-follower.ensures.turns)
    (rerun_seen c.args.rerun.now) (rerun_seen (record { traces = c.follow_log.new.traces; outputs = c.push.new.self; ends = c.push-2.new.self })) c.end-end.result.0 c.end-end.result.1.items refl refl c.in_ok-follow_log.ensures c.end-end.ensures.end
    c.end-end.ensures.printed
    (ap (map (λ l. l.items)) c.in_ok-push.ensures.items ∙ map-append _ _ _)
    c.in_ok-push-2.ensures.items
