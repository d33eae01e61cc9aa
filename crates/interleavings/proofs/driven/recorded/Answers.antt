use Rattle.std.proofs.Common.{◌∙◌, ap, map}
use Rattle.interleavings.specs.declared.activity.Activity.{Activity}
use Rattle.interleavings.specs.Events.{log_of}
use Rattle.interleavings.proofs.Ending.{recorded_parts}
use Rattle.interleavings.proofs.driven.recorded.Goals as goal

pub returns : goal.returns
returns c = λ g d shows.
    recorded_parts g c.args.sim d (record { logs = c.in_ok-logs.logs; outputs = c.in_ok-ends.outputs; ends = c.in_ok-ends.ends; last_values = c.in_ok-last_values.last_values }) shows
    (c.in_ok-logs.ensures ∙ ap (map (λ (activity : Activity). log_of activity.events)) c.deref.ensures.value)
    c.in_ok-ends.ensures.outputs
    c.in_ok-ends.ensures.ends
    c.in_ok-last_values.ensures
