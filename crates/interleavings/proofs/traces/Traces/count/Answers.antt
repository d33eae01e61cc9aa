use Rattle.std.proofs.Common.{◌≤◌, List, length, arith}
use Rattle.stride_isa.specs.Limits.{fuel_limit}
use Rattle.interleavings.specs.declared.event.Event.{Event}
use Rattle.interleavings.proofs.TraceLemmas.{each_read}
use Rattle.interleavings.proofs.traces.Traces.count.Goals as goal

pub overflow_cast-result : goal.overflow_cast-result
overflow_cast-result c =
    let there = rw (← c.self.view_is) at c.requires in
    omega (arith, each_read (λ (events : List Event). length events ≤ fuel_limit) c.self.inside.events.items c.args.thread c.index.result.now there c.index.ensures c.self.invariant.counts)

pub returns-clause-small : goal.returns-clause-small
returns-clause-small c =
    let there = rw (← c.self.view_is) at c.requires in
    omega (arith, each_read (λ (events : List Event). length events ≤ fuel_limit) c.self.inside.events.items c.args.thread c.index.result.now there c.index.ensures c.self.invariant.counts)
