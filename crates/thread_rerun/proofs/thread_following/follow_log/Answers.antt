use Rattle.std.proofs.Common.{refl, sym, subst}
use Rattle.interleavings.specs.TraceLists.{TraceLists}
use Rattle.thread_rerun.specs.Shows.{Going}
use Rattle.thread_rerun.proofs.Looping.{begins, falls, goes_on, off, over}
use Rattle.thread_rerun.proofs.thread_following.follow_log.Goals as goal

pub loop-event-init : goal.loop-event-init
loop-event-init c = begins c.args.follower.now c.args.log.now c.args.thread c.args.traces.now c.requires.follower c.requires.place c.requires.few

pub loop-event-smaller : goal.loop-event-smaller
loop-event-smaller c =
    falls c.args.follower.now c.loop-event.follower c.args.log.now c.args.thread c.args.traces.now c.loop-event.traces c.loop-event.invariant c.stop.result c.stop.ensures.stands c.entry_at-next.result c.entry_at-next.ensures c.meet.result c.meet.ensures.met c.event_makes_more.ensures c.in-Makes.event c.in-Makes.ensures.fits c.stop.ensures.fuel_left c.go.new.self c.go.ensures

pub loop-event-preserved : goal.loop-event-preserved
loop-event-preserved c =
    subst (λ (traces : TraceLists). Going c.args.follower.now c.go.new.self c.args.log.now c.args.thread c.args.traces.now traces) (sym c.in_ok-push-in-Makes.ensures.ok)
    (goes_on c.args.follower.now c.loop-event.follower c.args.log.now c.args.thread c.args.traces.now c.loop-event.traces c.loop-event.invariant c.stop.result c.stop.ensures.stands c.entry_at-next.result c.entry_at-next.ensures c.meet.result c.meet.ensures.met c.event_makes_more.ensures c.in-Makes.event c.in-Makes.is c.in-Makes.ensures.fits c.stop.ensures.fuel_left c.requires.thread c.go.new.self c.go.ensures)

pub returns-in-Over : goal.returns-in-Over
returns-in-Over c =
    over c.args.follower.now c.loop-event.follower c.args.log.now c.args.thread c.args.traces.now c.loop-event.traces c.loop-event.invariant c.stop.result c.stop.ensures.stands c.entry_at-next.result c.entry_at-next.ensures c.meet.result c.meet.ensures.met c.in-Over.is

pub returns-in-Off : goal.returns-in-Off
returns-in-Off c =
    (refl, off c.args.follower.now c.loop-event.follower c.args.log.now c.args.thread c.args.traces.now c.loop-event.traces c.loop-event.invariant c.stop.result c.stop.ensures.stands c.entry_at-next.result c.entry_at-next.ensures c.meet.result c.meet.ensures.met c.in-Off.is)
