use Rattle.std.proofs.Common.{ℕ, List, sym, subst}
use Rattle.replayer.specs.Replays.{IsRunOf, seen}
use Rattle.stride_cli.specs.Inferring.{SchedulesEvents}
use Rattle.stride_cli.proofs.recorded.play_recorded.Goals as goal

pub replay_events-requires : goal.replay_events-requires
replay_events-requires g c =
    let P : List ℕ → Type 0 = λ schedule. SchedulesEvents c.args.traces.now schedule in
    record {
      traces = c.args.traces.now;
      again = (c.requires.0, c.requires.1.again);
      scheduled = subst P (sym c.as_slice.ensures) (c.in_ok-order.order.links, c.in_ok-order.ensures.ordered);
    }

pub returns-clause-played : goal.returns-clause-played
returns-clause-played g c =
    let P : List ℕ → Type 0 = λ schedule. IsRunOf c.args.program.now c.args.limits.fuel schedule (seen c.in_ok-played.played) in
    record { ordered = c.in_ok-order.ensures.ordered; run = subst P c.as_slice.ensures c.in_ok-played.ensures.run }
