use Rattle.std.proofs.Common.{◌≤◌, ◌+◌, ◌*◌, map}
use Rattle.linkage.specs.Finding.{IsFinder, look_up_looks}
use Rattle.linkage.specs.GatherShows.{place_at}
use Rattle.linkage.specs.Misfitting.{AreRowsBetween, IsProgress}
use Rattle.linkage.specs.Rounds.{IsReached, gone_through, sum_first}
use Rattle.linkage.proofs.linking.link_round.Given as goal

abbrev pub invariant-loop-thread : goal.invariant-loop-thread
invariant-loop-thread g l = record {
  finder : IsFinder l.traces l.finder;
  progress : IsProgress l.traces (IsReached l.from l.to (place_at l.thread 0)) l.misfits;
  rows : AreRowsBetween l.traces l.from l.to l.thread (map (λ row. row.items) l.rows.items);
  looks : l.steps + (look_up_looks + 1) * sum_first l.from l.traces.events ≤ l.initial.steps + (look_up_looks + 1) * gone_through l.traces l.from l.to l.thread;
}
