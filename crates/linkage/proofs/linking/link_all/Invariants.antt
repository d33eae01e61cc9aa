use Rattle.std.proofs.Common.{◌≤◌, ◌+◌, ◌-◌, ◌*◌, map}
use Rattle.linkage.specs.Finding.{IsFinder, look_up_looks}
use Rattle.linkage.specs.Misfitting.{AreRowsUpTo, IsAmongFirst, IsProgress}
use Rattle.linkage.specs.Rounds.{sum_first}
use Rattle.linkage.proofs.linking.link_all.Given as goal

abbrev pub invariant-loop-from : goal.invariant-loop-from
invariant-loop-from g l = record {
  finder : IsFinder l.traces l.finder;
  progress : IsProgress l.traces (IsAmongFirst l.from) l.misfits;
  rows : AreRowsUpTo l.traces l.from (map (λ row. row.items) l.rows.items);
  looks : l.steps ≤ l.initial.steps + (look_up_looks + 1) * sum_first l.from l.traces.events;
}

abbrev pub decreases-loop-from : goal.decreases-loop-from
decreases-loop-from g l = l.longest - l.from
