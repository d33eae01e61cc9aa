use Rattle.stride_cli.proofs.Recordings.{Laws, not_refused}
use Rattle.stride_cli.proofs.recorded.order_recorded.Goals as goal

pub unreachable-requires : goal.unreachable-requires
unreachable-requires g c =
    let laws : Laws = record {
      range = c.followed_are_in_range.ensures;
      events = c.recordings_are_histories.ensures;
      linked = c.histories_are_linked.ensures;
      ordered = c.histories_are_ordered.ensures;
    } in
    not_refused laws c.requires.0 c.args.program.now c.requires.1.0 c.args.traces.now c.requires.1.1 _ (rw c.in-Err-NoLinkage.field-0-is at c.in-Err-NoLinkage.ensures.refused)
