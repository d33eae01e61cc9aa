use Rattle.stride_cli.proofs.BundlesReplayed.{Laws, bundles_are_replayed as replayed_by}
use Rattle.stride_cli.proofs.laws.bundles_are_replayed.Goals as goal

pub returns : goal.returns
returns c =
    let laws : Laws = record {
      reading = c.one_reading.ensures;
      verdict = c.one_verdict.ensures;
      read = c.spelling_is_read.ensures;
      recorded = record {
        range = c.followed_are_in_range.ensures;
        events = c.recordings_are_histories.ensures;
        linked = c.histories_are_linked.ensures;
        ordered = c.histories_are_ordered.ensures;
      };
      replays = c.recordings_are_runs.ensures.replay;
    } in
    replayed_by laws
