use Rattle.history_laws.proofs.RecordedRuns.{Laws, recordings_have_schedules, schedules_replay_recordings}
use Rattle.history_laws.proofs.laws.recordings_are_runs.Goals as goal

pub returns : goal.returns
returns c =
    let laws : Laws = record {
      starts = c.each_cell_starts.ensures;
      runs = c.extensions_are_runs.ensures;
      range = c.followed_are_in_range.ensures;
      chronicles = c.histories_have_chronicles.ensures;
      orders = c.histories_have_orders.ensures;
      lines = c.outputs_are_lines.ensures;
      events = c.recordings_are_histories.ensures;
      settle = c.starts_settle.ensures;
      steps = c.turns_are_steps.ensures;
    } in
    record { schedule = recordings_have_schedules laws; replay = schedules_replay_recordings laws }
