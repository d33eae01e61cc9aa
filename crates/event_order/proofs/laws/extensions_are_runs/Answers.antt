use Rattle.event_order.proofs.Starting.{extension-runs}
use Rattle.event_order.proofs.laws.extensions_are_runs.Goals as goal

pub returns : goal.returns
returns c = λ p fuel logs all links places valid some is fits linked extension.
    let range = c.followed_are_in_range.ensures p fuel logs all valid some is in
    extension-runs p fuel logs all links some is fits range linked c.followed_walks.ensures c.exits_end_enters.ensures c.starts_settle.ensures c.replay_along_turns.ensures.made c.turn_by_stop.ensures places extension
