use Rattle.history_laws.proofs.Recordings.{recorded-history}
use Rattle.history_laws.proofs.laws.recordings_are_histories.Goals as goal

pub returns : goal.returns
returns c = recorded-history c.strangers_are_newcomers.ensures
