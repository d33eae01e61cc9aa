use Rattle.histories.proofs.Falling.{strangers-newcomers}
use Rattle.histories.proofs.laws.strangers_are_newcomers.Goals as goal

pub returns : goal.returns
returns c = strangers-newcomers
