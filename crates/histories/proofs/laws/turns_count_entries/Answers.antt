use Rattle.histories.proofs.Counting.{turns-count}
use Rattle.histories.proofs.laws.turns_count_entries.Goals as goal

pub returns : goal.returns
returns c = turns-count
