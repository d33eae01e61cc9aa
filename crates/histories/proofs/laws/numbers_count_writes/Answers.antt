use Rattle.histories.proofs.Counting.{numbers-count}
use Rattle.histories.proofs.laws.numbers_count_writes.Goals as goal

pub returns : goal.returns
returns c = numbers-count
