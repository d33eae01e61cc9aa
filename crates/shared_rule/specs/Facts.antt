-- The laws of histories on which the rule stands, together.
use Rattle.histories.specs.Laws.{NamesStay, NothingFalls, NumbersCountWrites, StrangersAreNewcomers, TurnsCountEntries}

pub record HistoriesKeep : Type 0 where
  pub names : NamesStay
  pub grown : NothingFalls
  pub numbers : NumbersCountWrites
  pub strangers : StrangersAreNewcomers
  pub turns : TurnsCountEntries
