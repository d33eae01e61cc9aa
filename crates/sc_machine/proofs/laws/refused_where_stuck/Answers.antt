use Rattle.sc_machine.proofs.Refusals.{refused_place-stuck}
use Rattle.sc_machine.proofs.laws.refused_where_stuck.Goals as goal

pub returns : goal.returns
returns c = refused_place-stuck
