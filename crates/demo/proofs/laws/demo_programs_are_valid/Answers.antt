use Rattle.demo.proofs.ProgramLemmas.{demo_programs_valid}
use Rattle.demo.proofs.laws.demo_programs_are_valid.Goals as goal

pub returns : goal.returns
returns c = demo_programs_valid
