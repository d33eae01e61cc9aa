use Rattle.stride_isa.proofs.TableLemmas.{named_found, named_none}
use Rattle.stride_isa.proofs.op.op_named.Goals as goal

pub returns-clause-found : goal.returns-clause-found
returns-clause-found c = named_found c.args.word.now c.find_named.result c.find_named.ensures

pub returns-clause-none : goal.returns-clause-none
returns-clause-none c = named_none c.args.word.now c.find_named.result c.find_named.ensures
