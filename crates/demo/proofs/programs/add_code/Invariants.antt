use Rattle.std.proofs.Common.{◌≡◌, take}
use Rattle.demo.specs.Program.{with_code}
use Rattle.demo.proofs.programs.add_code.Given as goal

abbrev pub invariant-loop-op : goal.invariant-loop-op
invariant-loop-op l = l.program ≡ with_code l.fn.program (take l.op-index l.code)
