use Rattle.std.proofs.Common.{◌≡◌, map}
use Rattle.std.specs.List.{range_with_len}
use Rattle.demo.specs.Demo.{code_of}
use Rattle.demo.specs.Program.{program_of}
use Rattle.demo.proofs.programs.listed.Given as goal

abbrev pub invariant-loop-thread : goal.invariant-loop-thread
invariant-loop-thread l = l.program ≡ program_of (map (code_of l.number) (range_with_len 0 l.thread))
