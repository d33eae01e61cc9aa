use Rattle.std.proofs.Common.{◌≤◌, [], length, arith}
use Rattle.std.specs.List.{AllByRecursion}
use Rattle.std.proofs.lemmas.List.{length-replicate}
use Rattle.stride_isa.specs.Limits.{fuel_limit}
use Rattle.interleavings.proofs.TraceLemmas.{each_equal}
use Rattle.interleavings.proofs.traces.Traces.new.Goals as goal

pub invariant_of-result : goal.invariant_of-result
invariant_of-result c =
    rw (c.in_ok-empty_rows.ensures, c.in_ok-starting_values.ensures)
    (record {
      threads = simp length-replicate (omega arith);
      cells = omega (arith, c.each_cell_starts.ensures c.args.program.now.decls, c.facts.ensures.formed.limits.cells);
      monitors = omega arith;
      counts = each_equal (λ events. length events ≤ fuel_limit) c.threads.result [] (omega arith);
      ranges = each_equal (AllByRecursion _) c.threads.result [] tt;
    })
