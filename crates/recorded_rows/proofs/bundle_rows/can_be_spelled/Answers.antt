use Rattle.std.proofs.Common.{rules, arith, ◌≤◌, length, List}
use Rattle.std.proofs.lemmas.List.{length-map}
use Rattle.std.proofs.lemmas.List.Elements.{All-map, recursion_from_All}
use Rattle.interleavings.specs.declared.event.LogEntry.{LogEntry}
use Rattle.log_format.specs.Bundles.{lists_of}
use Rattle.recorded_rows.proofs.bundle_rows.can_be_spelled.Goals as goal

pub returns-then-len-le-THREAD_LIMIT : goal.returns-then-len-le-THREAD_LIMIT
returns-then-len-le-THREAD_LIMIT c short = record {
  some_fuel = search rules;
  fuel = search rules;
  text = search rules;
  threads = grind (arith, length-map);
  counts = recursion_from_All (λ (log : List LogEntry). length log ≤ c.args.bundle.now.fuel) (lists_of c.args.bundle.now.logs.items)
      (All-map (λ (log : List LogEntry). length log ≤ c.args.bundle.now.fuel) (λ log. log.items) c.args.bundle.now.logs.items (rw c.as_slice.ensures at c.are_short.ensures short));
}
