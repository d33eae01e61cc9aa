use Rattle.std.proofs.Common.{All}
use Rattle.std.proofs.lemmas.List.Elements.{recursion_from_All}
use Rattle.log_format.specs.Bundles.{IsEntryOf}
use Rattle.log_format.specs.declared.version.Version.TheVariants.{Two}
use Rattle.log_format.proofs.Written.{each_fits}
use Rattle.log_format.proofs.encoding.encode.Goals as goal

pub returns-clause-in_range : goal.returns-clause-in_range
returns-clause-in_range c = record {
  within = c.requires;
  bytes = rw c.as_slice.ensures at c.in_ok-put_text.ensures.fit;
  entries = each_fits c.args.bundle.now.logs.items (recursion_from_All (λ log. All (IsEntryOf Two) log.items) c.args.bundle.now.logs.items (rw c.as_slice-2.ensures at c.in_ok-put_logs.ensures.fit));
}
