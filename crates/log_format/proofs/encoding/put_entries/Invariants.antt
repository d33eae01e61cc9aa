use Rattle.std.proofs.Common.{◌≡◌, ◌++◌, All, drop, take}
use Rattle.log_format.specs.Bundles.{IsEntryOf}
use Rattle.log_format.specs.Spelling.{entries_bytes}
use Rattle.log_format.specs.declared.version.Version.TheVariants.{Two}
use Rattle.log_format.proofs.encoding.put_entries.Given as goal

-- what was written, and the entries from here on, are all entries; each up to here is one of version 2
abbrev pub invariant-loop-entry : goal.invariant-loop-entry
invariant-loop-entry l = record {
  written : l.out.items ++ entries_bytes Two l.before (drop l.entry-index l.entries) ≡ l.fn.out.items ++ entries_bytes Two 0 l.entries;
  fit : All (IsEntryOf Two) (take l.entry-index l.entries);
}
