use Rattle.std.proofs.Common.{◌≡◌, ◌++◌, All, take}
use Rattle.std.specs.List.{flat_map}
use Rattle.log_format.specs.Bundles.{IsEntryOf, lists_of}
use Rattle.log_format.specs.Spelling.{log_bytes}
use Rattle.log_format.specs.declared.version.Version.TheVariants.{Two}
use Rattle.log_format.proofs.encoding.put_logs.Given as goal

-- written so far are the logs up to here, whose entries are of version 2
abbrev pub invariant-loop-log : goal.invariant-loop-log
invariant-loop-log l =
    (l.out.items ≡ l.fn.out.items ++ flat_map (log_bytes Two) (lists_of (take l.log-index l.logs)))
    × All (λ log. All (IsEntryOf Two) log.items) (take l.log-index l.logs)
