-- The exit statuses.
use Rattle.std.specs.Prelude.{ℕ}
use Rattle.stride_cli.specs.declared.status.LinkageFault.{LinkageFault}
use Rattle.stride_cli.specs.declared.status.LinkageFault.TheVariants as faults
use Rattle.stride_cli.specs.declared.status.Status.{Status}
use Rattle.stride_cli.specs.declared.status.Status.TheVariants.{Done, Usage, ReadFault, TooLong, Program, Bundle, Diverges, NoLinkage, NotEnabled, WriteFault, NoMemory}

-- the exit status
abbrev pub code_of : Status → ℕ
code_of Done = 0
code_of Usage = 1
code_of ReadFault = 2
code_of TooLong = 3
code_of (Program fault) = 4
code_of (Bundle kind offset) = 5
code_of (Diverges thread place) = 6
code_of (NoLinkage fault) = 7
code_of (NotEnabled place fault) = 8
code_of WriteFault = 9
code_of NoMemory = 10

-- a fault of linkage without where its list lies in memory
abbrev pub fault_seen : LinkageFault → LinkageFault
fault_seen (faults.TwiceWritten cell number) = faults.TwiceWritten cell number
fault_seen (faults.WriteGap cell number) = faults.WriteGap cell number
fault_seen (faults.TwiceTurned monitor turn) = faults.TwiceTurned monitor turn
fault_seen (faults.TurnGap monitor turn) = faults.TurnGap monitor turn
fault_seen (faults.BoundTooLarge at) = faults.BoundTooLarge at
fault_seen (faults.NoEqualWrite at) = faults.NoEqualWrite at
fault_seen (faults.UpdateMismatch at) = faults.UpdateMismatch at
fault_seen (faults.Cycle places) = faults.Cycle (record { items = places.items; spare = 0 })
