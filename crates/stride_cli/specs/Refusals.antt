-- How the refusals of the layers below are told. Only private clauses cite this module.
use Rattle.std.specs.Prelude.{ℕ, List, length, slice_index}
use Rattle.stride_base.specs.declared.input_error.InputError.{InputError}
use Rattle.stride_base.specs.declared.input_error.InputError.TheVariants as inputs
use Rattle.stride_isa.specs.declared.check_error.CheckError.{CheckError}
use Rattle.stride_isa.specs.declared.check_error.CheckError.TheVariants as checks
use Rattle.assembler.specs.CodeLines.{code_line}
use Rattle.assembler.specs.declared.asm_error.AsmError.{AsmError}
use Rattle.assembler.specs.declared.asm_error.AsmError.TheVariants as texts
use Rattle.interleavings.specs.declared.driven.DriveError.{DriveError}
use Rattle.interleavings.specs.declared.driven.DriveError.TheVariants as drives
use Rattle.log_format.specs.declared.format_error.FormatError.{FormatError}
use Rattle.log_format.specs.declared.format_error.FormatError.TheVariants as formats
use Rattle.replayer.specs.declared.replay_error.ReplayError.{ReplayError}
use Rattle.replayer.specs.declared.replay_error.ReplayError.TheVariants as replays
use Rattle.thread_rerun.specs.declared.rerun_error.RerunError.{RerunError}
use Rattle.thread_rerun.specs.declared.rerun_error.RerunError.TheVariants as reruns
use Rattle.linkage.specs.declared.link_error.LinkError.{LinkError}
use Rattle.linkage.specs.declared.link_error.LinkError.TheVariants as links
use Rattle.event_order.specs.declared.order_error.OrderError.{OrderError}
use Rattle.event_order.specs.declared.order_error.OrderError.TheVariants as orders
use Rattle.stride_isa.specs.Listing.{Listing}
use Rattle.stride_cli.specs.Answers.{member_fault}
use Rattle.stride_cli.specs.declared.refusal.Refusal.{Refusal}
use Rattle.stride_cli.specs.declared.refusal.Refusal.TheVariants.{Program, Bundle, Diverges, NoLinkage, NotEnabled, NoMemory}
use Rattle.stride_cli.specs.declared.status.LinkageFault.TheVariants as faults
use Rattle.stride_cli.specs.declared.status.MemberFault.TheVariants.{NoThread}
use Rattle.stride_cli.specs.declared.status.ProgramFault.TheVariants.{Text, Code}
use Rattle.stride_cli.specs.declared.status.Status.{Status}
use Rattle.stride_cli.specs.declared.status.Status.TheVariants as statuses

-- an input that can't be read
abbrev pub of_input : InputError → Status
of_input inputs.ReadFault = statuses.ReadFault
of_input inputs.TooLong = statuses.TooLong
of_input inputs.NoMemory = statuses.NoMemory

-- a refused text or order
abbrev pub of_text : AsmError → Refusal
of_text (texts.Bad kind line) = Program (Text kind line)
of_text texts.NoMemory = NoMemory

-- a refused program, which this text spells
abbrev pub of_check : List ℕ → CheckError → Refusal
of_check text (checks.Bad kind thread instruction) = Program (Code kind (code_line text thread instruction) thread instruction)
of_check text checks.NoMemory = NoMemory

-- a refused schedule of the program; what the member names tells why it is refused
abbrev pub of_replay : Listing → List ℕ → ReplayError → Refusal
of_replay p order (replays.NotEnabled place) = NotEnabled place (member_fault (length p.threads) (slice_index order place))
of_replay p order replays.NoMemory = NoMemory

-- a refused order of atomic steps
abbrev pub of_drive : DriveError → Refusal
of_drive (drives.NoSuchThread place) = NotEnabled place NoThread
of_drive drives.NoMemory = NoMemory

-- a refused bundle
abbrev pub of_format : FormatError → Refusal
of_format (formats.Bad kind offset) = Bundle kind offset
of_format formats.NoMemory = NoMemory

-- a thread that diverges from its log
abbrev pub of_rerun : RerunError → Refusal
of_rerun (reruns.Diverges thread place) = Diverges thread place
of_rerun reruns.NoMemory = NoMemory

-- events that can't be linked
abbrev pub of_link : LinkError → Refusal
of_link (links.TwiceWritten cell number) = NoLinkage (faults.TwiceWritten cell number)
of_link (links.WriteGap cell number) = NoLinkage (faults.WriteGap cell number)
of_link (links.TwiceTurned monitor turn) = NoLinkage (faults.TwiceTurned monitor turn)
of_link (links.TurnGap monitor turn) = NoLinkage (faults.TurnGap monitor turn)
of_link (links.BoundTooLarge at) = NoLinkage (faults.BoundTooLarge at)
of_link (links.NoEqualWrite at) = NoLinkage (faults.NoEqualWrite at)
of_link (links.UpdateMismatch at) = NoLinkage (faults.UpdateMismatch at)
of_link links.NoMemory = NoMemory

-- events that have no order
abbrev pub of_order : OrderError → Refusal
of_order (orders.Cycle places) = NoLinkage (faults.Cycle places)
of_order orders.NoMemory = NoMemory

-- the status of a refusal of a command that has read its input
abbrev pub status_of : Refusal → Status
status_of (Program fault) = statuses.Program fault
status_of (Bundle kind offset) = statuses.Bundle kind offset
status_of (Diverges thread place) = statuses.Diverges thread place
status_of (NoLinkage fault) = statuses.NoLinkage fault
status_of (NotEnabled place fault) = statuses.NotEnabled place fault
status_of NoMemory = statuses.NoMemory
