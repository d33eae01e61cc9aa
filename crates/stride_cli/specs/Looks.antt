-- How many looks at events, links and sorted writes a command takes at most.
use Rattle.std.specs.Prelude.{ℕ, ◌+◌, ◌*◌, List, Option, Some, None, Result, Ok, Err}
use Rattle.stride_isa.specs.Limits.{fuel_limit, thread_limit}
use Rattle.stride_isa.specs.Listing.{Listing}
use Rattle.interleavings.specs.Following.{Divergence, Followed, follow_all}
use Rattle.demo.specs.Demo.{demo_program}
use Rattle.log_format.specs.Bundles.{Bundled}
use Rattle.log_format.specs.Reading.{reading, Refusal as FormatRefusal}
use Rattle.assembler.specs.Programs.{LineFault, spelled}
use Rattle.linkage.specs.Sources.{event_count}
use Rattle.event_order.specs.Laws.{traces_of}
use Rattle.interleavings.specs.Driving.{driven}
use Rattle.stride_cli.specs.Answers.{demo_recording, order_of, program_part, setting_of}
use Rattle.stride_cli.specs.Headline.{look_limit}
use Rattle.stride_cli.specs.Settings.{demo_limits, Limits}
use Rattle.stride_cli.specs.declared.refusal.Refusal.{Refusal}
use Rattle.stride_cli.specs.declared.refusal.Refusal.TheVariants as refusals
use Rattle.stride_cli.specs.declared.status.Status.{Status}
use Rattle.stride_cli.specs.declared.status.Status.TheVariants as statuses
use Rattle.stride_cli.specs.declared.words.Command.{Command}
use Rattle.stride_cli.specs.declared.words.Command.TheVariants.{Check, Demo, Follow, Sim, Show, Upgrade, Infer, Replay}

-- linking and ordering so many events, and a look at the link of each, which is printed
abbrev pub printing_looks : ℕ → ℕ
printing_looks events = look_limit events + events

-- the share of threads that were followed, by the number of their events; none where one diverges
abbrev pub followed_looks : (ℕ → ℕ) → Listing → Result (List Followed) Divergence → ℕ
followed_looks share p (Ok all) = share (event_count (traces_of p all))
followed_looks share p (Err divergence) = 0

-- the share of the program of a bundle; none where its text spells none
abbrev pub spelled_looks : (ℕ → ℕ) → Bundled → Result Listing LineFault → ℕ
spelled_looks share bundle (Ok p) = followed_looks share p (follow_all p bundle.fuel bundle.logs)
spelled_looks share bundle (Err fault) = 0

-- the share of a bundle that was read; none where the bytes are no bundle
abbrev pub bundle_looks : (ℕ → ℕ) → Result Bundled FormatRefusal → ℕ
bundle_looks share (Ok bundle) = spelled_looks share bundle (spelled bundle.text)
bundle_looks share (Err refusal) = 0

-- the share of a program with an order: that of the logs that the order gives; none where one of them is not spelled
abbrev pub simulated_looks : Limits → Result (List ℕ) LineFault → Result Listing LineFault → ℕ
simulated_looks limits (Ok order) (Ok p) = followed_looks printing_looks p (follow_all p limits.fuel (driven (setting_of limits p) order).logs)
simulated_looks limits (Ok order) (Err fault) = 0
simulated_looks limits (Err fault) spelling = 0

-- the share of a demonstration: that of the logs of its recording
abbrev pub demo_looks : ℕ → ℕ
demo_looks number = followed_looks look_limit (demo_program number) (follow_all (demo_program number) demo_limits.fuel (demo_recording number).logs)

-- the share of a command
abbrev pub command_looks : Limits → Command → List ℕ → ℕ
command_looks limits Infer bytes = bundle_looks printing_looks (reading bytes)
command_looks limits Replay bytes = bundle_looks look_limit (reading bytes)
command_looks limits Check bytes = 0
command_looks limits Follow bytes = 0
command_looks limits Sim bytes = simulated_looks limits (order_of bytes) (spelled (program_part bytes))
command_looks limits Show bytes = 0
command_looks limits Upgrade bytes = 0
command_looks limits (Demo number) bytes = demo_looks number

-- how many looks the command that is named takes at most on an input
abbrev pub most_looks : Limits → Option Command → List ℕ → ℕ
most_looks limits None bytes = 0
most_looks limits (Some command) bytes = command_looks limits command bytes

-- the greatest share of any command on any input: that of as many events as all threads of a program have fuel
abbrev pub greatest_looks : ℕ
greatest_looks = printing_looks (thread_limit * fuel_limit)

-- a fact where the command links nothing
abbrev pub OnUnlinking : Option Command → Type 0 → Type 0
OnUnlinking None fact = fact
OnUnlinking (Some Check) fact = fact
OnUnlinking (Some Follow) fact = fact
OnUnlinking (Some Sim) fact = Unit {0}
OnUnlinking (Some Show) fact = fact
OnUnlinking (Some Upgrade) fact = fact
OnUnlinking (Some Infer) fact = Unit {0}
OnUnlinking (Some Replay) fact = Unit {0}
OnUnlinking (Some (Demo number)) fact = Unit {0}

-- a fact where the refusal comes before linking
abbrev pub OnEarly : Refusal → Type 0 → Type 0
OnEarly (refusals.Program fault) fact = fact
OnEarly (refusals.Bundle kind offset) fact = fact
OnEarly (refusals.Diverges thread place) fact = fact
OnEarly (refusals.NotEnabled place fault) fact = fact
OnEarly (refusals.NoLinkage fault) fact = Unit {0}
OnEarly refusals.NoMemory fact = Unit {0}

-- a fact where the call ends before linking
abbrev pub BeforeLinking : Status → Type 0 → Type 0
BeforeLinking statuses.Usage fact = fact
BeforeLinking statuses.ReadFault fact = fact
BeforeLinking statuses.TooLong fact = fact
BeforeLinking (statuses.Program fault) fact = fact
BeforeLinking (statuses.Bundle kind offset) fact = fact
BeforeLinking (statuses.Diverges thread place) fact = fact
BeforeLinking (statuses.NotEnabled place fault) fact = fact
BeforeLinking (statuses.NoLinkage fault) fact = Unit {0}
BeforeLinking statuses.Done fact = Unit {0}
BeforeLinking statuses.WriteFault fact = Unit {0}
BeforeLinking statuses.NoMemory fact = Unit {0}
