-- Which refusals each command can give.
use Rattle.std.specs.Prelude.{◌≡◌, Bool, true, false}
use Rattle.command_words.specs.declared.settings.Command.{Command}
use Rattle.command_words.specs.declared.settings.Command.TheVariants.{Check, Follow, Sim, Run, Bundle, Show, Upgrade, Infer, Replay, Demo}
use Rattle.stride_cli.specs.declared.status.Status.{Status}
use Rattle.stride_cli.specs.declared.status.Status.TheVariants as statuses

-- what a command can refuse
pub record Refusable : Type 0 where
  -- its input, which can't be read or is too long
  pub input : Bool
  -- its program, or a word of its order
  pub program : Bool
  -- a member of its order
  pub member : Bool
  -- its bundle
  pub bundle : Bool
  -- the logs of its bundle, from which a thread diverges, or whose events can't be linked or have no order
  pub logs : Bool

abbrev pub can_refuse : Command → Refusable
can_refuse Check = record { input = true; program = true; member = false; bundle = false; logs = false }
can_refuse Follow = record { input = true; program = true; member = true; bundle = false; logs = false }
can_refuse Sim = record { input = true; program = true; member = true; bundle = false; logs = false }
can_refuse Run = record { input = true; program = true; member = false; bundle = false; logs = false }
can_refuse Bundle = record { input = true; program = true; member = false; bundle = false; logs = false }
can_refuse Show = record { input = true; program = false; member = false; bundle = true; logs = false }
can_refuse Upgrade = record { input = true; program = false; member = false; bundle = true; logs = false }
can_refuse Infer = record { input = true; program = true; member = false; bundle = true; logs = true }
can_refuse Replay = record { input = true; program = true; member = false; bundle = true; logs = true }
can_refuse (Demo number live) = record { input = false; program = false; member = false; bundle = false; logs = false }

-- the status refuses nothing but this
abbrev pub RefusesOnly : Refusable → Status → Type 0
RefusesOnly row statuses.ReadFault = row.input ≡ true
RefusesOnly row statuses.TooLong = row.input ≡ true
RefusesOnly row (statuses.Program fault) = row.program ≡ true
RefusesOnly row (statuses.NotEnabled place fault) = row.member ≡ true
RefusesOnly row (statuses.Bundle kind offset) = row.bundle ≡ true
RefusesOnly row (statuses.Diverges thread place) = row.logs ≡ true
RefusesOnly row (statuses.NoLinkage fault) = row.logs ≡ true
RefusesOnly row statuses.Done = Unit {0}
RefusesOnly row statuses.Usage = Unit {0}
RefusesOnly row statuses.WriteFault = Unit {0}
RefusesOnly row statuses.NoMemory = Unit {0}

-- a command can end so
abbrev pub CanEnd : Command → Status → Type 0
CanEnd command status = RefusesOnly (can_refuse command) status
