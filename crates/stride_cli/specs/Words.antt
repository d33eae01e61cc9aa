-- What the words of the command line name.
use Rattle.std.specs.Prelude.{ℕ, Bool, true, false, List, [], Option, Some, None}
use Rattle.command_words.specs.declared.settings.Command.{Command as Named}
use Rattle.command_words.specs.declared.settings.Command.TheVariants as named
use Rattle.stride_cli.specs.declared.words.Command.{Command}
use Rattle.stride_cli.specs.declared.words.Command.TheVariants as commands
use Rattle.stride_cli.specs.declared.words.Live.{Live}
use Rattle.stride_cli.specs.declared.words.Live.TheVariants as lives

-- the command that is named, where it starts no thread
abbrev pub offline_named : Named → Option Command
offline_named named.Check = Some commands.Check
offline_named named.Follow = Some commands.Follow
offline_named named.Sim = Some commands.Sim
offline_named named.Show = Some commands.Show
offline_named named.Upgrade = Some commands.Upgrade
offline_named named.Infer = Some commands.Infer
offline_named named.Replay = Some commands.Replay
offline_named named.Run = None
offline_named named.Bundle = None
offline_named (named.Demo number false) = Some (commands.Demo number)
offline_named (named.Demo number true) = None

-- the command that is named, where its threads run beside each other
abbrev pub live_named : Named → Option Live
live_named named.Run = Some lives.Run
live_named named.Bundle = Some lives.Bundle
live_named named.Check = None
live_named named.Follow = None
live_named named.Sim = None
live_named named.Show = None
live_named named.Upgrade = None
live_named named.Infer = None
live_named named.Replay = None
live_named (named.Demo number true) = Some (lives.Demo number)
live_named (named.Demo number false) = None

-- whether a command reads an input
abbrev pub reads : Command → Bool
reads commands.Check = true
reads commands.Follow = true
reads commands.Sim = true
reads commands.Show = true
reads commands.Upgrade = true
reads commands.Infer = true
reads commands.Replay = true
reads (commands.Demo number) = false

-- whether a live command does
abbrev pub live_reads : Live → Bool
live_reads lives.Run = true
live_reads lives.Bundle = true
live_reads (lives.Demo number) = false

-- whether the command does that is named
abbrev pub named_reads : Option Live → Option Command → Bool
named_reads (Some live) command = live_reads live
named_reads None (Some command) = reads command
named_reads None None = true

-- what is read of an input
abbrev pub given : Bool → List ℕ → List ℕ
given true bytes = bytes
given false bytes = []
