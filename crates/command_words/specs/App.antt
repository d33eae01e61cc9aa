-- The command line as a simple command of `clap`.
use Rattle.std.specs.Prelude.{Some, true, codes}
use Rattle.clap.specs.Simple.{App, new_app, new_rule, on_top, with_rule}
use Rattle.clap.specs.Walk.{Rule}
use Rattle.clap.specs.declared.builder.action.ArgAction.TheVariants.{Append, Set}
use Rattle.command_words.specs.Words.{form}
use Rattle.command_words.specs.declared.options.Setting.{Setting}
use Rattle.command_words.specs.declared.options.Setting.TheVariants.{Fuel, Patience}

-- an option with one value
abbrev pub option_rule : Setting → Rule
option_rule setting = record (new_rule (form setting).name) { long = Some (form setting).name; action = Some Set }

-- a positional of any number of values
abbrev pub positional_rule : Rule
positional_rule = record (new_rule (codes "command")) { action = Some Append }

-- a command with no help, no version and no word for the program's name
abbrev pub plain_app : App
plain_app = on_top (λ shape. record shape { no_binary_name = true; disable_help_flag = true; disable_version_flag = true }) (new_app (codes "stride"))

-- that command with the two options and the positional
abbrev pub line_app : App
line_app = with_rule (with_rule (with_rule plain_app (option_rule Fuel)) (option_rule Patience)) positional_rule
