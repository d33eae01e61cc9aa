-- What the values of the options and the positionals mean, once they are known.
use Rattle.std.specs.Prelude.{◌≡◌, ◌<◌, ◌^◌, Bool, List, [], ◌∷◌, Option, Some, None}
use Rattle.stride_isa.specs.declared.limits.TheConstants.{FUEL_LIMIT}
use Rattle.interleavings.specs.declared.limits.TheConstants.{PATIENCE_LIMIT}
use Rattle.command_words.specs.Words.{IsDecimal, Names, Sets, Word}
use Rattle.command_words.specs.declared.settings.Command.{Command}
use Rattle.command_words.specs.declared.settings.Command.TheVariants.{Demo}
use Rattle.command_words.specs.declared.settings.Settings.{Settings}

-- a word that may be there, as a list
abbrev pub listed : Option Word → List Word
listed None = []
listed (Some word) = word ∷ []

-- the settings by the value of each option, where it was given, and by the positionals
pub record IsReading (fuel_word patience_word : Option Word) (positionals : List Word) (settings : Settings) : Type 0 where
  pub fuel : Sets FUEL_LIMIT (listed fuel_word) settings.fuel
  pub patience : Sets PATIENCE_LIMIT (listed patience_word) settings.patience
  pub command : Names settings.command positionals

-- the demonstration of the number of this word
abbrev pub IsDemo : Word → Bool → Command → Type 0
IsDemo word live (Demo number other) = IsDecimal word number × (number < 2 ^ 64) × (live ≡ other)
IsDemo word live _ = ⊥
