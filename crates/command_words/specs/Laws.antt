-- Laws of the grammar.
use Rattle.std.specs.Prelude.{◌≡◌, ◌⊎◌, List}
use Rattle.command_words.specs.Words.{HasLine, IsLine, IsNoLine, Word}
use Rattle.command_words.specs.declared.settings.Settings.{Settings}

-- words are a line of the grammar, or none
abbrev pub LineOrNone : Type 0
LineOrNone = (words : List Word) → HasLine words ⊎ IsNoLine words

-- words have at most one reading
abbrev pub OneReading : Type 0
OneReading = (words : List Word) (one other : Settings) → IsLine words one → IsLine words other → one ≡ other
