-- The grammar of the command line.
use Rattle.std.specs.Prelude.{◌≡◌, ◌==◌, ◌<◌, ◌≤◌, ◌^◌, ℕ, Bool, true, false, not, if◌then◌else◌, List, [], ◌∷◌, ◌++◌, Option, Some, None, Result, Ok, Err, codes}
use Rattle.std.specs.List.{flat_map, list_all}
use Rattle.std.specs.Str.{bytes_eq}
use Rattle.std.specs.Str.Parse.{IsNumeral, digits_value}
use Rattle.stride_isa.specs.declared.limits.TheConstants.{FUEL_LIMIT}
use Rattle.interleavings.specs.declared.limits.TheConstants.{PATIENCE_LIMIT}
use Rattle.command_words.specs.declared.settings.Command.{Command}
use Rattle.command_words.specs.declared.settings.Command.TheVariants.{Check, Follow, Sim, Run, Bundle, Infer, Replay, Show, Upgrade, Demo}
use Rattle.command_words.specs.declared.options.Setting.{Setting}
use Rattle.command_words.specs.declared.options.Setting.TheVariants.{Fuel, Patience}
use Rattle.command_words.specs.declared.settings.Settings.{Settings}
use Rattle.command_words.specs.declared.settings.Refusal.{Refusal}
use Rattle.command_words.specs.declared.settings.Refusal.TheVariants.{Usage, NoMemory}

-- a word, by its bytes
abbrev pub Word : Type 0
Word = List ℕ

-- one or more digits, with this value; leading zeros are allowed, a sign is not
abbrev pub IsDecimal : Word → ℕ → Type 0
IsDecimal word n = IsNumeral 10 word × (digits_value 10 word ≡ n)

-- ---- options

-- an option: its name, the largest value that it takes, and where that is kept
pub record Form : Type 0 where
  pub name : Word
  pub limit : ℕ
  pub kept : Settings → Option ℕ

-- the options
abbrev pub form : Setting → Form
form Fuel = record { name = codes "fuel"; limit = FUEL_LIMIT; kept = λ settings. settings.fuel }
form Patience = record { name = codes "patience"; limit = PATIENCE_LIMIT; kept = λ settings. settings.patience }

-- whether they are one option
abbrev pub is_same : Setting → Setting → Bool
is_same one other = bytes_eq (form one).name (form other).name

-- what the values of an option set: it stands at most once, with a decimal from 1 to the limit
abbrev pub Sets : ℕ → List Word → Option ℕ → Type 0
Sets limit [] None = Unit
Sets limit (word ∷ []) (Some n) = IsDecimal word n × (1 ≤ n) × (n ≤ limit)
Sets limit _ _ = ⊥

-- ---- commands

-- the word at the end of a demonstration that is recorded from running threads
abbrev pub live_words : Bool → List Word
live_words true = codes "live" ∷ []
live_words false = []

-- the positionals that spell each command
abbrev pub Names : Command → List Word → Type 0
Names Check words = words ≡ codes "check" ∷ []
Names Follow words = words ≡ codes "follow" ∷ []
Names Sim words = words ≡ codes "sim" ∷ []
Names Run words = words ≡ codes "run" ∷ []
Names Bundle words = words ≡ codes "bundle" ∷ []
Names Infer words = words ≡ codes "infer" ∷ []
Names Replay words = words ≡ codes "replay" ∷ []
Names Show words = words ≡ codes "show" ∷ []
Names Upgrade words = words ≡ codes "upgrade" ∷ []
Names (Demo number live) words = (decimal : Word) × (words ≡ codes "demo" ∷ decimal ∷ live_words live) × IsDecimal decimal number × (number < 2 ^ 64)

-- ---- lines

-- an option with its value as a word of its own, an option with its value in one word, or a positional
pub data Item : Type 0 where
  spaced : Setting → Word → Item
  joined : Setting → Word → Item
  positional : Word → Item

-- `--name`
abbrev pub flag : Setting → Word
flag setting = codes "--" ++ (form setting).name

-- the words of an item
abbrev pub spelling : Item → List Word
spelling (spaced setting value) = flag setting ∷ value ∷ []
spelling (joined setting value) = (flag setting ++ codes "=" ++ value) ∷ []
spelling (positional word) = word ∷ []

-- the value that an item gives to an option
abbrev pub given_in : Setting → Item → List Word
given_in setting (spaced other value) = if is_same setting other then value ∷ [] else []
given_in setting (joined other value) = if is_same setting other then value ∷ [] else []
given_in setting (positional word) = []

-- the values that the items give to an option
abbrev pub given : Setting → List Item → List Word
given setting items = flat_map (given_in setting) items

-- the word of a positional
abbrev pub positional_in : Item → List Word
positional_in (positional word) = word ∷ []
positional_in _ = []

-- a `--` with the words after it, where it stands
abbrev pub ending : Option (List Word) → List Word
ending None = []
ending (Some words) = codes "--" ∷ words

-- the words after it
abbrev pub behind : Option (List Word) → List Word
behind None = []
behind (Some words) = words

-- the positionals: those among the items, and all words after a `--`
abbrev pub positionals : List Item → Option (List Word) → List Word
positionals items rest = flat_map positional_in items ++ behind rest

-- the word does not begin with `-`
abbrev pub is_positional : Word → Bool
is_positional [] = true
is_positional (byte ∷ bytes) = not (byte == 45)

-- the words are a line of the grammar, with these settings
pub record IsLine (words : List Word) (settings : Settings) : Type 0 where
  pub items : List Item
  pub rest : Option (List Word)
  pub spelled : words ≡ flat_map spelling items ++ ending rest
  pub options : (setting : Setting) → Sets (form setting).limit (given setting items) ((form setting).kept settings)
  pub undashed : list_all is_positional (positionals items rest) ≡ true
  pub command : Names settings.command (positionals items rest)

-- the words are a line of the grammar, with some settings
abbrev pub HasLine : List Word → Type 0
HasLine words = (settings : Settings) × IsLine words settings

-- a fact about the settings of the words, where these are a line of the grammar
abbrev pub OfLine : List Word → (Settings → Type 0) → Type 0
OfLine words Holds = (settings : Settings) → IsLine words settings → Holds settings

-- the words are no line of the grammar
abbrev pub IsNoLine : List Word → Type 0
IsNoLine words = OfLine words (λ _. ⊥)

-- ---- answers

-- what an answer tells of the values that fit: its value is one, or none is; where memory ran out it tells nothing
abbrev pub Answers : {T : Type 0} → (T → Type 0) → Result T Refusal → Type 0
Answers Fits (Ok value) = Fits value
Answers {T} Fits (Err Usage) = (value : T) → Fits value → ⊥
Answers Fits (Err NoMemory) = Unit

-- what an answer tells of the words of a command line
abbrev pub Words : List Word → Result Settings Refusal → Type 0
Words words = Answers (IsLine words)
