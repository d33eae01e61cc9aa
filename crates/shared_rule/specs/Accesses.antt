-- Which atomic step an access of a pass is, and when the pass may make it.
use Rattle.std.specs.Prelude.{◌≡◌, ℕ, ◌+◌, ◌*◌, ◌<◌, List, length}
use Rattle.interleavings.specs.declared.event.Event.{Event}
use Rattle.interleavings.specs.declared.kind.Kind.{Kind}
use Rattle.interleavings.specs.declared.kind.Kind.TheVariants as by
use Rattle.interleavings.specs.declared.activity.Phase.{Phase}
use Rattle.interleavings.specs.declared.activity.Phase.TheVariants.{Idle, Loaded, Numbered, Marked, Fetched, Stored, Looked}
use Rattle.interleavings.specs.AtomicStep.{SharedWord, Drawn, Value, Number, Monitor, word_of, word_after, May, number_in, turn_in}
use Rattle.shared_rule.specs.declared.limits.TheConstants.{EVENT_LIMIT}
use Rattle.shared_rule.specs.declared.view.View.{View}
use Rattle.shared_rule.specs.declared.word.Word.{Word}
use Rattle.shared_rule.specs.declared.word.Word.TheVariants as words

-- the shared word that a caller names
abbrev pub word_named : Word → SharedWord
word_named (words.Value cell) = Value cell
word_named (words.Number cell) = Number cell
word_named (words.Monitor monitor) = Monitor monitor

-- the cell or the monitor of a word, 0 for the count of names
abbrev pub at_of : SharedWord → ℕ
at_of Drawn = 0
at_of (Value cell) = cell
at_of (Number cell) = cell
at_of (Monitor monitor) = monitor

-- a load of a value begins a read, or is the one of an update that has claimed the cell
abbrev pub value_load : Phase → Kind
value_load Idle = by.ValueLoad
value_load (Loaded cell value) = by.ValueLoad
value_load (Numbered cell n) = by.ValueLoad
value_load (Marked cell n) = by.Fetch
value_load (Fetched cell n old) = by.ValueLoad
value_load (Stored cell n old value) = by.ValueLoad
value_load (Looked monitor turn) = by.ValueLoad

-- a load of a number ends a read whose value was loaded, or begins a write or an update
abbrev pub number_load : Phase → Kind
number_load Idle = by.SeeNumber
number_load (Loaded cell value) = by.NumberLoad
number_load (Numbered cell n) = by.SeeNumber
number_load (Marked cell n) = by.SeeNumber
number_load (Fetched cell n old) = by.SeeNumber
number_load (Stored cell n old value) = by.SeeNumber
number_load (Looked monitor turn) = by.SeeNumber

-- the kind of a load of this word; nobody loads the count of names
abbrev pub load_kind : SharedWord → Phase → Kind
load_kind Drawn phase = by.Look
load_kind (Value cell) phase = value_load phase
load_kind (Number cell) phase = number_load phase
load_kind (Monitor monitor) phase = by.Look

-- the kind of a store
abbrev pub store_kind : SharedWord → Kind
store_kind Drawn = by.Put
store_kind (Value cell) = by.Put
store_kind (Number cell) = by.Complete
store_kind (Monitor monitor) = by.Leave

-- the kind of an exchange
abbrev pub exchange_kind : SharedWord → Kind
exchange_kind Drawn = by.Claim
exchange_kind (Value cell) = by.Claim
exchange_kind (Number cell) = by.Claim
exchange_kind (Monitor monitor) = by.Enter

-- half of the word that an exchange expects, which the pass has seen
abbrev pub seen_half : SharedWord → Phase → ℕ
seen_half Drawn phase = 0
seen_half (Value cell) phase = 0
seen_half (Number cell) phase = number_in phase
seen_half (Monitor monitor) phase = turn_in phase

-- a pass that begins an event has finished fewer than it can finish in all
abbrev pub HasRoom : Kind → List Event → Type 0
HasRoom by.ValueLoad events = length events < EVENT_LIMIT
HasRoom by.NumberLoad events = Unit {0}
HasRoom by.SeeNumber events = length events < EVENT_LIMIT
HasRoom by.Claim events = Unit {0}
HasRoom by.Fetch events = Unit {0}
HasRoom by.Put events = Unit {0}
HasRoom by.Complete events = Unit {0}
HasRoom by.Look events = length events < EVENT_LIMIT
HasRoom by.Enter events = Unit {0}
HasRoom by.Leave events = Unit {0}
HasRoom by.Draw events = Unit {0}

-- a step of this kind touches this word, and the pass may make it
pub record CanStep (kind : Kind) (word : SharedWord) (v : View) : Type 0 where
  pub touches : word_of kind (at_of word) ≡ word
  pub may : May kind (at_of word) v.activity
  pub room : HasRoom kind v.activity.events

-- the pass may load this word
abbrev pub MayLoad : SharedWord → View → Type 0
MayLoad word v = CanStep (load_kind word v.activity.phase) word v

-- the pass may store this into this word: a value of its choice, or what its step makes of the word
pub record MayStore (word : SharedWord) (new : ℕ) (v : View) : Type 0 where
  pub step : CanStep (store_kind word) word v
  pub new_is : (met : ℕ) → word_after (store_kind word) (at_of word) new v.activity met ≡ new

-- the pass may exchange this word: it expects twice the number or the turn that it has seen, and puts the next word
pub record MayExchange (word : SharedWord) (old new : ℕ) (v : View) : Type 0 where
  pub step : CanStep (exchange_kind word) word v
  pub old_is : old ≡ 2 * seen_half word v.activity.phase
  pub new_is : new ≡ 2 * seen_half word v.activity.phase + 1
