-- What contracts see of a bundle, and which bundles a version of the format can hold.
use Rattle.std.specs.Prelude.{ℕ, ◌<◌, ◌≤◌, ◌^◌, List, length, get_or, map}
use Rattle.std.specs.List.{AllByRecursion}
use Rattle.stride_isa.specs.Limits.{fuel_limit, thread_limit}
use Rattle.interleavings.specs.declared.event.LogEntry.{LogEntry}
use Rattle.interleavings.specs.declared.event.LogEntry.TheVariants.{Read, Write, Update, Enter}
use Rattle.stride_base.specs.Listed.{Listed}
use Rattle.log_format.specs.declared.bundle.Bundle.{Bundle}
use Rattle.log_format.specs.declared.version.Version.{Version}
use Rattle.log_format.specs.declared.version.Version.TheVariants.{One, Two}

-- a bundle without where it lies in memory
pub record Bundled : Type 0 where
  pub fuel : ℕ
  pub text : List ℕ
  pub logs : List (List LogEntry)

-- the entries of each list
abbrev pub lists_of : List (Listed LogEntry) → List (List LogEntry)
lists_of logs = map (λ log. log.items) logs

-- a bundle as contracts see it
abbrev pub bundled : Bundle → Bundled
bundled bundle = record { fuel = bundle.fuel; text = bundle.text.items; logs = lists_of bundle.logs.items }

-- the ranges of the format: the bound on the instructions, the length of the text, the number of threads, and the
-- number of entries of each
pub record IsWithin (bundle : Bundled) : Type 0 where
  pub some_fuel : 1 ≤ bundle.fuel
  pub fuel : bundle.fuel ≤ fuel_limit
  pub text : length bundle.text < 2 ^ 32
  pub threads : length bundle.logs ≤ thread_limit
  pub counts : AllByRecursion (λ log. length log ≤ bundle.fuel) bundle.logs

-- there are updates from version 2 on
abbrev pub HasUpdates : Version → Type 0
HasUpdates One = ⊥
HasUpdates Two = Unit {0}

-- an entry that the version can hold: each number is one of its type, which holds of every entry of a program
abbrev pub IsEntryOf : Version → LogEntry → Type 0
IsEntryOf version (Read bound value) = (bound < 2 ^ 32) × (value < 2 ^ 64)
IsEntryOf version (Write number) = number < 2 ^ 32
IsEntryOf version (Update number old) = HasUpdates version × (number < 2 ^ 32) × (old < 2 ^ 64)
IsEntryOf version (Enter turn) = turn < 2 ^ 32

-- each number of the list is a byte
abbrev pub IsBytes : List ℕ → Type 0
IsBytes bytes = (i : ℕ) → get_or bytes i 0 < 256

-- a bundle that the version can hold
pub record IsInRange (version : Version) (bundle : Bundled) : Type 0 where
  pub within : IsWithin bundle
  pub bytes : IsBytes bundle.text
  pub entries : AllByRecursion (AllByRecursion (IsEntryOf version)) bundle.logs
