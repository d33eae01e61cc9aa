-- The one spelling of a bundle in each version.
use Rattle.std.specs.Prelude.{ℕ, zero, suc, ◌+◌, ◌*◌, ◌-◌, ◌/◌, ◌%◌, List, [], ◌∷◌, ◌++◌, length, nat_lt, if◌then◌else◌}
use Rattle.std.specs.Int.{Width, w16, w32, w64, to_be_bytes}
use Rattle.std.specs.List.{flat_map}
use Rattle.interleavings.specs.declared.event.LogEntry.{LogEntry}
use Rattle.interleavings.specs.declared.event.LogEntry.TheVariants.{Read, Write, Update, Enter}
use Rattle.log_format.specs.declared.version.Size.{Size}
use Rattle.log_format.specs.declared.version.Size.TheVariants.{Bits16, Bits32, Bits64}
use Rattle.log_format.specs.declared.version.Version.{Version}
use Rattle.log_format.specs.declared.version.Version.TheVariants.{One, Two}
use Rattle.log_format.specs.Bundles.{Bundled}

-- the letters STRIDE
abbrev pub stride : List ℕ
stride = 83 ∷ 84 ∷ 82 ∷ 73 ∷ 68 ∷ 69 ∷ []

-- the digit that names the version
abbrev pub digit : Version → ℕ
digit One = 49
digit Two = 50

-- the letters STRIDE, the digit of the version and a line feed
abbrev pub magic : Version → List ℕ
magic version = stride ++ digit version ∷ 10 ∷ []

-- ---- numbers

-- the width of a number in version 1
abbrev pub width_of : Size → Width
width_of Bits16 = w16
width_of Bits32 = w32
width_of Bits64 = w64

-- the greatest number of this size
abbrev pub greatest : Size → ℕ
greatest Bits16 = 65535
greatest Bits32 = 4294967295
greatest Bits64 = 18446744073709551615

-- a number in groups of seven bits, a byte each, the lowest group first; each byte but the last has its high bit set.
-- There are at most so many bytes before the last.
unfoldable pub groups : ℕ → ℕ → List ℕ
groups zero n = n ∷ []
groups (suc most) n = if nat_lt n 128 then n ∷ [] else (128 + n % 128) ∷ groups most (n / 128)

-- a number: in version 1 all bytes of its width, the highest first, and in version 2 one to ten bytes with seven bits each
abbrev pub number_bytes : Version → Size → ℕ → List ℕ
number_bytes One size n = to_be_bytes (width_of size) n
number_bytes Two size n = groups 9 n

-- ---- bounds

-- the way from a bound to the next one: twice the way up, or one less than twice the way down
abbrev pub step_between : ℕ → ℕ → ℕ
step_between before bound = if nat_lt bound before then 2 * (before - bound) - 1 else 2 * (bound - before)

-- the bound of a read, after one with the bound `before`: in version 1 the bound, and in version 2 the step
abbrev pub bound_bytes : Version → ℕ → ℕ → List ℕ
bound_bytes One before bound = number_bytes One Bits32 bound
bound_bytes Two before bound = number_bytes Two Bits64 (step_between before bound)

-- the bound of the last read, after this entry; only a read has one
abbrev pub bound_after : ℕ → LogEntry → ℕ
bound_after before (Read bound value) = bound
bound_after before (Write number) = before
bound_after before (Update number old) = before
bound_after before (Enter turn) = before

-- ---- entries, logs and bundles

-- a tag of one byte, and the fields of the entry, after a read with the bound `before`
abbrev pub entry_bytes : Version → ℕ → LogEntry → List ℕ
entry_bytes version before (Read bound value) = 1 ∷ (number_bytes version Bits64 value ++ bound_bytes version before bound)
entry_bytes version before (Write number) = 2 ∷ number_bytes version Bits32 number
entry_bytes version before (Enter turn) = 3 ∷ number_bytes version Bits32 turn
entry_bytes version before (Update number old) = 4 ∷ (number_bytes version Bits64 old ++ number_bytes version Bits32 number)

-- the entries one after the other, after a read with the bound `before`
abbrev pub entries_bytes : Version → ℕ → List LogEntry → List ℕ
entries_bytes version before [] = []
entries_bytes version before (entry ∷ entries) = entry_bytes version before entry ++ entries_bytes version (bound_after before entry) entries

-- the number of entries, and each entry; before the first read the bound is 0
abbrev pub log_bytes : Version → List LogEntry → List ℕ
log_bytes version log = number_bytes version Bits32 (length log) ++ entries_bytes version 0 log

-- the length of the text, and the text
abbrev pub text_bytes : Version → List ℕ → List ℕ
text_bytes version text = number_bytes version Bits32 (length text) ++ text

-- the number of threads, and the log of each
abbrev pub logs_bytes : Version → List (List LogEntry) → List ℕ
logs_bytes version logs = number_bytes version Bits16 (length logs) ++ flat_map (log_bytes version) logs

-- the bound on the instructions, the text and the logs
abbrev pub body_bytes : Version → Bundled → List ℕ
body_bytes version bundle = number_bytes version Bits32 bundle.fuel ++ (text_bytes version bundle.text ++ logs_bytes version bundle.logs)

-- the magic bytes, and what they stand before
abbrev pub spelling : Version → Bundled → List ℕ
spelling version bundle = magic version ++ body_bytes version bundle
