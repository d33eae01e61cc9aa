-- What bytes read as, from left to right: a bundle, or the first refusal.
-- The reading of a part gives its value and the bytes after it. A fault names its place by how many bytes are left there.
use Rattle.std.specs.Prelude.{ℕ, zero, suc, ◌+◌, ◌*◌, ◌-◌, ◌/◌, ◌%◌, ◌==◌, List, [], ◌∷◌, length, take, drop, Option, Some, None, Result, Ok, Err, nat_lt, if◌then◌else◌}
use Rattle.std.specs.Int.{byte_len, from_be_bytes}
use Rattle.stride_isa.specs.Limits.{fuel_limit, thread_limit}
use Rattle.interleavings.specs.declared.event.LogEntry.{LogEntry}
use Rattle.interleavings.specs.declared.event.LogEntry.TheVariants.{Read, Write, Update, Enter}
use Rattle.log_format.specs.declared.entries.Kind.{Kind}
use Rattle.log_format.specs.declared.entries.Kind.TheVariants as kinds
use Rattle.log_format.specs.declared.fault.Fault.{Fault}
use Rattle.log_format.specs.declared.format_error.FormatKind.{FormatKind}
use Rattle.log_format.specs.declared.format_error.FormatKind.TheVariants.{Short, BadMagic, BadTag, BadCount, BadForm, Long}
use Rattle.log_format.specs.declared.version.Size.{Size}
use Rattle.log_format.specs.declared.version.Size.TheVariants.{Bits16, Bits32, Bits64}
use Rattle.log_format.specs.declared.version.Version.{Version}
use Rattle.log_format.specs.declared.version.Version.TheVariants.{One, Two}
use Rattle.log_format.specs.Bundles.{Bundled}
use Rattle.log_format.specs.Spelling.{stride, width_of, greatest, bound_after}

-- the next part is read after this one, unless this one is at fault
infixl 10 ◌>>=◌
abbrev pub ◌>>=◌ : {A B : Type 0} → Result A Fault → (A → Result B Fault) → Result B Fault
(Ok x) >>= f = f x
(Err e) >>= f = Err e

-- the bytes end within a part: nothing is left
abbrev pub short : Fault
short = record { kind = Short; left = 0 }

-- the first of these bytes is at fault, or the number that begins with it
abbrev pub fault : FormatKind → List ℕ → Fault
fault kind bytes = record { kind = kind; left = length bytes }

-- the next byte
abbrev pub byte_at : List ℕ → Result (ℕ × List ℕ) Fault
byte_at [] = Err short
byte_at (byte ∷ rest) = Ok (byte, rest)

-- ---- the magic bytes

-- this one of the magic bytes
unfoldable pub letter_at : ℕ → List ℕ → Result (Unit {0} × List ℕ) Fault
letter_at want bytes = do
  byte ← byte_at bytes
  if byte.0 == want then Ok (tt, byte.1) else Err (fault BadMagic bytes)

-- these of the magic bytes
unfoldable pub letters_at : List ℕ → List ℕ → Result (Unit {0} × List ℕ) Fault
letters_at [] bytes = Ok (tt, bytes)
letters_at (want ∷ wanted) bytes = do
  first ← letter_at want bytes
  letters_at wanted first.1

-- the digit of the version
unfoldable pub version_at : List ℕ → Result (Version × List ℕ) Fault
version_at bytes = do
  byte ← byte_at bytes
  if byte.0 == 49 then Ok (One, byte.1) else if byte.0 == 50 then Ok (Two, byte.1) else Err (fault BadMagic bytes)

-- the magic bytes, which tell the version
unfoldable pub magic_at : List ℕ → Result (Version × List ℕ) Fault
magic_at bytes = do
  letters ← letters_at stride bytes
  version ← version_at letters.1
  line_feed ← letters_at (10 ∷ []) version.1
  Ok (version.0, line_feed.1)

-- ---- numbers

-- a number in all bytes of its width, the highest first
unfoldable pub wide_at : Size → List ℕ → Result (ℕ × List ℕ) Fault
wide_at size bytes =
    if nat_lt (length bytes) (byte_len (width_of size)) then Err short
    else Ok (from_be_bytes (width_of size) (take (byte_len (width_of size)) bytes), drop (byte_len (width_of size)) bytes)

-- the higher groups of a number, the lowest of them first, of which so many can have a high bit. `wrong` is told where the last
-- byte is 0, so that a byte less would do, and where the last byte that can come is above 1, so that the number is above 64 bits.
unfoldable pub groups_at : Fault → ℕ → List ℕ → Result (ℕ × List ℕ) Fault
groups_at wrong most [] = Err short
groups_at wrong zero (byte ∷ rest) = if byte == 1 then Ok (1, rest) else Err wrong
groups_at wrong (suc most) (byte ∷ rest) =
    if byte == 0 then Err wrong
    else if nat_lt byte 128 then Ok (byte, rest)
    else do
      higher ← groups_at wrong most rest
      Ok (byte - 128 + 128 * higher.0, higher.1)

-- a number in one to ten groups of seven bits, the lowest first; of another form it is at fault where it begins
unfoldable pub grouped_at : List ℕ → Result (ℕ × List ℕ) Fault
grouped_at [] = Err short
grouped_at (byte ∷ rest) =
    if nat_lt byte 128 then Ok (byte, rest)
    else do
      higher ← groups_at (fault BadForm (byte ∷ rest)) 8 rest
      Ok (byte - 128 + 128 * higher.0, higher.1)

-- a number that is at most this limit, and else at fault where it begins
abbrev pub limited : ℕ → (List ℕ → Result (ℕ × List ℕ) Fault) → List ℕ → Result (ℕ × List ℕ) Fault
limited limit read bytes = do
  n ← read bytes
  if nat_lt limit n.0 then Err (fault BadCount bytes) else Ok n

-- a number of this size
unfoldable pub number_at : Version → Size → List ℕ → Result (ℕ × List ℕ) Fault
number_at One size bytes = wide_at size bytes
number_at Two size bytes = limited (greatest size) grouped_at bytes

-- a number that is at most this limit
unfoldable pub number_up_to : Version → Size → ℕ → List ℕ → Result (ℕ × List ℕ) Fault
number_up_to version size limit bytes = limited limit (number_at version size) bytes

-- the bound on the instructions, from 1 to its limit
unfoldable pub fuel_at : Version → List ℕ → Result (ℕ × List ℕ) Fault
fuel_at version bytes = do
  n ← number_up_to version Bits32 fuel_limit bytes
  if n.0 == 0 then Err (fault BadCount bytes) else Ok n

-- ---- the text

-- so many bytes
unfoldable pub bytes_at : ℕ → List ℕ → Result (List ℕ × List ℕ) Fault
bytes_at count bytes = if nat_lt (length bytes) count then Err short else Ok (take count bytes, drop count bytes)

-- the length of the text, and the text
unfoldable pub text_at : Version → List ℕ → Result (List ℕ × List ℕ) Fault
text_at version bytes = do
  n ← number_at version Bits32 bytes
  bytes_at n.0 n.1

-- ---- entries

-- a number, if it is one of 32 bits
abbrev pub of_32_bits : ℕ → Option ℕ
of_32_bits n = if nat_lt 4294967295 n then None else Some n

-- the bound that a step leads to, if there is one: an even step goes up by half of it, an odd one down by half of it and one more
abbrev pub bound_by : ℕ → ℕ → Option ℕ
bound_by before step =
    if step % 2 == 0 then of_32_bits (before + step / 2)
    else if nat_lt (step / 2) before then of_32_bits (before - step / 2 - 1)
    else None

-- the bound that the step leads to; a step to no bound is at fault where it begins
abbrev pub stepped : Option ℕ → List ℕ → List ℕ → Result (ℕ × List ℕ) Fault
stepped (Some bound) bytes rest = Ok (bound, rest)
stepped None bytes rest = Err (fault BadCount bytes)

-- the bound of a read, after a read with the bound `before`
unfoldable pub bound_at : Version → ℕ → List ℕ → Result (ℕ × List ℕ) Fault
bound_at One before bytes = number_at One Bits32 bytes
bound_at Two before bytes = do
  step ← number_at Two Bits64 bytes
  stepped (bound_by before step.0) bytes step.1

-- the fields of a read
unfoldable pub read_at : Version → ℕ → List ℕ → Result (LogEntry × List ℕ) Fault
read_at version before bytes = do
  value ← number_at version Bits64 bytes
  bound ← bound_at version before value.1
  Ok (Read bound.0 value.0, bound.1)

-- the field of a write
unfoldable pub write_at : Version → List ℕ → Result (LogEntry × List ℕ) Fault
write_at version bytes = do
  number ← number_at version Bits32 bytes
  Ok (Write number.0, number.1)

-- the field of an enter
unfoldable pub enter_at : Version → List ℕ → Result (LogEntry × List ℕ) Fault
enter_at version bytes = do
  turn ← number_at version Bits32 bytes
  Ok (Enter turn.0, turn.1)

-- the fields of an update
unfoldable pub update_at : Version → List ℕ → Result (LogEntry × List ℕ) Fault
update_at version bytes = do
  old ← number_at version Bits64 bytes
  number ← number_at version Bits32 old.1
  Ok (Update number.0 old.0, number.1)

-- the kind of entry with the tag 4
abbrev pub fourth_kind : Version → Option Kind
fourth_kind One = None
fourth_kind Two = Some kinds.Update

-- the kind of entry that a tag stands for
abbrev pub kind_of : Version → ℕ → Option Kind
kind_of version tag =
    if tag == 1 then Some kinds.Read
    else if tag == 2 then Some kinds.Write
    else if tag == 3 then Some kinds.Enter
    else if tag == 4 then fourth_kind version
    else None

-- the kind; where the tag stands for none it is at fault
abbrev pub known : Option Kind → List ℕ → List ℕ → Result (Kind × List ℕ) Fault
known (Some kind) bytes rest = Ok (kind, rest)
known None bytes rest = Err (fault BadTag bytes)

-- a tag
unfoldable pub kind_at : Version → List ℕ → Result (Kind × List ℕ) Fault
kind_at version bytes = do
  tag ← byte_at bytes
  known (kind_of version tag.0) bytes tag.1

-- the fields of an entry of this kind
unfoldable pub fields_at : Version → ℕ → Kind → List ℕ → Result (LogEntry × List ℕ) Fault
fields_at version before kinds.Read bytes = read_at version before bytes
fields_at version before kinds.Write bytes = write_at version bytes
fields_at version before kinds.Enter bytes = enter_at version bytes
fields_at version before kinds.Update bytes = update_at version bytes

-- an entry: a tag, which is judged before the fields, and the fields, after a read with the bound `before`
unfoldable pub entry_at : Version → ℕ → List ℕ → Result (LogEntry × List ℕ) Fault
entry_at version before bytes = do
  kind ← kind_at version bytes
  fields_at version before kind.0 kind.1

-- so many entries, after a read with the bound `before`
unfoldable pub entries_at : Version → ℕ → ℕ → List ℕ → Result (List LogEntry × List ℕ) Fault
entries_at version before zero bytes = Ok ([], bytes)
entries_at version before (suc count) bytes = do
  first ← entry_at version before bytes
  others ← entries_at version (bound_after before first.0) count first.1
  Ok (first.0 ∷ others.0, others.1)

-- the number of entries of a thread, at most the bound on its instructions, and the entries
unfoldable pub log_at : Version → ℕ → List ℕ → Result (List LogEntry × List ℕ) Fault
log_at version fuel bytes = do
  count ← number_up_to version Bits32 fuel bytes
  entries_at version 0 count.0 count.1

-- the logs of so many threads
unfoldable pub logs_at : Version → ℕ → ℕ → List ℕ → Result (List (List LogEntry) × List ℕ) Fault
logs_at version fuel zero bytes = Ok ([], bytes)
logs_at version fuel (suc threads) bytes = do
  first ← log_at version fuel bytes
  others ← logs_at version fuel threads first.1
  Ok (first.0 ∷ others.0, others.1)

-- ---- the whole

-- what stands after the magic bytes
unfoldable pub body_at : Version → List ℕ → Result (Bundled × List ℕ) Fault
body_at version bytes = do
  fuel ← fuel_at version bytes
  text ← text_at version fuel.1
  threads ← number_up_to version Bits16 thread_limit text.1
  logs ← logs_at version fuel.0 threads.0 threads.1
  Ok (record { fuel = fuel.0; text = text.0; logs = logs.0 }, logs.1)

-- a bundle, with no byte after it
unfoldable pub bundle_at : List ℕ → Result Bundled Fault
bundle_at bytes = do
  version ← magic_at bytes
  bundle ← body_at version.0 version.1
  if length bundle.1 == 0 then Ok bundle.0 else Err (fault Long bundle.1)

-- what is wrong, and at which offset
pub record Refusal : Type 0 where
  pub kind : FormatKind
  pub offset : ℕ

-- in an input of this length the fault stands at this offset
abbrev pub placed : ℕ → Result Bundled Fault → Result Bundled Refusal
placed size (Ok bundle) = Ok bundle
placed size (Err wrong) = Err (record { kind = wrong.kind; offset = size - wrong.left })

-- what the bytes read as
abbrev pub reading : List ℕ → Result Bundled Refusal
reading bytes = placed (length bytes) (bundle_at bytes)
