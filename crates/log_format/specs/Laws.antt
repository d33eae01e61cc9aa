-- What holds of the spellings and the reading of bundles together, in both versions.
use Rattle.std.specs.Prelude.{◌≡◌, ◌<◌, ◌≤◌, ℕ, List, [], ◌++◌, length, take, Ok, Err}
use Rattle.stride_isa.specs.Limits.{fuel_limit}
use Rattle.log_format.specs.declared.format_error.FormatKind.{FormatKind}
use Rattle.log_format.specs.declared.format_error.FormatKind.TheVariants.{Short, BadMagic, BadTag, BadCount, BadForm, Long}
use Rattle.log_format.specs.declared.version.Size.{Size}
use Rattle.log_format.specs.declared.version.Version.{Version}
use Rattle.log_format.specs.Bundles.{Bundled, IsBytes, IsInRange}
use Rattle.log_format.specs.Reading.{reading}
use Rattle.log_format.specs.Spelling.{greatest, number_bytes, spelling}

-- the version can hold the bundle, and the bytes are its spelling in this version
abbrev pub IsSpelledIn : Version → List ℕ → Bundled → Type 0
IsSpelledIn version bytes bundle = IsInRange version bundle × (bytes ≡ spelling version bundle)

-- the bytes are the bundle's spelling in one of the versions
abbrev pub IsSpelled : List ℕ → Bundled → Type 0
IsSpelled bytes bundle = (version : Version) × IsSpelledIn version bytes bundle

-- each spelling of a bundle reads as this bundle
abbrev pub SpellingIsRead : Type 0
SpellingIsRead = (version : Version) (bundle : Bundled) → IsInRange version bundle → reading (spelling version bundle) ≡ Ok bundle

-- bytes that read as a bundle are its spelling in one of the versions, so no other bytes do
abbrev pub ReadIsSpelled : Type 0
ReadIsSpelled = (bytes : List ℕ) (bundle : Bundled) → IsBytes bytes → reading bytes ≡ Ok bundle → IsSpelled bytes bundle

-- bytes that read as a bundle tell a bound on the instructions that is within its range
abbrev pub FuelIsInRange : Type 0
FuelIsInRange = (bytes : List ℕ) (bundle : Bundled) → reading bytes ≡ Ok bundle → (1 ≤ bundle.fuel) × (bundle.fuel ≤ fuel_limit)

-- what begins with the spelling of a bundle and is the spelling of one is the same spelling, of the same bundle in the same version
abbrev pub NoSpellingBeginsAnother : Type 0
NoSpellingBeginsAnother =
    (one other : Version) (first second : Bundled) (more : List ℕ) → IsInRange one first → IsInRange other second → spelling one first ++ more ≡ spelling other second → (more ≡ []) × (first ≡ second) × (one ≡ other)

-- a spelling from whose end some bytes are cut off is short, at the length that is left
abbrev pub CutIsShort : Type 0
CutIsShort =
    (version : Version) (bundle : Bundled) (front back : List ℕ) → IsInRange version bundle → front ++ back ≡ spelling version bundle → ¬ (back ≡ []) → reading front ≡ Err (record { kind = Short; offset = length front })

-- a spelling with more bytes after it is too long, at its own length
abbrev pub MoreIsLong : Type 0
MoreIsLong =
    (version : Version) (bundle : Bundled) (more : List ℕ) → IsInRange version bundle → ¬ (more ≡ []) → reading (spelling version bundle ++ more) ≡ Err (record { kind = Long; offset = length (spelling version bundle) })

-- a byte or a number is wrong, in place of the end of the bytes
abbrev pub TellsWrong : FormatKind → Type 0
TellsWrong Short = ⊥
TellsWrong BadMagic = Unit {0}
TellsWrong BadTag = Unit {0}
TellsWrong BadCount = Unit {0}
TellsWrong BadForm = Unit {0}
TellsWrong Long = ⊥

-- what is refused for a byte or a number that is wrong is, up to the offset that is told, short of a bundle: nothing is wrong
-- before it
abbrev pub NothingWrongBefore : Type 0
NothingWrongBefore =
    (bytes : List ℕ) (kind : FormatKind) (offset : ℕ) → TellsWrong kind → reading bytes ≡ Err (record { kind = kind; offset = offset }) → (offset < length bytes) × (reading (take offset bytes) ≡ Err (record { kind = Short; offset = offset }))

-- what is refused for a byte or a number that is wrong is refused so whatever follows
abbrev pub WrongStaysWrong : Type 0
WrongStaysWrong =
    (bytes more : List ℕ) (kind : FormatKind) (offset : ℕ) → TellsWrong kind → reading bytes ≡ Err (record { kind = kind; offset = offset }) → reading (bytes ++ more) ≡ Err (record { kind = kind; offset = offset })

-- the bytes are some of the first of a number's, but not all
pub record IsUnfinished (version : Version) (bytes : List ℕ) : Type 0 where
  pub size : Size
  pub number : ℕ
  pub missing : List ℕ
  pub fits : number ≤ greatest size
  pub some : ¬ (missing ≡ [])
  pub whole : bytes ++ missing ≡ number_bytes version size number

-- the bytes are some of the first of a spelling's, but not all, and after them perhaps some of the first of a number's: a number
-- is judged when it is whole, and this one may be out of its range
pub record IsBegun (bytes : List ℕ) : Type 0 where
  pub version : Version
  pub bundle : Bundled
  pub front : List ℕ
  pub part : List ℕ
  pub missing : List ℕ
  pub split : bytes ≡ front ++ part
  pub unfinished : IsUnfinished version part
  pub some : ¬ (missing ≡ [])
  pub spelled : IsSpelledIn version (front ++ missing) bundle

-- what is short is so at its length, and is a spelling that was begun
abbrev pub ShortIsBegun : Type 0
ShortIsBegun =
    (bytes : List ℕ) (offset : ℕ) → IsBytes bytes → reading bytes ≡ Err (record { kind = Short; offset = offset }) → (offset ≡ length bytes) × IsBegun bytes
