-- What holds of the definitions of texts together.
use Rattle.std.specs.Prelude.{◌≡◌, ℕ, List, Ok, length, map}
use Rattle.stride_isa.specs.Listing.{Listing}
use Rattle.stride_isa.specs.Validity.{IsValid}
use Rattle.stride_isa.specs.WellFormed.{IsWellFormed}
use Rattle.assembler.specs.Canonical.{canonical}
use Rattle.assembler.specs.CodeLines.{thread_places}
use Rattle.assembler.specs.Programs.{spelled}
use Rattle.assembler.specs.Splits.{Parts, split}

-- a split cuts a text into the program's text, the first line whose only word is `order`, and the order
abbrev pub SplitIsParts : Type 0
SplitIsParts = (text : List ℕ) → Parts text (split text)

-- the canonical text of a valid program spells this program
abbrev pub CanonicalIsReadBack : Type 0
CanonicalIsReadBack = (p : Listing) → IsWellFormed p → IsValid p → spelled (canonical p) ≡ Ok p

-- each thread of a program that a text spells stands in the text with as many lines of instructions as it has instructions
abbrev pub CodeHasLines : Type 0
CodeHasLines = (text : List ℕ) (p : Listing) → spelled text ≡ Ok p → map (λ place. length place.code) (thread_places text) ≡ map length p.threads
