-- Reading as a walk over the lines that carries the program of the lines before.
use Rattle.std.proofs.Common.{◌≡◌, ℕ, ◌+◌, List, [], ◌∷◌, ◌++◌, length, reverse, Option, Some, None, Result, Ok, Err, option_map, refl, ap, sym, ◌∙◌, append_assoc, append-nil}
use mathlib.Core.List.{reverse-cons}
use Rattle.stride_isa.specs.Listing.{Listing, empty}
use Rattle.assembler.specs.Forms.{Form}
use Rattle.assembler.specs.Labels.{labels_at}
use Rattle.assembler.specs.Programs.{LineFault, refusal, added, made, or_else, first_fault, unless_fault, program_of}
use Rattle.assembler.specs.declared.asm_error.AsmKind.{AsmKind}

-- the fault of a line with this number where there is one, or else what comes after it
abbrev pub unless_refused : Option AsmKind → ℕ → Result Listing LineFault → Result Listing LineFault
unless_refused None line rest = rest
unless_refused (Some kind) line rest = Err (record { kind = kind; line = line })

-- what the lines from a place on make of the program of the lines before, or their first fault
abbrev pub reading : List Form → Listing → List Form → Result Listing LineFault
reading before p [] = Ok p
reading before p (form ∷ rest) =
    unless_refused (refusal (labels_at before (form ∷ rest)) p form) (length before + 1) (reading (form ∷ before) (added (labels_at before (form ∷ rest)) p form) rest)

-- a refused line is the first fault, and one that is not leaves it to those after it
unless_refused-is : (kind : Option AsmKind) (line : ℕ) (fault : Option LineFault) (p : Listing) → unless_refused kind line (unless_fault fault p) ≡ unless_fault (or_else (option_map (λ k. record { kind = k; line = line }) kind) fault) p
unless_refused-is None line fault p = refl
unless_refused-is (Some kind) line fault p = refl

-- reading from a place on, with the program of the lines before, gives the first fault from there on or the program of all
reading-made : (before rest : List Form) → reading before (made before rest) rest ≡ unless_fault (first_fault before rest) (made (reverse rest ++ before) [])
reading-made before [] = refl
reading-made before (form ∷ rest) =
    let refused = refusal (labels_at before (form ∷ rest)) (made before (form ∷ rest)) form in
    let all : reverse rest ++ form ∷ before ≡ reverse (form ∷ rest) ++ before = sym (ap (λ forms. forms ++ before) (reverse-cons form rest) ∙ append_assoc (reverse rest) (form ∷ []) before) in
    ap (unless_refused refused (length before + 1)) (reading-made (form ∷ before) rest ∙ ap (λ forms. unless_fault (first_fault (form ∷ before) rest) (made forms [])) all)
    ∙ unless_refused-is refused (length before + 1) (first_fault (form ∷ before) rest) (made (reverse (form ∷ rest) ++ before) [])

-- reading from the start on gives what the lines make
pub program_of-reading : (forms : List Form) → program_of forms ≡ reading [] empty forms
program_of-reading forms =
    sym (reading-made [] forms ∙ ap (λ lines. unless_fault (first_fault [] forms) (made lines [])) (append-nil (reverse forms)))

-- a line that is not refused adds what it adds, and reading goes on after it
pub reading-line : (before : List Form) (p : Listing) (form : Form) (rest : List Form) (next : Listing) → refusal (labels_at before (form ∷ rest)) p form ≡ None → added (labels_at before (form ∷ rest)) p form ≡ next → reading before p (form ∷ rest) ≡ reading (form ∷ before) next rest
reading-line before p form rest next free same =
    let after = reading (form ∷ before) (added (labels_at before (form ∷ rest)) p form) rest in
    ap (λ kind. unless_refused kind (length before + 1) after) free ∙ ap (λ q. reading (form ∷ before) q rest) same
