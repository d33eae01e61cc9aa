-- Bytes in front of the first of some lists, as a loop over a text has them.
use Rattle.std.proofs.Common.{◌≡◌, ℕ, ◌<◌, List, [], ◌∷◌, ◌++◌, length, refl, ap, arith}
use Rattle.assembler.specs.Lines.{onto_first}

abbrev pub glued : List ℕ → List (List ℕ) → List (List ℕ)
glued [] pieces = pieces
glued (byte ∷ bytes) pieces = onto_first byte (glued bytes pieces)

pub glued-push : (bytes : List ℕ) (byte : ℕ) (pieces : List (List ℕ)) → glued (bytes ++ byte ∷ []) pieces ≡ glued bytes (onto_first byte pieces)
glued-push [] byte pieces = refl
glued-push (b ∷ bytes) byte pieces = ap (onto_first b) (glued-push bytes byte pieces)

glued-cons : (bytes piece : List ℕ) (pieces : List (List ℕ)) → glued bytes (piece ∷ pieces) ≡ (bytes ++ piece) ∷ pieces
glued-cons [] piece pieces = refl
glued-cons (b ∷ bytes) piece pieces = ap (onto_first b) (glued-cons bytes piece pieces)

append-nil : (bytes : List ℕ) → bytes ++ [] ≡ bytes
append-nil [] = refl
append-nil (b ∷ bytes) = ap (λ bs. b ∷ bs) (append-nil bytes)

-- a piece that ends here is the bytes so far
pub glued-end : (bytes : List ℕ) (pieces : List (List ℕ)) → glued bytes ([] ∷ pieces) ≡ bytes ∷ pieces
glued-end bytes pieces = rw (glued-cons bytes [] pieces, append-nil bytes) refl

pub glued-none : (bytes : List ℕ) → 0 < length bytes → glued bytes [] ≡ bytes ∷ []
glued-none [] some = absurd (omega arith)
glued-none (b ∷ []) some = refl
glued-none (b ∷ c ∷ bytes) some = ap (onto_first b) (glued-none (c ∷ bytes) (omega arith))
