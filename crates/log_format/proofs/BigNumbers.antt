-- What the numbers of `byteorder` are in the words of std.
use Rattle.std.proofs.Common.{◌≡◌, ℕ, List, [], ◌∷◌, length, arith}
use Rattle.std.specs.Int.{w16, w32, w64, byte_len, from_be_bytes}
use Rattle.byteorder.specs.Endian.{big_number}
use Rattle.log_format.specs.declared.version.Size.{Size}
use Rattle.log_format.specs.declared.version.Size.TheVariants.{Bits16, Bits32, Bits64}
use Rattle.log_format.specs.Spelling.{width_of}

big_number-two : (bytes : List ℕ) → length bytes ≡ 2 → big_number 2 bytes ≡ from_be_bytes w16 bytes
big_number-two (a ∷ b ∷ []) two = omega arith
big_number-two _ two = absurd (omega arith)

big_number-four : (bytes : List ℕ) → length bytes ≡ 4 → big_number 4 bytes ≡ from_be_bytes w32 bytes
big_number-four (a ∷ b ∷ c ∷ d ∷ []) four = omega arith
big_number-four _ four = absurd (omega arith)

big_number-eight : (bytes : List ℕ) → length bytes ≡ 8 → big_number 8 bytes ≡ from_be_bytes w64 bytes
big_number-eight (a ∷ b ∷ c ∷ d ∷ e ∷ f ∷ g ∷ h ∷ []) eight = omega arith
big_number-eight _ eight = absurd (omega arith)

-- a number of any size
pub big_number_of : (size : Size) (bytes : List ℕ) → length bytes ≡ byte_len (width_of size) → big_number (byte_len (width_of size)) bytes ≡ from_be_bytes (width_of size) bytes
big_number_of Bits16 bytes long = big_number-two bytes long
big_number_of Bits32 bytes long = big_number-four bytes long
big_number_of Bits64 bytes long = big_number-eight bytes long
