-- Names of variables, arrays, monitors and labels.
use Rattle.std.specs.Prelude.{ℕ, ◌==◌, ◌||◌, ◌&&◌, Bool, false, if◌then◌else◌, List, length, nat_lt, slice_index}
use Rattle.std.specs.Char.{is_ascii_alphabetic, is_ascii_alphanumeric}
use Rattle.std.specs.List.{list_all}
use Rattle.stride_isa.specs.Limits.{name_limit}

-- a letter or `_`, by which a name begins
abbrev pub starts_name : ℕ → Bool
starts_name byte = is_ascii_alphabetic byte || (byte == 95)

-- a letter, a digit or `_`, by which a name goes on
abbrev pub continues_name : ℕ → Bool
continues_name byte = is_ascii_alphanumeric byte || (byte == 95)

-- 1 to 32 letters, digits and `_`, the first of which is no digit
abbrev pub is_name : List ℕ → Bool
is_name bytes =
    if (length bytes == 0) || nat_lt name_limit (length bytes) then false else starts_name (slice_index bytes 0) && list_all continues_name bytes
