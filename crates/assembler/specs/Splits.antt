-- Where the line `order` splits an input into a program's text and an order.
use Rattle.std.specs.Prelude.{◌≡◌, ◌⊎◌, ℕ, ◌+◌, Bool, true, false, List, [], ◌∷◌, ◌++◌, length, min, codes, if◌then◌else◌}
use Rattle.std.specs.List.{AllByRecursion}
use Rattle.std.specs.Str.{bytes_eq}
use Rattle.assembler.specs.Lines.{lines}
use Rattle.assembler.specs.Words.{words_of}
use Rattle.assembler.specs.declared.order_split.OrderSplit.{OrderSplit}

-- whether the only word is `order`
abbrev pub is_order : List (List ℕ) → Bool
is_order [] = false
is_order (word ∷ []) = bytes_eq word (codes "order")
is_order (word ∷ next ∷ words) = false

-- these bytes are one line, whose only word is `order`
pub record IsOrderLine (bytes : List ℕ) : Type 0 where
  pub line : List ℕ
  pub alone : lines bytes ≡ line ∷ []
  pub only : is_order (words_of line) ≡ true

-- the parts of a text that a split tells: the program's text, of which no line has `order` as its only word, the line
-- `order`, and the order, whose first line has this number; without that line all of the text is the program's
pub record Parts (text : List ℕ) (s : OrderSplit) : Type 0 where
  pub program : List ℕ
  pub line : List ℕ
  pub order : List ℕ
  pub joined : program ++ (line ++ order) ≡ text
  pub program_end : s.program_end ≡ length program
  pub order_start : s.order_start ≡ length program + length line
  pub order_line : s.order_line ≡ length (lines (program ++ line)) + 1
  pub no_order : AllByRecursion (λ l. is_order (words_of l) ≡ false) (lines program)
  pub is_line : ((line ≡ []) × (order ≡ [])) ⊎ IsOrderLine line

-- the split of lines that begin at this offset and number in a text of this length: by the first whose only word is
-- `order`, or after them all
abbrev pub split_from : ℕ → ℕ → ℕ → List (List ℕ) → OrderSplit
split_from total offset number [] = record { program_end = total; order_start = total; order_line = number }
split_from total offset number (line ∷ rest) =
    let next = min (offset + length line + 1) total in
    if is_order (words_of line) then record { program_end = offset; order_start = next; order_line = number + 1 } else split_from total next (number + 1) rest

-- the split of a text; its lines are numbered from 1
abbrev pub split : List ℕ → OrderSplit
split text = split_from (length text) 0 1 (lines text)
