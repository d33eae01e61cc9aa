-- The words of a line.
use Rattle.std.specs.Prelude.{ℕ, ◌==◌, ◌||◌, Bool, if◌then◌else◌, List, [], ◌∷◌}

-- a space, a tab or a carriage return, by which words are divided
abbrev pub is_blank : ℕ → Bool
is_blank byte = (byte == 32) || ((byte == 9) || (byte == 13))

-- what stands before a comment, which begins with the first `#` of the line
abbrev pub uncommented : List ℕ → List ℕ
uncommented [] = []
uncommented (byte ∷ bytes) = if byte == 35 then [] else byte ∷ uncommented bytes

-- the words with one more in front of them, unless it is empty
abbrev pub with_word : List ℕ → List (List ℕ) → List (List ℕ)
with_word [] words = words
with_word (byte ∷ bytes) words = (byte ∷ bytes) ∷ words

-- the word at the front of a line, which is empty where a blank or nothing stands there, and the words after it
pub record Front : Type 0 where
  pub word : List ℕ
  pub behind : List (List ℕ)

-- the front of a line without a comment
abbrev pub front_of : List ℕ → Front
front_of [] = record { word = []; behind = [] }
front_of (byte ∷ bytes) =
    let rest = front_of bytes in
    if is_blank byte then record { word = []; behind = with_word rest.word rest.behind } else record { word = byte ∷ rest.word; behind = rest.behind }

-- the words of a line without a comment, which blanks divide
abbrev pub plain_words : List ℕ → List (List ℕ)
plain_words line = let front = front_of line in with_word front.word front.behind

-- the words of a line
abbrev pub words_of : List ℕ → List (List ℕ)
words_of line = plain_words (uncommented line)
