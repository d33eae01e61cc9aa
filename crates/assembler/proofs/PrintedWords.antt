-- Words that are printed, with one space between two of them and a line feed after each line, are read as the same words.
use Rattle.std.proofs.Common.{◌≡◌, ℕ, ◌==◌, ◌&&◌, Bool, true, false, not, List, [], ◌∷◌, ◌++◌, map, flat_map, refl, ap, ◌∙◌, append_assoc}
use Rattle.std.proofs.lemmas.Bool.{and_parts, and_from, not-true}
use Rattle.std.specs.List.{list_all, AllByRecursion, join_with_byte}
use Rattle.assembler.specs.Canonical.{line_of}
use Rattle.assembler.specs.Lines.{lines}
use Rattle.assembler.specs.Words.{Front, is_blank, uncommented, front_of, plain_words, with_word, words_of}

-- a byte that neither ends a line nor begins a comment
abbrev pub is_inner : ℕ → Bool
is_inner byte = not (byte == 10) && not (byte == 35)

-- a byte that neither ends a line, nor begins a comment, nor divides words
abbrev pub is_solid : ℕ → Bool
is_solid byte = is_inner byte && not (is_blank byte)

-- one or more such bytes
abbrev pub is_word : List ℕ → Bool
is_word [] = false
is_word (byte ∷ bytes) = list_all is_solid (byte ∷ bytes)

-- each of these is a word
abbrev pub HasWords : List (List ℕ) → Type 0
HasWords words = AllByRecursion (λ word. is_word word ≡ true) words

-- a test that two lists pass is passed by both in a row
pub list_all-append : (test : ℕ → Bool) (xs ys : List ℕ) → list_all test xs ≡ true → list_all test ys ≡ true → list_all test (xs ++ ys) ≡ true
list_all-append test [] ys first second = second
list_all-append test (x ∷ xs) ys first second =
    let both = and_parts (test x) (list_all test xs) first in
    and_from (test x) (list_all test (xs ++ ys)) both.0 (list_all-append test xs ys both.1 second)

-- a weaker test is passed as well
pub list_all-weaker : (test weaker : ℕ → Bool) → ((x : ℕ) → test x ≡ true → weaker x ≡ true) → (xs : List ℕ) → list_all test xs ≡ true → list_all weaker xs ≡ true
list_all-weaker test weaker implies [] all = refl
list_all-weaker test weaker implies (x ∷ xs) all =
    let both = and_parts (test x) (list_all test xs) all in
    and_from (weaker x) (list_all weaker xs) (implies x both.0) (list_all-weaker test weaker implies xs both.1)

-- the bytes of a word are solid
solid_from_word : (word : List ℕ) → is_word word ≡ true → list_all is_solid word ≡ true
solid_from_word [] is = refl
solid_from_word (byte ∷ bytes) is = is

-- a solid byte stands inside a line
inner_from_solid : (byte : ℕ) → is_solid byte ≡ true → is_inner byte ≡ true
inner_from_solid byte solid = (and_parts (is_inner byte) (not (is_blank byte)) solid).0

-- the bytes of printed words stand inside a line
inner_from_words : (words : List (List ℕ)) → HasWords words → list_all is_inner (join_with_byte 32 words) ≡ true
inner_from_words [] all = refl
inner_from_words (word ∷ []) all = list_all-weaker is_solid is_inner inner_from_solid word (solid_from_word word all.0)
inner_from_words (word ∷ next ∷ words) all =
    list_all-append is_inner word (32 ∷ join_with_byte 32 (next ∷ words)) (list_all-weaker is_solid is_inner inner_from_solid word (solid_from_word word all.0)) (inner_from_words (next ∷ words) all.1)

-- bytes inside a line are the line that a line feed ends
lines-line : (bytes rest : List ℕ) → list_all is_inner bytes ≡ true → lines (bytes ++ 10 ∷ rest) ≡ bytes ∷ lines rest
lines-line [] rest inner = refl
lines-line (byte ∷ bytes) rest inner =
    let both = and_parts (is_inner byte) (list_all is_inner bytes) inner in
    let no_feed = not-true (byte == 10) (and_parts (not (byte == 10)) (not (byte == 35)) both.0).0 in
    rw (no_feed, lines-line bytes rest both.1) refl

-- a line without `#` has no comment
uncommented-inner : (bytes : List ℕ) → list_all is_inner bytes ≡ true → uncommented bytes ≡ bytes
uncommented-inner [] inner = refl
uncommented-inner (byte ∷ bytes) inner =
    let both = and_parts (is_inner byte) (list_all is_inner bytes) inner in
    let no_hash = not-true (byte == 35) (and_parts (not (byte == 10)) (not (byte == 35)) both.0).1 in
    rw no_hash (ap (λ bs. byte ∷ bs) (uncommented-inner bytes both.1))

-- the front of a line that begins with solid bytes and a space
front_of-space : (bytes rest : List ℕ) → list_all is_solid bytes ≡ true → front_of (bytes ++ 32 ∷ rest) ≡ record { word = bytes; behind = plain_words rest }
front_of-space [] rest solid = refl
front_of-space (byte ∷ bytes) rest solid =
    let both = and_parts (is_solid byte) (list_all is_solid bytes) solid in
    let no_blank = not-true (is_blank byte) (and_parts (is_inner byte) (not (is_blank byte)) both.0).1 in
    let more : Front → Front = λ front. record { word = byte ∷ front.word; behind = front.behind } in
    rw no_blank (ap more (front_of-space bytes rest both.1))

-- the front of a line of solid bytes
front_of-end : (bytes : List ℕ) → list_all is_solid bytes ≡ true → front_of bytes ≡ record { word = bytes; behind = [] }
front_of-end [] solid = refl
front_of-end (byte ∷ bytes) solid =
    let both = and_parts (is_solid byte) (list_all is_solid bytes) solid in
    let no_blank = not-true (is_blank byte) (and_parts (is_inner byte) (not (is_blank byte)) both.0).1 in
    let more : Front → Front = λ front. record { word = byte ∷ front.word; behind = front.behind } in
    rw no_blank (ap more (front_of-end bytes both.1))

-- a word stands in front of words as it is
with_word-word : (word : List ℕ) (words : List (List ℕ)) → is_word word ≡ true → with_word word words ≡ word ∷ words
with_word-word [] words is = cc
with_word-word (byte ∷ bytes) words is = refl

-- words with one space between two of them are read as they are
plain_words-joined : (words : List (List ℕ)) → HasWords words → plain_words (join_with_byte 32 words) ≡ words
plain_words-joined [] all = refl
plain_words-joined (word ∷ []) all =
    let of : Front → List (List ℕ) = λ front. with_word front.word front.behind in
    ap of (front_of-end word (solid_from_word word all.0)) ∙ with_word-word word [] all.0
plain_words-joined (word ∷ next ∷ words) all =
    let of : Front → List (List ℕ) = λ front. with_word front.word front.behind in
    ap of (front_of-space word (join_with_byte 32 (next ∷ words)) (solid_from_word word all.0)) ∙ with_word-word word (plain_words (join_with_byte 32 (next ∷ words))) all.0 ∙ ap (λ ws. word ∷ ws) (plain_words-joined (next ∷ words) all.1)

-- a printed line is read as its words
words_of-joined : (words : List (List ℕ)) → HasWords words → words_of (join_with_byte 32 words) ≡ words
words_of-joined words all =
    ap plain_words (uncommented-inner (join_with_byte 32 words) (inner_from_words words all)) ∙ plain_words-joined words all

-- printed lines are read as their words
pub words_of-printed : (lines_of_words : List (List (List ℕ))) → AllByRecursion HasWords lines_of_words → map words_of (lines (flat_map line_of lines_of_words)) ≡ lines_of_words
words_of-printed [] all = refl
words_of-printed (words ∷ others) all =
    let line = join_with_byte 32 words in
    let begins : lines (flat_map line_of (words ∷ others)) ≡ line ∷ lines (flat_map line_of others) = ap lines (append_assoc line (10 ∷ []) (flat_map line_of others)) ∙ lines-line line (flat_map line_of others) (inner_from_words words all.0) in
    rw (begins, words_of-joined words all.0, words_of-printed others all.1) refl
