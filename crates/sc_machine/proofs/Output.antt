-- What a thread prints, as bytes and as lines of the transcript.
use Rattle.std.proofs.Common.{◌≡◌, ℕ, zero, suc, ◌+◌, ◌-◌, ◌/◌, ◌%◌, ◌==◌, Bool, true, false, Option, Some, None, cond, nat_lt, inl, inr, List, [], ◌∷◌, ◌++◌, refl, sym, ◌∙◌, ap, append_assoc, append-nil, arith}
use Rattle.std.proofs.lemmas.List.{append_cancel_left}
use Rattle.std.proofs.lemmas.Grind.{flat_map-append}
use Rattle.std.proofs.lemmas.Bool.{cond_both}
use Rattle.std.proofs.lemmas.Bool.Decides.{nat_tests}
use Rattle.std.specs.Fmt.{decimal, digits, digits_onto, digit_glyph}
use Rattle.stride_isa.specs.Listing.{Listing, op_at}
use Rattle.sc_machine.specs.declared.end.End.{End}
use Rattle.sc_machine.specs.ThreadStep.{Thread, Row, Goes, Ends, Stands, printed_by, row, now_unless, now, moved, local_step, local_steps, settled, stop_of}
use Rattle.sc_machine.specs.Machine.{Printed, printed_line}
use Rattle.sc_machine.specs.Schedule.{printed_in, settled_lines}
use Rattle.sc_machine.proofs.Rows.{IsPrint, row_prints}
use Rattle.sc_machine.specs.Transcript.{tag, spelled, transcript_bytes, line_bytes, tagged}
use Rattle.sc_machine.specs.TurnsInARow.{WithShared, answered_in, turns_by, lines_by}

-- no byte is a line feed
abbrev HasNoFeed : List ℕ → Type 0
HasNoFeed [] = Unit {0}
HasNoFeed (byte ∷ bytes) = ((byte == 10) ≡ false) × HasNoFeed bytes

-- there is a byte, and none is a line feed
abbrev IsWord : List ℕ → Type 0
IsWord [] = ⊥
IsWord (byte ∷ bytes) = HasNoFeed (byte ∷ bytes)

glyph_is_no_feed : (d : ℕ) → (digit_glyph false d == 10) ≡ false
glyph_is_no_feed d = glyph_by (nat_lt d 10)
  where
    glyph_by : (b : Bool) → (cond b (48 + d) (87 + d) == 10) ≡ false
    glyph_by true = grind (arith, nat_tests)
    glyph_by false = grind (arith, nat_tests)

IsWord-digits_onto : (k n byte : ℕ) (acc : List ℕ) → HasNoFeed (byte ∷ acc) → IsWord (digits_onto k 10 false n (byte ∷ acc))
IsWord-digits_onto zero n byte acc h = h
IsWord-digits_onto (suc k) n byte acc h =
    let glyph = digit_glyph false (n % 10) in
    cond_both (n / 10 == 0) _ _ IsWord (λ e. (glyph_is_no_feed (n % 10), h)) (λ e. IsWord-digits_onto k (n / 10) glyph (byte ∷ acc) (glyph_is_no_feed (n % 10), h))

IsWord-digits : (k n : ℕ) → IsWord (digits_onto (suc k) 10 false n [])
IsWord-digits k n =
    cond_both (n / 10 == 0) _ _ IsWord (λ e. (glyph_is_no_feed (n % 10), tt)) (λ e. IsWord-digits_onto k (n / 10) (digit_glyph false (n % 10)) [] (glyph_is_no_feed (n % 10), tt))

IsWord-decimal : (n : ℕ) → IsWord (decimal n)
unfolding digits
IsWord-decimal n = IsWord-digits 63 n

tagged-rest : (t : ℕ) (bytes rest : List ℕ) → HasNoFeed bytes → tagged t false (bytes ++ 10 ∷ rest) ≡ bytes ++ 10 ∷ tagged t true rest
tagged-rest t [] rest h = refl
tagged-rest t (byte ∷ bytes) rest h =
    ap (λ b. byte ∷ tagged t b (bytes ++ 10 ∷ rest)) h.0 ∙ ap (λ xs. byte ∷ xs) (tagged-rest t bytes rest h.1)

-- a word and a line feed are one line
tagged-word : (t : ℕ) (bytes rest : List ℕ) → IsWord bytes → tagged t true ((bytes ++ 10 ∷ []) ++ rest) ≡ transcript_bytes (printed_line t (bytes ++ 10 ∷ [])) ++ tagged t true rest
tagged-word t [] rest h = absurd h
tagged-word t (byte ∷ bytes) rest h =
    let after = tagged t true rest in
    let line = byte ∷ (bytes ++ 10 ∷ []) in
    ap (λ b. tag t ++ byte ∷ tagged t b ((bytes ++ 10 ∷ []) ++ rest)) h.0
    ∙ ap (λ xs. tag t ++ byte ∷ tagged t false xs) (append_assoc bytes (10 ∷ []) rest)
    ∙ ap (λ xs. tag t ++ byte ∷ xs) (tagged-rest t bytes rest h.1 ∙ sym (append_assoc bytes (10 ∷ []) after))
    ∙ sym (append_assoc (tag t) line after)
    ∙ ap (λ xs. xs ++ after) (sym (append-nil (tag t ++ line)))

tagged-print : (t : ℕ) (bytes rest : List ℕ) → IsPrint bytes → tagged t true (bytes ++ rest) ≡ transcript_bytes (printed_line t bytes) ++ tagged t true rest
tagged-print t bytes rest (inl none) =
    ap (λ xs. tagged t true (xs ++ rest)) none ∙ sym (ap (λ xs. transcript_bytes (printed_line t xs) ++ tagged t true rest) none)
tagged-print t bytes rest (inr (word, is)) =
    ap (λ xs. tagged t true (xs ++ rest)) is ∙ tagged-word t (decimal word) rest (IsWord-decimal word)
    ∙ sym (ap (λ xs. transcript_bytes (printed_line t xs) ++ tagged t true rest) is)

now_prints : (p : Listing) (t : ℕ) (s : Thread) → IsPrint (printed_by (now p t s))
now_prints p t s = unless_ended s.ended (row p (op_at p t s.pc) s.pc s.stack s.locals s.held) (row_prints p (op_at p t s.pc) s.pc s.stack s.locals s.held)
  where
    unless_ended : (ended : Option End) (r : Row) → IsPrint (printed_by r) → IsPrint (printed_by (now_unless ended r))
    unless_ended None r h = h
    unless_ended (Some end) r h = inl refl

line_bytes-printed_line : (t : ℕ) (bytes : List ℕ) → line_bytes (printed_line t bytes) ≡ bytes
line_bytes-printed_line t [] = refl
line_bytes-printed_line t (byte ∷ bytes) = append-nil (byte ∷ bytes)

line_bytes-next : (t : ℕ) (bytes : List ℕ) (lines : List Printed) → line_bytes (printed_line t bytes ++ lines) ≡ bytes ++ line_bytes lines
line_bytes-next t bytes lines =
    flat_map-append (λ (x : Printed). x.line) (printed_line t bytes) lines ∙ ap (λ xs. xs ++ line_bytes lines) (line_bytes-printed_line t bytes)

-- lines of a thread, whatever bytes come after them
abbrev AreLines : ℕ → List Printed → Type 0
AreLines t lines = (rest : List ℕ) → tagged t true (line_bytes lines ++ rest) ≡ transcript_bytes lines ++ tagged t true rest

-- the lines themselves
lines_tagged : (t : ℕ) (lines : List Printed) → AreLines t lines → tagged t true (line_bytes lines) ≡ transcript_bytes lines
lines_tagged t lines are = sym (ap (tagged t true) (append-nil (line_bytes lines))) ∙ are [] ∙ append-nil (transcript_bytes lines)

-- some lines and then others
lines_joined : (t : ℕ) (lines more : List Printed) → AreLines t lines → AreLines t more → AreLines t (lines ++ more)
lines_joined t lines more are are_more rest =
    ap (λ xs. tagged t true (xs ++ rest)) (flat_map-append (λ (x : Printed). x.line) lines more)
    ∙ ap (tagged t true) (append_assoc (line_bytes lines) (line_bytes more) rest)
    ∙ are (line_bytes more ++ rest)
    ∙ ap (λ xs. transcript_bytes lines ++ xs) (are_more rest)
    ∙ sym (append_assoc (transcript_bytes lines) (transcript_bytes more) (tagged t true rest))
    ∙ sym (ap (λ xs. xs ++ tagged t true rest) (flat_map-append spelled lines more))

-- a print is a line
print_line : (t : ℕ) (bytes : List ℕ) → IsPrint bytes → AreLines t (printed_line t bytes)
print_line t bytes print rest =
    ap (λ xs. tagged t true (xs ++ rest)) (line_bytes-printed_line t bytes) ∙ tagged-print t bytes rest print

printed_in-lines : (p : Listing) (fuel t n : ℕ) (s : Thread) → AreLines t (printed_in p fuel t n s)
unfolding printed_in
printed_in-lines p fuel t zero s = λ rest. refl
printed_in-lines p fuel t (suc n) s =
    lines_joined t (printed_line t (printed_by (now p t s))) (printed_in p fuel t n (local_step p fuel t s)) (print_line t (printed_by (now p t s)) (now_prints p t s)) (printed_in-lines p fuel t n (local_step p fuel t s))

settled_lines-lines : (p : Listing) (fuel t : ℕ) (s : Thread) → AreLines t (settled_lines p fuel t s)
unfolding settled_lines
settled_lines-lines p fuel t s = printed_in-lines p fuel t (fuel - s.made) s

pub moved-out : (fuel : ℕ) (r : Row) (s : Thread) → (moved fuel r s).out ≡ s.out ++ printed_by r
moved-out fuel (Goes pc stack locals printed) s = refl
moved-out fuel (Ends end) s = sym (append-nil s.out)
moved-out fuel (Stands stop) s = sym (append-nil s.out)

local_steps-out : (p : Listing) (fuel t n : ℕ) (s : Thread) → (local_steps p fuel t n s).out ≡ s.out ++ line_bytes (printed_in p fuel t n s)
unfolding local_steps printed_in
local_steps-out p fuel t zero s = sym (append-nil s.out)
local_steps-out p fuel t (suc n) s =
    let bytes = printed_by (now p t s) in
    let lines = printed_in p fuel t n (local_step p fuel t s) in
    local_steps-out p fuel t n (local_step p fuel t s)
    ∙ ap (λ xs. xs ++ line_bytes lines) (moved-out fuel (now p t s) s)
    ∙ append_assoc s.out bytes (line_bytes lines)
    ∙ ap (λ xs. s.out ++ xs) (sym (line_bytes-next t bytes lines))

-- what is printed up to the next stop is appended to the thread's output
pub settled-out : (p : Listing) (fuel t : ℕ) (s : Thread) → (settled p fuel t s).out ≡ s.out ++ line_bytes (settled_lines p fuel t s)
unfolding settled settled_lines
settled-out p fuel t s = local_steps-out p fuel t (fuel - s.made) s

-- bytes that were appended are these lines
appended_tagged : (t : ℕ) (before after bytes : List ℕ) (lines : List Printed) → AreLines t lines → after ≡ before ++ line_bytes lines → after ≡ before ++ bytes → tagged t true bytes ≡ transcript_bytes lines
appended_tagged t before after bytes lines are told appended =
    ap (λ xs. tagged t true xs) (append_cancel_left before bytes (line_bytes lines) (sym appended ∙ told)) ∙ lines_tagged t lines are

-- the bytes appended, with the thread's tag before each line, are the lines of the transcript
pub settled-tagged : (p : Listing) (fuel t : ℕ) (s : Thread) (bytes : List ℕ) → (settled p fuel t s).out ≡ s.out ++ bytes → tagged t true bytes ≡ transcript_bytes (settled_lines p fuel t s)
settled-tagged p fuel t s bytes appended =
    appended_tagged t s.out (settled p fuel t s).out bytes (settled_lines p fuel t s) (settled_lines-lines p fuel t s) (settled-out p fuel t s) appended

-- the same of turns in a row
pub turns-out : (p : Listing) (fuel t n : ℕ) (s : WithShared) → (turns_by p fuel t n s).thread.out ≡ s.thread.out ++ line_bytes (lines_by p fuel t n s)
unfolding turns_by lines_by
turns-out p fuel t zero s = sym (append-nil s.thread.out)
turns-out p fuel t (suc n) s =
    let last = turns_by p fuel t n s in
    let answer = answered_in p fuel t (stop_of p t last.thread) last in
    let lines = settled_lines p fuel t answer in
    settled-out p fuel t answer
    ∙ ap (λ xs. xs ++ line_bytes lines) (turns-out p fuel t n s)
    ∙ append_assoc s.thread.out (line_bytes (lines_by p fuel t n s)) (line_bytes lines)
    ∙ ap (λ xs. s.thread.out ++ xs) (sym (flat_map-append (λ (x : Printed). x.line) (lines_by p fuel t n s) lines))

turns-lines : (p : Listing) (fuel t n : ℕ) (s : WithShared) → AreLines t (lines_by p fuel t n s)
unfolding lines_by
turns-lines p fuel t zero s = λ rest. refl
turns-lines p fuel t (suc n) s =
    let last = turns_by p fuel t n s in
    let answer = answered_in p fuel t (stop_of p t last.thread) last in
    lines_joined t (lines_by p fuel t n s) (settled_lines p fuel t answer) (turns-lines p fuel t n s) (settled_lines-lines p fuel t answer)

pub turns-tagged : (p : Listing) (fuel t n : ℕ) (s : WithShared) (bytes : List ℕ) → (turns_by p fuel t n s).thread.out ≡ s.thread.out ++ bytes → tagged t true bytes ≡ transcript_bytes (lines_by p fuel t n s)
turns-tagged p fuel t n s bytes appended =
    appended_tagged t s.thread.out (turns_by p fuel t n s).thread.out bytes (lines_by p fuel t n s) (turns-lines p fuel t n s) (turns-out p fuel t n s) appended
