-- Printed bytes are labelled line by line.
use Rattle.std.proofs.Common.{◌≡◌, ℕ, suc, ◌+◌, ◌==◌, Bool, true, false, cond, List, [], ◌∷◌, ◌++◌, take, drop, refl, sym, ◌∙◌, ap, append_assoc, add-one, ◌≤◌, ◌<◌, length, arith}
use Rattle.std.proofs.lemmas.List.{length-drop}
use Rattle.sc_machine.specs.Transcript.{tag, tagged}
use Rattle.replayer.specs.FirstLine.{line_length}

-- the rest of a line, by whether its first byte ends it
line_by : (t byte : ℕ) (bytes : List ℕ) (ends : Bool) → tagged t false bytes ≡ take (line_length bytes) bytes ++ tagged t true (drop (line_length bytes) bytes) → byte ∷ tagged t ends bytes ≡ take (cond ends 1 (line_length bytes + 1)) (byte ∷ bytes) ++ tagged t true (drop (cond ends 1 (line_length bytes + 1)) (byte ∷ bytes))
line_by t byte bytes true rest = refl
line_by t byte bytes false rest =
    ap (λ bs. byte ∷ bs) rest
    ∙ ap (λ n. take n (byte ∷ bytes) ++ tagged t true (drop n (byte ∷ bytes))) (sym (add-one (line_length bytes)))

-- within a line nothing is labelled up to its end
within_line : (t : ℕ) (bytes : List ℕ) → tagged t false bytes ≡ take (line_length bytes) bytes ++ tagged t true (drop (line_length bytes) bytes)
within_line t [] = refl
within_line t (byte ∷ bytes) = line_by t byte bytes (byte == 10) (within_line t bytes)

-- the first line with its label, and then the others
pub first_line : (t byte : ℕ) (bytes : List ℕ) → tagged t true (byte ∷ bytes) ≡ tag t ++ (take (line_length (byte ∷ bytes)) (byte ∷ bytes) ++ tagged t true (drop (line_length (byte ∷ bytes)) (byte ∷ bytes)))
first_line t byte bytes = ap (λ bs. tag t ++ bs) (within_line t (byte ∷ bytes))

-- the same after what was put
pub line_put : (t : ℕ) (put left whole label line more : List ℕ) → 0 < length left → label ≡ tag t → line ≡ take (line_length left) left → more ≡ drop (line_length left) left → put ++ tagged t true left ≡ whole → ((put ++ label) ++ line) ++ tagged t true more ≡ whole
line_put t put [] whole label line more some is_label is_line is_more so_far = absurd (omega (arith, some))
line_put t put (byte ∷ bytes) whole label line more some is_label is_line is_more so_far =
    ap (λ l. ((put ++ l) ++ line) ++ tagged t true more) is_label
    ∙ ap (λ l. ((put ++ tag t) ++ l) ++ tagged t true more) is_line
    ∙ ap (λ l. ((put ++ tag t) ++ take (line_length (byte ∷ bytes)) (byte ∷ bytes)) ++ tagged t true l) is_more
    ∙ append_assoc (put ++ tag t) (take (line_length (byte ∷ bytes)) (byte ∷ bytes)) (tagged t true (drop (line_length (byte ∷ bytes)) (byte ∷ bytes)))
    ∙ append_assoc put (tag t) (take (line_length (byte ∷ bytes)) (byte ∷ bytes) ++ tagged t true (drop (line_length (byte ∷ bytes)) (byte ∷ bytes)))
    ∙ ap (λ bs. put ++ bs) (sym (first_line t byte bytes))
    ∙ so_far

longer : (ends : Bool) (n : ℕ) → 0 < cond ends 1 (n + 1)
longer true n = omega arith
longer false n = omega arith

within : (ends : Bool) (n total : ℕ) → n ≤ total → cond ends 1 (n + 1) ≤ suc total
within true n total least = omega arith
within false n total least = omega (arith, least)

-- a line is of the bytes
pub line_within : (bytes : List ℕ) → line_length bytes ≤ length bytes
line_within [] = omega arith
line_within (byte ∷ bytes) = within (byte == 10) (line_length bytes) (length bytes) (line_within bytes)

-- fewer bytes are left after a line
pub fewer_left : (left more : List ℕ) → 0 < length left → more ≡ drop (line_length left) left → length more < length left
fewer_left [] more some is_more = absurd (omega (arith, some))
fewer_left (byte ∷ bytes) more some is_more =
    let taken = longer (byte == 10) (line_length bytes) in
    let remain = ap length is_more ∙ length-drop (line_length (byte ∷ bytes)) (byte ∷ bytes) in
    omega (arith, some, taken, remain)

-- bytes that are not none
pub some_left : (bytes : List ℕ) → (length bytes == 0) ≡ false → 0 < length bytes
some_left [] some = absurd (cc)
some_left (byte ∷ bytes) some = omega arith
