-- The steps of the loop that finds the end of a line.
use Rattle.std.proofs.Common.{◌≡◌, ◌≢◌, ℕ, ◌+◌, ◌<◌, ◌≤◌, List, [], ◌∷◌, length, get_or, take, drop, refl}
use Rattle.std.proofs.lemmas.Bool.{ne_eqb}
use Rattle.std.proofs.lemmas.List.{take_more, drop_more, take_all, drop_all}
use Rattle.assembler.specs.Lines.{lines}
use Rattle.assembler.proofs.Glued.{glued, glued-push, glued-end, glued-none}

-- what the first bytes and the lines of the rest make together
abbrev pub lines_from : List ℕ → ℕ → List (List ℕ)
lines_from text i = glued (take i text) (lines (drop i text))

pub lines_from-more : (text : List ℕ) (i : ℕ) → i < length text → get_or text i 0 ≢ 10 → lines_from text (i + 1) ≡ lines_from text i
lines_from-more text i inside other =
    let e = ne_eqb (get_or text i 0) 10 other in
    rw (take_more text i 0 inside, glued-push, drop_more text i 0 inside, e) refl

pub lines_from-end : (text : List ℕ) (i : ℕ) → i < length text → get_or text i 0 ≡ 10 → lines_from text i ≡ take i text ∷ lines (drop (i + 1) text)
lines_from-end text i inside feed = rw (drop_more text i 0 inside, feed, glued-end) refl

pub lines_from-all : (text : List ℕ) (i : ℕ) → length text ≤ i → 0 < length text → lines_from text i ≡ text ∷ []
lines_from-all text i end some = rw (take_all i text end, drop_all i text end) (glued-none text some)

pub ruleset line_steps = (lines_from-more, lines_from-end, lines_from-all)
