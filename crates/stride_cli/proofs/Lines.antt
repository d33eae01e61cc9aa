-- Lines of links, one after another.
use Rattle.std.proofs.Common.{append-nil, decimal, ◌≡◌, ◌∙◌, ◌+◌, ◌<◌, ℕ, List, [], ◌∷◌, ◌++◌, Option, Some, None, refl, sym, ap, length, drop, get_or, add-one, append_assoc, drop-cons}
use Rattle.stride_cli.specs.Reports.{link_lines, links_lines}

-- the lines of the links from one on are its line, if it has one, before those of the others
link_line : (thread place : ℕ) (link : Option ℕ) (rest : List (Option ℕ)) → link_lines thread place (link ∷ rest) ≡ link_lines thread place (link ∷ []) ++ link_lines thread (place + 1) rest
link_line thread place None rest = refl
link_line thread place (Some number) rest =
    let line : List ℕ = decimal thread ++ (32 ∷ (decimal place ++ (32 ∷ (decimal number ++ 10 ∷ [])))) in
    ap (λ (xs : List ℕ). xs ++ link_lines thread (place + 1) rest) (sym (append-nil line))

-- the lines of the links from a place on
pub link_lines-next : (thread place : ℕ) (row : List (Option ℕ)) → place < length row → link_lines thread place (drop place row) ≡ link_lines thread place (get_or row place None ∷ []) ++ link_lines thread (place + 1) (drop (place + 1) row)
link_lines-next thread place row inside =
    let parts : drop place row ≡ get_or row place None ∷ drop (place + 1) row = rw (add-one) (drop-cons row place None inside) in
    ap (link_lines thread place) parts ∙ link_line thread place (get_or row place None) (drop (place + 1) row)

-- the lines of the threads from one on
pub links_lines-next : (thread : ℕ) (rows : List (List (Option ℕ))) → thread < length rows → links_lines thread (drop thread rows) ≡ link_lines thread 0 (get_or rows thread []) ++ links_lines (thread + 1) (drop (thread + 1) rows)
links_lines-next thread rows inside =
    let parts : drop thread rows ≡ get_or rows thread [] ∷ drop (thread + 1) rows = rw (add-one) (drop-cons rows thread [] inside) in
    ap (links_lines thread) parts

-- what was put with one line more, and the lines behind it, are what was put and the lines from it on
pub one_line : (put line rest lines whole new : List ℕ) → new ≡ put ++ line → lines ≡ line ++ rest → put ++ lines ≡ whole → new ++ rest ≡ whole
one_line put line rest lines whole new more next all =
    ap (λ (xs : List ℕ). xs ++ rest) more ∙ append_assoc put line rest ∙ ap (λ (xs : List ℕ). put ++ xs) (sym next) ∙ all
