-- Draws, one place on.
use Rattle.std.proofs.Common.{◌≡◌, ℕ, ◌+◌, ◌%◌, List, [], ◌∷◌, ◌++◌, map, refl, add-one, append_assoc}
use Rattle.std.proofs.lemmas.List.FromFn.{map-range_with_len_more}
use Rattle.std.specs.List.{range_with_len}
use Rattle.demo.specs.Demo.{drawn_thread, thread_count}
use Rattle.demo.specs.Draws.{draw, draw_bound, next_draw}

pub draw-more : (number place : ℕ) → draw number (place + 1) ≡ next_draw (draw number place)
unfolding draw
draw-more number place = rw (add-one place) refl

pub draw-zero : (number : ℕ) → draw number 0 ≡ number % draw_bound
unfolding draw
draw-zero number = refl

-- one more thread is drawn
pub drawn-more : (number first count thread : ℕ) (xs ys zs : List ℕ) → ys ≡ xs ++ map (drawn_thread number) (range_with_len first count) → thread ≡ draw number (first + count) % thread_count number → zs ≡ ys ++ thread ∷ [] → zs ≡ xs ++ map (drawn_thread number) (range_with_len first (count + 1))
drawn-more number first count thread xs ys zs before drawn after =
    let more : map (drawn_thread number) (range_with_len first (count + 1)) ≡ map (drawn_thread number) (range_with_len first count) ++ draw number (first + count) % thread_count number ∷ [] = map-range_with_len_more (drawn_thread number) first count (first + count) refl in
    rw (more, after, before, drawn) (append_assoc xs (map (drawn_thread number) (range_with_len first count)) (draw number (first + count) % thread_count number ∷ []))
