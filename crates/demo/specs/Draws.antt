-- The numbers that a demonstration draws: a sequence that begins with its number.
use Rattle.std.specs.Prelude.{ℕ, zero, suc, ◌+◌, ◌*◌, ◌%◌}

-- every draw is below this number, a prime
abbrev pub draw_bound : ℕ
draw_bound = 65537

-- what is drawn after a draw
abbrev pub next_draw : ℕ → ℕ
next_draw draw = (75 * draw + 74) % draw_bound

-- the draw at a place of the sequence that begins with this number
unfoldable pub draw : ℕ → ℕ → ℕ
draw number zero = number % draw_bound
draw number (suc place) = next_draw (draw number place)
