-- The triples of the index.
use Rattle.std.specs.Prelude.{◌≡◌, ℕ, ◌+◌, ◌<◌, ◌≤◌, ◌↔◌, List, length, Contains}
use Rattle.stride_base.specs.Ascending.{Triple, AreDistinct}
use Rattle.linkage.specs.declared.row.Row.{Row}
use Rattle.linkage.specs.Finding.{Holds}
use Rattle.linkage.specs.Numbers.{Earlier}
use Rattle.linkage.specs.Spans.{HasPlace, places_before}

-- the cell, value and number of each write of the row before this cell and number, and nothing else
pub record AreListedBefore (row : Row) (cell number : ℕ) (triples : List Triple) : Type 0 where
  pub count : length triples ≡ places_before row.spans.greatest.items cell + number
  pub exact : (c n value : ℕ) → (HasPlace row.spans c n × Earlier c n cell number × Holds row c n value) ↔ Contains triples (c, value, n)
  pub distinct : AreDistinct triples

-- the cell, value and number of each write of a cell from one number on and before another, and of no other write of it
pub record AreListedFrom (row : Row) (cell first number : ℕ) (triples : List Triple) : Type 0 where
  pub count : length triples + first ≡ number
  pub exact : (n value : ℕ) → ((first ≤ n) × (n < number) × Holds row cell n value) ↔ Contains triples (cell, value, n)
  pub distinct : AreDistinct triples
