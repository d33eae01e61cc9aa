-- What a program's fields keep true besides what contracts see of them.
use Rattle.std.specs.Prelude.{◌≡◌, ℕ, ◌<◌, List, length, slice_index}
use Rattle.stride_isa.specs.Listing.{Listing, cell_count, first_cell, instruction_count}
use Rattle.stride_isa.specs.WellFormed.{IsWellFormed}

-- the counts and the first cells that are kept are those of the program, which is well formed
pub record IsKept (p : Listing) (firsts : List ℕ) (cell_total instruction_total : ℕ) : Type 0 where
  pub formed : IsWellFormed p
  pub cells : cell_total ≡ cell_count p.decls
  pub instructions : instruction_total ≡ instruction_count p.threads
  pub long : length firsts ≡ length p.decls
  pub firsts_at : (at : ℕ) → at < length p.decls → slice_index firsts at ≡ first_cell p.decls at
