-- What holds of the program and the order of every demonstration.
use Rattle.std.specs.Prelude.{◌≡◌, ℕ, ◌+◌, ◌*◌, ◌%◌, ◌^◌, ◌<◌, ◌≤◌, List, [], ◌∷◌, codes, length}
use Rattle.std.specs.List.{AllByRecursion}
use Rattle.stride_isa.specs.Limits.{thread_limit}
use Rattle.stride_isa.specs.Listing.{Listing, cell_count, decl_at, first_cell, starts_of}
use Rattle.stride_isa.specs.Validity.{IsValid}
use Rattle.demo.specs.Demo.{demo_order, demo_program, thread_count, turns}
use Rattle.demo.specs.Draws.{draw, draw_bound}
use Rattle.demo.specs.Program.{noise, total}

-- the program of a demonstration with this many threads: it is valid, it has 2 to 16 threads, one monitor and two cells,
-- which start with 0; cell 0 is the total and cell 1 the noise
pub record IsDemoProgram (count : ℕ) (p : Listing) : Type 0 where
  pub valid : IsValid p
  pub decls : p.decls ≡ total ∷ noise ∷ []
  pub monitors : p.monitors ≡ codes "m" ∷ []
  pub threads : length p.threads ≡ count
  pub some : 2 ≤ count
  pub few : count ≤ thread_limit
  pub cells : cell_count p.decls ≡ 2
  pub total_at : decl_at p 0 ≡ total
  pub total_first : first_cell p.decls 0 ≡ 0
  pub noise_at : decl_at p 1 ≡ noise
  pub noise_first : first_cell p.decls 1 ≡ 1
  pub starts : starts_of p.decls ≡ 0 ∷ 0 ∷ []

-- the order of a demonstration with this many threads and turns: each member names a thread, and it is not long
pub record IsDemoOrder (count turns : ℕ) (order : List ℕ) : Type 0 where
  pub named : AllByRecursion (λ thread. thread < count) order
  pub long : length order ≡ turns + turns * count
  pub short : length order ≤ 9000000

-- so is the program of every demonstration
abbrev pub DemoProgramsAreValid : Type 0
DemoProgramsAreValid = (number : ℕ) → IsDemoProgram (thread_count number) (demo_program number)

-- and the order of every demonstration
abbrev pub DemoOrdersNameThreads : Type 0
DemoOrdersNameThreads = (number : ℕ) → IsDemoOrder (thread_count number) (turns number) (demo_order number)

-- one more than a draw is a power of 75 times one more than the number, as far as remainders by the bound tell: a draw is told
-- by its place, without those before it
abbrev pub DrawsArePowers : Type 0
DrawsArePowers = (number place : ℕ) → (draw number place + 1) % draw_bound ≡ (75 ^ place * (number + 1)) % draw_bound
