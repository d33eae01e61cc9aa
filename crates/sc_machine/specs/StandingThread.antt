-- What contracts see of a `StandingThread`: a thread that stands at a shared instruction or at its end.
use Rattle.std.specs.Prelude.{◌≡◌, ℕ}
use Rattle.stride_isa.specs.Listing.{Listing}
use Rattle.sc_machine.specs.declared.stop.Stop.{Stop}
use Rattle.sc_machine.specs.ThreadStep.{Thread, start_thread, settled, answered, stop_of}

-- a thread of this program by its number, with its fuel, and its state
pub record Standing : Type 0 where
  pub program : Listing
  pub number : ℕ
  pub fuel : ℕ
  pub state : Thread

-- the shared instruction, or the end, at which it stands
abbrev pub stop_here : Standing → Stop
stop_here s = stop_of s.program s.number s.state

-- a thread of a program after its local start
abbrev pub started_at : Listing → ℕ → ℕ → Standing
started_at p fuel number = record { program = p; number = number; fuel = fuel; state = settled p fuel number start_thread }

-- the thread after its shared instruction, given the word that a read or an update meets, where it stands next
abbrev pub standing_after : ℕ → Standing → Standing
standing_after word s = record s { state = settled s.program s.fuel s.number (answered s.program s.fuel s.number word s.state) }

-- it is this thread of the program, with this fuel
pub record IsThreadOf (p : Listing) (fuel number : ℕ) (s : Standing) : Type 0 where
  pub program : s.program ≡ p
  pub fuel_is : s.fuel ≡ fuel
  pub which : s.number ≡ number
