-- A thread that stands goes on to where it stands next.
use Rattle.std.proofs.Common.{◌≡◌, ◌∙◌, ℕ, ap}
use Rattle.stride_base.specs.Listed.{Listed}
use Rattle.sc_machine.specs.StandingThread.{Standing, standing_after}
use Rattle.sc_machine.specs.ThreadRun.{Run, SameThread, state}
use Rattle.sc_machine.specs.ThreadStep.{settled, answered}

-- a run and its output as one thread
abbrev pub thread_in : Run → Listed ℕ → Standing
thread_in run printed = record { program = run.program; number = run.thread; fuel = run.fuel; state = state run printed.items }

pub went_on : (old new : Run) (printed printed' : Listed ℕ) (word : ℕ) → state new printed'.items ≡ settled old.program old.fuel old.thread (answered old.program old.fuel old.thread word (state old printed.items)) → SameThread old new → thread_in new printed' ≡ standing_after word (thread_in old printed)
went_on old new printed printed' word settles same =
    ap (λ p. record { program = p; number = new.thread; fuel = new.fuel; state = state new printed'.items }) same.program
    ∙ ap (λ n. record { program = old.program; number = n; fuel = new.fuel; state = state new printed'.items }) same.thread
    ∙ ap (λ f. record { program = old.program; number = old.thread; fuel = f; state = state new printed'.items }) same.fuel
    ∙ ap (λ x. record { program = old.program; number = old.thread; fuel = old.fuel; state = x }) settles
