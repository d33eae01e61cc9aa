-- The laws of the machine on which the proofs about fuel stand. Each comes from the clause of a function of the machine's crate.
use Rattle.std.proofs.Common.{◌≡◌, ℕ, zero, suc, ◌<◌, refl, inl, inr, arith}
use Rattle.std.specs.Prelude.{◌⊎◌}
use Rattle.stride_isa.specs.Listing.{Listing}
use Rattle.sc_machine.specs.ThreadStep.{Thread, start_thread, local_steps, settled, answered}
use Rattle.sc_machine.specs.Laws.{HasFuel, MovedKeepsFuel, SettledKeepsFuel, AnsweredHasFuel, SettledMakesNoLess}
use Rattle.interleavings.specs.declared.event.Event.{Event}
use Rattle.interleavings.specs.Events.{word_given}
use Rattle.interleavings.specs.EventStep.{after_event}

-- what the machine's crate promises of fuel and of the count of instructions
pub record MachineLaws : Type 0 where
  pub moved : MovedKeepsFuel
  pub settled : SettledKeepsFuel
  pub answered : AnsweredHasFuel
  pub made : SettledMakesNoLess

-- a thread has fuel left where it has not ended, but for one that has none from the start
abbrev pub IsAlive : ℕ → Thread → Type 0
IsAlive fuel s = HasFuel fuel s ⊎ (s ≡ start_thread)

-- after its local start a thread has fuel left where it has not ended, or it has none from the start
pub start-alive : MachineLaws → (p : Listing) (fuel t : ℕ) → IsAlive fuel (settled p fuel t start_thread)
unfolding settled local_steps
start-alive laws p zero t = inr refl
start-alive laws p (suc n) t = inl (laws.settled p (suc n) t start_thread (λ e. omega arith))

-- and after an event
pub after_event-alive : MachineLaws → (p : Listing) (fuel t : ℕ) (event : Event) (s : Thread) → IsAlive fuel (after_event p fuel t event s)
after_event-alive laws p fuel t event s = inl (laws.settled p fuel t _ (laws.answered p fuel t (word_given event) s))

-- after an event it has made one instruction more at least
pub after_event-made : MachineLaws → (p : Listing) (fuel t : ℕ) (event : Event) (s : Thread) → s.made < (after_event p fuel t event s).made
after_event-made laws p fuel t event s = omega (arith, laws.made p fuel t (answered p fuel t (word_given event) s))
