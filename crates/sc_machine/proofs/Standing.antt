-- A thread that has settled stands.
use Rattle.std.proofs.Common.{◌≡◌, ℕ, zero, suc, ◌+◌, ◌-◌, ◌<◌, ◌≤◌, Option, Some, None, refl, sym, ◌∙◌, ap, arith}
use Rattle.stride_isa.specs.Listing.{Listing, op_at}
use Rattle.sc_machine.specs.declared.end.End.{End}
use Rattle.sc_machine.specs.declared.stop.Stop.{Stop}
use Rattle.sc_machine.specs.declared.stop.Stop.TheVariants.{Ended}
use Rattle.sc_machine.specs.ThreadStep.{Thread, Row, Goes, Ends, Stands, row, now_unless, now, moved, local_step, local_steps, settled, stop_in, stop_of, answered}
use Rattle.sc_machine.specs.Laws.{HasFuel}
use Rattle.sc_machine.proofs.Inside.{fuel_left}
use Rattle.sc_machine.proofs.Steps.{local_steps-standing}

pub moved-has_fuel : (fuel : ℕ) (r : Row) (s : Thread) → HasFuel fuel s → HasFuel fuel (moved fuel r s)
moved-has_fuel fuel (Goes pc stack locals printed) s h = λ e. fuel_left fuel (s.made + 1) e
moved-has_fuel fuel (Ends end) s h = λ e. cc
moved-has_fuel fuel (Stands stop) s h = h

-- a thread stands after n local instructions
abbrev StandsAfter : Listing → ℕ → ℕ → ℕ → Thread → Type 0
StandsAfter p fuel t n s = (stop : Stop) × (now p t (local_steps p fuel t n s) ≡ Stands stop)

stands_at_end : (p : Listing) (t fuel made : ℕ) (ended : Option End) (r : Row) → (ended ≡ None → made < fuel) → fuel ≤ made → (stop : Stop) × (now_unless ended r ≡ Stands stop)
stands_at_end p t fuel made None r h none = absurd (omega (arith, h refl))
stands_at_end p t fuel made (Some end) r h none = (Ended end, refl)

-- the same by what the next instruction comes to
stands_next : (p : Listing) (fuel t n : ℕ) (s : Thread) → ((s' : Thread) → HasFuel fuel s' → fuel ≤ s'.made + n → StandsAfter p fuel t n s') → HasFuel fuel s → fuel ≤ s.made + suc n → (r : Row) → now p t s ≡ r → StandsAfter p fuel t (suc n) s
unfolding local_steps
stands_next p fuel t n s rest h within (Goes pc stack locals printed) e =
    let counted : (local_step p fuel t s).made ≡ s.made + 1 = ap (λ r. (moved fuel r s).made) e in
    rest (local_step p fuel t s) (moved-has_fuel fuel (now p t s) s h) (omega (arith, counted))
stands_next p fuel t n s rest h within (Ends end) e =
    let counted : (local_step p fuel t s).made ≡ s.made + 1 = ap (λ r. (moved fuel r s).made) e in
    rest (local_step p fuel t s) (moved-has_fuel fuel (now p t s) s h) (omega (arith, counted))
stands_next p fuel t n s rest h within (Stands stop) e =
    (stop, ap (λ x. now p t x) (local_steps-standing p fuel t (suc n) s stop e) ∙ e)

stands_within : (p : Listing) (fuel t n : ℕ) (s : Thread) → HasFuel fuel s → fuel ≤ s.made + n → StandsAfter p fuel t n s
unfolding local_steps
stands_within p fuel t zero s h within =
    stands_at_end p t fuel s.made s.ended (row p (op_at p t s.pc) s.pc s.stack s.locals s.held) h (omega arith)
stands_within p fuel t (suc n) s h within = stands_next p fuel t n s (stands_within p fuel t n) h within (now p t s) refl

-- a thread that has settled stands at a shared instruction or at its end
pub settled-stands : (p : Listing) (fuel t : ℕ) (s : Thread) → HasFuel fuel s → now p t (settled p fuel t s) ≡ Stands (stop_of p t (settled p fuel t s))
unfolding settled
settled-stands p fuel t s h =
    let stands = stands_within p fuel t (fuel - s.made) s h (omega arith) in
    stands.1 ∙ sym (ap (λ r. Stands (stop_in r)) stands.1)

local_steps-has_fuel : (p : Listing) (fuel t n : ℕ) (s : Thread) → HasFuel fuel s → HasFuel fuel (local_steps p fuel t n s)
unfolding local_steps
local_steps-has_fuel p fuel t zero s h = h
local_steps-has_fuel p fuel t (suc n) s h = local_steps-has_fuel p fuel t n (local_step p fuel t s) (moved-has_fuel fuel (now p t s) s h)

-- it has fuel left after that where it has not ended
pub settled-has_fuel : (p : Listing) (fuel t : ℕ) (s : Thread) → HasFuel fuel s → HasFuel fuel (settled p fuel t s)
unfolding settled
settled-has_fuel p fuel t s h = local_steps-has_fuel p fuel t (fuel - s.made) s h

pub answered-has_fuel : (p : Listing) (fuel t word : ℕ) (s : Thread) → HasFuel fuel (answered p fuel t word s)
answered-has_fuel p fuel t word s = λ e. fuel_left fuel (s.made + 1) e
