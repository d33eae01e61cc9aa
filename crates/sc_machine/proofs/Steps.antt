-- Lemmas on the local steps of one thread.
use Rattle.std.proofs.Common.{◌≡◌, ℕ, zero, suc, ◌+◌, ◌-◌, ◌<◌, true, Option, Some, None, refl, sym, ◌∙◌, ap, arith}
use Rattle.std.specs.Option.{is_some}
use Rattle.stride_isa.specs.Listing.{Listing, op_at}
use Rattle.sc_machine.specs.declared.end.End.{End}
use Rattle.sc_machine.specs.declared.stop.Stop.{Stop}
use Rattle.sc_machine.specs.ThreadStep.{Thread, Row, Stands, row, now_unless, now, moved, local_step, local_steps, settled, stop_in, stop_of}

-- a thread that stands stays where it is
pub local_steps-standing : (p : Listing) (fuel t n : ℕ) (s : Thread) (stop : Stop) → now p t s ≡ Stands stop → local_steps p fuel t n s ≡ s
unfolding local_steps
local_steps-standing p fuel t zero s stop e = refl
local_steps-standing p fuel t (suc n) s stop e =
    ap (λ r. local_steps p fuel t n (moved fuel r s)) e ∙ local_steps-standing p fuel t n s stop e

pub settled-standing : (p : Listing) (fuel t : ℕ) (s : Thread) (stop : Stop) → now p t s ≡ Stands stop → settled p fuel t s ≡ s
unfolding settled
settled-standing p fuel t s stop e = local_steps-standing p fuel t (fuel - s.made) s stop e

-- so does one that has ended
ended_stands : (ended : Option End) (r : Row) → is_some ended ≡ true → now_unless ended r ≡ Stands (stop_in (now_unless ended r))
ended_stands None r is = cc
ended_stands (Some end) r is = refl

pub settled-ended : (p : Listing) (fuel t : ℕ) (s : Thread) → is_some s.ended ≡ true → settled p fuel t s ≡ s
settled-ended p fuel t s is =
    settled-standing p fuel t s (stop_of p t s) (ended_stands s.ended (row p (op_at p t s.pc) s.pc s.stack s.locals s.held) is)

-- where a thread settles is where it settles after one local instruction
pub settled-step : (p : Listing) (fuel t : ℕ) (s : Thread) → s.made < fuel → (local_step p fuel t s).made ≡ s.made + 1 → settled p fuel t (local_step p fuel t s) ≡ settled p fuel t s
unfolding settled local_steps
settled-step p fuel t s left counted =
    let less : fuel - s.made ≡ suc (fuel - (s.made + 1)) = omega arith in
    ap (λ made. local_steps p fuel t (fuel - made) (local_step p fuel t s)) counted ∙ sym (ap (λ n. local_steps p fuel t n s) less)
