-- Equal writes, reads and turns have equal parts.
use Rattle.std.proofs.Common.{◌≡◌, ap}
use Rattle.std.specs.Prelude.{Some}
use Rattle.interleavings.specs.Events.{WriteOf, ReadOf, TurnOf}

pub same_write : (a b : WriteOf) → Some a ≡ Some b → (a.cell ≡ b.cell) × (a.number ≡ b.number) × (a.value ≡ b.value)
same_write a b same =
    let e : a ≡ b = cc in (ap (λ (w : WriteOf). w.cell) e, ap (λ (w : WriteOf). w.number) e, ap (λ (w : WriteOf). w.value) e)

pub same_read : (a b : ReadOf) → Some a ≡ Some b → (a.cell ≡ b.cell) × (a.value ≡ b.value)
same_read a b same =
    let e : a ≡ b = cc in (ap (λ (r : ReadOf). r.cell) e, ap (λ (r : ReadOf). r.value) e)

pub same_turn : (a b : TurnOf) → Some a ≡ Some b → (a.monitor ≡ b.monitor) × (a.turn ≡ b.turn)
same_turn a b same =
    let e : a ≡ b = cc in (ap (λ (t : TurnOf). t.monitor) e, ap (λ (t : TurnOf). t.turn) e)
