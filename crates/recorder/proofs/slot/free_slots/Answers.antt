use Rattle.std.proofs.Common.{◌≡◌, ℕ, ◌+◌, List, [], ◌∷◌, ◌++◌, length, ap, ◌∙◌, sym, subst, length-append}
use Rattle.std.specs.List.{AllByRecursion}
use Rattle.recorder.specs.declared.slot.Slot.{Slot}
use Rattle.recorder.specs.Halves.{IsFree}
use Rattle.recorder.proofs.Rows.{each_more}
use Rattle.recorder.proofs.slot.free_slots.Goals as goal

-- one more free slot
one_more : (fuel count : ℕ) (slots more : List Slot) (slot : Slot) → more ≡ slots ++ slot ∷ [] → length slots ≡ count → AllByRecursion (IsFree fuel) slots → IsFree fuel slot → (length more ≡ count + 1) × AllByRecursion (IsFree fuel) more
one_more fuel count slots more slot is counted all free = (
  ap length is ∙ length-append slots (slot ∷ []) ∙ ap (λ n. n + 1) counted,
  subst (AllByRecursion (IsFree fuel)) (sym is) (each_more (IsFree fuel) slots slot all free),
)

pub loop-preserved : goal.loop-preserved
loop-preserved c =
    one_more c.args.fuel c.loop.counter c.loop.slots.items c.push.new.self.items c.in_ok-free_slot.field-0 c.in_ok-push.ensures.items c.loop.invariant.0 c.loop.invariant.1 c.in_ok-free_slot.ensures
