-- Reads, writes and updates of a cell, as rows of atomic steps.
use Rattle.std.specs.Prelude.{◌≡◌, ℕ, ◌+◌, ◌*◌, false, List, [], ◌∷◌}
use Rattle.stride_isa.specs.Changes.{applied}
use Rattle.stride_isa.specs.declared.change.Change.{Change}
use Rattle.interleavings.specs.declared.kind.Kind.TheVariants as by
use Rattle.interleavings.specs.AtomicStep.{is_even}
use Rattle.shared_rule.specs.declared.view.View.{View}
use Rattle.shared_rule.specs.Views.{view_after}
use Rattle.write_turns.specs.Claiming.{Takes}

-- loads of a number that were odd, the last of them first
abbrev pub AreOdd : List ℕ → Type 0
AreOdd [] = Unit {0}
AreOdd (met ∷ mets) = (is_even met ≡ false) × AreOdd mets

-- the view after such loads at a cell
abbrev pub after_loads : ℕ → View → List ℕ → View
after_loads cell v [] = v
after_loads cell v (met ∷ mets) = view_after by.NumberLoad cell 0 (after_loads cell v mets) met

-- a read: the value is loaded, and then the number until it is even
pub record Reads (cell : ℕ) (before : View) (value bound : ℕ) (now : View) : Type 0 where
  pub mets : List ℕ
  pub odd : AreOdd mets
  pub view : now ≡ view_after by.NumberLoad cell 0 (after_loads cell (view_after by.ValueLoad cell 0 before value) mets) (2 * bound)

-- the number is loaded until it is even, the value having been loaded before
pub record Waits (cell : ℕ) (before : View) (bound : ℕ) (now : View) : Type 0 where
  pub mets : List ℕ
  pub odd : AreOdd mets
  pub view : now ≡ view_after by.NumberLoad cell 0 (after_loads cell before mets) (2 * bound)

-- a write: a number is claimed, the value is put, and the number is completed
pub record Writes (cell value : ℕ) (before : View) (number : ℕ) (now : View) : Type 0 where
  pub claimed : View
  pub below : ℕ
  pub takes : Takes cell before below claimed
  pub next : number ≡ below + 1
  pub view : now ≡ view_after by.Complete cell 0 (view_after by.Put cell value claimed 0) 0

-- an update: a number is claimed, the old value is loaded, the value that the change makes of it is put, and the number is
-- completed
pub record Updates (cell : ℕ) (change : Change) (before : View) (old number : ℕ) (now : View) : Type 0 where
  pub claimed : View
  pub below : ℕ
  pub takes : Takes cell before below claimed
  pub next : number ≡ below + 1
  pub view : now ≡ view_after by.Complete cell 0 (view_after by.Put cell (applied change old) (view_after by.Fetch cell 0 claimed old) 0) 0
