-- A thread that stands at an end has that end.
use Rattle.std.proofs.Common.{◌≡◌, ℕ, ◌==◌, Bool, List, [], ◌∷◌, Option, Some, None, refl, ap, subst}
use Rattle.std.proofs.lemmas.Bool.{cond_both}
use Rattle.stride_isa.specs.Listing.{Listing, op_at}
use Rattle.stride_isa.specs.declared.op.Op.{Op}
use Rattle.stride_isa.specs.declared.op.Op.TheVariants as ops
use Rattle.sc_machine.specs.declared.end.End.{End}
use Rattle.sc_machine.specs.declared.stop.Stop.{Stop}
use Rattle.sc_machine.specs.declared.stop.Stop.TheVariants as stops
use Rattle.sc_machine.specs.ThreadStep.{Thread, Row, Goes, Ends, Stands, row, divided, member_cell, on_member, holds, now_unless, now, stop_in, stop_of}
use Rattle.sc_machine.specs.ThreadRun.{IsShared}

-- where an instruction stands, it stands at a shared one
abbrev StandsAtShared : Row → Type 0
StandsAtShared (Goes pc stack locals printed) = Unit {0}
StandsAtShared (Ends end) = Unit {0}
StandsAtShared (Stands stop) = IsShared stop

divided_stands : (b word pc : ℕ) (below locals : List ℕ) → StandsAtShared (divided b word pc below locals)
divided_stands b word pc below locals = cond_both (b == 0) _ _ StandsAtShared (λ e. tt) (λ e. tt)

member_stands : (cell : Option ℕ) (pc : ℕ) (stop : ℕ → Stop) → ((n : ℕ) → IsShared (stop n)) → StandsAtShared (on_member cell pc stop)
member_stands None pc stop shared = tt
member_stands (Some cell) pc stop shared = shared cell

-- whatever the instruction is
row_stands : (p : Listing) (op : Op) (pc : ℕ) (stack locals : List ℕ) (flags : List Bool) → StandsAtShared (row p op pc stack locals flags)
row_stands p ops.Div pc (b ∷ []) locals flags = divided_stands b _ pc [] locals
row_stands p ops.Div pc (b ∷ a ∷ below) locals flags = divided_stands b _ pc below locals
row_stands p ops.Rem pc (b ∷ []) locals flags = divided_stands b _ pc [] locals
row_stands p ops.Rem pc (b ∷ a ∷ below) locals flags = divided_stands b _ pc below locals
row_stands p (ops.ReadAt decl) pc [] locals flags = member_stands (member_cell p decl 0) pc _ (λ n. tt)
row_stands p (ops.ReadAt decl) pc (index ∷ below) locals flags = member_stands (member_cell p decl index) pc _ (λ n. tt)
row_stands p (ops.WriteAt decl) pc [] locals flags = member_stands (member_cell p decl 0) pc _ (λ n. tt)
row_stands p (ops.WriteAt decl) pc (index ∷ []) locals flags = member_stands (member_cell p decl index) pc _ (λ n. tt)
row_stands p (ops.WriteAt decl) pc (index ∷ word ∷ below) locals flags = member_stands (member_cell p decl index) pc _ (λ n. tt)
row_stands p (ops.Enter monitor) pc stack locals flags = cond_both (holds flags monitor) _ _ StandsAtShared (λ e. tt) (λ e. tt)
row_stands p (ops.Exit monitor) pc stack locals flags = cond_both (holds flags monitor) _ _ StandsAtShared (λ e. tt) (λ e. tt)
row_stands p op pc [] locals flags = tt
row_stands p op pc (a ∷ []) locals flags = tt
row_stands p op pc (b ∷ a ∷ below) locals flags = tt

-- the end at which a row stands, if it stands at one
abbrev end_in : Stop → Option End
end_in (stops.Read cell) = None
end_in (stops.Write cell value) = None
end_in (stops.Update cell change) = None
end_in (stops.Enter monitor) = None
end_in (stops.Exit monitor) = None
end_in (stops.Ended end) = Some end

-- of a thread that may have ended
end_is : (ended : Option End) (r : Row) (end : End) → StandsAtShared r → now_unless ended r ≡ Stands (stops.Ended end) → ended ≡ Some end
end_is None r end shared stands = absurd (subst StandsAtShared stands shared)
end_is (Some last) r end shared stands = ap (λ r. end_in (stop_in r)) stands

pub ended_is : (p : Listing) (t : ℕ) (s : Thread) (end : End) → now p t s ≡ Stands (stops.Ended end) → s.ended ≡ Some end
ended_is p t s end stands = end_is s.ended _ end (row_stands p (op_at p t s.pc) s.pc s.stack s.locals s.held) stands

-- a thread that stands at an entry has not ended
enters_on : (ended : Option End) (r : Row) (monitor : ℕ) → stop_in (now_unless ended r) ≡ stops.Enter monitor → ended ≡ None
enters_on None r monitor stop = refl
enters_on (Some end) r monitor stop = absurd cc

pub enters_unended : (p : Listing) (t : ℕ) (s : Thread) (monitor : ℕ) → stop_of p t s ≡ stops.Enter monitor → s.ended ≡ None
enters_unended p t s monitor stop = enters_on s.ended _ monitor stop
