-- No instruction stops a thread: only giving up does.
use Rattle.std.proofs.Common.{◌≡◌, ℕ, zero, suc, ◌+◌, ◌-◌, ◌==◌, Bool, List, [], ◌∷◌, Option, Some, None, subst}
use Rattle.std.proofs.lemmas.Bool.{cond_both}
use Rattle.std.specs.Prelude.{nat_lt}
use Rattle.std.specs.List.{list_any}
use Rattle.stride_isa.specs.Listing.{Listing, op_at}
use Rattle.stride_isa.specs.declared.op.Op.{Op}
use Rattle.stride_isa.specs.declared.op.Op.TheVariants as ops
use Rattle.sc_machine.specs.declared.end.End.{End}
use Rattle.sc_machine.specs.declared.end.End.TheVariants.{Halted, Trapped, OutOfSteps, Stopped}
use Rattle.sc_machine.specs.declared.stop.Stop.{Stop}
use Rattle.sc_machine.specs.ThreadStep.{Thread, Row, Goes, Ends, Stands, row, start_thread, divided, member_cell, on_member, holds, now_unless, now, moved, out_of_steps, local_step, local_steps, settled, answered}
use Rattle.interleavings.specs.declared.event.Event.{Event}
use Rattle.interleavings.specs.Events.{word_given}
use Rattle.interleavings.specs.EventStep.{after_event}
use Rattle.interleavings.specs.Following.{no_turns, turns_after}
use Rattle.interleavings.specs.Walking.{Walks}

-- an end that is not that of a thread that was stopped, or none
abbrev pub IsUnstopped : Option End → Type 0
IsUnstopped None = Unit {0}
IsUnstopped (Some Halted) = Unit {0}
IsUnstopped (Some (Trapped trap pc)) = Unit {0}
IsUnstopped (Some OutOfSteps) = Unit {0}
IsUnstopped (Some (Stopped pc)) = ⊥

-- what an instruction comes to stops no thread
abbrev RowGoesOn : Row → Type 0
RowGoesOn (Goes pc stack locals printed) = Unit {0}
RowGoesOn (Ends end) = IsUnstopped (Some end)
RowGoesOn (Stands stop) = Unit {0}

-- a quotient, or its trap
divided_goes_on : (b word pc : ℕ) (below locals : List ℕ) → RowGoesOn (divided b word pc below locals)
divided_goes_on b word pc below locals = cond_both (b == 0) _ _ RowGoesOn (λ e. tt) (λ e. tt)

-- an access to an array's member, or its trap
member_goes_on : (cell : Option ℕ) (pc : ℕ) (stop : ℕ → Stop) → RowGoesOn (on_member cell pc stop)
member_goes_on None pc stop = tt
member_goes_on (Some cell) pc stop = tt

-- whatever the instruction is
row_goes_on : (p : Listing) (op : Op) (pc : ℕ) (stack locals : List ℕ) (flags : List Bool) → RowGoesOn (row p op pc stack locals flags)
row_goes_on p ops.Div pc (b ∷ []) locals flags = divided_goes_on b _ pc [] locals
row_goes_on p ops.Div pc (b ∷ a ∷ below) locals flags = divided_goes_on b _ pc below locals
row_goes_on p ops.Rem pc (b ∷ []) locals flags = divided_goes_on b _ pc [] locals
row_goes_on p ops.Rem pc (b ∷ a ∷ below) locals flags = divided_goes_on b _ pc below locals
row_goes_on p (ops.ReadAt decl) pc [] locals flags = member_goes_on (member_cell p decl 0) pc _
row_goes_on p (ops.ReadAt decl) pc (index ∷ below) locals flags = member_goes_on (member_cell p decl index) pc _
row_goes_on p (ops.WriteAt decl) pc [] locals flags = member_goes_on (member_cell p decl 0) pc _
row_goes_on p (ops.WriteAt decl) pc (index ∷ []) locals flags = member_goes_on (member_cell p decl index) pc _
row_goes_on p (ops.WriteAt decl) pc (index ∷ word ∷ below) locals flags = member_goes_on (member_cell p decl index) pc _
row_goes_on p (ops.Enter monitor) pc stack locals flags = cond_both (holds flags monitor) _ _ RowGoesOn (λ e. tt) (λ e. tt)
row_goes_on p (ops.Exit monitor) pc stack locals flags = cond_both (holds flags monitor) _ _ RowGoesOn (λ e. tt) (λ e. tt)
row_goes_on p ops.Halt pc stack locals flags = cond_both (list_any (λ flag. flag) flags) _ _ (λ end. IsUnstopped (Some end)) (λ e. tt) (λ e. tt)
row_goes_on p op pc [] locals flags = tt
row_goes_on p op pc (a ∷ []) locals flags = tt
row_goes_on p op pc (b ∷ a ∷ below) locals flags = tt

-- of a thread that may have ended
now_goes_on : (ended : Option End) (r : Row) → RowGoesOn r → RowGoesOn (now_unless ended r)
now_goes_on None r on = on
now_goes_on (Some end) r on = tt

-- a thread without fuel ends as out of steps
out_goes_on : (fuel made : ℕ) → IsUnstopped (out_of_steps fuel made)
out_goes_on fuel made = cond_both (nat_lt made fuel) None (Some OutOfSteps) IsUnstopped (λ e. tt) (λ e. tt)

moved_goes_on : (fuel : ℕ) (r : Row) (s : Thread) → RowGoesOn r → IsUnstopped s.ended → IsUnstopped (moved fuel r s).ended
moved_goes_on fuel (Goes pc stack locals printed) s on before = out_goes_on fuel (s.made + 1)
moved_goes_on fuel (Ends end) s on before = on
moved_goes_on fuel (Stands stop) s on before = before

-- local instructions
steps_go_on : (p : Listing) (fuel t n : ℕ) (s : Thread) → IsUnstopped s.ended → IsUnstopped (local_steps p fuel t n s).ended
unfolding local_steps
steps_go_on p fuel t zero s before = before
steps_go_on p fuel t (suc n) s before = steps_go_on p fuel t n (local_step p fuel t s) (moved_goes_on fuel (now p t s) s (now_goes_on s.ended (row p (op_at p t s.pc) s.pc s.stack s.locals s.held) (row_goes_on p (op_at p t s.pc) s.pc s.stack s.locals s.held)) before)

settled_goes_on : (p : Listing) (fuel t : ℕ) (s : Thread) → IsUnstopped s.ended → IsUnstopped (settled p fuel t s).ended
unfolding settled
settled_goes_on p fuel t s before = steps_go_on p fuel t (fuel - s.made) s before

-- events
walk_goes_on : (p : Listing) (fuel t : ℕ) (es : List Event) (turns : ℕ → ℕ) (s last : Thread) → Walks p fuel t es turns s last → IsUnstopped s.ended → IsUnstopped last.ended
walk_goes_on p fuel t [] turns s last walks before = subst (λ (x : Thread). IsUnstopped x.ended) walks before
walk_goes_on p fuel t (event ∷ es) turns s last walks before =
    walk_goes_on p fuel t es (turns_after event turns) (after_event p fuel t event s) last walks.1 (settled_goes_on p fuel t (answered p fuel t (word_given event) s) (out_goes_on fuel (s.made + 1)))

-- so a thread that has come by some events was not stopped
pub not_stopped : (p : Listing) (fuel t : ℕ) (es : List Event) (last : Thread) → Walks p fuel t es no_turns (settled p fuel t start_thread) last → (pc : ℕ) → last.ended ≡ Some (Stopped pc) → ⊥
not_stopped p fuel t es last walks pc e = subst IsUnstopped e (walk_goes_on p fuel t es no_turns (settled p fuel t start_thread) last walks (settled_goes_on p fuel t start_thread tt))
