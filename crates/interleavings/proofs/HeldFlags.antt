-- The monitors that a thread holds, by the instruction at which it stands: the only lemmas here that name instructions.
use Rattle.std.proofs.Common.{◌≡◌, ℕ, zero, suc, ◌-◌, ◌==◌, Bool, true, false, List, [], ◌∷◌, Option, Some, None, replicate, refl, ◌∙◌, inl, inr}
use Rattle.std.proofs.lemmas.Bool.{cond_both, cases_lt}
use Rattle.std.proofs.lemmas.List.{get_or-replicate, get_or_past, length-replicate}
use Rattle.std.specs.Prelude.{slice_set}
use Rattle.stride_isa.specs.Listing.{Listing, op_at}
use Rattle.stride_isa.specs.declared.op.Op.{Op}
use Rattle.stride_isa.specs.declared.op.Op.TheVariants as ops
use Rattle.sc_machine.specs.declared.end.End.{End}
use Rattle.sc_machine.specs.declared.stop.Stop.{Stop}
use Rattle.sc_machine.specs.declared.stop.Stop.TheVariants as stops
use Rattle.sc_machine.specs.ThreadStep.{Thread, Row, Goes, Ends, Stands, row, divided, member_cell, on_member, holds, now_unless, now, moved, local_step, local_steps, settled, stop_in, stop_of, done_held, answered}

-- the monitors held once the shared instruction at which the thread stands is answered
abbrev pub flags_after : Stop → List Bool → List Bool
flags_after (stops.Read cell) flags = flags
flags_after (stops.Write cell value) flags = flags
flags_after (stops.Update cell change) flags = flags
flags_after (stops.Enter monitor) flags = slice_set flags monitor true
flags_after (stops.Exit monitor) flags = slice_set flags monitor false
flags_after (stops.Ended end) flags = flags

-- a thread stands at an exit only of a monitor that it holds
abbrev pub HoldsAtExit : Stop → List Bool → Type 0
HoldsAtExit (stops.Read cell) flags = Unit {0}
HoldsAtExit (stops.Write cell value) flags = Unit {0}
HoldsAtExit (stops.Update cell change) flags = Unit {0}
HoldsAtExit (stops.Enter monitor) flags = Unit {0}
HoldsAtExit (stops.Exit monitor) flags = holds flags monitor ≡ true
HoldsAtExit (stops.Ended end) flags = Unit {0}

-- a thread stands at an entry into a monitor only where its instruction enters it
abbrev pub EntersAt : Stop → Op → Type 0
EntersAt (stops.Read cell) op = Unit {0}
EntersAt (stops.Write cell value) op = Unit {0}
EntersAt (stops.Update cell change) op = Unit {0}
EntersAt (stops.Enter monitor) op = op ≡ ops.Enter monitor
EntersAt (stops.Exit monitor) op = Unit {0}
EntersAt (stops.Ended end) op = Unit {0}

-- a shared instruction sets the flags as this stop says, is an exit only of a monitor that is held, and enters the stop's
-- monitor
pub record FitsStop (stop : Stop) (op : Op) (flags : List Bool) : Type 0 where
  pub flags_are : done_held op flags ≡ flags_after stop flags
  pub at_exit : HoldsAtExit stop flags
  pub enters : EntersAt stop op

-- an instruction fits the stop to which it comes; an end fits any
abbrev pub IsAnsweredAs : Stop → Op → List Bool → Type 0
IsAnsweredAs (stops.Read cell) op flags = FitsStop (stops.Read cell) op flags
IsAnsweredAs (stops.Write cell value) op flags = FitsStop (stops.Write cell value) op flags
IsAnsweredAs (stops.Update cell change) op flags = FitsStop (stops.Update cell change) op flags
IsAnsweredAs (stops.Enter monitor) op flags = FitsStop (stops.Enter monitor) op flags
IsAnsweredAs (stops.Exit monitor) op flags = FitsStop (stops.Exit monitor) op flags
IsAnsweredAs (stops.Ended end) op flags = Unit {0}

-- a quotient comes to no shared instruction
divided_answered : (b word pc : ℕ) (below locals : List ℕ) (op : Op) (flags : List Bool) → IsAnsweredAs (stop_in (divided b word pc below locals)) op flags
divided_answered b word pc below locals op flags = cond_both (b == 0) _ _ (λ r. IsAnsweredAs (stop_in r) op flags) (λ e. tt) (λ e. tt)

-- a read of an array's member, or its trap
read_answered : (cell : Option ℕ) (pc decl : ℕ) (flags : List Bool) → IsAnsweredAs (stop_in (on_member cell pc (λ c. stops.Read c))) (ops.ReadAt decl) flags
read_answered None pc decl flags = tt
read_answered (Some cell) pc decl flags = record { flags_are = refl; at_exit = tt; enters = tt }

-- a write of an array's member, or its trap
write_answered : (cell : Option ℕ) (pc decl word : ℕ) (flags : List Bool) → IsAnsweredAs (stop_in (on_member cell pc (λ c. stops.Write c word))) (ops.WriteAt decl) flags
write_answered None pc decl word flags = tt
write_answered (Some cell) pc decl word flags = record { flags_are = refl; at_exit = tt; enters = tt }

-- whatever an instruction comes to, it sets the flags as that says
row_answered : (p : Listing) (op : Op) (pc : ℕ) (stack locals : List ℕ) (flags : List Bool) → IsAnsweredAs (stop_in (row p op pc stack locals flags)) op flags
row_answered p ops.Div pc (b ∷ []) locals flags = divided_answered b _ pc [] locals ops.Div flags
row_answered p ops.Div pc (b ∷ a ∷ below) locals flags = divided_answered b _ pc below locals ops.Div flags
row_answered p ops.Rem pc (b ∷ []) locals flags = divided_answered b _ pc [] locals ops.Rem flags
row_answered p ops.Rem pc (b ∷ a ∷ below) locals flags = divided_answered b _ pc below locals ops.Rem flags
row_answered p (ops.Read decl) pc stack locals flags = record { flags_are = refl; at_exit = tt; enters = tt }
row_answered p (ops.Write decl) pc [] locals flags = record { flags_are = refl; at_exit = tt; enters = tt }
row_answered p (ops.Write decl) pc (word ∷ below) locals flags = record { flags_are = refl; at_exit = tt; enters = tt }
row_answered p (ops.ReadAt decl) pc [] locals flags = read_answered (member_cell p decl 0) pc decl flags
row_answered p (ops.ReadAt decl) pc (index ∷ below) locals flags = read_answered (member_cell p decl index) pc decl flags
row_answered p (ops.WriteAt decl) pc [] locals flags = write_answered (member_cell p decl 0) pc decl 0 flags
row_answered p (ops.WriteAt decl) pc (index ∷ []) locals flags = write_answered (member_cell p decl index) pc decl 0 flags
row_answered p (ops.WriteAt decl) pc (index ∷ word ∷ below) locals flags = write_answered (member_cell p decl index) pc decl word flags
row_answered p (ops.Xchg decl) pc [] locals flags = record { flags_are = refl; at_exit = tt; enters = tt }
row_answered p (ops.Xchg decl) pc (word ∷ below) locals flags = record { flags_are = refl; at_exit = tt; enters = tt }
row_answered p (ops.AddTo decl) pc [] locals flags = record { flags_are = refl; at_exit = tt; enters = tt }
row_answered p (ops.AddTo decl) pc (word ∷ below) locals flags = record { flags_are = refl; at_exit = tt; enters = tt }
row_answered p (ops.Cas decl) pc [] locals flags = record { flags_are = refl; at_exit = tt; enters = tt }
row_answered p (ops.Cas decl) pc (new ∷ []) locals flags = record { flags_are = refl; at_exit = tt; enters = tt }
row_answered p (ops.Cas decl) pc (new ∷ expected ∷ below) locals flags = record { flags_are = refl; at_exit = tt; enters = tt }
row_answered p (ops.Enter monitor) pc stack locals flags = cond_both (holds flags monitor) _ _ (λ r. IsAnsweredAs (stop_in r) (ops.Enter monitor) flags) (λ e. tt) (λ e. record { flags_are = refl; at_exit = tt; enters = refl })
row_answered p (ops.Exit monitor) pc stack locals flags = cond_both (holds flags monitor) _ _ (λ r. IsAnsweredAs (stop_in r) (ops.Exit monitor) flags) (λ e. record { flags_are = refl; at_exit = e; enters = tt }) (λ e. tt)
row_answered p op pc [] locals flags = tt
row_answered p op pc (a ∷ []) locals flags = tt
row_answered p op pc (b ∷ a ∷ below) locals flags = tt

-- the same of a thread that may have ended
unless_answered : (ended : Option End) (r : Row) (op : Op) (flags : List Bool) → IsAnsweredAs (stop_in r) op flags → IsAnsweredAs (stop_in (now_unless ended r)) op flags
unless_answered None r op flags answered = answered
unless_answered (Some end) r op flags answered = tt

-- a thread's flags after the answer are as its stop says
pub stands_answered : (p : Listing) (t : ℕ) (s : Thread) → IsAnsweredAs (stop_of p t s) (op_at p t s.pc) s.held
stands_answered p t s = unless_answered s.ended (row p (op_at p t s.pc) s.pc s.stack s.locals s.held) (op_at p t s.pc) s.held (row_answered p (op_at p t s.pc) s.pc s.stack s.locals s.held)

-- a local instruction keeps the flags
moved-held : (fuel : ℕ) (r : Row) (s : Thread) → (moved fuel r s).held ≡ s.held
moved-held fuel (Goes pc stack locals printed) s = refl
moved-held fuel (Ends end) s = refl
moved-held fuel (Stands stop) s = refl

-- and so do several
local_steps-held : (p : Listing) (fuel t n : ℕ) (s : Thread) → (local_steps p fuel t n s).held ≡ s.held
unfolding local_steps
local_steps-held p fuel t zero s = refl
local_steps-held p fuel t (suc n) s = local_steps-held p fuel t n (local_step p fuel t s) ∙ moved-held fuel (now p t s) s

-- a thread that settles keeps its flags
pub settled-held : (p : Listing) (fuel t : ℕ) (s : Thread) → (settled p fuel t s).held ≡ s.held
unfolding settled
settled-held p fuel t s = local_steps-held p fuel t (fuel - s.made) s

-- no flag of a list of lowered flags is up
pub none_held : (n monitor : ℕ) → holds (replicate n false) monitor ≡ false
none_held n monitor = elim (cases_lt monitor n) [
  | inl h ↦ get_or-replicate n monitor false false h
  | inr h ↦ get_or_past (replicate n false) monitor false (simp length-replicate h)
]
