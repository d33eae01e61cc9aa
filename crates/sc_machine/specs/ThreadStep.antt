-- The step of one thread: what the instruction at its position does, and how its local instructions lead on to the
-- next shared one or to its end.
use Rattle.std.specs.Prelude.{ℕ, zero, suc, ◌+◌, ◌-◌, ◌*◌, ◌/◌, ◌%◌, ◌^◌, ◌==◌, Bool, true, false, if◌then◌else◌, List, [], ◌∷◌, ◌++◌, replicate, Option, Some, None, nat_lt, unwrap_or, slice_index, slice_index_or, slice_set, bit_and, bit_or, bit_xor, decimal}
use Rattle.std.specs.List.{list_any}
use Rattle.stride_isa.specs.Limits.{local_count, monitor_limit}
use Rattle.stride_isa.specs.Listing.{Listing, op_at, decl_at, cells_of, first_cell}
use Rattle.stride_isa.specs.declared.change.Change.TheVariants.{Store, Plus, IfEqual}
use Rattle.stride_isa.specs.declared.op.Op.{Op}
use Rattle.stride_isa.specs.declared.op.Op.TheVariants as ops
use Rattle.sc_machine.specs.declared.trap.Trap.{Trap}
use Rattle.sc_machine.specs.declared.trap.Trap.TheVariants.{DivZero, Range, Again, NotHeld, HeldAtHalt}
use Rattle.sc_machine.specs.declared.end.End.{End}
use Rattle.sc_machine.specs.declared.end.End.TheVariants.{Halted, Trapped, OutOfSteps, Stopped}
use Rattle.sc_machine.specs.declared.stop.Stop.{Stop}
use Rattle.sc_machine.specs.declared.stop.Stop.TheVariants.{Read, Write, Update, Enter, Exit, Ended}

-- a thread: the position of its next instruction, its operand stack with the topmost word first, its locals, of each
-- monitor whether the thread holds it, the bytes that it printed, how many instructions it made, and its end or none
pub record Thread : Type 0 where
  pub pc : ℕ
  pub stack : List ℕ
  pub locals : List ℕ
  pub held : List Bool
  pub out : List ℕ
  pub made : ℕ
  pub ended : Option End

-- a thread that has made nothing yet
abbrev pub start_thread : Thread
start_thread = record { pc = 0; stack = []; locals = replicate local_count 0; held = replicate monitor_limit false; out = []; made = 0; ended = None }

-- what an instruction comes to: the thread goes on, with this position, stack and locals and these bytes printed; it
-- ends; or the instruction is a shared one, at which the thread stands until it is answered
pub data Row : Type 0 where
  Goes : (pc : ℕ) → (stack : List ℕ) → (locals : List ℕ) → (printed : List ℕ) → Row
  Ends : End → Row
  Stands : Stop → Row

-- the bytes that it prints
abbrev pub printed_by : Row → List ℕ
printed_by (Goes pc stack locals printed) = printed
printed_by (Ends end) = []
printed_by (Stands stop) = []

-- a function of the topmost word and of the words below it; a missing word reads as 0
abbrev pub on_top : {X : Type 0} → List ℕ → (ℕ → List ℕ → X) → X
on_top [] f = f 0 []
on_top (word ∷ below) f = f word below

-- a function of the topmost word b, of the word a below it, and of the words below both
abbrev pub on_two : {X : Type 0} → List ℕ → (ℕ → ℕ → List ℕ → X) → X
on_two stack f = on_top stack (λ b rest. on_top rest (λ a below. f a b below))

-- the thread goes on with the next instruction, with this stack
abbrev pub next_with : ℕ → List ℕ → List ℕ → Row
next_with pc stack locals = Goes (pc + 1) stack locals []

-- the thread ends by a trap of the instruction at this position
abbrev pub traps : Trap → ℕ → Row
traps trap pc = Ends (Trapped trap pc)

-- what a division by b comes to, which leaves this word
abbrev pub divided : ℕ → ℕ → ℕ → List ℕ → List ℕ → Row
divided b word pc below locals = if b == 0 then traps DivZero pc else next_with pc (word ∷ below) locals

-- a truth value as a word
abbrev pub truth : Bool → ℕ
truth test = if test then 1 else 0

-- the cell of an array's member, none where the index is not below the array's size
abbrev pub member_cell : Listing → ℕ → ℕ → Option ℕ
member_cell p decl index =
    if nat_lt index (cells_of (decl_at p decl).shape) then Some (first_cell p.decls decl + index) else None

-- what an access to an array's member comes to, by its cell
abbrev pub on_member : Option ℕ → ℕ → (ℕ → Stop) → Row
on_member None pc stop = traps Range pc
on_member (Some cell) pc stop = Stands (stop cell)

-- whether the thread holds the monitor
abbrev pub holds : List Bool → ℕ → Bool
holds held monitor = slice_index_or held monitor false

-- the end that a halt gives, by the monitors held
abbrev pub halt_end : List Bool → ℕ → End
halt_end held pc = if list_any (λ flag. flag) held then Trapped HeldAtHalt pc else Halted

-- what an instruction comes to where it is met at this position, with this stack, these locals and these monitors held;
-- words have 64 bits, sums, differences and products wrap, and a shared instruction that traps ends the thread as a
-- local one does
abbrev pub row : Listing → Op → ℕ → List ℕ → List ℕ → List Bool → Row
row p (ops.Push word) pc stack locals held = next_with pc (word ∷ stack) locals
row p ops.Dup pc stack locals held = on_top stack (λ a below. next_with pc (a ∷ a ∷ below) locals)
row p ops.Drop pc stack locals held = on_top stack (λ a below. next_with pc below locals)
row p ops.Swap pc stack locals held = on_two stack (λ a b below. next_with pc (a ∷ b ∷ below) locals)
row p ops.Over pc stack locals held = on_two stack (λ a b below. next_with pc (a ∷ b ∷ a ∷ below) locals)
row p ops.Add pc stack locals held = on_two stack (λ a b below. next_with pc (((a + b) % 2 ^ 64) ∷ below) locals)
row p ops.Sub pc stack locals held = on_two stack (λ a b below. next_with pc (((a + (2 ^ 64 - b)) % 2 ^ 64) ∷ below) locals)
row p ops.Mul pc stack locals held = on_two stack (λ a b below. next_with pc (((a * b) % 2 ^ 64) ∷ below) locals)
row p ops.Div pc stack locals held = on_two stack (λ a b below. divided b (a / b) pc below locals)
row p ops.Rem pc stack locals held = on_two stack (λ a b below. divided b (a % b) pc below locals)
row p ops.And pc stack locals held = on_two stack (λ a b below. next_with pc (bit_and a b ∷ below) locals)
row p ops.Or pc stack locals held = on_two stack (λ a b below. next_with pc (bit_or a b ∷ below) locals)
row p ops.Xor pc stack locals held = on_two stack (λ a b below. next_with pc (bit_xor a b ∷ below) locals)
row p ops.Shl pc stack locals held = on_two stack (λ a b below. next_with pc (((a * 2 ^ (b % 64)) % 2 ^ 64) ∷ below) locals)
row p ops.Shr pc stack locals held = on_two stack (λ a b below. next_with pc ((a / 2 ^ (b % 64)) ∷ below) locals)
row p ops.Eq pc stack locals held = on_two stack (λ a b below. next_with pc (truth (a == b) ∷ below) locals)
row p ops.Lt pc stack locals held = on_two stack (λ a b below. next_with pc (truth (nat_lt a b) ∷ below) locals)
row p ops.Not pc stack locals held = on_top stack (λ a below. next_with pc ((2 ^ 64 - 1 - a) ∷ below) locals)
row p (ops.Get local) pc stack locals held = next_with pc (slice_index locals local ∷ stack) locals
row p (ops.Set local) pc stack locals held = on_top stack (λ a below. next_with pc below (slice_set locals local a))
row p (ops.Jump target) pc stack locals held = Goes target stack locals []
row p (ops.Jz target) pc stack locals held = on_top stack (λ a below. Goes (if a == 0 then target else pc + 1) below locals [])
row p (ops.Jnz target) pc stack locals held = on_top stack (λ a below. Goes (if a == 0 then pc + 1 else target) below locals [])
row p (ops.Read decl) pc stack locals held = Stands (Read (first_cell p.decls decl))
row p (ops.Write decl) pc stack locals held = on_top stack (λ word below. Stands (Write (first_cell p.decls decl) word))
row p (ops.ReadAt decl) pc stack locals held = on_top stack (λ index below. on_member (member_cell p decl index) pc (λ cell. Read cell))
row p (ops.WriteAt decl) pc stack locals held = on_two stack (λ word index below. on_member (member_cell p decl index) pc (λ cell. Write cell word))
row p (ops.Xchg decl) pc stack locals held = on_top stack (λ word below. Stands (Update (first_cell p.decls decl) (Store word)))
row p (ops.AddTo decl) pc stack locals held = on_top stack (λ word below. Stands (Update (first_cell p.decls decl) (Plus word)))
row p (ops.Cas decl) pc stack locals held = on_two stack (λ expected new below. Stands (Update (first_cell p.decls decl) (IfEqual expected new)))
row p (ops.Enter monitor) pc stack locals held = if holds held monitor then traps Again pc else Stands (Enter monitor)
row p (ops.Exit monitor) pc stack locals held = if holds held monitor then Stands (Exit monitor) else traps NotHeld pc
row p ops.Print pc stack locals held = on_top stack (λ word below. Goes (pc + 1) below locals (decimal word ++ 10 ∷ []))
row p ops.Halt pc stack locals held = Ends (halt_end held pc)

-- a thread that has ended stands at its end, another at what comes of its next instruction
abbrev pub now_unless : Option End → Row → Row
now_unless None next = next
now_unless (Some end) next = Stands (Ended end)

-- what comes next for thread number t of the program
abbrev pub now : Listing → ℕ → Thread → Row
now p t s = now_unless s.ended (row p (op_at p t s.pc) s.pc s.stack s.locals s.held)

-- the end of a thread that has made this many instructions and has none yet: out of steps where the fuel is used up
abbrev pub out_of_steps : ℕ → ℕ → Option End
out_of_steps fuel made = if nat_lt made fuel then None else Some OutOfSteps

-- the thread after an instruction that comes to this; a shared one is not made here
abbrev pub moved : ℕ → Row → Thread → Thread
moved fuel (Goes pc stack locals printed) s =
    record s { pc = pc; stack = stack; locals = locals; out = s.out ++ printed; made = s.made + 1; ended = out_of_steps fuel (s.made + 1) }
moved fuel (Ends end) s = record s { made = s.made + 1; ended = Some end }
moved fuel (Stands stop) s = s

-- the thread after its next instruction where that is local; a thread that stands stays as it is
abbrev pub local_step : Listing → ℕ → ℕ → Thread → Thread
local_step p fuel t s = moved fuel (now p t s) s

-- the thread after up to n local instructions
unfoldable pub local_steps : Listing → ℕ → ℕ → ℕ → Thread → Thread
local_steps p fuel t zero s = s
local_steps p fuel t (suc n) s = local_steps p fuel t n (local_step p fuel t s)

-- the thread after its local instructions up to the next shared one or its end; the fuel bounds their number
unfoldable pub settled : Listing → ℕ → ℕ → Thread → Thread
settled p fuel t s = local_steps p fuel t (fuel - s.made) s

-- where a thread stands; one that goes on or ends reads as if it had halted
abbrev pub stop_in : Row → Stop
stop_in (Goes pc stack locals printed) = Ended Halted
stop_in (Ends end) = Ended Halted
stop_in (Stands stop) = stop

-- the shared instruction, or the end, at which the thread stands
abbrev pub stop_of : Listing → ℕ → Thread → Stop
stop_of p t s = stop_in (now p t s)

-- the stack after a shared instruction, given the word that it reads; an update pushes the old value. A local instruction
-- is not made by an answer and leaves the stack
abbrev pub done_stack : Op → List ℕ → ℕ → List ℕ
done_stack (ops.Push number) stack word = stack
done_stack ops.Dup stack word = stack
done_stack ops.Drop stack word = stack
done_stack ops.Swap stack word = stack
done_stack ops.Over stack word = stack
done_stack ops.Add stack word = stack
done_stack ops.Sub stack word = stack
done_stack ops.Mul stack word = stack
done_stack ops.Div stack word = stack
done_stack ops.Rem stack word = stack
done_stack ops.And stack word = stack
done_stack ops.Or stack word = stack
done_stack ops.Xor stack word = stack
done_stack ops.Shl stack word = stack
done_stack ops.Shr stack word = stack
done_stack ops.Eq stack word = stack
done_stack ops.Lt stack word = stack
done_stack ops.Not stack word = stack
done_stack (ops.Get local) stack word = stack
done_stack (ops.Set local) stack word = stack
done_stack (ops.Jump target) stack word = stack
done_stack (ops.Jz target) stack word = stack
done_stack (ops.Jnz target) stack word = stack
done_stack (ops.Read decl) stack word = word ∷ stack
done_stack (ops.Write decl) stack word = on_top stack (λ top below. below)
done_stack (ops.ReadAt decl) stack word = on_top stack (λ index below. word ∷ below)
done_stack (ops.WriteAt decl) stack word = on_two stack (λ value index below. below)
done_stack (ops.Xchg decl) stack word = on_top stack (λ top below. word ∷ below)
done_stack (ops.AddTo decl) stack word = on_top stack (λ top below. word ∷ below)
done_stack (ops.Cas decl) stack word = on_two stack (λ expected new below. word ∷ below)
done_stack (ops.Enter monitor) stack word = stack
done_stack (ops.Exit monitor) stack word = stack
done_stack ops.Print stack word = stack
done_stack ops.Halt stack word = stack

-- the monitors held after a shared instruction; a local one leaves them
abbrev pub done_held : Op → List Bool → List Bool
done_held (ops.Push number) held = held
done_held ops.Dup held = held
done_held ops.Drop held = held
done_held ops.Swap held = held
done_held ops.Over held = held
done_held ops.Add held = held
done_held ops.Sub held = held
done_held ops.Mul held = held
done_held ops.Div held = held
done_held ops.Rem held = held
done_held ops.And held = held
done_held ops.Or held = held
done_held ops.Xor held = held
done_held ops.Shl held = held
done_held ops.Shr held = held
done_held ops.Eq held = held
done_held ops.Lt held = held
done_held ops.Not held = held
done_held (ops.Get local) held = held
done_held (ops.Set local) held = held
done_held (ops.Jump target) held = held
done_held (ops.Jz target) held = held
done_held (ops.Jnz target) held = held
done_held (ops.Read decl) held = held
done_held (ops.Write decl) held = held
done_held (ops.ReadAt decl) held = held
done_held (ops.WriteAt decl) held = held
done_held (ops.Xchg decl) held = held
done_held (ops.AddTo decl) held = held
done_held (ops.Cas decl) held = held
done_held (ops.Enter monitor) held = slice_set held monitor true
done_held (ops.Exit monitor) held = slice_set held monitor false
done_held ops.Print held = held
done_held ops.Halt held = held

-- the thread after the shared instruction at which it stands, given the word that it reads, or 0 where it reads none
abbrev pub answered : Listing → ℕ → ℕ → ℕ → Thread → Thread
answered p fuel t word s = record s {
  pc = s.pc + 1;
  stack = done_stack (op_at p t s.pc) s.stack word;
  held = done_held (op_at p t s.pc) s.held;
  made = s.made + 1;
  ended = out_of_steps fuel (s.made + 1);
}

-- the end of a thread; one that has not ended is stopped at its position
abbrev pub end_of : Thread → End
end_of s = unwrap_or s.ended (Stopped s.pc)
