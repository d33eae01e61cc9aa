-- What the code of one instruction leaves of the parts of a thread and of what threads share, by what the instruction comes to.
use Rattle.std.specs.Prelude.{◌≡◌, ℕ, ◌+◌, ◌<◌, ◌≤◌, Bool, List, ◌++◌, Option, length}
use Rattle.stride_base.specs.Listed.{Listed}
use Rattle.stride_isa.specs.Listing.{Listing}
use Rattle.stride_isa.specs.declared.op.Op.{Op}
use Rattle.sc_machine.specs.declared.instruction.Next.{Next}
use Rattle.sc_machine.specs.declared.instruction.Next.TheVariants as nexts
use Rattle.sc_machine.specs.Limits.{line_limit}
use Rattle.sc_machine.specs.ThreadStep.{Row, Goes, Ends, Stands, printed_by, stop_in, done_stack, done_held}
use Rattle.sc_machine.specs.TurnsInARow.{Passes, Stays, word_in, cells_in, holders_in}

-- what comes next, without what it leaves
abbrev pub next_of : Row → Next
next_of (Goes pc stack locals printed) = nexts.Goes pc
next_of (Ends end) = nexts.Ends end
next_of (Stands stop) = nexts.Stands

-- the stack that it leaves of this one
abbrev pub stack_after : Row → List ℕ → List ℕ
stack_after (Goes pc stack locals printed) old = stack
stack_after (Ends end) old = old
stack_after (Stands stop) old = old

-- the locals that it leaves of these
abbrev pub locals_after : Row → List ℕ → List ℕ
locals_after (Goes pc stack locals printed) old = locals
locals_after (Ends end) old = old
locals_after (Stands stop) old = old

-- the code made what the row says
pub record Made (row : Row) (next : Next) (stack stack' locals locals' : List ℕ) (out out' : Listed ℕ) : Type 0 where
  pub next_is : next ≡ next_of row
  pub stack_is : stack' ≡ stack_after row stack
  pub locals_are : locals' ≡ locals_after row locals
  pub printed : out'.items ≡ out.items ++ printed_by row
  pub room : out'.spare + length (printed_by row) ≡ out.spare
  pub few : length (printed_by row) ≤ line_limit

-- all that an instruction reads and writes of a thread and of what threads share
pub record Parts : Type 0 where
  pub stack : List ℕ
  pub locals : List ℕ
  pub held : List Bool
  pub cells : List ℕ
  pub holders : List (Option ℕ)
  pub out : Listed ℕ

-- these as such parts
abbrev pub parts : List ℕ → List ℕ → List Bool → List ℕ → List (Option ℕ) → Listed ℕ → Parts
parts stack locals held cells holders out = record { stack = stack; locals = locals; held = held; cells = cells; holders = holders; out = out }

-- it made the shared instruction at which the thread stood and could go on, of the turns that were left
pub record Passed (p : Listing) (t : ℕ) (op : Op) (row : Row) (left : ℕ) (old new : Parts) : Type 0 where
  pub some : 0 < left
  pub stands : row ≡ Stands (stop_in row)
  pub passes : Passes p t (stop_in row) old.holders
  pub stack_is : new.stack ≡ done_stack op old.stack (word_in (stop_in row) old.cells)
  pub held_are : new.held ≡ done_held op old.held
  pub cells_are : new.cells ≡ cells_in (stop_in row) old.cells
  pub holders_are : new.holders ≡ holders_in t (stop_in row) old.holders
  pub locals_same : new.locals ≡ old.locals
  pub out_same : new.out ≡ old.out

-- it made what the row says, and nothing of what threads share
pub record MadeAlone (row : Row) (next : Next) (old new : Parts) : Type 0 where
  pub made : Made row next old.stack new.stack old.locals new.locals old.out new.out
  pub held_same : new.held ≡ old.held
  pub cells_same : new.cells ≡ old.cells
  pub holders_same : new.holders ≡ old.holders

-- what it did, by what it came to; where a turn is left it leaves the thread only at a shared instruction at which it may not
-- go on
abbrev pub Executed : Listing → ℕ → Op → Row → ℕ → Next → Parts → Parts → Type 0
Executed p t op row left nexts.Passes old new = Passed p t op row left old new
Executed p t op row left (nexts.Goes pc) old new = MadeAlone row (nexts.Goes pc) old new
Executed p t op row left (nexts.Ends end) old new = MadeAlone row (nexts.Ends end) old new
Executed p t op row left nexts.Stands old new = MadeAlone row nexts.Stands old new × (0 < left → Stays p t (stop_in row) old.holders)
