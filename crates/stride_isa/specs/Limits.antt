-- The limits of programs and of a thread's state.
use Rattle.std.specs.Prelude.{ℕ}

-- the most threads of a program
abbrev pub thread_limit : ℕ
thread_limit = 16

-- the most cells of all variables and arrays of a program together
abbrev pub cell_limit : ℕ
cell_limit = 256

-- the most cells of an array
abbrev pub array_limit : ℕ
array_limit = 256

-- the most monitors of a program
abbrev pub monitor_limit : ℕ
monitor_limit = 64

-- the most instructions of all threads of a program together
abbrev pub instruction_limit : ℕ
instruction_limit = 65536

-- the most instructions that a thread may be given as fuel
abbrev pub fuel_limit : ℕ
fuel_limit = 1000000

-- the most words on an operand stack
abbrev pub stack_limit : ℕ
stack_limit = 64

-- how many locals a thread has
abbrev pub local_count : ℕ
local_count = 16

-- the most bytes of a name
abbrev pub name_limit : ℕ
name_limit = 32
