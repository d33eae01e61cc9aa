-- The table of instructions: each with its kind, its operand, the words it pops and pushes, whether the next instruction may
-- follow it, and its name.
use Rattle.std.specs.Prelude.{ℕ, Bool, true, false, List, [], ◌∷◌, codes, Option, find}
use Rattle.std.specs.Str.{bytes_eq}
use Rattle.stride_isa.specs.declared.op.Op.{Op}
use Rattle.stride_isa.specs.declared.op.Op.TheVariants as ops
use Rattle.stride_isa.specs.declared.op.OpKind.{OpKind}
use Rattle.stride_isa.specs.declared.op.OpKind.TheVariants as kinds
use Rattle.stride_isa.specs.declared.operand.Operand.{Operand}
use Rattle.stride_isa.specs.declared.operand.Operand.TheVariants as operands
use Rattle.stride_isa.specs.declared.operand.OperandClass.{OperandClass}
use Rattle.stride_isa.specs.declared.operand.OperandClass.TheVariants as classes

-- which instruction it is
abbrev pub kind : Op → OpKind
kind (ops.Push word) = kinds.Push
kind ops.Dup = kinds.Dup
kind ops.Drop = kinds.Drop
kind ops.Swap = kinds.Swap
kind ops.Over = kinds.Over
kind ops.Add = kinds.Add
kind ops.Sub = kinds.Sub
kind ops.Mul = kinds.Mul
kind ops.Div = kinds.Div
kind ops.Rem = kinds.Rem
kind ops.And = kinds.And
kind ops.Or = kinds.Or
kind ops.Xor = kinds.Xor
kind ops.Shl = kinds.Shl
kind ops.Shr = kinds.Shr
kind ops.Eq = kinds.Eq
kind ops.Lt = kinds.Lt
kind ops.Not = kinds.Not
kind (ops.Get local) = kinds.Get
kind (ops.Set local) = kinds.Set
kind (ops.Jump target) = kinds.Jump
kind (ops.Jz target) = kinds.Jz
kind (ops.Jnz target) = kinds.Jnz
kind (ops.Read decl) = kinds.Read
kind (ops.Write decl) = kinds.Write
kind (ops.ReadAt decl) = kinds.ReadAt
kind (ops.WriteAt decl) = kinds.WriteAt
kind (ops.Xchg decl) = kinds.Xchg
kind (ops.AddTo decl) = kinds.AddTo
kind (ops.Cas decl) = kinds.Cas
kind (ops.Enter monitor) = kinds.Enter
kind (ops.Exit monitor) = kinds.Exit
kind ops.Print = kinds.Print
kind ops.Halt = kinds.Halt

-- what it is written with, after its name
abbrev pub operand : Op → Operand
operand (ops.Push word) = operands.Number word
operand ops.Dup = operands.Nothing
operand ops.Drop = operands.Nothing
operand ops.Swap = operands.Nothing
operand ops.Over = operands.Nothing
operand ops.Add = operands.Nothing
operand ops.Sub = operands.Nothing
operand ops.Mul = operands.Nothing
operand ops.Div = operands.Nothing
operand ops.Rem = operands.Nothing
operand ops.And = operands.Nothing
operand ops.Or = operands.Nothing
operand ops.Xor = operands.Nothing
operand ops.Shl = operands.Nothing
operand ops.Shr = operands.Nothing
operand ops.Eq = operands.Nothing
operand ops.Lt = operands.Nothing
operand ops.Not = operands.Nothing
operand (ops.Get local) = operands.Local local
operand (ops.Set local) = operands.Local local
operand (ops.Jump target) = operands.Label target
operand (ops.Jz target) = operands.Label target
operand (ops.Jnz target) = operands.Label target
operand (ops.Read decl) = operands.Variable decl
operand (ops.Write decl) = operands.Variable decl
operand (ops.ReadAt decl) = operands.Array decl
operand (ops.WriteAt decl) = operands.Array decl
operand (ops.Xchg decl) = operands.Variable decl
operand (ops.AddTo decl) = operands.Variable decl
operand (ops.Cas decl) = operands.Variable decl
operand (ops.Enter monitor) = operands.Monitor monitor
operand (ops.Exit monitor) = operands.Monitor monitor
operand ops.Print = operands.Nothing
operand ops.Halt = operands.Nothing

-- the class of its operand
abbrev pub class : OpKind → OperandClass
class kinds.Push = classes.Number
class kinds.Dup = classes.Nothing
class kinds.Drop = classes.Nothing
class kinds.Swap = classes.Nothing
class kinds.Over = classes.Nothing
class kinds.Add = classes.Nothing
class kinds.Sub = classes.Nothing
class kinds.Mul = classes.Nothing
class kinds.Div = classes.Nothing
class kinds.Rem = classes.Nothing
class kinds.And = classes.Nothing
class kinds.Or = classes.Nothing
class kinds.Xor = classes.Nothing
class kinds.Shl = classes.Nothing
class kinds.Shr = classes.Nothing
class kinds.Eq = classes.Nothing
class kinds.Lt = classes.Nothing
class kinds.Not = classes.Nothing
class kinds.Get = classes.Local
class kinds.Set = classes.Local
class kinds.Jump = classes.Label
class kinds.Jz = classes.Label
class kinds.Jnz = classes.Label
class kinds.Read = classes.Variable
class kinds.Write = classes.Variable
class kinds.ReadAt = classes.Array
class kinds.WriteAt = classes.Array
class kinds.Xchg = classes.Variable
class kinds.AddTo = classes.Variable
class kinds.Cas = classes.Variable
class kinds.Enter = classes.Monitor
class kinds.Exit = classes.Monitor
class kinds.Print = classes.Nothing
class kinds.Halt = classes.Nothing

-- the instruction of this kind that has the number as its operand, if it has one
abbrev pub op_with : OpKind → ℕ → Op
op_with kinds.Push number = ops.Push number
op_with kinds.Dup number = ops.Dup
op_with kinds.Drop number = ops.Drop
op_with kinds.Swap number = ops.Swap
op_with kinds.Over number = ops.Over
op_with kinds.Add number = ops.Add
op_with kinds.Sub number = ops.Sub
op_with kinds.Mul number = ops.Mul
op_with kinds.Div number = ops.Div
op_with kinds.Rem number = ops.Rem
op_with kinds.And number = ops.And
op_with kinds.Or number = ops.Or
op_with kinds.Xor number = ops.Xor
op_with kinds.Shl number = ops.Shl
op_with kinds.Shr number = ops.Shr
op_with kinds.Eq number = ops.Eq
op_with kinds.Lt number = ops.Lt
op_with kinds.Not number = ops.Not
op_with kinds.Get number = ops.Get number
op_with kinds.Set number = ops.Set number
op_with kinds.Jump number = ops.Jump number
op_with kinds.Jz number = ops.Jz number
op_with kinds.Jnz number = ops.Jnz number
op_with kinds.Read number = ops.Read number
op_with kinds.Write number = ops.Write number
op_with kinds.ReadAt number = ops.ReadAt number
op_with kinds.WriteAt number = ops.WriteAt number
op_with kinds.Xchg number = ops.Xchg number
op_with kinds.AddTo number = ops.AddTo number
op_with kinds.Cas number = ops.Cas number
op_with kinds.Enter number = ops.Enter number
op_with kinds.Exit number = ops.Exit number
op_with kinds.Print number = ops.Print
op_with kinds.Halt number = ops.Halt

-- how many words it takes from the stack
abbrev pub popped : OpKind → ℕ
popped kinds.Push = 0
popped kinds.Dup = 1
popped kinds.Drop = 1
popped kinds.Swap = 2
popped kinds.Over = 2
popped kinds.Add = 2
popped kinds.Sub = 2
popped kinds.Mul = 2
popped kinds.Div = 2
popped kinds.Rem = 2
popped kinds.And = 2
popped kinds.Or = 2
popped kinds.Xor = 2
popped kinds.Shl = 2
popped kinds.Shr = 2
popped kinds.Eq = 2
popped kinds.Lt = 2
popped kinds.Not = 1
popped kinds.Get = 0
popped kinds.Set = 1
popped kinds.Jump = 0
popped kinds.Jz = 1
popped kinds.Jnz = 1
popped kinds.Read = 0
popped kinds.Write = 1
popped kinds.ReadAt = 1
popped kinds.WriteAt = 2
popped kinds.Xchg = 1
popped kinds.AddTo = 1
popped kinds.Cas = 2
popped kinds.Enter = 0
popped kinds.Exit = 0
popped kinds.Print = 1
popped kinds.Halt = 0

-- how many words it puts on the stack then
abbrev pub pushed : OpKind → ℕ
pushed kinds.Push = 1
pushed kinds.Dup = 2
pushed kinds.Drop = 0
pushed kinds.Swap = 2
pushed kinds.Over = 3
pushed kinds.Add = 1
pushed kinds.Sub = 1
pushed kinds.Mul = 1
pushed kinds.Div = 1
pushed kinds.Rem = 1
pushed kinds.And = 1
pushed kinds.Or = 1
pushed kinds.Xor = 1
pushed kinds.Shl = 1
pushed kinds.Shr = 1
pushed kinds.Eq = 1
pushed kinds.Lt = 1
pushed kinds.Not = 1
pushed kinds.Get = 1
pushed kinds.Set = 0
pushed kinds.Jump = 0
pushed kinds.Jz = 0
pushed kinds.Jnz = 0
pushed kinds.Read = 1
pushed kinds.Write = 0
pushed kinds.ReadAt = 1
pushed kinds.WriteAt = 0
pushed kinds.Xchg = 1
pushed kinds.AddTo = 1
pushed kinds.Cas = 1
pushed kinds.Enter = 0
pushed kinds.Exit = 0
pushed kinds.Print = 0
pushed kinds.Halt = 0

-- whether the next instruction may follow it
abbrev pub goes_on : OpKind → Bool
goes_on kinds.Push = true
goes_on kinds.Dup = true
goes_on kinds.Drop = true
goes_on kinds.Swap = true
goes_on kinds.Over = true
goes_on kinds.Add = true
goes_on kinds.Sub = true
goes_on kinds.Mul = true
goes_on kinds.Div = true
goes_on kinds.Rem = true
goes_on kinds.And = true
goes_on kinds.Or = true
goes_on kinds.Xor = true
goes_on kinds.Shl = true
goes_on kinds.Shr = true
goes_on kinds.Eq = true
goes_on kinds.Lt = true
goes_on kinds.Not = true
goes_on kinds.Get = true
goes_on kinds.Set = true
goes_on kinds.Jump = false
goes_on kinds.Jz = true
goes_on kinds.Jnz = true
goes_on kinds.Read = true
goes_on kinds.Write = true
goes_on kinds.ReadAt = true
goes_on kinds.WriteAt = true
goes_on kinds.Xchg = true
goes_on kinds.AddTo = true
goes_on kinds.Cas = true
goes_on kinds.Enter = true
goes_on kinds.Exit = true
goes_on kinds.Print = true
goes_on kinds.Halt = false

-- its name in a program's text
abbrev pub spelling : OpKind → List ℕ
spelling kinds.Push = codes "push"
spelling kinds.Dup = codes "dup"
spelling kinds.Drop = codes "drop"
spelling kinds.Swap = codes "swap"
spelling kinds.Over = codes "over"
spelling kinds.Add = codes "add"
spelling kinds.Sub = codes "sub"
spelling kinds.Mul = codes "mul"
spelling kinds.Div = codes "div"
spelling kinds.Rem = codes "rem"
spelling kinds.And = codes "and"
spelling kinds.Or = codes "or"
spelling kinds.Xor = codes "xor"
spelling kinds.Shl = codes "shl"
spelling kinds.Shr = codes "shr"
spelling kinds.Eq = codes "eq"
spelling kinds.Lt = codes "lt"
spelling kinds.Not = codes "not"
spelling kinds.Get = codes "get"
spelling kinds.Set = codes "set"
spelling kinds.Jump = codes "jump"
spelling kinds.Jz = codes "jz"
spelling kinds.Jnz = codes "jnz"
spelling kinds.Read = codes "read"
spelling kinds.Write = codes "write"
spelling kinds.ReadAt = codes "readat"
spelling kinds.WriteAt = codes "writeat"
spelling kinds.Xchg = codes "xchg"
spelling kinds.AddTo = codes "addto"
spelling kinds.Cas = codes "cas"
spelling kinds.Enter = codes "enter"
spelling kinds.Exit = codes "exit"
spelling kinds.Print = codes "print"
spelling kinds.Halt = codes "halt"

-- all instructions, in the order of the table
abbrev pub all_kinds : List OpKind
all_kinds = kinds.Push ∷ kinds.Dup ∷ kinds.Drop ∷ kinds.Swap ∷ kinds.Over ∷ kinds.Add ∷ kinds.Sub ∷ kinds.Mul ∷ kinds.Div ∷ kinds.Rem ∷ kinds.And ∷ kinds.Or ∷ kinds.Xor ∷ kinds.Shl ∷ kinds.Shr ∷ kinds.Eq ∷ kinds.Lt ∷ kinds.Not ∷ kinds.Get ∷ kinds.Set ∷ kinds.Jump ∷ kinds.Jz ∷ kinds.Jnz ∷ kinds.Read ∷ kinds.Write ∷ kinds.ReadAt ∷ kinds.WriteAt ∷ kinds.Xchg ∷ kinds.AddTo ∷ kinds.Cas ∷ kinds.Enter ∷ kinds.Exit ∷ kinds.Print ∷ kinds.Halt ∷ []

-- the instruction of this name
abbrev pub kind_named : List ℕ → Option OpKind
kind_named word = find (λ kind. bytes_eq (spelling kind) word) all_kinds
