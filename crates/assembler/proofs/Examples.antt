-- Texts worked by hand, beside what the definitions say of them.
use Rattle.std.specs.Prelude.{◌≡◌, ℕ, List, [], ◌∷◌, ◌++◌, codes, refl, Ok, Err}
use Rattle.std.specs.List.{flat_map}
use Rattle.stride_isa.specs.Listing.{Listing}
use Rattle.stride_isa.specs.declared.decl.Shape.TheVariants.{Single, Array}
use Rattle.stride_isa.specs.declared.op.Op.TheVariants as ops
use Rattle.stride_isa.specs.declared.operand.OperandClass.TheVariants as classes
use Rattle.assembler.specs.Programs.{spelled}
use Rattle.assembler.specs.Orders.{order_spelled}
use Rattle.assembler.specs.declared.asm_error.AsmKind.TheVariants.{BadLine, BadNumber, UnknownName, Twice}

-- lines as a text
abbrev text : List (List ℕ) → List ℕ
text lines = flat_map (λ line. line ++ 10 ∷ []) lines

abbrev sum_text : List ℕ
sum_text = text (codes "# sum" ∷ codes "  var total   05" ∷ codes "array a 2" ∷ codes "monitor m" ∷ codes "thread" ∷ codes "again:" ∷ codes "  read total  # look" ∷ codes "jnz again" ∷ codes "halt" ∷ [])

abbrev sum_program : Listing
sum_program = record {
  decls = record { name = codes "total"; shape = Single; start = 5 } ∷ record { name = codes "a"; shape = Array 2; start = 0 } ∷ [];
  monitors = codes "m" ∷ [];
  threads = (ops.Read 0 ∷ ops.Jnz 0 ∷ ops.Halt ∷ []) ∷ [];
}

sum_is_spelled : spelled sum_text ≡ Ok sum_program
sum_is_spelled = refl

unknown_before_twice : spelled (text (codes "var x" ∷ codes "thread" ∷ codes "jump nowhere" ∷ codes "a:" ∷ codes "a:" ∷ [])) ≡ Err (record { kind = UnknownName classes.Label; line = 3 })
unknown_before_twice = refl

label_behind_a_bad_line : spelled (text (codes "thread" ∷ codes "jump end" ∷ codes "bad line" ∷ codes "end:" ∷ [])) ≡ Err (record { kind = BadLine; line = 3 })
label_behind_a_bad_line = refl

number_before_twice : spelled (text (codes "var x" ∷ codes "array x 257" ∷ [])) ≡ Err (record { kind = BadNumber; line = 2 })
number_before_twice = refl

label_twice : spelled (text (codes "thread" ∷ codes "a:" ∷ codes "halt" ∷ codes "thread" ∷ codes "a:" ∷ codes "a: # again" ∷ [])) ≡ Err (record { kind = Twice; line = 6 })
label_twice = refl

order_with_counts : order_spelled 10 (text (codes "0 1*3 # all" ∷ [] ∷ codes "2" ∷ [])) ≡ Ok (0 ∷ 1 ∷ 1 ∷ 1 ∷ 2 ∷ [])
order_with_counts = refl

order_with_a_bad_word : order_spelled 10 (text (codes "0 1" ∷ codes "0 x 300" ∷ [])) ≡ Err (record { kind = BadNumber; line = 11 })
order_with_a_bad_word = refl
