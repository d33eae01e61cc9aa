-- Programs while the code of a thread is added, and how many instructions they have.
use Rattle.std.proofs.Common.{◌≡◌, ℕ, zero, suc, ◌+◌, ◌*◌, List, [], ◌∷◌, ◌++◌, length, map, take, get_or, ◌<◌, refl, ap, sym, arith}
use Rattle.std.proofs.lemmas.List.{take_more}
use Rattle.std.proofs.lemmas.List.FromFn.{map-range_with_len_more}
use Rattle.std.specs.List.{range_with_len}
use Rattle.stride_isa.specs.Listing.{Listing, instruction_count, push_last, with_op}
use Rattle.stride_isa.specs.declared.op.Op.{Op}
use Rattle.demo.specs.Demo.{amount_of, code_of, rounds_of}
use Rattle.demo.specs.Program.{program_of, with_code, worker}

push_last-append : {X : Type 0} (xss : List (List X)) (xs : List X) (x : X) → push_last (xss ++ xs ∷ []) x ≡ xss ++ (xs ++ x ∷ []) ∷ []
push_last-append [] xs x = refl
push_last-append (first ∷ []) xs x = refl
push_last-append (first ∷ second ∷ rest) xs x = ap (λ more. first ∷ more) (push_last-append (second ∷ rest) xs x)

-- one more instruction in the thread that was added last
pub with_op-with_code : (p : Listing) (code : List Op) (op : Op) → with_op (with_code p code) op ≡ with_code p (code ++ op ∷ [])
with_op-with_code p code op = ap (λ threads. record p { threads = threads }) (push_last-append p.threads code op)

pub instruction_count-append : (codes others : List (List Op)) → instruction_count (codes ++ others) ≡ instruction_count codes + instruction_count others
instruction_count-append [] others = omega arith
instruction_count-append (code ∷ codes) others = omega (arith, instruction_count-append codes others)

pub length-worker : (rounds amount : ℕ) → length (worker rounds amount) ≡ 19
unfolding worker
length-worker rounds amount = refl

pub instruction_count-workers : (number first count : ℕ) → instruction_count (map (code_of number) (range_with_len first count)) ≡ 19 * count
instruction_count-workers number first zero = omega arith
instruction_count-workers number first (suc count) =
    omega (arith, instruction_count-workers number (first + 1) count, length-worker (rounds_of number first) (amount_of number first))

-- the instructions of a program of which a part of a code was added last
pub instruction_count-with_code : (p : Listing) (code : List Op) → instruction_count (with_code p code).threads ≡ instruction_count p.threads + length code
instruction_count-with_code p code = omega (arith, instruction_count-append p.threads (code ∷ []))

-- an instruction of the code is added
pub with_code-more : (p before after : Listing) (code : List Op) (i : ℕ) (op : Op) → i < length code → before ≡ with_code p (take i code) → after ≡ with_op before (get_or code i op) → after ≡ with_code p (take (i + 1) code)
with_code-more p before after code i op inside begun added =
    rw (added, begun, take_more code i op inside) (with_op-with_code p (take i code) (get_or code i op))

-- a thread of a demonstration is added
pub program_of-more : (number count : ℕ) (before after : Listing) (code : List Op) → before ≡ program_of (map (code_of number) (range_with_len 0 count)) → code ≡ code_of number count → after ≡ with_code before code → after ≡ program_of (map (code_of number) (range_with_len 0 (count + 1)))
program_of-more number count before after code begun is added =
    rw (added, begun, is) (ap program_of (sym (map-range_with_len_more (code_of number) 0 count count (omega arith))))
