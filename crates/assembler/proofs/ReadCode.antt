-- The printed threads of a program are read as its threads.
use Rattle.std.proofs.Common.{◌≡◌, ℕ, ◌+◌, ◌^◌, ◌<◌, ◌≤◌, Bool, true, false, nat_le, List, [], ◌∷◌, ◌++◌, length, Option, Some, None, Result, Ok, refl, ap, sym, ◌∙◌, subst, append_assoc, append-nil, arith, lt-ltb}
use Rattle.std.proofs.lemmas.Bool.{lt-leb}
use Rattle.std.proofs.lemmas.List.{length_push}
use Rattle.std.specs.List.{AllByRecursion, slice_index_or}
use Rattle.stride_isa.specs.Instructions.{operand}
use Rattle.stride_isa.specs.Limits.{instruction_limit, thread_limit}
use Rattle.stride_isa.specs.Listing.{Listing, decl_at, instruction_count, push_last}
use Rattle.stride_isa.specs.declared.op.Op.{Op}
use Rattle.stride_isa.specs.declared.op.Op.TheVariants as ops
use Rattle.stride_isa.specs.declared.operand.Operand.{Operand}
use Rattle.stride_isa.specs.declared.operand.Operand.TheVariants.{Nothing, Number, Local, Label, Variable, Array, Monitor}
use Rattle.assembler.specs.Canonical.{label_name, is_target}
use Rattle.assembler.specs.Forms.{Form, ThreadLine, LabelLine}
use Rattle.assembler.specs.Labels.{Labels, labels_at, place_of, stands_before, thread_lines}
use Rattle.assembler.specs.Programs.{LineFault, find_decl, find_monitor, has_thread, refusal, added}
use Rattle.assembler.proofs.PrintedForms.{op_line, label_forms, code_forms, threads_forms}
use Rattle.assembler.proofs.PrintedLabels.{is_op_line, behind_label, stands_before-label, stands_before-op, thread_lines-op}
use Rattle.assembler.proofs.PrintedNumbers.{label_name-apart}
use Rattle.assembler.proofs.ReadLines.{reading, reading-line}

-- the program with other threads
abbrev pub with_threads : Listing → List (List Op) → Listing
with_threads p threads = record { decls = p.decls; monitors = p.monitors; threads = threads }

-- what an operand names is found where the instruction stands
abbrev pub IsFound : (List ℕ → Option ℕ) → Listing → Operand → Type 0
IsFound place p Nothing = Unit {0}
IsFound place p (Number word) = Unit {0}
IsFound place p (Local local) = Unit {0}
IsFound place p (Label target) = place (label_name target) ≡ Some target
IsFound place p (Variable decl) = find_decl (decl_at p decl).name p ≡ Some decl
IsFound place p (Array decl) = find_decl (decl_at p decl).name p ≡ Some decl
IsFound place p (Monitor monitor) = find_monitor (slice_index_or p.monitors monitor []) p ≡ Some monitor

-- so is what an instruction names
abbrev pub IsPlaced : (List ℕ → Option ℕ) → Listing → Op → Type 0
IsPlaced place p op = IsFound place p (operand op)

-- the line of an instruction in a thread with room is not refused
refusal-op : (labels : Labels) (p : Listing) (threads : List (List Op)) (op : Op) → IsPlaced labels.place p op → has_thread (with_threads p threads) ≡ true → nat_le instruction_limit (instruction_count threads) ≡ false → refusal labels (with_threads p threads) (op_line p op) ≡ None
refusal-op labels p threads (ops.Jump target) placed begun room = rw (begun, placed, room) refl
refusal-op labels p threads (ops.Jz target) placed begun room = rw (begun, placed, room) refl
refusal-op labels p threads (ops.Jnz target) placed begun room = rw (begun, placed, room) refl
refusal-op labels p threads (ops.Read decl) placed begun room = rw (begun, placed, room) refl
refusal-op labels p threads (ops.Write decl) placed begun room = rw (begun, placed, room) refl
refusal-op labels p threads (ops.ReadAt decl) placed begun room = rw (begun, placed, room) refl
refusal-op labels p threads (ops.WriteAt decl) placed begun room = rw (begun, placed, room) refl
refusal-op labels p threads (ops.Xchg decl) placed begun room = rw (begun, placed, room) refl
refusal-op labels p threads (ops.AddTo decl) placed begun room = rw (begun, placed, room) refl
refusal-op labels p threads (ops.Cas decl) placed begun room = rw (begun, placed, room) refl
refusal-op labels p threads (ops.Enter monitor) placed begun room = rw (begun, placed, room) refl
refusal-op labels p threads (ops.Exit monitor) placed begun room = rw (begun, placed, room) refl
refusal-op labels p threads op placed begun room = rw (begun, room) refl

-- it adds the instruction
added-op : (labels : Labels) (p : Listing) (threads : List (List Op)) (op : Op) → IsPlaced labels.place p op → added labels (with_threads p threads) (op_line p op) ≡ with_threads p (push_last threads op)
added-op labels p threads (ops.Jump target) placed = rw placed refl
added-op labels p threads (ops.Jz target) placed = rw placed refl
added-op labels p threads (ops.Jnz target) placed = rw placed refl
added-op labels p threads (ops.Read decl) placed = rw placed refl
added-op labels p threads (ops.Write decl) placed = rw placed refl
added-op labels p threads (ops.ReadAt decl) placed = rw placed refl
added-op labels p threads (ops.WriteAt decl) placed = rw placed refl
added-op labels p threads (ops.Xchg decl) placed = rw placed refl
added-op labels p threads (ops.AddTo decl) placed = rw placed refl
added-op labels p threads (ops.Cas decl) placed = rw placed refl
added-op labels p threads (ops.Enter monitor) placed = rw placed refl
added-op labels p threads (ops.Exit monitor) placed = rw placed refl
added-op labels p threads op placed = refl

-- one more instruction at the end of the last thread
push_last-push : (threads : List (List Op)) (code : List Op) (op : Op) → push_last (threads ++ code ∷ []) op ≡ threads ++ (code ++ op ∷ []) ∷ []
push_last-push [] code op = refl
push_last-push (first ∷ []) code op = refl
push_last-push (first ∷ second ∷ threads) code op = ap (λ rest. first ∷ rest) (push_last-push (second ∷ threads) code op)

-- one more thread adds its instructions to the count
instruction_count-push : (threads : List (List Op)) (code : List Op) → instruction_count (threads ++ code ∷ []) ≡ instruction_count threads + length code
instruction_count-push [] code = omega arith
instruction_count-push (first ∷ threads) code = let more = instruction_count-push threads code in omega arith

-- with a thread at the end a thread has begun
has_thread-push : (p : Listing) (threads : List (List Op)) (code : List Op) → has_thread (with_threads p (threads ++ code ∷ [])) ≡ true
has_thread-push p threads code = lt-ltb 0 (length (threads ++ code ∷ [])) (omega (arith, length_push threads code))

-- the label line of a position, where it stands, is not refused and adds nothing
reading-label : (targeted : Bool) (p : Listing) (at : ℕ) (before rest : List Form) → has_thread p ≡ true → stands_before (label_name at) before ≡ false → reading before p (label_forms targeted at rest) ≡ reading (behind_label targeted at before) p rest
reading-label true p at before rest begun fresh = reading-line before p (LabelLine (label_name at)) rest p (rw (begun, fresh) refl) refl
reading-label false p at before rest begun fresh = refl

-- after the label line of a position the lines of the thread are the same
thread_lines-label : (targeted : Bool) (at : ℕ) (before rest : List Form) → thread_lines (behind_label targeted at before) rest ≡ thread_lines before (label_forms targeted at rest)
thread_lines-label true at before rest = refl
thread_lines-label false at before rest = refl

-- the positions of the labels of a thread
abbrev pub places_in : Listing → List Op → List Form → List ℕ → Option ℕ
places_in p code after name = place_of name 0 (code_forms p code 0 code after)

-- the line of an instruction adds the instruction to the last thread
reading-op : (p : Listing) (threads : List (List Op)) (code : List Op) (op : Op) (lines before rest : List Form) → thread_lines before (op_line p op ∷ rest) ≡ lines → IsPlaced (λ name. place_of name 0 lines) p op → instruction_count threads + length code < instruction_limit → reading before (with_threads p (threads ++ code ∷ [])) (op_line p op ∷ rest) ≡ reading (op_line p op ∷ before) (with_threads p (threads ++ (code ++ op ∷ []) ∷ [])) rest
reading-op p threads code op lines before rest seen placed room =
    let labels = labels_at before (op_line p op ∷ rest) in
    let here : IsPlaced labels.place p op = subst (λ (ls : List Form). IsPlaced (λ name. place_of name 0 ls) p op) (sym seen) placed in
    let full : nat_le instruction_limit (instruction_count (threads ++ code ∷ [])) ≡ false = lt-leb instruction_limit (instruction_count (threads ++ code ∷ [])) (omega (arith, instruction_count-push threads code)) in
    reading-line before (with_threads p (threads ++ code ∷ [])) (op_line p op) rest (with_threads p (threads ++ (code ++ op ∷ []) ∷ []))
    (refusal-op labels p (threads ++ code ∷ []) op here (has_thread-push p threads code) full)
    (added-op labels p (threads ++ code ∷ []) op here ∙ ap (with_threads p) (push_last-push threads code op))

-- the lines of the instructions of a thread from a position on add these instructions. Of the lines before and after only
-- this is known: the thread's lines are its printed lines, and no label from this position on stood before
reading-code : (p : Listing) (code : List Op) (after : List Form) (goal : Result Listing LineFault) (threads : List (List Op)) → ((before : List Form) → reading before (with_threads p (threads ++ code ∷ [])) after ≡ goal) → (n : ℕ) (front ops : List Op) (before : List Form) → front ++ ops ≡ code → thread_lines before (code_forms p code n ops after) ≡ code_forms p code 0 code after → ((m : ℕ) → n ≤ m → m < 2 ^ 64 → stands_before (label_name m) before ≡ false) → AllByRecursion (IsPlaced (places_in p code after) p) ops → instruction_count threads + length front + length ops ≤ instruction_limit → n + length ops < 2 ^ 64 → reading before (with_threads p (threads ++ front ∷ [])) (code_forms p code n ops after) ≡ goal
reading-code p code after goal threads finish n front [] before whole seen fresh placed room small =
    let all : front ≡ code = sym (append-nil front) ∙ whole in
    rw all (finish before)
reading-code p code after goal threads finish n front (op ∷ ops) before whole seen fresh placed room small =
    let targeted = is_target code n in
    let line = op_line p op in
    let rest = code_forms p code (n + 1) ops after in
    let inside = behind_label targeted n before in
    let here : thread_lines inside (line ∷ rest) ≡ code_forms p code 0 code after = thread_lines-label targeted n before (line ∷ rest) ∙ seen in
    let is = is_op_line p op in
    reading-label targeted (with_threads p (threads ++ front ∷ [])) n before (line ∷ rest) (has_thread-push p threads front) (fresh n (omega arith) (omega arith))
    ∙ reading-op p threads front op (code_forms p code 0 code after) inside rest here placed.0 (omega arith)
    ∙ reading-code p code after goal threads finish (n + 1) (front ++ op ∷ []) ops (line ∷ inside)
    (append_assoc front (op ∷ []) ops ∙ whole)
    (thread_lines-op line is inside rest ∙ here)
    (λ m from to. stands_before-op line is (label_name m) inside ∙ stands_before-label targeted n m before (label_name-apart n m (omega arith) to (λ same. omega arith)) (fresh m (omega arith) to))
    placed.1
    (omega (arith, length_push front op))
    (omega arith)

-- what a thread's instructions name is found, whatever lines follow the thread
pub record IsPlacedCode (p : Listing) (code : List Op) : Type 0 where
  pub each : (after : List Form) → AllByRecursion (IsPlaced (places_in p code after) p) code

-- the lines of threads add the threads
pub reading-threads : (p : Listing) (front threads : List (List Op)) (before : List Form) → front ++ threads ≡ p.threads → AllByRecursion (IsPlacedCode p) threads → length front + length threads ≤ thread_limit → instruction_count front + instruction_count threads ≤ instruction_limit → reading before (with_threads p front) (threads_forms p threads) ≡ Ok p
reading-threads p front [] before whole placed few room =
    let all : front ≡ p.threads = sym (append-nil front) ∙ whole in
    ap (λ (threads : List (List Op)). Ok (with_threads p threads)) all
reading-threads p front (code ∷ threads) before whole placed few room =
    let after = threads_forms p threads in
    let free : nat_le thread_limit (length front) ≡ false = lt-leb thread_limit (length front) (omega arith) in
    let finish : (b : List Form) → reading b (with_threads p (front ++ code ∷ [])) after ≡ Ok p = λ b. reading-threads p (front ++ code ∷ []) threads b (append_assoc front (code ∷ []) threads ∙ whole) placed.1 (omega (arith, length_push front code)) (omega (arith, instruction_count-push front code)) in
    reading-line before (with_threads p front) ThreadLine (code_forms p code 0 code after) (with_threads p (front ++ [] ∷ [])) (rw free refl) refl
    ∙ reading-code p code after (Ok p) front finish 0 [] code (ThreadLine ∷ before) refl refl (λ m from to. refl) (placed.0.each after) (omega arith) (omega arith)
