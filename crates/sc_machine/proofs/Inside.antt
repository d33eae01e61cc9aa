-- Lemmas on what always holds of a `ThreadRun`.
use borrow.Author.Tests.{ltb-true}
use Rattle.std.proofs.lemmas.Bool.{le-ltb, lt-ltb}
use Rattle.std.proofs.Common.{cond, refl, ◌≡◌, ℕ, ◌+◌, ◌<◌, ◌≤◌, List, Bool, true, false, Option, Some, None, nat_lt, unwrap_or, length, sym, ◌∙◌, ap, subst, arith}
use Rattle.stride_base.specs.Listed.{Listed}
use Rattle.stride_isa.specs.Instructions.{kind, popped}
use Rattle.stride_isa.specs.Limits.{fuel_limit, stack_limit}
use Rattle.stride_isa.specs.Listing.{Listing, code_of, op_at}
use Rattle.stride_isa.specs.Validity.{Reaches, Begin, Follow, IsFine, Leads, depth_after}
use Rattle.stride_isa.specs.declared.op.Op.{Op}
use Rattle.sc_machine.specs.declared.end.End.{End}
use Rattle.sc_machine.specs.declared.end.End.TheVariants.{OutOfSteps}
use Rattle.sc_machine.specs.declared.instruction.Next.TheVariants as nexts
use Rattle.sc_machine.specs.declared.stop.Stop.{Stop}
use Rattle.sc_machine.specs.declared.stop.Stop.TheVariants.{Read, Write, Update, Enter, Exit, Ended}
use Rattle.sc_machine.specs.ThreadStep.{Row, now_unless, row, stop_in, done_stack, out_of_steps}
use Rattle.sc_machine.specs.Made.{Made}
use Rattle.sc_machine.specs.ThreadRun.{Run, stop_at, IsShared, TakesWord}
use Rattle.sc_machine.specs.ThreadRunInside.{IsRun}
use Rattle.sc_machine.proofs.Rows.{row_leads, shared_leads}

pub is_run_at_start : (p : Listing) (thread fuel depth : ℕ) → depth ≡ 0 → thread < length p.threads → 0 < length (code_of p thread) → 1 ≤ fuel → fuel ≤ fuel_limit → IsRun p thread fuel 0 depth 0 None
is_run_at_start p thread fuel depth empty there inside some limit = record {
  thread_is = there;
  inside = inside;
  reaches = subst (λ (n : ℕ). Reaches p thread 0 n) (sym empty) Begin;
  within = omega arith;
  limit = limit;
  going = λ e. some;
}

chosen_none : (b : Bool) (x : End) → cond b None (Some x) ≡ None → b ≡ true
chosen_none true x e = refl
chosen_none false x e = cc

-- the end of a thread that has used up its fuel, and of one that has not
pub spent : (fuel made : ℕ) → fuel ≤ made → Some OutOfSteps ≡ out_of_steps fuel made
spent fuel made all = let e = le-ltb made fuel all in rw e refl

pub unspent : (fuel made : ℕ) (ended : Option End) → ended ≡ None → made < fuel → ended ≡ out_of_steps fuel made
unspent fuel made ended none some = let e = lt-ltb made fuel some in rw e none

-- a thread that is not out of steps has fuel left
pub fuel_left : (fuel made : ℕ) → out_of_steps fuel made ≡ None → made < fuel
fuel_left fuel made e = ltb-true made fuel (chosen_none (nat_lt made fuel) OutOfSteps e)

-- an instruction that is met has its operands
pub enough_for : (p : Listing) (thread pc depth : ℕ) (op : Op) (stack : List ℕ) → op ≡ op_at p thread pc → length stack ≡ depth → IsFine p thread pc depth → popped (kind op) ≤ length stack
enough_for p thread pc depth op stack is deep fine =
    subst (λ (n : ℕ). popped (kind op) ≤ n) (sym deep) (subst (λ (x : Op). popped (kind x) ≤ depth) (sym is) fine.enough)

-- and room for its results
pub room_for : (p : Listing) (thread pc depth : ℕ) (op : Op) (stack : List ℕ) → op ≡ op_at p thread pc → length stack ≡ depth → IsFine p thread pc depth → depth_after op (length stack) ≤ stack_limit
room_for p thread pc depth op stack is deep fine =
    subst (λ (n : ℕ). depth_after op n ≤ stack_limit) (sym deep) (subst (λ (x : Op). depth_after x depth ≤ stack_limit) (sym is) fine.room)

-- what always holds stays after an instruction that leads on
pub is_run_after : (p : Listing) (thread fuel pc depth made : ℕ) (ended : Option End) (op : Op) (next after : ℕ) (later : Option End) → IsRun p thread fuel pc depth made ended → ended ≡ None → op ≡ op_at p thread pc → IsFine p thread pc depth → Leads op pc next → after ≡ depth_after op depth → later ≡ out_of_steps fuel (made + 1) → IsRun p thread fuel next after (made + 1) later
is_run_after p thread fuel pc depth made ended op next after later run goes_on is fine leads deep end =
    let leads' : Leads (op_at p thread pc) pc next = subst (λ (x : Op). Leads x pc next) is leads in
    let deep' : after ≡ depth_after (op_at p thread pc) depth = deep ∙ ap (λ x. depth_after x depth) is in
    record {
      thread_is = run.thread_is;
      inside = fine.inside next leads';
      reaches = Follow pc depth next after run.reaches run.inside fine.enough deep' (subst (λ (n : ℕ). n ≤ stack_limit) (sym deep') fine.room) leads' (fine.inside next leads');
      within = omega (arith, run.going goes_on);
      limit = run.limit;
      going = λ e. fuel_left fuel (made + 1) (sym end ∙ e);
    }

-- the same after a local instruction by which the thread goes on
pub is_run_after_going : (p : Listing) (thread fuel pc depth made : ℕ) (op : Op) (stack stack' locals locals' : List ℕ) (held : List Bool) (out out' : Listed ℕ) (next depth' : ℕ) (later : Option End) → IsRun p thread fuel pc depth made None → length stack ≡ depth → length stack' ≡ depth' → op ≡ op_at p thread pc → IsFine p thread pc depth → Made (row p op pc stack locals held) (nexts.Goes next) stack stack' locals locals' out out' → later ≡ out_of_steps fuel (made + 1) → IsRun p thread fuel next depth' (made + 1) later
is_run_after_going p thread fuel pc depth made op stack stack' locals locals' held out out' next depth' later run deep deep' is fine parts end =
    let enough : popped (kind op) ≤ length stack = enough_for p thread pc depth op stack is deep fine in
    let leads = row_leads p op pc stack locals held next enough parts.next_is in
    is_run_after p thread fuel pc depth made None op next depth' later run refl is fine leads.0 (sym deep' ∙ ap length parts.stack_is ∙ leads.1 ∙ ap (depth_after op) deep) end

-- a stop that takes a word, or none, is a shared instruction
shared_from_takes : (stop : Stop) (word : Option ℕ) → TakesWord stop word → IsShared stop
shared_from_takes (Read cell) (Some word) takes = tt
shared_from_takes (Read cell) None takes = tt
shared_from_takes (Write cell value) (Some word) takes = tt
shared_from_takes (Write cell value) None takes = tt
shared_from_takes (Update cell change) word takes = tt
shared_from_takes (Enter monitor) word takes = tt
shared_from_takes (Exit monitor) word takes = tt
shared_from_takes (Ended end) word takes = takes

-- a thread at a shared instruction has not ended
goes_on_at_shared : (ended : Option End) (r : Row) → IsShared (stop_in (now_unless ended r)) → (ended ≡ None) × IsShared (stop_in r)
goes_on_at_shared None r shared = (refl, shared)
goes_on_at_shared (Some end) r shared = absurd shared

-- what always holds stays after a shared instruction is answered
pub is_run_after_answer : (p : Listing) (thread fuel pc pc' depth depth' made made' : ℕ) (ended later : Option End) (stack stack' locals : List ℕ) (held : List Bool) (old : Run) (word : Option ℕ) → record { program = p; thread = thread; fuel = fuel; pc = pc; stack = stack; locals = locals; held = held; made = made; ended = ended } ≡ old → IsRun p thread fuel pc depth made ended → TakesWord (stop_at old) word → IsFine p thread pc depth → length stack ≡ depth → length stack' ≡ depth' → pc' ≡ pc + 1 → made' ≡ made + 1 → stack' ≡ done_stack (op_at p thread pc) stack (unwrap_or word 0) → (ended ≡ None → later ≡ out_of_steps fuel made') → IsRun p thread fuel pc' depth' made' later
is_run_after_answer p thread fuel pc pc' depth depth' made made' ended later stack stack' locals held old word view run takes fine deep deep' next counted done end =
    let run_before : Run = record { program = p; thread = thread; fuel = fuel; pc = pc; stack = stack; locals = locals; held = held; made = made; ended = ended } in
    let takes' : TakesWord (stop_at run_before) word = subst (λ (r : Run). TakesWord (stop_at r) word) (sym view) takes in
    let shared = goes_on_at_shared ended (row p (op_at p thread pc) pc stack locals held) (shared_from_takes (stop_at run_before) word takes') in
    let leads = shared_leads p (op_at p thread pc) pc stack locals held (unwrap_or word 0) (enough_for p thread pc depth (op_at p thread pc) stack refl deep fine) shared.1 in
    let after : IsRun p thread fuel (pc + 1) depth' (made + 1) later =
    is_run_after p thread fuel pc depth made ended (op_at p thread pc) (pc + 1) depth' later run shared.0 refl fine leads.0 (sym deep' ∙ ap length done ∙ leads.1 ∙ ap (depth_after (op_at p thread pc)) deep) (end shared.0 ∙ ap (out_of_steps fuel) counted) in
    subst (λ (n : ℕ). IsRun p thread fuel n depth' made' later) (sym next) (subst (λ (n : ℕ). IsRun p thread fuel (pc + 1) depth' n later) (sym counted) after)
