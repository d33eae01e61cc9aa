-- A thread that completed its shared instruction and went on.
use Rattle.std.proofs.Common.{◌≡◌, ℕ, ◌+◌, List, Bool, Option, ◌∙◌, ap}
use Rattle.stride_isa.specs.Listing.{Listing, op_at}
use Rattle.sc_machine.specs.declared.end.End.{End}
use Rattle.sc_machine.specs.ThreadRun.{Run, state}
use Rattle.sc_machine.specs.ThreadStep.{Thread, done_stack, done_held, out_of_steps, settled, answered}
use Rattle.sc_machine.proofs.RanOn.{thread_of_parts}

-- the parts after a shared instruction are the thread after it
pub answered_parts : (p : Listing) (fuel t pc pc' made made' word : ℕ) (stack stack' locals : List ℕ) (held held' : List Bool) (out : List ℕ) (ended later : Option End) → pc' ≡ pc + 1 → made' ≡ made + 1 → stack' ≡ done_stack (op_at p t pc) stack word → held' ≡ done_held (op_at p t pc) held → later ≡ out_of_steps fuel made' → thread_of_parts pc' stack' locals held' out made' later ≡ answered p fuel t word (thread_of_parts pc stack locals held out made ended)
answered_parts p fuel t pc pc' made made' word stack stack' locals held held' out ended later next counted stack_is held_is end =
    ap (λ n. thread_of_parts n stack' locals held' out made' later) next
    ∙ ap (λ x. thread_of_parts (pc + 1) x locals held' out made' later) stack_is
    ∙ ap (λ x. thread_of_parts (pc + 1) (done_stack (op_at p t pc) stack word) locals x out made' later) held_is
    ∙ ap (λ x. thread_of_parts (pc + 1) (done_stack (op_at p t pc) stack word) locals (done_held (op_at p t pc) held) out made' x) end
    ∙ ap (λ n. thread_of_parts (pc + 1) (done_stack (op_at p t pc) stack word) locals (done_held (op_at p t pc) held) out n (out_of_steps fuel n)) counted

-- where it settles from these parts is where it settles after its shared instruction
pub went_completed : (p : Listing) (thread fuel pc pc' made made' word : ℕ) (stack stack' locals : List ℕ) (held held' : List Bool) (out : List ℕ) (ended later : Option End) (old : Run) (last : Thread) → record { program = p; thread = thread; fuel = fuel; pc = pc; stack = stack; locals = locals; held = held; made = made; ended = ended } ≡ old → pc' ≡ pc + 1 → made' ≡ made + 1 → stack' ≡ done_stack (op_at p thread pc) stack word → held' ≡ done_held (op_at p thread pc) held → later ≡ out_of_steps fuel made' → last ≡ settled p fuel thread (thread_of_parts pc' stack' locals held' out made' later) → last ≡ settled old.program old.fuel old.thread (answered old.program old.fuel old.thread word (state old out))
went_completed p thread fuel pc pc' made made' word stack stack' locals held held' out ended later old last view next counted stack_is held_is end settles =
    settles
    ∙ ap (settled p fuel thread) (answered_parts p fuel thread pc pc' made made' word stack stack' locals held held' out ended later next counted stack_is held_is end)
    ∙ ap (λ (r : Run). settled r.program r.fuel r.thread (answered r.program r.fuel r.thread word (state r out))) view
