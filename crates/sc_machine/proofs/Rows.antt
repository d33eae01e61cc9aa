-- What an instruction comes to: the only lemmas that name instructions.
use Rattle.std.proofs.Common.{◌++◌, ◌==◌, ◌⊎◌, inl, inr, ◌≡◌, ℕ, ◌+◌, ◌≤◌, List, [], ◌∷◌, Bool, true, false, cond, Option, Some, None, length, refl, arith}
use Rattle.std.proofs.lemmas.Bool.{cond_both}
use Rattle.std.specs.Fmt.{decimal}
use Rattle.stride_isa.specs.Instructions.{kind, popped}
use Rattle.stride_isa.specs.Listing.{Listing}
use Rattle.stride_isa.specs.Validity.{Leads, depth_after}
use Rattle.stride_isa.specs.declared.op.Op.{Op}
use Rattle.stride_isa.specs.declared.op.Op.TheVariants as ops
use Rattle.sc_machine.specs.declared.instruction.Next.TheVariants as nexts
use Rattle.sc_machine.specs.declared.stop.Stop.{Stop}
use Rattle.sc_machine.specs.ThreadRun.{IsShared}
use Rattle.sc_machine.specs.ThreadStep.{Row, divided, member_cell, on_member, holds, row, printed_by, stop_in, done_stack}
use Rattle.sc_machine.specs.Made.{next_of, stack_after}

-- by this the thread does not go on to another position
abbrev StaysFrom : ℕ → Row → Type 0
StaysFrom next r = nexts.Goes next ≡ next_of r → ⊥

on_member_stays : (cell : Option ℕ) (pc : ℕ) (stop : ℕ → Stop) (next : ℕ) → StaysFrom next (on_member cell pc stop)
on_member_stays None pc stop next goes = cc
on_member_stays (Some cell) pc stop next goes = cc

-- what a quotient leads to, where its divisor is 0 and where it is not
divided_leads : (b word pc : ℕ) (below locals stack : List ℕ) (next : ℕ) → nexts.Goes next ≡ next_of (divided b word pc below locals) → (next ≡ pc + 1) × (length (stack_after (divided b word pc below locals) stack) ≡ length below + 1)
divided_leads b word pc below locals stack next = cond_both (b == 0) _ _ (λ r. nexts.Goes next ≡ next_of r → (next ≡ pc + 1) × (length (stack_after r stack) ≡ length below + 1)) (λ e goes. cc) (λ e goes. (cc, omega arith))

-- a branch leads to one of its two positions
branch_leads : (b : Bool) (x y next : ℕ) → next ≡ cond b x y → (next ≡ x) ⊎ (next ≡ y)
branch_leads true x y next e = inl e
branch_leads false x y next e = inr e

branch_back_leads : (b : Bool) (x y next : ℕ) → next ≡ cond b y x → (next ≡ x) ⊎ (next ≡ y)
branch_back_leads true x y next e = inr e
branch_back_leads false x y next e = inl e

-- an instruction by which a thread goes on leads to the position where it does, with the depth of the table
pub row_leads : (p : Listing) (op : Op) (pc : ℕ) (stack locals : List ℕ) (held : List Bool) (next : ℕ) → popped (kind op) ≤ length stack → nexts.Goes next ≡ next_of (row p op pc stack locals held) → Leads op pc next × (length (stack_after (row p op pc stack locals held) stack) ≡ depth_after op (length stack))
row_leads p ops.Div pc [] locals held next enough goes = absurd (omega arith)
row_leads p ops.Div pc (b ∷ []) locals held next enough goes = absurd (omega arith)
row_leads p ops.Div pc (b ∷ a ∷ below) locals held next enough goes =
    let leads = divided_leads b _ pc below locals (b ∷ a ∷ below) next goes in
    (leads.0, omega (arith, leads.1))
row_leads p ops.Rem pc [] locals held next enough goes = absurd (omega arith)
row_leads p ops.Rem pc (b ∷ []) locals held next enough goes = absurd (omega arith)
row_leads p ops.Rem pc (b ∷ a ∷ below) locals held next enough goes =
    let leads = divided_leads b _ pc below locals (b ∷ a ∷ below) next goes in
    (leads.0, omega (arith, leads.1))
row_leads p (ops.Jz target) pc [] locals held next enough goes = absurd (omega arith)
row_leads p (ops.Jz target) pc (a ∷ below) locals held next enough goes =
    (branch_leads (a == 0) target (pc + 1) next (cc), omega arith)
row_leads p (ops.Jnz target) pc [] locals held next enough goes = absurd (omega arith)
row_leads p (ops.Jnz target) pc (a ∷ below) locals held next enough goes =
    (branch_back_leads (a == 0) target (pc + 1) next (cc), omega arith)
row_leads p (ops.Read decl) pc stack locals held next enough goes = cc
row_leads p (ops.Write decl) pc [] locals held next enough goes = cc
row_leads p (ops.Write decl) pc (word ∷ below) locals held next enough goes = cc
row_leads p (ops.ReadAt decl) pc [] locals held next enough goes = absurd (omega arith)
row_leads p (ops.ReadAt decl) pc (index ∷ below) locals held next enough goes = absurd (on_member_stays (member_cell p decl index) pc _ next goes)
row_leads p (ops.WriteAt decl) pc [] locals held next enough goes = absurd (omega arith)
row_leads p (ops.WriteAt decl) pc (index ∷ []) locals held next enough goes = absurd (omega arith)
row_leads p (ops.WriteAt decl) pc (index ∷ word ∷ below) locals held next enough goes = absurd (on_member_stays (member_cell p decl index) pc _ next goes)
row_leads p (ops.Xchg decl) pc [] locals held next enough goes = absurd (omega arith)
row_leads p (ops.Xchg decl) pc (word ∷ below) locals held next enough goes = cc
row_leads p (ops.AddTo decl) pc [] locals held next enough goes = absurd (omega arith)
row_leads p (ops.AddTo decl) pc (word ∷ below) locals held next enough goes = cc
row_leads p (ops.Cas decl) pc [] locals held next enough goes = absurd (omega arith)
row_leads p (ops.Cas decl) pc (new ∷ []) locals held next enough goes = absurd (omega arith)
row_leads p (ops.Cas decl) pc (new ∷ expected ∷ below) locals held next enough goes = cc
row_leads p (ops.Enter monitor) pc stack locals held next enough goes = absurd (cond_both (holds held monitor) _ _ (StaysFrom next) (λ e goes. cc) (λ e goes. cc) goes)
row_leads p (ops.Exit monitor) pc stack locals held next enough goes = absurd (cond_both (holds held monitor) _ _ (StaysFrom next) (λ e goes. cc) (λ e goes. cc) goes)
row_leads p ops.Halt pc stack locals held next enough goes = cc
row_leads p op pc [] locals held next enough goes = (cc, omega arith)
row_leads p op pc (a ∷ []) locals held next enough goes = (cc, omega arith)
row_leads p op pc (b ∷ a ∷ below) locals held next enough goes = (cc, omega arith)

-- a shared instruction leads to the next position, with the depth of the table
pub shared_leads : (p : Listing) (op : Op) (pc : ℕ) (stack locals : List ℕ) (held : List Bool) (word : ℕ) → popped (kind op) ≤ length stack → IsShared (stop_in (row p op pc stack locals held)) → Leads op pc (pc + 1) × (length (done_stack op stack word) ≡ depth_after op (length stack))
shared_leads p (ops.Read decl) pc stack locals held word enough shared = (refl, omega arith)
shared_leads p (ops.Write decl) pc [] locals held word enough shared = absurd (omega arith)
shared_leads p (ops.Write decl) pc (top ∷ below) locals held word enough shared = (refl, omega arith)
shared_leads p (ops.ReadAt decl) pc [] locals held word enough shared = absurd (omega arith)
shared_leads p (ops.ReadAt decl) pc (index ∷ below) locals held word enough shared = (refl, omega arith)
shared_leads p (ops.WriteAt decl) pc [] locals held word enough shared = absurd (omega arith)
shared_leads p (ops.WriteAt decl) pc (index ∷ []) locals held word enough shared = absurd (omega arith)
shared_leads p (ops.WriteAt decl) pc (index ∷ value ∷ below) locals held word enough shared = (refl, omega arith)
shared_leads p (ops.Xchg decl) pc [] locals held word enough shared = absurd (omega arith)
shared_leads p (ops.Xchg decl) pc (top ∷ below) locals held word enough shared = (refl, omega arith)
shared_leads p (ops.AddTo decl) pc [] locals held word enough shared = absurd (omega arith)
shared_leads p (ops.AddTo decl) pc (top ∷ below) locals held word enough shared = (refl, omega arith)
shared_leads p (ops.Cas decl) pc [] locals held word enough shared = absurd (omega arith)
shared_leads p (ops.Cas decl) pc (new ∷ []) locals held word enough shared = absurd (omega arith)
shared_leads p (ops.Cas decl) pc (new ∷ expected ∷ below) locals held word enough shared = (refl, omega arith)
shared_leads p (ops.Enter monitor) pc stack locals held word enough shared = (refl, omega arith)
shared_leads p (ops.Exit monitor) pc stack locals held word enough shared = (refl, omega arith)
shared_leads p ops.Div pc [] locals held word enough shared = absurd (omega arith)
shared_leads p ops.Div pc (b ∷ []) locals held word enough shared = absurd (omega arith)
shared_leads p ops.Div pc (b ∷ a ∷ below) locals held word enough shared = absurd (cond_both (b == 0) _ _ (λ r. IsShared (stop_in r) → ⊥) (λ e s. s) (λ e s. s) shared)
shared_leads p ops.Rem pc [] locals held word enough shared = absurd (omega arith)
shared_leads p ops.Rem pc (b ∷ []) locals held word enough shared = absurd (omega arith)
shared_leads p ops.Rem pc (b ∷ a ∷ below) locals held word enough shared = absurd (cond_both (b == 0) _ _ (λ r. IsShared (stop_in r) → ⊥) (λ e s. s) (λ e s. s) shared)
shared_leads p op pc [] locals held word enough shared = absurd shared
shared_leads p op pc (a ∷ []) locals held word enough shared = absurd shared
shared_leads p op pc (b ∷ a ∷ below) locals held word enough shared = absurd shared

-- what an instruction prints is nothing, or a word and a line feed
abbrev pub IsPrint : List ℕ → Type 0
IsPrint bytes = (bytes ≡ []) ⊎ ((word : ℕ) × (bytes ≡ decimal word ++ 10 ∷ []))

abbrev Prints : Row → Type 0
Prints r = IsPrint (printed_by r)

divided_prints : (b word pc : ℕ) (below locals : List ℕ) → Prints (divided b word pc below locals)
divided_prints b word pc below locals = cond_both (b == 0) _ _ Prints (λ e. inl refl) (λ e. inl refl)

on_member_prints : (cell : Option ℕ) (pc : ℕ) (stop : ℕ → Stop) → Prints (on_member cell pc stop)
on_member_prints None pc stop = inl refl
on_member_prints (Some cell) pc stop = inl refl

pub row_prints : (p : Listing) (op : Op) (pc : ℕ) (stack locals : List ℕ) (held : List Bool) → IsPrint (printed_by (row p op pc stack locals held))
row_prints p ops.Div pc (b ∷ []) locals held = divided_prints b _ pc [] locals
row_prints p ops.Div pc (b ∷ a ∷ below) locals held = divided_prints b _ pc below locals
row_prints p ops.Rem pc (b ∷ []) locals held = divided_prints b _ pc [] locals
row_prints p ops.Rem pc (b ∷ a ∷ below) locals held = divided_prints b _ pc below locals
row_prints p (ops.ReadAt decl) pc [] locals held = on_member_prints (member_cell p decl 0) pc _
row_prints p (ops.ReadAt decl) pc (index ∷ below) locals held = on_member_prints (member_cell p decl index) pc _
row_prints p (ops.WriteAt decl) pc [] locals held = on_member_prints (member_cell p decl 0) pc _
row_prints p (ops.WriteAt decl) pc (index ∷ []) locals held = on_member_prints (member_cell p decl index) pc _
row_prints p (ops.WriteAt decl) pc (index ∷ word ∷ below) locals held = on_member_prints (member_cell p decl index) pc _
row_prints p (ops.Enter monitor) pc stack locals held = cond_both (holds held monitor) _ _ Prints (λ e. inl refl) (λ e. inl refl)
row_prints p (ops.Exit monitor) pc stack locals held = cond_both (holds held monitor) _ _ Prints (λ e. inl refl) (λ e. inl refl)
row_prints p ops.Print pc [] locals held = inr (0, refl)
row_prints p ops.Print pc (word ∷ below) locals held = inr (word, refl)
row_prints p op pc [] locals held = inl refl
row_prints p op pc (a ∷ []) locals held = inl refl
row_prints p op pc (b ∷ a ∷ below) locals held = inl refl
