-- Lemmas on the loop that runs a thread.
use Rattle.std.proofs.Common.{◌≡◌, ℕ, ◌+◌, ◌<◌, ◌≤◌, List, ◌++◌, Bool, Option, Some, None, length, refl, sym, ◌∙◌, ap, subst, append-nil, arith}
use Rattle.std.proofs.lemmas.List.{length-reverse, length-take-le}
use Rattle.stride_base.specs.Listed.{Listed}
use Rattle.stride_isa.specs.Listing.{Listing, op_at}
use Rattle.stride_isa.specs.Validity.{Reaches}
use Rattle.stride_isa.specs.declared.op.Op.{Op}
use Rattle.sc_machine.specs.declared.end.End.{End}
use Rattle.sc_machine.specs.declared.instruction.Next.TheVariants as nexts
use Rattle.sc_machine.specs.declared.stop.Stop.{Stop}
use Rattle.sc_machine.specs.Made.{Made, MadeAlone, Parts}
use Rattle.sc_machine.specs.Operands.{operands}
use Rattle.sc_machine.specs.ThreadRunInside.{IsRun}
use Rattle.sc_machine.specs.ThreadStep.{Thread, Row, Goes, Ends, Stands, row, now, moved, local_step, settled, stop_in, stop_of, out_of_steps}
use Rattle.sc_machine.proofs.Steps.{settled-step}

-- as many words are on the stack as its depth says
pub length-operands : (words : List ℕ) (depth : ℕ) → depth ≤ length words → length (operands words depth) ≡ depth
unfolding operands
length-operands words depth within = simp length-reverse (length-take-le depth words within)

-- a thread of these parts
abbrev pub thread_of_parts : ℕ → List ℕ → List ℕ → List Bool → List ℕ → ℕ → Option End → Thread
thread_of_parts pc stack locals held out made ended = record { pc = pc; stack = stack; locals = locals; held = held; out = out; made = made; ended = ended }

same_parts : (pc made : ℕ) (stack stack' locals locals' : List ℕ) (held : List Bool) (out out' : List ℕ) (ended ended' : Option End) → stack ≡ stack' → locals ≡ locals' → out ≡ out' → ended ≡ ended' → thread_of_parts pc stack locals held out made ended ≡ thread_of_parts pc stack' locals' held out' made ended'
same_parts pc made stack stack' locals locals' held out out' ended ended' s l o e =
    ap (λ x. thread_of_parts pc x locals held out made ended) s
    ∙ ap (λ x. thread_of_parts pc stack' x held out made ended) l
    ∙ ap (λ x. thread_of_parts pc stack' locals' held x made ended) o
    ∙ ap (λ x. thread_of_parts pc stack' locals' held out' made x) e

-- what the code of an instruction left is the thread after it, where it goes on
moved_going : (fuel : ℕ) (r : Row) (pc made next : ℕ) (stack stack' locals locals' : List ℕ) (held : List Bool) (out out' : Listed ℕ) (later : Option End) → Made r (nexts.Goes next) stack stack' locals locals' out out' → later ≡ out_of_steps fuel (made + 1) → moved fuel r (thread_of_parts pc stack locals held out.items made None) ≡ thread_of_parts next stack' locals' held out'.items (made + 1) later
moved_going fuel (Goes to s l printed) pc made next stack stack' locals locals' held out out' later m end =
    let e : to ≡ next = let is = m.next_is in cc in
    ap (λ n. thread_of_parts n s l held (out.items ++ printed) (made + 1) (out_of_steps fuel (made + 1))) e
    ∙ same_parts next (made + 1) s stack' l locals' held (out.items ++ printed) out'.items (out_of_steps fuel (made + 1)) later (sym m.stack_is) (sym m.locals_are) (sym m.printed) (sym end)
moved_going fuel (Ends end) pc made next stack stack' locals locals' held out out' later m e = let is = m.next_is in cc
moved_going fuel (Stands stop) pc made next stack stack' locals locals' held out out' later m e = let is = m.next_is in cc

-- and where it ends the thread
moved_ending : (fuel : ℕ) (r : Row) (pc made : ℕ) (end : End) (stack stack' locals locals' : List ℕ) (held : List Bool) (out out' : Listed ℕ) → Made r (nexts.Ends end) stack stack' locals locals' out out' → moved fuel r (thread_of_parts pc stack locals held out.items made None) ≡ thread_of_parts pc stack' locals' held out'.items (made + 1) (Some end)
moved_ending fuel (Goes to s l printed) pc made end stack stack' locals locals' held out out' m = let is = m.next_is in cc
moved_ending fuel (Ends other) pc made end stack stack' locals locals' held out out' m =
    let e : other ≡ end = let is = m.next_is in cc in
    same_parts pc (made + 1) stack stack' locals locals' held out.items out'.items (Some other) (Some end) (sym m.stack_is) (sym m.locals_are) (sym (m.printed ∙ append-nil out.items)) (ap Some e)
moved_ending fuel (Stands stop) pc made end stack stack' locals locals' held out out' m = let is = m.next_is in cc

-- the parts of a thread that stands are as they were
record Unmoved (r : Row) (stack stack' locals locals' out out' : List ℕ) : Type 0 where
  pub row_is : r ≡ Stands (stop_in r)
  pub stack_same : stack' ≡ stack
  pub locals_same : locals' ≡ locals
  pub out_same : out' ≡ out

unmoved : (r : Row) (stack stack' locals locals' : List ℕ) (out out' : Listed ℕ) → Made r nexts.Stands stack stack' locals locals' out out' → Unmoved r stack stack' locals locals' out.items out'.items
unmoved (Goes pc s l printed) stack stack' locals locals' out out' m = let is = m.next_is in cc
unmoved (Ends end) stack stack' locals locals' out out' m = let is = m.next_is in cc
unmoved (Stands stop) stack stack' locals locals' out out' m = record {
  row_is = refl;
  stack_same = m.stack_is;
  locals_same = m.locals_are;
  out_same = m.printed ∙ append-nil out.items;
}

-- a thread of these parts, at this position
abbrev pub thread_by : ℕ → Parts → ℕ → Option End → Thread
thread_by pc s made ended = thread_of_parts pc s.stack s.locals s.held s.out.items made ended

-- with the monitors held as they were it is the same thread
same_held : (pc made : ℕ) (s : Parts) (held : List Bool) (ended : Option End) → s.held ≡ held → thread_of_parts pc s.stack s.locals held s.out.items made ended ≡ thread_by pc s made ended
same_held pc made s held ended same = ap (λ h. thread_of_parts pc s.stack s.locals h s.out.items made ended) (sym same)

-- where a thread settles is where it settles after a local instruction, which goes on or uses up the fuel
pub settled-going : (p : Listing) (fuel t pc made next : ℕ) (op : Op) (old new : Parts) (later : Option End) → op ≡ op_at p t pc → made < fuel → MadeAlone (row p op pc old.stack old.locals old.held) (nexts.Goes next) old new → later ≡ out_of_steps fuel (made + 1) → settled p fuel t (thread_by next new (made + 1) later) ≡ settled p fuel t (thread_by pc old made None)
settled-going p fuel t pc made next op old new later is had alone end =
    let s = thread_by pc old made None in
    let stepped : local_step p fuel t s ≡ thread_by next new (made + 1) later =
    ap (λ x. moved fuel (row p x pc old.stack old.locals old.held) s) (sym is)
    ∙ moved_going fuel (row p op pc old.stack old.locals old.held) pc made next old.stack new.stack old.locals new.locals old.held old.out new.out later alone.made end
    ∙ same_held next (made + 1) new old.held later alone.held_same in
    ap (settled p fuel t) (sym stepped) ∙ settled-step p fuel t s had (ap (λ (x : Thread). x.made) stepped)

-- or ends it
pub settled-ending : (p : Listing) (fuel t pc made : ℕ) (end : End) (op : Op) (old new : Parts) → op ≡ op_at p t pc → made < fuel → MadeAlone (row p op pc old.stack old.locals old.held) (nexts.Ends end) old new → settled p fuel t (thread_by pc new (made + 1) (Some end)) ≡ settled p fuel t (thread_by pc old made None)
settled-ending p fuel t pc made end op old new is had alone =
    let s = thread_by pc old made None in
    let stepped : local_step p fuel t s ≡ thread_by pc new (made + 1) (Some end) =
    ap (λ x. moved fuel (row p x pc old.stack old.locals old.held) s) (sym is)
    ∙ moved_ending fuel (row p op pc old.stack old.locals old.held) pc made end old.stack new.stack old.locals new.locals old.held old.out new.out alone.made
    ∙ same_held pc (made + 1) new old.held (Some end) alone.held_same in
    ap (settled p fuel t) (sym stepped) ∙ settled-step p fuel t s had (ap (λ (x : Thread). x.made) stepped)

-- a thread that stands at a shared instruction has its parts as they were
pub record Stayed (p : Listing) (t : ℕ) (stop : Stop) (old new : Thread) : Type 0 where
  pub same : new ≡ old
  pub stands : now p t new ≡ Stands (stop_of p t new)
  pub stop_is : stop_of p t new ≡ stop

pub stayed : (p : Listing) (t pc made : ℕ) (op : Op) (old new : Parts) → op ≡ op_at p t pc → MadeAlone (row p op pc old.stack old.locals old.held) nexts.Stands old new → Stayed p t (stop_in (row p op pc old.stack old.locals old.held)) (thread_by pc old made None) (thread_by pc new made None)
stayed p t pc made op old new is alone =
    let u = unmoved (row p op pc old.stack old.locals old.held) old.stack new.stack old.locals new.locals old.out new.out alone.made in
    let s = thread_by pc old made None in
    let same : thread_by pc new made None ≡ s =
    sym (same_held pc made new old.held None alone.held_same)
    ∙ same_parts pc made new.stack old.stack new.locals old.locals old.held new.out.items old.out.items None None u.stack_same u.locals_same u.out_same refl in
    let StandsThere : Thread → Type 0 = λ x. now p t x ≡ Stands (stop_of p t x) in
    let here : StandsThere s = subst (λ (x : Op). row p x pc old.stack old.locals old.held ≡ Stands (stop_in (row p x pc old.stack old.locals old.held))) is u.row_is in
    record { same = same; stands = subst StandsThere (sym same) here; stop_is = ap (stop_of p t) same ∙ sym (ap (λ x. stop_in (row p x pc old.stack old.locals old.held)) is) }

-- what always holds of a run holds where it ends
pub is_run_ended : (p : Listing) (t fuel pc depth made : ℕ) (end : End) (stack stack' locals locals' : List ℕ) (r : Row) (out out' : Listed ℕ) (depth' : ℕ) → IsRun p t fuel pc depth made None → length stack ≡ depth → length stack' ≡ depth' → Made r (nexts.Ends end) stack stack' locals locals' out out' → IsRun p t fuel pc depth' (made + 1) (Some end)
is_run_ended p t fuel pc depth made end stack stack' locals locals' (Goes to s l printed) out out' depth' run deep deep' m = let is = m.next_is in cc
is_run_ended p t fuel pc depth made end stack stack' locals locals' (Ends other) out out' depth' run deep deep' m =
    let same : depth ≡ depth' = sym deep ∙ ap length (sym m.stack_is) ∙ deep' in
    record {
      thread_is = run.thread_is;
      inside = run.inside;
      reaches = subst (λ (n : ℕ). Reaches p t pc n) same run.reaches;
      within = omega (arith, run.going refl);
      limit = run.limit;
      going = λ e. cc;
    }
is_run_ended p t fuel pc depth made end stack stack' locals locals' (Stands stop) out out' depth' run deep deep' m = let is = m.next_is in cc

-- and where it stands at a shared instruction
pub is_run_standing : (p : Listing) (t fuel pc depth made : ℕ) (op : Op) (stack stack' locals locals' : List ℕ) (held : List Bool) (out out' : Listed ℕ) (depth' : ℕ) → IsRun p t fuel pc depth made None → length stack ≡ depth → length stack' ≡ depth' → Made (row p op pc stack locals held) nexts.Stands stack stack' locals locals' out out' → IsRun p t fuel pc depth' made None
is_run_standing p t fuel pc depth made op stack stack' locals locals' held out out' depth' run deep deep' m =
    let u = unmoved (row p op pc stack locals held) stack stack' locals locals' out out' m in
    let same : depth ≡ depth' = sym deep ∙ ap length (sym u.stack_same) ∙ deep' in
    record {
      thread_is = run.thread_is;
      inside = run.inside;
      reaches = subst (λ (n : ℕ). Reaches p t pc n) same run.reaches;
      within = run.within;
      limit = run.limit;
      going = λ e. run.going refl;
    }
