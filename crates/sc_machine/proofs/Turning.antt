-- Turns of one thread in a row, in the loop that runs it.
use Rattle.std.proofs.Common.{◌≡◌, ℕ, suc, ◌+◌, ◌-◌, ◌<◌, ◌≤◌, ◌∙◌, List, true, false, Option, None, Some, length, refl, sym, ap, subst, arith}
use Rattle.std.specs.Option.{is_some}
use borrow.Author.Count.{below_more}
use Rattle.stride_base.specs.Listed.{Listed}
use Rattle.stride_isa.specs.Instructions.{kind, popped}
use Rattle.stride_isa.specs.Listing.{Listing, op_at}
use Rattle.stride_isa.specs.Validity.{IsFine, depth_after}
use Rattle.stride_isa.specs.declared.op.Op.{Op}
use Rattle.sc_machine.specs.declared.end.End.{End}
use Rattle.sc_machine.specs.declared.stop.Stop.{Stop}
use Rattle.sc_machine.specs.declared.stop.Stop.TheVariants.{Read, Write, Update, Enter, Exit, Ended}
use Rattle.sc_machine.specs.Made.{Parts, Passed}
use Rattle.sc_machine.specs.Running.{RanOn, RanTurns}
use Rattle.sc_machine.specs.ThreadRun.{Run, IsShared, StandsAt, state, stop_at}
use Rattle.sc_machine.specs.ThreadRunInside.{IsRun}
use Rattle.sc_machine.specs.ThreadStep.{Thread, Row, Stands, row, now_unless, now, settled, answered, done_stack, done_held, stop_in, stop_of, out_of_steps}
use Rattle.sc_machine.specs.TurnsInARow.{Passes, Stays, TakesTurn, WithShared, TookTurns, beside, word_in, cells_in, holders_in, turn_at, turns_by}
use Rattle.sc_machine.proofs.Completed.{answered_parts}
use Rattle.sc_machine.proofs.Inside.{enough_for, is_run_after}
use Rattle.sc_machine.proofs.RanOn.{thread_by, thread_of_parts}
use Rattle.sc_machine.proofs.Rows.{shared_leads}
use Rattle.sc_machine.proofs.Steps.{settled-standing}

-- a stop at which a thread may go on is a shared instruction
passes_shared : (p : Listing) (t : ℕ) (stop : Stop) (holders : List (Option ℕ)) → Passes p t stop holders → IsShared stop
passes_shared p t (Read cell) holders passes = tt
passes_shared p t (Write cell value) holders passes = tt
passes_shared p t (Update cell change) holders passes = tt
passes_shared p t (Enter monitor) holders passes = tt
passes_shared p t (Exit monitor) holders passes = tt
passes_shared p t (Ended end) holders passes = let may = passes.may in cc

-- at its end a thread may not go on
pub stays_ended : (p : Listing) (t : ℕ) (end : End) (holders : List (Option ℕ)) → Stays p t (Ended end) holders
stays_ended p t end holders = record { named = tt; may_not = refl }

-- the same stop and holders
pub stays_still : (p : Listing) (t : ℕ) (stop stop' : Stop) (holders holders' : List (Option ℕ)) → stop' ≡ stop → holders' ≡ holders → Stays p t stop holders → Stays p t stop' holders'
stays_still p t stop stop' holders holders' stop_is same stays =
    subst (λ s. Stays p t s holders') (sym stop_is) (subst (λ hs. Stays p t stop hs) (sym same) stays)

-- from here the thread settles where it stands after the turns so far, at each of which it could go on
pub record Turning (p : Listing) (fuel t limit left : ℕ) (first : WithShared) (here : Thread) (cells : List ℕ) (holders : List (Option ℕ)) : Type 0 where
  pub fewer : left ≤ limit
  pub reached : beside cells holders (settled p fuel t here) ≡ turns_by p fuel t (limit - left) first
  pub each : (k : ℕ) → k < limit - left → TakesTurn p t (turns_by p fuel t k first)

-- before the first turn
pub turning_begins : (p : Listing) (fuel t limit : ℕ) (here : Thread) (cells : List ℕ) (holders : List (Option ℕ)) → Turning p fuel t limit limit (beside cells holders (settled p fuel t here)) here cells holders
unfolding turns_by
turning_begins p fuel t limit here cells holders =
    let none : limit - limit ≡ 0 = omega arith in
    record {
      fewer = omega arith;
      reached = rw none refl;
      each = λ k lt. absurd (omega (arith, lt));
    }

module _ (p : Listing) (fuel t limit left : ℕ) (first : WithShared) (here : Thread) (cells : List ℕ) (holders : List (Option ℕ)) (turning : Turning p fuel t limit left first here cells holders) where
  -- after a local instruction
  pub turning_goes : (here' : Thread) (cells' : List ℕ) (holders' : List (Option ℕ)) → settled p fuel t here' ≡ settled p fuel t here → cells' ≡ cells → holders' ≡ holders → Turning p fuel t limit left first here' cells' holders'
  turning_goes here' cells' holders' settles same_cells same_holders = record {
    fewer = turning.fewer;
    reached = ap (λ cs. beside cs holders' (settled p fuel t here')) same_cells
        ∙ ap (λ hs. beside cells hs (settled p fuel t here')) same_holders
        ∙ ap (beside cells holders) settles
        ∙ turning.reached;
    each = turning.each;
  }

  -- the thread stands here after the turns so far
  abbrev StandsHere : Stop → Type 0
  StandsHere stop = now p t here ≡ Stands stop

  stands_after : (stop : Stop) → StandsHere stop → turns_by p fuel t (limit - left) first ≡ beside cells holders here
  stands_after stop stands = sym turning.reached ∙ ap (beside cells holders) (settled-standing p fuel t here stop stands)

  -- one turn more
  turn_more : (stop : Stop) → StandsHere stop → turns_by p fuel t (suc (limit - left)) first ≡ turn_at p fuel t stop (beside cells holders here)
  unfolding turns_by
  turn_more stop stands =
      ap (λ (s : WithShared). turn_at p fuel t (stop_of p t s.thread) s) (stands_after stop stands)
      ∙ ap (λ r. turn_at p fuel t (stop_in r) (beside cells holders here)) stands

  -- the thread may take it
  takes_turn : (stop : Stop) → StandsHere stop → Passes p t stop holders → TakesTurn p t (turns_by p fuel t (limit - left) first)
  takes_turn stop stands passes =
      subst (TakesTurn p t) (sym (stands_after stop stands)) (subst (λ r. Passes p t (stop_in r) holders) (sym stands) passes)

  -- after a turn
  pub turning_passes : (stop : Stop) (here' : Thread) (cells' : List ℕ) (holders' : List (Option ℕ)) → StandsHere stop → Passes p t stop holders → 0 < left → here' ≡ answered p fuel t (word_in stop cells) here → cells' ≡ cells_in stop cells → holders' ≡ holders_in t stop holders → Turning p fuel t limit (left - 1) first here' cells' holders'
  turning_passes stop here' cells' holders' stands passes some answer cells_are holders_are =
      let more : limit - (left - 1) ≡ suc (limit - left) = omega (arith, turning.fewer) in
      let counted : limit - (left - 1) ≡ limit - left + 1 = omega (arith, turning.fewer) in
      record {
        fewer = omega (arith, turning.fewer);
        reached = ap (λ cs. beside cs holders' (settled p fuel t here')) cells_are
            ∙ ap (λ hs. beside (cells_in stop cells) hs (settled p fuel t here')) holders_are
            ∙ ap (λ s. beside (cells_in stop cells) (holders_in t stop holders) (settled p fuel t s)) answer
            ∙ sym (turn_more stop stands)
            ∙ sym (ap (λ n. turns_by p fuel t n first) more);
        each = λ k lt. below_more (λ k. TakesTurn p t (turns_by p fuel t k first)) (limit - left) turning.each (takes_turn stop stands passes) k (omega (arith, lt));
      }

  -- where the loop is left
  abbrev Took : WithShared → Type 0
  Took begun = TookTurns p fuel t limit (limit - left) begun (beside cells holders here)

  pub turning_ran : (from : Thread) (start : List ℕ) (start_holders : List (Option ℕ)) → first ≡ beside start start_holders (settled p fuel t from) → StandsHere (stop_of p t here) → (0 < left → Stays p t (stop_of p t here) holders) → RanTurns p fuel t limit left from start start_holders (beside cells holders here)
  turning_ran from start start_holders is stands whole =
      let took : Took first = record {
        within = omega arith;
        played = sym (stands_after (stop_of p t here) stands);
        each = turning.each;
        whole = λ lt. whole (omega (arith, turning.fewer, lt));
      } in
      record { fewer = turning.fewer; turns = subst Took is took; stands = stands }

-- with no turn to take the thread settles
pub ran_on : (p : Listing) (fuel t left : ℕ) (first : Thread) (cells : List ℕ) (holders : List (Option ℕ)) (last : WithShared) → RanTurns p fuel t 0 left first cells holders last → RanOn p fuel t first last.thread
unfolding turns_by
ran_on p fuel t left first cells holders last ran =
    let none : 0 - left ≡ 0 = omega arith in
    record {
      settles = ap (λ (s : WithShared). s.thread) (ran.turns.played ∙ ap (λ n. turns_by p fuel t n (beside cells holders (settled p fuel t first))) none);
      stands = ran.stands;
    }

-- the thread after a turn, by its parts
module _ (p : Listing) (fuel t pc made left : ℕ) (op : Op) (old new : Parts) (later : Option End) (is : op ≡ op_at p t pc) (passed : Passed p t op (row p op pc old.stack old.locals old.held) left old new) (end : later ≡ out_of_steps fuel (made + 1)) where
  abbrev stop : Stop
  stop = stop_in (row p op pc old.stack old.locals old.held)

  abbrev here : Thread
  here = thread_by pc old made None

  abbrev here' : Thread
  here' = thread_by (pc + 1) new (made + 1) later

  stands_at_stop : now p t here ≡ Stands stop
  stands_at_stop = subst (λ (x : Op). row p x pc old.stack old.locals old.held ≡ Stands stop) is passed.stands

  passed_answered : here' ≡ answered p fuel t (word_in stop old.cells) here
  passed_answered =
      ap (λ ls. thread_of_parts (pc + 1) new.stack ls new.held new.out.items (made + 1) later) passed.locals_same
      ∙ ap (λ (o : Listed ℕ). thread_of_parts (pc + 1) new.stack old.locals new.held o.items (made + 1) later) passed.out_same
      ∙ answered_parts p fuel t pc (pc + 1) made (made + 1) (word_in stop old.cells) old.stack new.stack old.locals old.held new.held old.out.items None later refl refl
      (passed.stack_is ∙ ap (λ x. done_stack x old.stack (word_in stop old.cells)) is)
      (passed.held_are ∙ ap (λ x. done_held x old.held) is)
      end

  pub passes_on : (limit : ℕ) (first : WithShared) → Turning p fuel t limit left first here old.cells old.holders → Turning p fuel t limit (left - 1) first here' new.cells new.holders
  passes_on limit first turning =
      turning_passes p fuel t limit left first here old.cells old.holders turning stop here' new.cells new.holders stands_at_stop passed.passes passed.some passed_answered passed.cells_are passed.holders_are

  -- what always holds stays
  pub is_run_after_passing : (depth depth' : ℕ) → IsRun p t fuel pc depth made None → length old.stack ≡ depth → length new.stack ≡ depth' → IsFine p t pc depth → IsRun p t fuel (pc + 1) depth' (made + 1) later
  is_run_after_passing depth depth' run deep deep' fine =
      let enough : popped (kind op) ≤ length old.stack = enough_for p t pc depth op old.stack is deep fine in
      let leads = shared_leads p op pc old.stack old.locals old.held (word_in stop old.cells) enough (passes_shared p t stop old.holders passed.passes) in
      is_run_after p t fuel pc depth made None op (pc + 1) depth' later run refl is fine leads.0 (sym deep' ∙ ap length passed.stack_is ∙ leads.1 ∙ ap (depth_after op) deep) end

-- turns of a run that stands
pub took_turns : (p : Listing) (fuel t limit left : ℕ) (first : Thread) (cells : List ℕ) (holders : List (Option ℕ)) (last : WithShared) (out : List ℕ) (old : Run) → RanTurns p fuel t limit left first cells holders last → p ≡ old.program → fuel ≡ old.fuel → t ≡ old.thread → first ≡ state old out → StandsAt old (stop_at old) → TookTurns old.program old.fuel old.thread limit (limit - left) (beside cells holders (state old out)) last
took_turns p fuel t limit left first cells holders last out old ran program fuel_is thread first_is stands =
    let TookBy : Listing → ℕ → ℕ → WithShared → Type 0 = λ q f n s. TookTurns q f n limit (limit - left) s last in
    let begun : Listing → ℕ → ℕ → Thread → WithShared = λ q f n s. beside cells holders (settled q f n s) in
    let by_program = subst (λ (q : Listing). TookBy q fuel t (begun q fuel t first)) program ran.turns in
    let by_fuel = subst (λ (f : ℕ). TookBy old.program f t (begun old.program f t first)) fuel_is by_program in
    let by_thread = subst (λ (n : ℕ). TookBy old.program old.fuel n (begun old.program old.fuel n first)) thread by_fuel in
    let by_state = subst (λ (s : Thread). TookBy old.program old.fuel old.thread (begun old.program old.fuel old.thread s)) first_is by_thread in
    subst (λ (s : Thread). TookBy old.program old.fuel old.thread (beside cells holders s)) (settled-standing old.program old.fuel old.thread (state old out) (stop_at old) stands) by_state

-- none of them
pub took_none : (p : Listing) (fuel t limit : ℕ) (s : WithShared) → is_some s.thread.ended ≡ true → TookTurns p fuel t limit 0 s s
unfolding turns_by
took_none p fuel t limit s ended = record {
  within = omega arith;
  played = refl;
  each = λ k lt. absurd (omega (arith, lt));
  whole = λ lt. by_end s.thread.ended (row p (op_at p t s.thread.pc) s.thread.pc s.thread.stack s.thread.locals s.thread.held) ended;
}
  where
    by_end : (e : Option End) (r : Row) → is_some e ≡ true → Stays p t (stop_in (now_unless e r)) s.holders
    by_end None r is = cc
    by_end (Some end) r is = stays_ended p t end s.holders

-- an end that is not there
pub no_end : (ended : Option End) → is_some ended ≡ false → ended ≡ None
no_end None none = refl
no_end (Some end) none = cc
