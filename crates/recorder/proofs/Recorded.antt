-- What is kept of a thread while it is recorded.
use Rattle.std.proofs.Common.{◌≡◌, ℕ, zero, suc, ◌+◌, ◌-◌, ◌*◌, ◌==◌, ◌<◌, ◌≤◌, ◌∙◌, cond, false, List, [], ◌∷◌, ◌++◌, Option, Some, None, Ok, length, unwrap_or, refl, sym, ap, subst, arith, length-append, inl, inr, eq-eqb}
use Rattle.std.proofs.lemmas.Bool.{cases_eq, ne_eqb}
use Rattle.std.proofs.lemmas.List.{append-nil, get_or-set_same, get_or-set_other, length-replicate}
use Rattle.std.proofs.lemmas.List.Elements.{filter_map-append}
use Rattle.std.specs.Prelude.{IsSome, replicate, slice_index, slice_set}
use Rattle.stride_base.specs.Listed.{Listed}
use Rattle.stride_isa.specs.Limits.{fuel_limit, monitor_limit}
use Rattle.stride_isa.specs.Listing.{Listing, starts_of}
use Rattle.stride_isa.specs.Laws.{EachCellStarts}
use Rattle.sc_machine.specs.declared.end.End.{End}
use Rattle.sc_machine.specs.declared.end.End.TheVariants.{Halted, Trapped, OutOfSteps, Stopped}
use Rattle.sc_machine.specs.declared.limits.TheConstants.{LINE_LIMIT}
use Rattle.sc_machine.specs.declared.stop.Stop.{Stop}
use Rattle.sc_machine.specs.declared.stop.Stop.TheVariants as stops
use Rattle.sc_machine.specs.Schedule.{stopped}
use Rattle.sc_machine.specs.ThreadStep.{Thread, Stands, answered, now, settled, start_thread, stop_in, stop_of}
use Rattle.sc_machine.specs.ThreadRun.{IsAnswered, IsCell, Run, SameThread, StandsAt, start_run, state, stop_at}
use Rattle.interleavings.specs.declared.activity.Activity.{Activity}
use Rattle.interleavings.specs.declared.activity.HeldTurn.{HeldTurn}
use Rattle.interleavings.specs.declared.activity.Phase.TheVariants.{Idle}
use Rattle.interleavings.specs.declared.event.Event.{Event}
use Rattle.interleavings.specs.declared.event.Event.TheVariants as events
use Rattle.interleavings.specs.declared.event.LogEntry.{LogEntry}
use Rattle.interleavings.specs.AtomicStep.{held_turn}
use Rattle.interleavings.specs.Events.{TurnOf, entered_by, entry_of, log_of, word_given}
use Rattle.interleavings.specs.EventStep.{after_event}
use Rattle.interleavings.specs.Following.{Makes, follow, met_of, no_turns, turns_after, turns_from}
use Rattle.interleavings.specs.Laws.{ComesBy, WalksAreFollowed, WalksGoOn, WalksStand}
use Rattle.interleavings.specs.Recording.{IsEndAfter, Setting}
use Rattle.interleavings.specs.Walking.{held_by, held_by_event, is_exit, turns_by}
use Rattle.shared_rule.specs.declared.view.View.{View}
use Rattle.shared_rule.specs.Passes.{HasFinished, IsReady, IsSameBeside}
use Rattle.recorder.specs.Accessing.{HasGivenUp}
use Rattle.recorder.specs.Threads.{IsFresh, IsThreadRecorded}
use Rattle.recorder.proofs.Ending.{ended_is, enters_unended}

-- the log with one more entry, if there is one
abbrev pub with_entry : List LogEntry → Option LogEntry → List LogEntry
with_entry log None = log
with_entry log (Some entry) = log ++ entry ∷ []

-- the thread has come to this state by the events of its pass, of which it has made no more than so many instructions, and which
-- are in the log; the pass is idle, and the turns are those of the last entries
pub record IsRecorded (p : Listing) (fuel t : ℕ) (start : View) (s : Thread) (made : ℕ) (log : Listed LogEntry) (turns : List ℕ) (v : View) : Type 0 where
  pub comes : ComesBy p fuel t v.activity.events s
  pub logged : log.items ≡ log_of v.activity.events
  pub idle : v.activity.phase ≡ Idle
  pub name : v.activity.name ≡ start.activity.name
  pub calm : v.activity.looks ≡ None
  pub held : v.activity.held ≡ held_by v.activity.events []
  pub same : IsSameBeside start v
  pub turns_count : length turns ≡ monitor_limit
  pub turns_are : (m : ℕ) → slice_index turns m ≡ turns_by v.activity.events no_turns m
  pub few : length v.activity.events ≤ made
  pub short : length log.items ≤ made
  pub room : fuel ≤ log.spare + length log.items

-- the run is of the thread that is recorded, and its local instructions are to be made next
pub record IsUnderWay (p : Listing) (fuel t : ℕ) (start : View) (r : Run) (out : Listed ℕ) (log : Listed LogEntry) (turns : List ℕ) (v : View) : Type 0 where
  pub program : r.program ≡ p
  pub thread : r.thread ≡ t
  pub fuel_is : r.fuel ≡ fuel
  pub within : r.made ≤ fuel
  pub out_room : LINE_LIMIT * (r.fuel - r.made) ≤ out.spare
  pub recorded : IsRecorded p fuel t start (settled p fuel t (state r out.items)) r.made log turns v

-- one event more
log_more : (es : List Event) (event : Event) → log_of (es ++ event ∷ []) ≡ with_entry (log_of es) (entry_of event)
log_more es (events.Read cell value bound) = filter_map-append entry_of es (events.Read cell value bound ∷ [])
log_more es (events.Write cell value number) = filter_map-append entry_of es (events.Write cell value number ∷ [])
log_more es (events.Update cell old new number) = filter_map-append entry_of es (events.Update cell old new number ∷ [])
log_more es (events.Enter monitor turn) = filter_map-append entry_of es (events.Enter monitor turn ∷ [])
log_more es (events.Exit monitor turn) = filter_map-append entry_of es (events.Exit monitor turn ∷ []) ∙ append-nil (log_of es)

held_more : (es : List Event) (event : Event) (held : List HeldTurn) → held_by (es ++ event ∷ []) held ≡ held_by_event event (held_by es held)
held_more [] event held = refl
held_more (e ∷ es) event held = held_more es event (held_by_event e held)

turns_more : (es : List Event) (event : Event) (turns : ℕ → ℕ) → turns_by (es ++ event ∷ []) turns ≡ turns_after event (turns_by es turns)
turns_more [] event turns = refl
turns_more (e ∷ es) event turns = turns_more es event (turns_after e turns)

-- turns that are the same one by one are so after an event
turns_alike : (begun : Option TurnOf) (one other : ℕ → ℕ) → ((m : ℕ) → one m ≡ other m) → (m : ℕ) → turns_from begun one m ≡ turns_from begun other m
turns_alike None one other same m = same m
turns_alike (Some begun) one other same m = ap (cond (m == begun.monitor) begun.turn) (same m)

-- a log has at most one entry more
with_entry_short : (log : List LogEntry) (entry : Option LogEntry) → length (with_entry log entry) ≤ length log + 1
with_entry_short log None = omega arith
with_entry_short log (Some entry) = omega (arith, length-append log (entry ∷ []))

-- an entry takes the room of one
pub room_kept : (log log' : Listed LogEntry) (entry : LogEntry) → log'.items ≡ log.items ++ entry ∷ [] → log'.spare + 1 ≡ log.spare → log.spare + length log.items ≤ log'.spare + length log'.items
room_kept log log' entry items spare = omega (arith, spare, ap length items, length-append log.items (entry ∷ []))

-- the turns after an entry, kept in a row
pub turn_kept : (turns : List ℕ) (monitor turn : ℕ) → monitor < length turns → (m : ℕ) → slice_index (slice_set turns monitor turn) m ≡ turns_after (events.Enter monitor turn) (slice_index turns) m
turn_kept turns monitor turn inside m = elim (cases_eq m monitor) [
  | inl same ↦
      ap (slice_index (slice_set turns monitor turn)) same
      ∙ get_or-set_same turns monitor turn 0 inside
      ∙ ap (λ b. cond b turn (slice_index turns m)) (sym (eq-eqb m monitor same))
  | inr other ↦
      get_or-set_other turns monitor m turn 0 other
      ∙ ap (λ b. cond b turn (slice_index turns m)) (sym (ne_eqb m monitor other))
]

-- a row of zeros has 0 everywhere
zeros : (n i : ℕ) → slice_index (replicate n 0) i ≡ 0
zeros zero i = refl
zeros (suc n) zero = refl
zeros (suc n) (suc i) = zeros n i

-- at the start
pub begins : (r : Run) (t : ℕ) (out : Listed ℕ) (log : Listed LogEntry) (v : View) → r ≡ start_run r.program t r.fuel → IsFresh v → out.items ≡ [] → LINE_LIMIT * r.fuel ≤ out.spare → log.items ≡ [] → r.fuel ≤ log.spare → IsUnderWay r.program r.fuel t v r out log (replicate monitor_limit 0) v
begins r t out log v start fresh no_out out_room no_log log_room =
    let made : r.made ≡ 0 = ap (λ (r : Run). r.made) start in
    let same : state r out.items ≡ start_thread = ap (λ (x : Run). state x out.items) start ∙ ap (state (start_run r.program t r.fuel)) no_out in
    record {
      program = refl;
      thread = ap (λ (r : Run). r.thread) start;
      fuel_is = refl;
      within = omega (arith, made);
      out_room = omega (arith, made, out_room);
      recorded = record {
        comes = subst (λ es. ComesBy r.program r.fuel t es (settled r.program r.fuel t (state r out.items))) (sym fresh.events) (ap (settled r.program r.fuel t) (sym same));
        logged = no_log ∙ ap log_of (sym fresh.events);
        idle = fresh.phase;
        name = refl;
        calm = fresh.looks;
        held = fresh.held ∙ ap (λ es. held_by es []) (sym fresh.events);
        same = record { live = refl; gathered = refl; starts = refl; draws = refl };
        turns_count = length-replicate {A = ℕ} monitor_limit 0;
        turns_are = λ m. zeros monitor_limit m ∙ ap (λ es. turns_by es no_turns m) (sym fresh.events);
        few = omega (arith, ap length fresh.events);
        short = omega (arith, ap length no_log);
        room = omega (arith, log_room);
      };
    }

-- the end of a thread that was not stopped, and whose row of odd looks is over
calm_end : (g : Setting) (t : ℕ) (end : End) → ((pc : ℕ) → end ≡ Stopped pc → ⊥) → IsEndAfter g t None end
calm_end g t Halted going = refl
calm_end g t (Trapped trap pc) going = refl
calm_end g t OutOfSteps going = refl
calm_end g t (Stopped pc) going = going pc refl

-- the local instructions have been made
module _ (p : Listing) (fuel t : ℕ) (start : View) (r settled_run : Run) (out settled_out : Listed ℕ) (log : Listed LogEntry) (turns : List ℕ) (v : View) (is : IsUnderWay p fuel t start r out log turns v) (goes : state settled_run settled_out.items ≡ settled r.program r.fuel r.thread (state r out.items)) (same : SameThread r settled_run) (no_less : r.made ≤ settled_run.made) where
  abbrev s : Thread
  s = state settled_run settled_out.items

  -- it is the same run
  program_is : settled_run.program ≡ p
  program_is = same.program ∙ is.program

  thread_is : settled_run.thread ≡ t
  thread_is = same.thread ∙ is.thread

  fuel_there : settled_run.fuel ≡ fuel
  fuel_there = same.fuel ∙ is.fuel_is

  stop_there : stop_of p t s ≡ stop_at settled_run
  stop_there = sym (ap (λ q. stop_of q settled_run.thread s) program_is ∙ ap (λ n. stop_of p n s) thread_is)

  state_there : s ≡ settled p fuel t (state r out.items)
  state_there =
      goes
      ∙ ap (λ q. settled q r.fuel r.thread (state r out.items)) is.program
      ∙ ap (λ n. settled p n r.thread (state r out.items)) is.fuel_is
      ∙ ap (λ n. settled p fuel n (state r out.items)) is.thread

  comes_there : ComesBy p fuel t v.activity.events s
  comes_there = subst (ComesBy p fuel t v.activity.events) (sym state_there) is.recorded.comes

  -- the pass may begin an event
  module _ (left : settled_run.made < settled_run.fuel) where
    pub is_ready : IsSome start.activity.name → fuel ≤ fuel_limit → IsReady v
    is_ready named limit = record {
      idle = is.recorded.idle;
      named = subst IsSome (sym is.recorded.name) named;
      room = omega (arith, is.recorded.few, no_less, left, fuel_there, limit);
    }

    pub has_room : 0 < log.spare
    has_room = omega (arith, is.recorded.room, is.recorded.short, no_less, left, fuel_there)

    -- an event at the instruction where it stands
    module _ (stop : Stop) (stands : stop_at settled_run ≡ stop) (event : Event) (met : met_of stop (entry_of event) (turns_by v.activity.events no_turns) ≡ Makes event) (v' : View) (finished : HasFinished event v v') (log' : Listed LogEntry) (appended : log'.items ≡ with_entry log.items (entry_of event)) (room : log.spare + length log.items ≤ log'.spare + length log'.items) (turns' : List ℕ) (count : length turns' ≡ length turns) (kept : (m : ℕ) → slice_index turns' m ≡ turns_after event (slice_index turns) m) where
      events_there : v'.activity.events ≡ v.activity.events ++ event ∷ []
      events_there = ap (λ (a : Activity). a.events) finished.activity

      pub goes_on : WalksGoOn → (next : Run) → IsAnswered settled_run next (word_given event) → next.made ≡ settled_run.made + 1 → SameThread settled_run next → LINE_LIMIT * (settled_run.fuel - settled_run.made) ≤ settled_out.spare → IsUnderWay p fuel t start next settled_out log' turns' v'
      goes_on go_on next answers made same' out_room =
          let here : stop_of p t s ≡ stop = stop_there ∙ stands in
          let more : ComesBy p fuel t (v.activity.events ++ event ∷ []) (after_event p fuel t event s)
          = go_on p fuel t v.activity.events s event comes_there (subst (λ (x : Stop). met_of x (entry_of event) (turns_by v.activity.events no_turns) ≡ Makes event) (sym here) met) in
          let answered_is : state next settled_out.items ≡ answered p fuel t (word_given event) s
          = answers settled_out.items
          ∙ ap (λ q. answered q settled_run.fuel settled_run.thread (word_given event) s) program_is
          ∙ ap (λ n. answered p n settled_run.thread (word_given event) s) fuel_there
          ∙ ap (λ n. answered p fuel n (word_given event) s) thread_is in
          record {
            program = same'.program ∙ program_is;
            thread = same'.thread ∙ thread_is;
            fuel_is = same'.fuel ∙ fuel_there;
            within = omega (arith, made, left, fuel_there);
            out_room = omega (arith, made, same'.fuel, out_room);
            recorded = record {
              comes = subst (λ es. ComesBy p fuel t es (settled p fuel t (state next settled_out.items))) (sym events_there)
                  (subst (λ (x : Thread). ComesBy p fuel t (v.activity.events ++ event ∷ []) (settled p fuel t x)) (sym answered_is) more);
              logged = appended ∙ ap (λ es. with_entry es (entry_of event)) is.recorded.logged ∙ sym (log_more v.activity.events event) ∙ ap log_of (sym events_there);
              idle = ap (λ (a : Activity). a.phase) finished.activity;
              name = ap (λ (a : Activity). a.name) finished.activity ∙ is.recorded.name;
              calm = ap (λ (a : Activity). a.looks) finished.activity ∙ is.recorded.calm;
              held = ap (λ (a : Activity). a.held) finished.activity ∙ ap (held_by_event event) is.recorded.held ∙ sym (held_more v.activity.events event []) ∙ ap (λ es. held_by es []) (sym events_there);
              same = record {
                live = finished.same.live ∙ is.recorded.same.live;
                gathered = finished.same.gathered ∙ is.recorded.same.gathered;
                starts = finished.same.starts ∙ is.recorded.same.starts;
                draws = finished.same.draws ∙ is.recorded.same.draws;
              };
              turns_count = count ∙ is.recorded.turns_count;
              turns_are = λ m.
                  kept m
                  ∙ turns_alike (entered_by event) (slice_index turns) (turns_by v.activity.events no_turns) is.recorded.turns_are m
                  ∙ ap (λ f. f m) (sym (turns_more v.activity.events event no_turns))
                  ∙ ap (λ es. turns_by es no_turns m) (sym events_there);
              few = omega (arith, ap length events_there, length-append v.activity.events (event ∷ []), is.recorded.few, no_less, made);
              short = omega (arith, ap length appended, with_entry_short log.items (entry_of event), is.recorded.short, no_less, made);
              room = omega (arith, is.recorded.room, room);
            };
          }

  -- it holds what it leaves
  module _ (monitor : ℕ) (stands : stop_at settled_run ≡ stops.Exit monitor) where
    pub holds_there : WalksStand → held_turn monitor v.activity.held ≡ Some (slice_index turns monitor)
    holds_there stand =
        ap (held_turn monitor) is.recorded.held
        ∙ (stand p fuel t v.activity.events s comes_there).holds monitor (stop_there ∙ stands)
        ∙ ap Some (sym (is.recorded.turns_are monitor))

    pub exit_met : met_of (stops.Exit monitor) None (turns_by v.activity.events no_turns) ≡ Makes (events.Exit monitor (slice_index turns monitor))
    exit_met = ap (λ turn. Makes (events.Exit monitor turn)) (sym (is.recorded.turns_are monitor))

  -- it is run again through its log
  follows_log : WalksAreFollowed → is_exit (stop_of p t s) ≡ false → follow p fuel t log.items ≡ Ok (record { events = v.activity.events; thread = stopped s })
  follows_log followed inside = ap (follow p fuel t) is.recorded.logged ∙ followed p fuel t v.activity.events s (record { walks = comes_there; inside = inside })

  -- it has ended
  module _ (end : End) (stands : StandsAt settled_run (stops.Ended end)) where
    stands_there : now p t s ≡ Stands (stops.Ended end)
    stands_there = sym (ap (λ q. now q settled_run.thread s) program_is ∙ ap (λ n. now p n s) thread_is) ∙ stands

    ended_there : s.ended ≡ Some end
    ended_there = ended_is p t s end stands_there

    pub ended_recorded : WalksAreFollowed → WalksStand → (patience : ℕ) → IsThreadRecorded (record { program = p; fuel = fuel; patience = patience }) t v.activity log.items settled_out.items end
    ended_recorded followed stand patience = record {
      logged = is.recorded.logged;
      followed = record { events = v.activity.events; thread = stopped s };
      follows = follows_log followed (ap (λ row. is_exit (stop_in row)) stands_there);
      events = refl;
      output = refl;
      ended = ap (λ ended. unwrap_or ended (Stopped s.pc)) ended_there;
      gave_up = subst (λ looks. IsEndAfter (record { program = p; fuel = fuel; patience = patience }) t looks end) (sym is.recorded.calm) (calm_end (record { program = p; fuel = fuel; patience = patience }) t end (λ pc e. (stand p fuel t v.activity.events s comes_there).goes_on pc (ended_there ∙ ap Some e)));
    }

  -- it gives up
  module _ (monitor : ℕ) (stands : stop_at settled_run ≡ stops.Enter monitor) (patience : ℕ) (v' : View) (gave_up : HasGivenUp monitor patience v v') where
    pub given_up_recorded : WalksAreFollowed → WalksStand → IsThreadRecorded (record { program = p; fuel = fuel; patience = patience }) t v'.activity log.items settled_out.items (Stopped settled_run.pc)
    given_up_recorded followed stand =
        let here : stop_of p t s ≡ stops.Enter monitor = stop_there ∙ stands in
        subst (λ (a : Activity). IsThreadRecorded (record { program = p; fuel = fuel; patience = patience }) t a log.items settled_out.items (Stopped settled_run.pc)) (sym gave_up.activity)
        (record {
          logged = is.recorded.logged;
          followed = record { events = v.activity.events; thread = stopped s };
          follows = follows_log followed (ap is_exit here);
          events = refl;
          output = refl;
          ended = ap (λ ended. unwrap_or ended (Stopped s.pc)) (enters_unended p t s monitor here);
          gave_up = (refl, (stand p fuel t v.activity.events s comes_there).enters monitor here);
        })

-- the cell is one of the shared words'
pub cell_there : (p : Listing) (starts : List ℕ) (cell : ℕ) → EachCellStarts → starts ≡ starts_of p.decls → IsCell p cell → cell < length starts
cell_there p starts cell each cells is = omega (arith, is.0, ap length cells, each p.decls)
