-- Recordings worked by hand, beside what the definitions say of them.
use Rattle.std.specs.Prelude.{◌≡◌, ℕ, zero, suc, true, false, List, [], ◌∷◌, ◌++◌, Some, None, codes, refl, replicate, slice_get}
use Rattle.std.proofs.Common.{subst}
use Rattle.std.specs.Fmt.{digits}
use Rattle.stride_isa.specs.Listing.{Listing}
use Rattle.stride_isa.specs.declared.decl.Shape.TheVariants.{Single}
use Rattle.stride_isa.specs.declared.op.Op.{Op}
use Rattle.stride_isa.specs.declared.op.Op.TheVariants as ops
use Rattle.sc_machine.specs.declared.end.End.{End}
use Rattle.sc_machine.specs.declared.end.End.TheVariants.{Halted, Trapped, Stopped}
use Rattle.sc_machine.specs.declared.trap.Trap.TheVariants.{DivZero}
use Rattle.sc_machine.specs.ThreadStep.{local_steps, settled}
use Rattle.interleavings.specs.declared.activity.Phase.TheVariants.{Idle, Loaded}
use Rattle.interleavings.specs.declared.activity.Tally.{Tally}
use Rattle.interleavings.specs.declared.event.Event.TheVariants as events
use Rattle.interleavings.specs.declared.event.LogEntry.{LogEntry}
use Rattle.interleavings.specs.declared.event.LogEntry.TheVariants.{Read, Write, Update, Enter}
use Rattle.interleavings.specs.declared.kind.Kind.{Kind}
use Rattle.interleavings.specs.declared.kind.Kind.TheVariants as by
use Rattle.interleavings.specs.Events.{bound_of, entered_by, left_by, read_of, write_of}
use Rattle.interleavings.specs.History.{Person, after, greatest_seen, newcomer}
use Rattle.interleavings.specs.Recording.{Setting, state_of, activity_of, IsEndAfter, IsRecording}
use Rattle.interleavings.specs.Driving.{advance, advance_all, begun, driven, finished_within, recording_of, settle_all, stranger, whole_run}
use Rattle.interleavings.proofs.FollowsLogs.{driven-followed}
use Rattle.interleavings.proofs.MachineLaws.{MachineLaws}
use Rattle.interleavings.proofs.Settling.{driven-history}

-- what is looked at of a recording: its logs, its ends and its last values
record Seen : Type 0 where
  logs : List (List LogEntry)
  ends : List End
  last_values : List ℕ

abbrev one_variable : List (List Op) → Listing
one_variable threads = record { decls = record { name = codes "x"; shape = Single; start = 0 } ∷ []; monitors = []; threads = threads }

abbrev monitors : List (List ℕ) → List (List Op) → Listing
monitors names threads = record { decls = []; monitors = names; threads = threads }

abbrev reads : List Op
reads = ops.Read 0 ∷ ops.Print ∷ ops.Halt ∷ []

abbrev writes : ℕ → List Op
writes word = ops.Push word ∷ ops.Write 0 ∷ ops.Halt ∷ []

-- a reader and a writer of 7
abbrev reader_and_writer : Listing
reader_and_writer = one_variable (reads ∷ writes 7 ∷ [])

-- two writers
abbrev two_writers : Listing
two_writers = one_variable (writes 3 ∷ writes 5 ∷ [])

-- one thread adds 5, the other exchanges for 7
abbrev two_updates : Listing
two_updates = one_variable ((ops.Push 5 ∷ ops.AddTo 0 ∷ ops.Print ∷ ops.Halt ∷ []) ∷ (ops.Push 7 ∷ ops.Xchg 0 ∷ ops.Print ∷ ops.Halt ∷ []) ∷ [])

abbrev enters_once : List Op
enters_once = ops.Enter 0 ∷ ops.Exit 0 ∷ ops.Halt ∷ []

-- two threads that enter one monitor
abbrev one_monitor : Listing
one_monitor = monitors (codes "m" ∷ []) (enters_once ∷ enters_once ∷ [])

-- one thread that is inside two monitors at once
abbrev nested : Listing
nested = monitors (codes "a" ∷ codes "b" ∷ []) ((ops.Enter 0 ∷ ops.Enter 1 ∷ ops.Exit 1 ∷ ops.Exit 0 ∷ ops.Halt ∷ []) ∷ [])

-- two threads that enter two monitors in opposite orders
abbrev crossed : Listing
crossed = monitors (codes "a" ∷ codes "b" ∷ []) ((ops.Enter 0 ∷ ops.Enter 1 ∷ ops.Exit 1 ∷ ops.Exit 0 ∷ ops.Halt ∷ []) ∷ (ops.Enter 1 ∷ ops.Enter 0 ∷ ops.Exit 0 ∷ ops.Exit 1 ∷ ops.Halt ∷ []) ∷ [])

-- a thread that divides by 0 inside a monitor, and one that wants it
abbrev trapping : Listing
trapping = monitors (codes "m" ∷ []) ((ops.Enter 0 ∷ ops.Push 1 ∷ ops.Push 0 ∷ ops.Div ∷ ops.Print ∷ ops.Halt ∷ []) ∷ enters_once ∷ [])

abbrev setting : ℕ → Listing → Setting
setting patience p = record { program = p; fuel = 9; patience = patience }

abbrev seen_with : ℕ → Listing → List ℕ → Seen
seen_with patience p order = let r = driven (setting patience p) order in record { logs = r.logs; ends = r.ends; last_values = r.last_values }

abbrev seen_of : Listing → List ℕ → Seen
seen_of p order = seen_with 2 p order

-- a thread once the steps of the order are made, before the settling
abbrev person_after_order : ℕ → Listing → List ℕ → ℕ → Person
person_after_order patience p order t = (state_of (setting patience p) (advance_all (setting patience p) order (begun (setting patience p))).steps).people t

abbrev person_of : Listing → List ℕ → ℕ → Person
person_of p order t = person_after_order 2 p order t

-- a thread that has made so many steps, the last of this kind at this place, by which it met this word
abbrev last_step : ℕ → Kind → ℕ → ℕ → Tally
last_step steps kind place word = record { steps = steps; last = Some (record { kind = kind; place = Some place; word = word }) }

-- a reader that loads the value before a write and its number after it
value_then_number : seen_of reader_and_writer (0 ∷ 1 ∷ 1 ∷ 1 ∷ 1 ∷ 1 ∷ 1 ∷ 0 ∷ []) ≡ record { logs = (Read 1 0 ∷ []) ∷ (Write 1 ∷ []) ∷ []; ends = Halted ∷ Halted ∷ []; last_values = 7 ∷ [] }
unfolding digits after local_steps settled advance advance_all finished_within begun driven recording_of settle_all whole_run
value_then_number = refl

-- two writes pass between the loads of a read
two_writes_between : seen_of (one_variable (reads ∷ (ops.Push 5 ∷ ops.Write 0 ∷ ops.Push 0 ∷ ops.Write 0 ∷ ops.Halt ∷ []) ∷ [])) (0 ∷ replicate 12 1 ++ 0 ∷ []) ≡ record { logs = (Read 2 0 ∷ []) ∷ (Write 1 ∷ Write 2 ∷ []) ∷ []; ends = Halted ∷ Halted ∷ []; last_values = 0 ∷ [] }
unfolding digits after local_steps settled advance advance_all finished_within begun driven recording_of settle_all whole_run
two_writes_between = refl

-- the value is loaded after the put, and the number is odd once
odd_once : seen_of reader_and_writer (1 ∷ 1 ∷ 1 ∷ 0 ∷ 0 ∷ 1 ∷ 0 ∷ []) ≡ record { logs = (Read 1 7 ∷ []) ∷ (Write 1 ∷ []) ∷ []; ends = Halted ∷ Halted ∷ []; last_values = 7 ∷ [] }
unfolding digits after local_steps settled advance advance_all finished_within begun driven recording_of settle_all whole_run
odd_once = refl

-- two writes of one value, and a read between its loads
equal_writes : seen_of (one_variable (writes 3 ∷ writes 3 ∷ reads ∷ [])) (0 ∷ 0 ∷ 0 ∷ 0 ∷ 0 ∷ 0 ∷ 2 ∷ 1 ∷ 1 ∷ 1 ∷ 1 ∷ 1 ∷ 1 ∷ 2 ∷ []) ≡ record { logs = (Write 1 ∷ []) ∷ (Write 2 ∷ []) ∷ (Read 2 3 ∷ []) ∷ []; ends = Halted ∷ Halted ∷ Halted ∷ []; last_values = 3 ∷ [] }
unfolding digits after local_steps settled advance advance_all finished_within begun driven recording_of settle_all whole_run
equal_writes = refl

-- a writer that has claimed finishes after the order, and then the reader
finished_after_the_order : seen_of reader_and_writer (1 ∷ 1 ∷ 1 ∷ 0 ∷ []) ≡ record { logs = (Read 1 7 ∷ []) ∷ (Write 1 ∷ []) ∷ []; ends = Halted ∷ Halted ∷ []; last_values = 7 ∷ [] }
unfolding digits after local_steps settled advance advance_all finished_within begun driven recording_of settle_all whole_run
finished_after_the_order = refl

-- two threads that each hold a monitor give up after two odd looks
both_give_up : seen_of crossed (0 ∷ 0 ∷ 1 ∷ 1 ∷ 0 ∷ 0 ∷ 1 ∷ 1 ∷ []) ≡ record { logs = (Enter 1 ∷ []) ∷ (Enter 1 ∷ []) ∷ []; ends = Stopped 1 ∷ Stopped 1 ∷ []; last_values = [] }
unfolding digits after local_steps settled advance advance_all finished_within begun driven recording_of settle_all whole_run
both_give_up = refl

-- a thread that traps keeps its monitor, and the other gives up
trapped_inside : seen_of trapping (0 ∷ 0 ∷ 1 ∷ 1 ∷ []) ≡ record { logs = (Enter 1 ∷ []) ∷ [] ∷ []; ends = Trapped DivZero 3 ∷ Stopped 0 ∷ []; last_values = [] }
unfolding digits after local_steps settled advance advance_all finished_within begun driven recording_of settle_all whole_run
trapped_inside = refl

-- two updates, one after the other
updates_in_turn : seen_of two_updates (0 ∷ 0 ∷ 0 ∷ 0 ∷ 0 ∷ 1 ∷ 1 ∷ 1 ∷ 1 ∷ 1 ∷ []) ≡ record { logs = (Update 1 0 ∷ []) ∷ (Update 2 5 ∷ []) ∷ []; ends = Halted ∷ Halted ∷ []; last_values = 7 ∷ [] }
unfolding digits after local_steps settled advance advance_all finished_within begun driven recording_of settle_all whole_run
updates_in_turn = refl

-- an update that sees an odd number is stopped after the order, and the one that has claimed is finished
update_finished : seen_of two_updates (1 ∷ 1 ∷ 1 ∷ 0 ∷ 0 ∷ []) ≡ record { logs = [] ∷ (Update 1 0 ∷ []) ∷ []; ends = Stopped 1 ∷ Halted ∷ []; last_values = 7 ∷ [] }
unfolding digits after local_steps settled advance advance_all finished_within begun driven recording_of settle_all whole_run
update_finished = refl

-- a claim is lost to another writer, and made again
lost_claim : seen_of two_writers (0 ∷ 1 ∷ 1 ∷ 0 ∷ 1 ∷ 1 ∷ 0 ∷ 0 ∷ 0 ∷ 0 ∷ []) ≡ record { logs = (Write 2 ∷ []) ∷ (Write 1 ∷ []) ∷ []; ends = Halted ∷ Halted ∷ []; last_values = 3 ∷ [] }
unfolding digits after local_steps settled advance advance_all finished_within begun driven recording_of settle_all whole_run
lost_claim = refl

-- a writer that has lost its claim is idle
after_a_lost_claim : (person_of two_writers (0 ∷ 1 ∷ 1 ∷ 0 ∷ []) 0).activity.phase ≡ Idle
unfolding digits after local_steps settled advance advance_all finished_within begun driven recording_of settle_all whole_run
after_a_lost_claim = refl

-- a writer that has seen a number and not claimed is stopped
not_claimed : seen_of two_writers (0 ∷ []) ≡ record { logs = [] ∷ [] ∷ []; ends = Stopped 1 ∷ Stopped 1 ∷ []; last_values = 0 ∷ [] }
unfolding digits after local_steps settled advance advance_all finished_within begun driven recording_of settle_all whole_run
not_claimed = refl

-- one that has claimed is finished
claimed : seen_of two_writers (0 ∷ 0 ∷ []) ≡ record { logs = (Write 1 ∷ []) ∷ [] ∷ []; ends = Halted ∷ Stopped 1 ∷ []; last_values = 3 ∷ [] }
unfolding digits after local_steps settled advance advance_all finished_within begun driven recording_of settle_all whole_run
claimed = refl

-- a thread leaves both monitors in which it is, after the order
leaves_both : seen_of nested (0 ∷ 0 ∷ 0 ∷ 0 ∷ []) ≡ record { logs = (Enter 1 ∷ Enter 1 ∷ []) ∷ []; ends = Halted ∷ []; last_values = [] }
unfolding digits after local_steps settled advance advance_all finished_within begun driven recording_of settle_all whole_run
leaves_both = refl

-- it holds none then, and has left the inner one first
left_both : (person_of nested (0 ∷ 0 ∷ 0 ∷ 0 ∷ 0 ∷ 0 ∷ []) 0).activity ≡ record { name = Some 0; phase = Idle; events = events.Enter 0 1 ∷ events.Enter 1 1 ∷ events.Exit 1 1 ∷ events.Exit 0 1 ∷ []; held = []; looks = None }
unfolding digits after local_steps settled advance advance_all finished_within begun driven recording_of settle_all whole_run
left_both = refl

-- an exchange of a monitor that fails is no odd look
failed_entry : (person_after_order 1 one_monitor (0 ∷ 1 ∷ 1 ∷ 0 ∷ []) 0).activity ≡ record { name = Some 0; phase = Idle; events = []; held = []; looks = None }
unfolding digits after local_steps settled advance advance_all finished_within begun driven recording_of settle_all whole_run
failed_entry = refl

-- so a thread of patience 1 goes on after it
entered_after_a_failed_entry : seen_with 1 one_monitor (0 ∷ 1 ∷ 1 ∷ 0 ∷ 1 ∷ 0 ∷ 0 ∷ []) ≡ record { logs = (Enter 2 ∷ []) ∷ (Enter 1 ∷ []) ∷ []; ends = Halted ∷ Halted ∷ []; last_values = [] }
unfolding digits after local_steps settled advance advance_all finished_within begun driven recording_of settle_all whole_run
entered_after_a_failed_entry = refl

-- one odd look ends such a thread at once
gives_up_at_once : seen_with 1 one_monitor (1 ∷ 1 ∷ 0 ∷ 1 ∷ 0 ∷ 0 ∷ []) ≡ record { logs = [] ∷ (Enter 1 ∷ []) ∷ []; ends = Stopped 0 ∷ Halted ∷ []; last_values = [] }
unfolding digits after local_steps settled advance advance_all finished_within begun driven recording_of settle_all whole_run
gives_up_at_once = refl

-- an even look ends a row of odd ones
row_ends : (person_of one_monitor (1 ∷ 1 ∷ 0 ∷ 1 ∷ 0 ∷ []) 0).activity.looks ≡ None
unfolding digits after local_steps settled advance advance_all finished_within begun driven recording_of settle_all whole_run
row_ends = refl

-- a draw has no place and tells the name
drawn : (person_of reader_and_writer [] 1).tally ≡ record { steps = 1; last = Some (record { kind = by.Draw; place = None; word = 1 }) }
unfolding digits after local_steps settled advance advance_all finished_within begun driven recording_of settle_all whole_run
drawn = refl

-- a writer that sees a number
writer_sees : (person_of reader_and_writer (1 ∷ []) 1).tally ≡ last_step 2 by.SeeNumber 0 0
unfolding digits after local_steps settled advance advance_all finished_within begun driven recording_of settle_all whole_run
writer_sees = refl

-- a claim tells the number that it met
writer_claims : (person_of reader_and_writer (1 ∷ 1 ∷ []) 1).tally ≡ last_step 3 by.Claim 0 0
unfolding digits after local_steps settled advance advance_all finished_within begun driven recording_of settle_all whole_run
writer_claims = refl

-- a store tells nothing
writer_puts : (person_of reader_and_writer (1 ∷ 1 ∷ 1 ∷ []) 1).tally ≡ last_step 4 by.Put 0 0
unfolding digits after local_steps settled advance advance_all finished_within begun driven recording_of settle_all whole_run
writer_puts = refl

-- a reader that met an odd number has made one step more, and has seen no number
reader_met_odd : person_of reader_and_writer (1 ∷ 1 ∷ 1 ∷ 0 ∷ 0 ∷ []) 0 ≡ record {
  activity = record { name = Some 0; phase = Loaded 0 7; events = []; held = []; looks = None };
  tally = last_step 3 by.NumberLoad 0 1;
  seen = [];
}
unfolding digits after local_steps settled advance advance_all finished_within begun driven recording_of settle_all whole_run
reader_met_odd = refl

-- its writer, which completes, has seen its own number
writer_completes : person_of reader_and_writer (1 ∷ 1 ∷ 1 ∷ 0 ∷ 0 ∷ 1 ∷ []) 1 ≡ record {
  activity = record { name = Some 1; phase = Idle; events = events.Write 0 7 1 ∷ []; held = []; looks = None };
  tally = last_step 5 by.Complete 0 0;
  seen = record { cell = 0; number = 1 } ∷ [];
}
unfolding digits after local_steps settled advance advance_all finished_within begun driven recording_of settle_all whole_run
writer_completes = refl

-- the reader has seen it once the number is even
reader_met_even : person_of reader_and_writer (1 ∷ 1 ∷ 1 ∷ 0 ∷ 0 ∷ 1 ∷ 0 ∷ []) 0 ≡ record {
  activity = record { name = Some 0; phase = Idle; events = events.Read 0 7 1 ∷ []; held = []; looks = None };
  tally = last_step 4 by.NumberLoad 0 2;
  seen = record { cell = 0; number = 1 } ∷ [];
}
unfolding digits after local_steps settled advance advance_all finished_within begun driven recording_of settle_all whole_run
reader_met_even = refl

-- the greatest number seen is of this cell alone
greatest_of_cell : greatest_seen 0 (record { cell = 1; number = 9 } ∷ record { cell = 0; number = 2 } ∷ record { cell = 0; number = 4 } ∷ []) ≡ 4
unfolding digits after local_steps settled advance advance_all finished_within begun driven recording_of settle_all whole_run
greatest_of_cell = refl

-- a writer that sees an even number raises nothing
sees_and_raises_nothing : (person_of two_updates (0 ∷ 0 ∷ 0 ∷ 0 ∷ 0 ∷ 1 ∷ []) 1).seen ≡ []
unfolding digits after local_steps settled advance advance_all finished_within begun driven recording_of settle_all whole_run
sees_and_raises_nothing = refl

-- an update tells the old value that it fetched
update_fetches : (person_of two_updates (0 ∷ 0 ∷ 0 ∷ 0 ∷ 0 ∷ 1 ∷ 1 ∷ 1 ∷ []) 1).tally ≡ last_step 4 by.Fetch 0 5
unfolding digits after local_steps settled advance advance_all finished_within begun driven recording_of settle_all whole_run
update_fetches = refl

-- and has seen its own number once it is complete
update_completes : (person_of two_updates (0 ∷ 0 ∷ 0 ∷ 0 ∷ 0 ∷ 1 ∷ 1 ∷ 1 ∷ 1 ∷ 1 ∷ []) 1).seen ≡ record { cell = 0; number = 2 } ∷ []
unfolding digits after local_steps settled advance advance_all finished_within begun driven recording_of settle_all whole_run
update_completes = refl

-- an odd look and a failed entry count as steps
monitor_steps : (person_of one_monitor (0 ∷ 1 ∷ 1 ∷ 0 ∷ 0 ∷ []) 0).tally ≡ last_step 4 by.Look 0 1
unfolding digits after local_steps settled advance advance_all finished_within begun driven recording_of settle_all whole_run
monitor_steps = refl

-- an exit tells nothing
exit_tells_nothing : (person_of one_monitor (0 ∷ 0 ∷ 0 ∷ []) 0).tally ≡ last_step 4 by.Leave 0 0
unfolding digits after local_steps settled advance advance_all finished_within begun driven recording_of settle_all whole_run
exit_tells_nothing = refl

-- a thread that is not there has done nothing
nobody : person_of reader_and_writer (1 ∷ 1 ∷ 1 ∷ 0 ∷ 0 ∷ 1 ∷ 0 ∷ []) 5 ≡ newcomer
unfolding digits after local_steps settled advance advance_all finished_within begun driven recording_of settle_all whole_run
nobody = refl

some_same : (one other : End) → Some one ≡ Some other → one ≡ other
some_same one other e = cc

-- a thread that gives up, and one that comes to its end
abbrev given_up : List ℕ
given_up = 1 ∷ 1 ∷ 0 ∷ 0 ∷ 1 ∷ []

-- their ends are those that a recording has
given_up_ends : (t : ℕ) (end : End) → slice_get (Stopped 0 ∷ Halted ∷ []) t ≡ Some end → IsEndAfter (setting 2 one_monitor) t (activity_of (setting 2 one_monitor) (whole_run (setting 2 one_monitor) given_up).steps t).looks end
unfolding digits after local_steps settled advance advance_all finished_within begun driven recording_of settle_all whole_run
given_up_ends zero end e = subst (λ (x : End). IsEndAfter (setting 2 one_monitor) 0 (Some (record { mon = 0; count = 2 })) x) (some_same (Stopped 0) end e) (refl, refl)
given_up_ends (suc zero) end e = subst (λ (x : End). IsEndAfter (setting 2 one_monitor) 1 None x) (some_same Halted end e) refl
given_up_ends (suc (suc t)) end e = cc

-- so what this order gives is a recording
is_recording : MachineLaws → IsRecording (setting 2 one_monitor) (driven (setting 2 one_monitor) given_up)
unfolding digits after local_steps settled advance advance_all finished_within begun driven recording_of settle_all whole_run stranger
is_recording laws = record {
  steps = (whole_run (setting 2 one_monitor) given_up).steps;
  history = driven-history laws (setting 2 one_monitor) given_up refl;
  followed = driven-followed laws (setting 2 one_monitor) given_up refl;
  ends = given_up_ends;
}

-- a thread that was stopped where the order was used up did not give up
used_up : IsEndAfter (setting 2 one_monitor) 0 None (Stopped 0) ≡ ⊥
used_up = refl

-- and one whose row has reached the patience did not halt
halted_too_late : IsEndAfter (setting 2 one_monitor) 0 (Some (record { mon = 0; count = 2 })) Halted ≡ (true ≡ false)
halted_too_late = refl

-- an update is seen as a write of its new value and as a read of its old one that has no bound
update_writes_new : write_of (events.Update 0 3 7 2) ≡ Some (record { cell = 0; number = 2; value = 7 })
update_writes_new = refl

update_reads_old : read_of (events.Update 0 3 7 2) ≡ Some (record { cell = 0; value = 3 })
update_reads_old = refl

only_reads_have_a_bound : (bound_of (events.Read 0 3 7) ≡ Some 7) × (bound_of (events.Update 0 3 7 2) ≡ None)
only_reads_have_a_bound = (refl, refl)

-- an enter begins the turn that the exit ends
turn_begins_and_ends : (entered_by (events.Enter 1 4) ≡ Some (record { monitor = 1; turn = 4 })) × (left_by (events.Exit 1 4) ≡ Some (record { monitor = 1; turn = 4 }))
turn_begins_and_ends = (refl, refl)
