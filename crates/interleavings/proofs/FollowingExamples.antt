-- Threads run again by hand from their logs, beside what the definition says of them.
use Rattle.std.specs.Prelude.{◌≡◌, ℕ, List, [], ◌∷◌, codes, refl, map, Result, Ok, Err}
use Rattle.std.specs.Fmt.{digits}
use Rattle.stride_isa.specs.Listing.{Listing}
use Rattle.stride_isa.specs.declared.decl.Shape.TheVariants.{Single}
use Rattle.stride_isa.specs.declared.op.Op.{Op}
use Rattle.stride_isa.specs.declared.op.Op.TheVariants as ops
use Rattle.sc_machine.specs.declared.end.End.{End}
use Rattle.sc_machine.specs.declared.end.End.TheVariants.{Halted, Stopped, Trapped}
use Rattle.sc_machine.specs.declared.trap.Trap.TheVariants.{DivZero}
use Rattle.sc_machine.specs.ThreadStep.{local_steps, settled, end_of}
use Rattle.interleavings.specs.declared.event.Event.{Event}
use Rattle.interleavings.specs.declared.event.Event.TheVariants as events
use Rattle.interleavings.specs.declared.event.LogEntry.TheVariants.{Read, Write, Update, Enter}
use Rattle.interleavings.specs.Following.{Followed, Divergence, follow, follow_from, follow_all, follow_all_from}

-- what is looked at of a thread that was run again
record Seen : Type 0 where
  events : List Event
  out : List ℕ
  end : End

abbrev seen_one : Followed → Seen
seen_one f = record { events = f.events; out = f.thread.out; end = end_of f.thread }

abbrev seen : Result (List Followed) Divergence → Result (List Seen) Divergence
seen (Ok all) = Ok (map seen_one all)
seen (Err divergence) = Err divergence

abbrev one_variable : List (List Op) → Listing
one_variable threads = record { decls = record { name = codes "x"; shape = Single; start = 0 } ∷ []; monitors = []; threads = threads }

abbrev one_monitor : List Op → Listing
one_monitor code = record { decls = []; monitors = codes "m" ∷ []; threads = code ∷ [] }

abbrev publish : Listing
publish = one_variable ((ops.Read 0 ∷ ops.Print ∷ ops.Halt ∷ []) ∷ (ops.Push 7 ∷ ops.Write 0 ∷ ops.Halt ∷ []) ∷ [])

abbrev write_and_read : Listing
write_and_read = one_variable ((ops.Push 4 ∷ ops.Write 0 ∷ ops.Read 0 ∷ ops.Print ∷ ops.Halt ∷ []) ∷ [])

abbrev twice_inside : Listing
twice_inside = one_monitor (ops.Enter 0 ∷ ops.Exit 0 ∷ ops.Enter 0 ∷ ops.Push 1 ∷ ops.Push 0 ∷ ops.Div ∷ ops.Print ∷ ops.Halt ∷ [])

abbrev adds : Listing
adds = one_variable ((ops.Push 5 ∷ ops.AddTo 0 ∷ ops.Print ∷ ops.Halt ∷ []) ∷ [])

abbrev parts_at : ℕ → ℕ → Result (List Seen) Divergence
parts_at t place = Err (record { thread = t; place = place })

-- a write and a read that got its value
its_own_write : seen (follow_all write_and_read 9 ((Write 1 ∷ Read 1 4 ∷ []) ∷ [])) ≡ Ok (record { events = events.Write 0 4 1 ∷ events.Read 0 4 1 ∷ []; out = 52 ∷ 10 ∷ []; end = Halted } ∷ [])
unfolding digits local_steps settled follow follow_from follow_all follow_all_from
its_own_write = refl

-- a log that ends before the read
ends_early : seen (follow_all write_and_read 9 ((Write 1 ∷ []) ∷ [])) ≡ Ok (record { events = events.Write 0 4 1 ∷ []; out = []; end = Stopped 2 } ∷ [])
unfolding digits local_steps settled follow follow_from follow_all follow_all_from
ends_early = refl

-- an exit uses no entry and has the turn of its enter; a trap ends the thread
two_turns : seen (follow_all twice_inside 9 ((Enter 3 ∷ Enter 5 ∷ []) ∷ [])) ≡ Ok (record { events = events.Enter 0 3 ∷ events.Exit 0 3 ∷ events.Enter 0 5 ∷ []; out = []; end = Trapped DivZero 5 } ∷ [])
unfolding digits local_steps settled follow follow_from follow_all follow_all_from
two_turns = refl

-- a write where the thread reads
of_another_kind : seen (follow_all publish 9 ((Write 1 ∷ []) ∷ (Write 1 ∷ []) ∷ [])) ≡ parts_at 0 0
unfolding digits local_steps settled follow follow_from follow_all follow_all_from
of_another_kind = refl

-- an entry is left when the thread has ended
one_left : seen (follow_all publish 9 ((Read 0 0 ∷ Read 0 0 ∷ []) ∷ (Write 1 ∷ []) ∷ [])) ≡ parts_at 0 1
unfolding digits local_steps settled follow follow_from follow_all follow_all_from
one_left = refl

-- a log without a thread
one_log_more : seen (follow_all publish 9 ((Read 1 0 ∷ []) ∷ (Write 1 ∷ []) ∷ [] ∷ [])) ≡ parts_at 2 0
unfolding digits local_steps settled follow follow_from follow_all follow_all_from
one_log_more = refl

-- a thread without a log
one_log_less : seen (follow_all publish 9 ((Read 1 0 ∷ []) ∷ [])) ≡ parts_at 1 0
unfolding digits local_steps settled follow follow_from follow_all follow_all_from
one_log_less = refl

-- an update prints the old value of its entry, and has the new value of its change
an_update : seen (follow_all adds 9 ((Update 3 18446744073709551615 ∷ []) ∷ [])) ≡ Ok (record { events = events.Update 0 18446744073709551615 4 3 ∷ []; out = 49 ∷ 56 ∷ 52 ∷ 52 ∷ 54 ∷ 55 ∷ 52 ∷ 52 ∷ 48 ∷ 55 ∷ 51 ∷ 55 ∷ 48 ∷ 57 ∷ 53 ∷ 53 ∷ 49 ∷ 54 ∷ 49 ∷ 53 ∷ 10 ∷ []; end = Halted } ∷ [])
unfolding digits local_steps settled follow follow_from follow_all follow_all_from
an_update = refl

-- a write where the thread updates
a_write_at_an_update : seen (follow_all adds 9 ((Write 1 ∷ []) ∷ [])) ≡ parts_at 0 0
unfolding digits local_steps settled follow follow_from follow_all follow_all_from
a_write_at_an_update = refl

-- an update where the thread writes
an_update_at_a_write : seen (follow_all write_and_read 9 ((Update 1 0 ∷ []) ∷ [])) ≡ parts_at 0 0
unfolding digits local_steps settled follow follow_from follow_all follow_all_from
an_update_at_a_write = refl
