-- Schedules: lists of thread numbers, one for each shared instruction of a run.
use Rattle.std.specs.Prelude.{ℕ, zero, suc, ◌+◌, ◌-◌, Bool, not, if◌then◌else◌, List, [], ◌∷◌, ◌++◌, length, map, take, find, replicate, Option, Some, None, is_some, slice_set}
use Rattle.std.specs.List.{range_with_len}
use Rattle.std.specs.Option.{option_map}
use Rattle.stride_isa.specs.Listing.{Listing, cell_count}
use Rattle.sc_machine.specs.declared.end.End.{End}
use Rattle.sc_machine.specs.declared.stop.Stop.{Stop}
use Rattle.sc_machine.specs.ThreadStep.{Thread, printed_by, now, local_step, settled, answered, end_of}
use Rattle.sc_machine.specs.Machine.{Machine, Printed, start_machine, thread_at, can, printed_line, with_thread, word_read, cells_after, holders_after, sc_step, sc_run}

-- the lines that up to n local instructions of the thread print
unfoldable pub printed_in : Listing → ℕ → ℕ → ℕ → Thread → List Printed
printed_in p fuel t zero s = []
printed_in p fuel t (suc n) s = printed_line t (printed_by (now p t s)) ++ printed_in p fuel t n (local_step p fuel t s)

-- the lines that the thread prints up to its next shared instruction or its end
unfoldable pub settled_lines : Listing → ℕ → ℕ → Thread → List Printed
settled_lines p fuel t s = printed_in p fuel t (fuel - s.made) s

-- the machine after the thread's local instructions up to its next shared one or its end
unfoldable pub settle : Listing → ℕ → ℕ → Machine → Machine
settle p fuel t m =
    with_thread t (settled p fuel t (thread_at m t)) (settled_lines p fuel t (thread_at m t)) m

-- the machine after a turn: the shared instruction of the thread, and its local ones up to the next shared one or its end
unfoldable pub turn : Listing → ℕ → ℕ → Machine → Machine
turn p fuel t m = settle p fuel t (sc_step p fuel t m)

-- the machine after the turn of a thread that stands at this stop
unfoldable pub turned : Listing → ℕ → ℕ → Stop → Machine → Machine
turned p fuel t stop m =
    let s = answered p fuel t (word_read stop m.cells) (thread_at m t) in
    record {
      threads = slice_set m.threads t (settled p fuel t s);
      cells = cells_after stop m.cells;
      holders = holders_after t stop m.holders;
      transcript = m.transcript ++ settled_lines p fuel t s;
    }

-- the machine after one turn of each thread of the list in turn, if each is enabled when it is named
unfoldable pub turns : Listing → ℕ → List ℕ → Machine → Option Machine
turns p fuel [] m = Some m
turns p fuel (t ∷ ts) m = if can p t m then turns p fuel ts (turn p fuel t m) else None

-- the place of the first member that is not enabled when its turn comes, none where each is
unfoldable pub stuck_place : Listing → ℕ → List ℕ → Machine → Option ℕ
stuck_place p fuel [] m = None
stuck_place p fuel (t ∷ ts) m =
    if can p t m then option_map suc (stuck_place p fuel ts (turn p fuel t m)) else Some 0

-- the machine after the local starts of these threads
unfoldable pub started : Listing → ℕ → List ℕ → Machine → Machine
started p fuel [] m = m
started p fuel (t ∷ ts) m = started p fuel ts (settle p fuel t m)

-- the numbers of the program's threads, in order
abbrev pub thread_numbers : Listing → List ℕ
thread_numbers p = range_with_len 0 (length p.threads)

-- the machine after the local start of each thread in order of number
unfoldable pub ready : Listing → ℕ → Machine
ready p fuel = started p fuel (thread_numbers p) (start_machine p)

-- how many local instructions the thread makes up to its next shared one or its end
unfoldable pub locals_of : Listing → ℕ → ℕ → Machine → ℕ
locals_of p fuel t m = (settled p fuel t (thread_at m t)).made - (thread_at m t).made

-- the single steps of the local starts of these threads
unfoldable pub expand_starts : Listing → ℕ → List ℕ → Machine → List ℕ
expand_starts p fuel [] m = []
expand_starts p fuel (t ∷ ts) m = replicate (locals_of p fuel t m) t ++ expand_starts p fuel ts (settle p fuel t m)

-- the single steps of the turns of these threads
unfoldable pub expand : Listing → ℕ → List ℕ → Machine → List ℕ
expand p fuel [] m = []
expand p fuel (t ∷ ts) m =
    t ∷ (replicate (locals_of p fuel t (sc_step p fuel t m)) t ++ expand p fuel ts (turn p fuel t m))

-- the thread of each single step of the run of a schedule, the local starts first
unfoldable pub whole : Listing → ℕ → List ℕ → List ℕ
whole p fuel schedule =
    expand_starts p fuel (thread_numbers p) (start_machine p) ++ expand p fuel schedule (ready p fuel)

-- the machine after the run of a schedule, none where the list is no schedule of the program
unfoldable pub run_of : Listing → ℕ → List ℕ → Option Machine
run_of p fuel schedule = sc_run p fuel (whole p fuel schedule) (start_machine p)

-- whether the list is a schedule of the program: each thread is enabled at each of its steps
abbrev pub is_schedule : Listing → ℕ → List ℕ → Bool
is_schedule p fuel schedule = is_some (run_of p fuel schedule)

-- the place of the first member by which a list is no schedule, none where it is one
abbrev pub refused_place : Listing → ℕ → List ℕ → Option ℕ
refused_place p fuel schedule =
    find (λ place. not (is_schedule p fuel (take (place + 1) schedule))) (range_with_len 0 (length schedule))

-- the thread with an end: one that has not ended is stopped at its position
abbrev pub stopped : Thread → Thread
stopped s = record s { ended = Some (end_of s) }

-- the machine in which each thread has an end
abbrev pub finished : Machine → Machine
finished m = record m { threads = map stopped m.threads }

-- the machine after the run of a schedule, in which each thread has an end
abbrev pub replayed : Listing → ℕ → List ℕ → Option Machine
replayed p fuel schedule = option_map finished (run_of p fuel schedule)

-- what each thread printed
abbrev pub outputs : Machine → List (List ℕ)
outputs m = map (λ s. s.out) m.threads

-- the end of each thread
abbrev pub ends : Machine → List End
ends m = map end_of m.threads

-- the value of each cell of the program
abbrev pub last_values : Listing → Machine → List ℕ
last_values p m = map m.cells (range_with_len 0 (cell_count p.decls))
