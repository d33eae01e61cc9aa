-- The sections of reports, each a function of one value.
use Rattle.std.specs.Prelude.{ℕ, ◌+◌, ◌==◌, Bool, true, false, if◌then◌else◌, List, [], ◌∷◌, ◌++◌, Option, Some, None, codes, decimal, length, slice_get, unwrap_or}
use Rattle.std.specs.List.{count_by}
use Rattle.stride_isa.specs.Listing.{Listing}
use Rattle.interleavings.specs.declared.event.LogEntry.{LogEntry}
use Rattle.interleavings.specs.declared.event.LogEntry.TheVariants.{Read, Write, Update, Enter}
use Rattle.log_format.specs.Bundles.{Bundled}
use Rattle.sc_machine.specs.declared.end.End.{End}
use Rattle.sc_machine.specs.declared.end.End.TheVariants.{Halted, Trapped, OutOfSteps, Stopped}
use Rattle.sc_machine.specs.declared.trap.Trap.{Trap}
use Rattle.sc_machine.specs.declared.trap.Trap.TheVariants.{DivZero, Range, Again, NotHeld, HeldAtHalt}
use Rattle.sc_machine.specs.Machine.{Machine, Printed}
use Rattle.sc_machine.specs.Schedule.{ends, last_values}
use Rattle.sc_machine.specs.Transcript.{transcript_bytes}

-- the word for a trap
abbrev pub trap_word : Trap → List ℕ
trap_word DivZero = codes "div-zero"
trap_word Range = codes "range"
trap_word Again = codes "again"
trap_word NotHeld = codes "not-held"
trap_word HeldAtHalt = codes "held-at-halt"

-- the words for a thread's end
abbrev pub end_words : End → List ℕ
end_words Halted = codes "halted"
end_words (Trapped trap pc) = codes "trapped " ++ (trap_word trap ++ (codes " at " ++ decimal pc))
end_words OutOfSteps = codes "out-of-steps"
end_words (Stopped pc) = codes "stopped at " ++ decimal pc

-- a line for each end, with the threads' numbers from this one on
abbrev pub end_lines : ℕ → List End → List ℕ
end_lines thread [] = []
end_lines thread (end ∷ ends) = decimal thread ++ (32 ∷ (end_words end ++ (10 ∷ end_lines (thread + 1) ends)))

-- the section `transcript`: the printed lines, each with its thread's number, in the order of the run
abbrev pub transcript_section : List Printed → List ℕ
transcript_section lines = codes "transcript" ++ (10 ∷ transcript_bytes lines)

-- the section `ends`: how each thread ended, in order of number
abbrev pub ends_section : List End → List ℕ
ends_section all = codes "ends" ++ (10 ∷ end_lines 0 all)

-- the report of `follow` on a machine at the end of its run
abbrev pub follow_report : Machine → List ℕ
follow_report m = transcript_section m.transcript ++ ends_section (ends m)

-- the words for an entry of a log
abbrev pub entry_words : LogEntry → List ℕ
entry_words (Read bound value) = codes "read " ++ (decimal value ++ (32 ∷ decimal bound))
entry_words (Write number) = codes "write " ++ decimal number
entry_words (Update number old) = codes "update " ++ (decimal old ++ (32 ∷ decimal number))
entry_words (Enter turn) = codes "enter " ++ decimal turn

-- a line for each entry of the thread's log
abbrev pub log_lines : ℕ → List LogEntry → List ℕ
log_lines thread [] = []
log_lines thread (entry ∷ entries) = (decimal thread ++ (32 ∷ (entry_words entry ++ 10 ∷ []))) ++ log_lines thread entries

-- the lines of all logs, with the threads' numbers from this one on
abbrev pub logs_lines : ℕ → List (List LogEntry) → List ℕ
logs_lines thread [] = []
logs_lines thread (log ∷ logs) = log_lines thread log ++ logs_lines (thread + 1) logs

-- the section `logs`: what each thread logged, in order of number
abbrev pub logs_section : List (List LogEntry) → List ℕ
logs_section logs = codes "logs" ++ (10 ∷ logs_lines 0 logs)

-- the sections `threads` and `fuel`: how many threads there are, and how many instructions each may make
abbrev pub counts_section : ℕ → ℕ → List ℕ
counts_section threads fuel = codes "threads " ++ (decimal threads ++ (10 ∷ (codes "fuel " ++ (decimal fuel ++ 10 ∷ []))))

-- the section `text`: a text as it is
abbrev pub text_section : List ℕ → List ℕ
text_section text = codes "text" ++ (10 ∷ text)

-- the report of `show`: the number of threads, the fuel, the logs and the text of a bundle
abbrev pub show_report : Bundled → List ℕ
show_report bundle = counts_section (length bundle.logs) bundle.fuel ++ (logs_section bundle.logs ++ text_section bundle.text)

-- a line for each link of the thread's events, with their places from this one on
abbrev pub link_lines : ℕ → ℕ → List (Option ℕ) → List ℕ
link_lines thread place [] = []
link_lines thread place (None ∷ links) = link_lines thread (place + 1) links
link_lines thread place (Some number ∷ links) =
    (decimal thread ++ (32 ∷ (decimal place ++ (32 ∷ (decimal number ++ 10 ∷ []))))) ++ link_lines thread (place + 1) links

-- the lines of all links, with the threads' numbers from this one on
abbrev pub links_lines : ℕ → List (List (Option ℕ)) → List ℕ
links_lines thread [] = []
links_lines thread (row ∷ rows) = link_lines thread 0 row ++ links_lines (thread + 1) rows

-- the section `links`: of each read, in order of thread and place, the number of the write that it is linked to
abbrev pub links_section : List (List (Option ℕ)) → List ℕ
links_section rows = codes "links" ++ (10 ∷ links_lines 0 rows)

-- a line for so many turns of one thread
abbrev pub run_line : ℕ → ℕ → List ℕ
run_line thread count = decimal thread ++ (42 ∷ (decimal count ++ 10 ∷ []))

-- a line for each run of one thread number, where the first run has begun with so many turns of this thread
abbrev pub run_lines : ℕ → ℕ → List ℕ → List ℕ
run_lines thread count [] = run_line thread count
run_lines thread count (next ∷ rest) =
    if next == thread then run_lines thread (count + 1) rest else run_line thread count ++ run_lines next 1 rest

-- a line for each run of one thread number
abbrev pub schedule_lines : List ℕ → List ℕ
schedule_lines [] = []
schedule_lines (thread ∷ rest) = run_lines thread 1 rest

-- the section `schedule`: how many turns there are, and the thread of each, run by run
abbrev pub schedule_section : List ℕ → List ℕ
schedule_section schedule = codes "schedule " ++ (decimal (length schedule) ++ (10 ∷ schedule_lines schedule))

-- the report of `infer` on links and a schedule
abbrev pub infer_report : List (List (Option ℕ)) → List ℕ → List ℕ
infer_report links schedule = links_section links ++ schedule_section schedule

-- the report of `sim` on logs, the links of their events, the schedule and the machine at the end of its run
abbrev pub sim_report : List (List LogEntry) → List (List (Option ℕ)) → List ℕ → Machine → List ℕ
sim_report logs links schedule m = logs_section logs ++ (links_section links ++ (schedule_section schedule ++ follow_report m))

-- the report of `replay` on a schedule and the machine at the end of its run
abbrev pub replay_report : List ℕ → Machine → List ℕ
replay_report schedule m = schedule_section schedule ++ follow_report m

-- whether a thread ended by its `halt`
abbrev pub is_halted : End → Bool
is_halted Halted = true
is_halted (Trapped trap pc) = false
is_halted OutOfSteps = false
is_halted (Stopped pc) = false

-- how many of the ends are by a `halt`
abbrev pub halted_count : List End → ℕ
halted_count all = count_by is_halted all

-- a line of this word and a count
abbrev pub count_line : List ℕ → ℕ → List ℕ
count_line word count = word ++ (decimal count ++ 10 ∷ [])

-- the lines of a summary: how many threads and events there are, how many threads halted, and the total
abbrev pub summary_lines : ℕ → ℕ → ℕ → ℕ → List ℕ
summary_lines threads events halted total =
    count_line (codes "threads ") threads ++ (count_line (codes "events ") events ++ (count_line (codes "halted ") halted ++ count_line (codes "total ") total))

-- the report of a demonstration on its program, the schedule and the machine at the end of its run; the total is the last value of
-- cell 0, or 0 where there is none
abbrev pub summary_report : Listing → List ℕ → Machine → List ℕ
summary_report p schedule m = summary_lines (length p.threads) (length schedule) (halted_count (ends m)) (unwrap_or (slice_get (last_values p m) 0) 0)
