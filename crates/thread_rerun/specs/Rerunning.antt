-- What contracts see of threads that were run again, and of a refusal.
use Rattle.std.specs.Prelude.{◌≡◌, ℕ, List, length, map, Result, Ok, Err}
use Rattle.stride_isa.specs.Listing.{Listing, starts_of}
use Rattle.sc_machine.specs.declared.end.End.{End}
use Rattle.sc_machine.specs.ThreadStep.{end_of}
use Rattle.interleavings.specs.declared.event.LogEntry.{LogEntry}
use Rattle.interleavings.specs.Following.{Divergence, Followed, follow_all}
use Rattle.interleavings.specs.TraceLists.{TraceLists}
use Rattle.thread_rerun.specs.declared.rerun_error.RerunError.{RerunError}
use Rattle.thread_rerun.specs.declared.rerun_error.RerunError.TheVariants.{Diverges, NoMemory}
use Rattle.thread_rerun.specs.declared.outcome.Rerun.{Rerun}

-- the events, the outputs and the ends of the threads
pub record Again : Type 0 where
  pub traces : TraceLists
  pub outputs : List (List ℕ)
  pub ends : List End

-- the same without where they lie in memory
abbrev pub rerun_seen : Rerun → Again
rerun_seen r = record { traces = r.traces; outputs = map (λ out. out.items) r.outputs.items; ends = r.ends.items }

-- what the threads of a program did that were followed
abbrev pub again_of : Listing → List Followed → Again
again_of p all = record {
  traces = record { events = map (λ (f : Followed). f.events) all; starts = starts_of p.decls; monitors = length p.monitors };
  outputs = map (λ (f : Followed). f.thread.out) all;
  ends = map (λ (f : Followed). end_of f.thread) all;
}

-- what the threads did, where all of them were followed
abbrev pub again_if : Listing → Result (List Followed) Divergence → Result Again Divergence
again_if p (Ok all) = Ok (again_of p all)
again_if p (Err divergence) = Err divergence

-- the threads of the program run again by these logs, or where the least thread that does diverges from its log
abbrev pub again : Listing → ℕ → List (List LogEntry) → Result Again Divergence
again p fuel logs = again_if p (follow_all p fuel logs)

-- the result is this; want of memory says nothing
abbrev pub IsAnswer : Result Rerun RerunError → Result Again Divergence → Type 0
IsAnswer (Ok rerun) read = read ≡ Ok (rerun_seen rerun)
IsAnswer (Err (Diverges thread place)) read = read ≡ Err (record { thread = thread; place = place })
IsAnswer (Err NoMemory) read = Unit {0}
