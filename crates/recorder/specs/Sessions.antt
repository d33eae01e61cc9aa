-- What a session holds before and after its threads have run, and what it gives.
use Rattle.std.specs.Prelude.{◌≡◌, ℕ, ◌+◌, ◌≤◌, List, length, map}
use Rattle.std.specs.List.{AllByRecursion}
use Rattle.stride_base.specs.Listed.{Listed}
use Rattle.stride_isa.specs.Listing.{cell_count}
use Rattle.interleavings.specs.declared.event.LogEntry.{LogEntry}
use Rattle.interleavings.specs.Recording.{Recording, Setting}
use Rattle.shared_rule.specs.declared.limits.TheConstants.{DRAW_LIMIT}
use Rattle.shared_rule.specs.Passes.{IsPassOf, starts_in, view_of}
use Rattle.shared_rule.specs.Views.{first_view}
use Rattle.recorder.specs.declared.session.Session.{Session}
use Rattle.recorder.specs.declared.taken.Taken.{Taken}
use Rattle.recorder.specs.Halves.{AreKept, IsFree, Suits}
use Rattle.recorder.specs.Takings.{IsBlank}

-- what is fixed of a session
abbrev pub setting_in : Session → Setting
setting_in s = record { program = s.program.now; fuel = s.fuel; patience = s.patience }

-- the recording that is given
abbrev pub recording_in : Taken → Recording
recording_in taken = record {
  logs = map (λ log. log.items) taken.logs.items;
  outputs = map (λ output. output.items) taken.outputs.items;
  ends = taken.ends.items;
  last_values = taken.last_values.items;
}

-- no log has more entries than a thread has fuel
abbrev pub AreShort : ℕ → List (Listed LogEntry) → Type 0
AreShort fuel logs = AllByRecursion (λ log. length log.items ≤ fuel) logs

-- the words and the slots are those of the program, and there is room for what the session gives
pub record Fits (s : Session) : Type 0 where
  pub suits : Suits (setting_in s) s.shared
  pub pass_of : IsPassOf s.shared s.pass
  pub count : length s.slots.items ≡ length s.program.now.threads
  pub blank : IsBlank (length s.program.now.threads) (cell_count s.program.now.decls) s.taken

-- no thread has run
pub record IsReserved (s : Session) : Type 0 where
  pub fits : Fits s
  pub view : view_of s.pass ≡ first_view (starts_in s.shared)
  pub free : AllByRecursion (IsFree s.fuel) s.slots.items

-- all threads have run: the pass has gathered one name for each, which are all that were drawn, in the order of the threads' numbers
pub record HasRun (s : Session) : Type 0 where
  pub fits : Fits s
  pub kept : AreKept (setting_in s) 0 s.slots.items (view_of s.pass).gathered
  pub draws : (view_of s.pass).draws + length s.slots.items ≡ DRAW_LIMIT
