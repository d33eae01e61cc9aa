-- What recording a row of threads needs and leaves, each thread with a slot of its own.
use Rattle.std.specs.Prelude.{◌≡◌, ℕ, ◌+◌, ◌*◌, ◌^◌, ◌≤◌, List, [], ◌∷◌, ◌++◌, length}
use Rattle.std.specs.List.{AllByRecursion}
use Rattle.stride_isa.specs.Limits.{fuel_limit, thread_limit}
use Rattle.stride_isa.specs.Listing.{starts_of}
use Rattle.sc_machine.specs.declared.limits.TheConstants.{LINE_LIMIT}
use Rattle.interleavings.specs.declared.activity.Activity.{Activity}
use Rattle.interleavings.specs.declared.limits.TheConstants.{PATIENCE_LIMIT}
use Rattle.interleavings.specs.History.{newcomer}
use Rattle.interleavings.specs.Recording.{Setting}
use Rattle.shared_rule.specs.declared.shared.Shared.{Shared}
use Rattle.shared_rule.specs.declared.view.View.{View}
use Rattle.shared_rule.specs.Passes.{monitors_in, starts_in}
use Rattle.recorder.specs.declared.halves.Task.{Task}
use Rattle.recorder.specs.declared.slot.Slot.{Slot}
use Rattle.recorder.specs.Threads.{IsThreadRecorded}

-- what is fixed of the threads of a session
abbrev pub setting_of : {G : Type 0} → Task G → Setting
setting_of task = record { program = task.program.now; fuel = task.fuel; patience = task.patience }

-- the setting is within its limits, and the words are those of its program
pub record Suits (g : Setting) (shared : Shared) : Type 0 where
  pub some : 1 ≤ g.fuel
  pub limit : g.fuel ≤ fuel_limit
  pub patient : 1 ≤ g.patience
  pub patience_limit : g.patience ≤ PATIENCE_LIMIT
  pub few : length g.program.threads ≤ thread_limit
  pub starts : starts_in shared ≡ starts_of g.program.decls
  pub monitors : monitors_in shared ≡ length g.program.monitors

-- a slot of a thread that has not run has room for all that the thread can log and print
pub record IsFree (fuel : ℕ) (slot : Slot) : Type 0 where
  pub log : slot.log.items ≡ []
  pub log_room : fuel ≤ slot.log.spare
  pub out : slot.out.items ≡ []
  pub out_room : LINE_LIMIT * fuel ≤ slot.out.spare

-- what was recorded of one thread
pub record IsKept (g : Setting) (t : ℕ) (slot : Slot) (activity : Activity) : Type 0 where
  pub recorded : IsThreadRecorded g t activity slot.log.items slot.out.items slot.end
  pub short : length slot.log.items ≤ g.fuel

-- what was recorded of the threads from this number on, each by what was gathered at its place
abbrev pub AreKept : Setting → ℕ → List Slot → List Activity → Type 0
AreKept g t [] [] = Unit {0}
AreKept g t [] (activity ∷ gathered) = ⊥
AreKept g t (slot ∷ slots) [] = ⊥
AreKept g t (slot ∷ slots) (activity ∷ gathered) = IsKept g t slot activity × AreKept g (t + 1) slots gathered

-- a pass that knows this can record the threads from this number on into these slots, by halves of halves as often as the depth
-- says: it has no name and done nothing, and there are two draws for each thread that the depth allows
pub record CanRun (g : Setting) (shared : Shared) (first depth : ℕ) (v : View) (slots : List Slot) : Type 0 where
  pub suits : Suits g shared
  pub nameless : v.activity ≡ newcomer.activity
  pub free : AllByRecursion (IsFree g.fuel) slots
  pub numbers : first + length slots ≤ length g.program.threads
  pub deep : length slots ≤ 2 ^ depth
  pub draws : 2 * 2 ^ depth ≤ v.draws

-- a pass has recorded the threads from this number on into these slots: it has no name still and done nothing itself, has gathered
-- one more for each thread, in the order of their numbers, and has used up as many draws
pub record Ran (g : Setting) (first : ℕ) (before now : View) (slots : List Slot) : Type 0 where
  pub nameless : now.activity ≡ newcomer.activity
  pub people : List Activity
  pub gathered : now.gathered ≡ before.gathered ++ people
  pub kept : AreKept g first slots people
  pub draws : now.draws + length slots ≡ before.draws
