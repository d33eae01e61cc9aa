-- The definitions at small programs.
use Rattle.std.proofs.Common.{◌≡◌, ℕ, List, [], ◌∷◌, true, false, Option, Some, None, refl}
use Rattle.std.specs.Fmt.{digits}
use Rattle.std.specs.Option.{option_map}
use Rattle.std.specs.Prelude.{codes}
use Rattle.stride_isa.specs.Changes.{applied}
use Rattle.stride_isa.specs.Listing.{Listing}
use Rattle.stride_isa.specs.declared.change.Change.TheVariants as changes
use Rattle.stride_isa.specs.declared.decl.Shape.TheVariants.{Single, Array}
use Rattle.stride_isa.specs.declared.op.Op.{Op}
use Rattle.stride_isa.specs.declared.op.Op.TheVariants as ops
use Rattle.sc_machine.specs.declared.end.End.{End}
use Rattle.sc_machine.specs.declared.end.End.TheVariants.{Halted, Trapped, OutOfSteps, Stopped}
use Rattle.sc_machine.specs.declared.trap.Trap.TheVariants.{DivZero, Range, Again, NotHeld, HeldAtHalt}
use Rattle.sc_machine.specs.declared.stop.Stop.TheVariants as stops
use Rattle.sc_machine.specs.ThreadStep.{Row, Goes, Ends, Stands, row, local_steps, settled, done_stack}
use Rattle.sc_machine.specs.Machine.{sc_step, sc_run}
use Rattle.sc_machine.specs.Schedule.{printed_in, settled_lines, settle, turn, started, ready, locals_of, expand_starts, expand, whole, run_of, replayed, refused_place, ends}
use Rattle.sc_machine.specs.Transcript.{transcript_bytes}

-- one thread writes 3 into a variable, the other reads and prints it
abbrev sends : Listing
sends = record {
  decls = record { name = codes "x"; shape = Single; start = 0 } ∷ [];
  monitors = [];
  threads = (ops.Push 3 ∷ ops.Write 0 ∷ ops.Halt ∷ []) ∷ (ops.Read 0 ∷ ops.Print ∷ ops.Halt ∷ []) ∷ [];
}

-- the transcript and the ends of a run
abbrev replay_of : Listing → ℕ → List ℕ → Option (List ℕ × List End)
replay_of p fuel schedule = option_map (λ m. (transcript_bytes m.transcript, ends m)) (replayed p fuel schedule)

replays : (replay_of sends 50 (0 ∷ 1 ∷ []) ≡ Some (codes "1 3\n", Halted ∷ Halted ∷ [])) × (replay_of sends 50 (1 ∷ 0 ∷ []) ≡ Some (codes "1 0\n", Halted ∷ Halted ∷ [])) × (replay_of sends 50 [] ≡ Some ([], Stopped 1 ∷ Stopped 0 ∷ [])) × (replay_of sends 2 (0 ∷ 1 ∷ []) ≡ Some (codes "1 3\n", OutOfSteps ∷ OutOfSteps ∷ [])) × (replay_of sends 50 (0 ∷ 0 ∷ []) ≡ None)
unfolding digits local_steps settled sc_step sc_run printed_in settled_lines settle turn started ready locals_of expand_starts expand whole run_of
replays = (refl, refl, refl, refl, refl)

refusals : (refused_place sends 50 (0 ∷ 0 ∷ []) ≡ Some 1) × (refused_place sends 50 (2 ∷ []) ≡ Some 0) × (refused_place sends 50 (0 ∷ 1 ∷ []) ≡ None)
unfolding local_steps settled sc_step sc_run printed_in settled_lines settle turn started ready locals_of expand_starts expand whole run_of
refusals = (refl, refl, refl)

-- a variable, an array of two cells after it, and two monitors
abbrev names : List (List Op) → Listing
names threads = record {
  decls = record { name = codes "x"; shape = Single; start = 0 } ∷ record { name = codes "a"; shape = Array 2; start = 9 } ∷ [];
  monitors = codes "m" ∷ codes "n" ∷ [];
  threads = threads;
}

-- what an instruction comes to at position 5, with locals 6 and 7, where the second monitor is held
abbrev row_of : Op → List ℕ → Row
row_of op stack = row (names []) op 5 stack (6 ∷ 7 ∷ []) (false ∷ true ∷ [])

-- the stack that an instruction leaves with which the thread goes on to the next one, its locals as they were
abbrev leaves : Op → List ℕ → List ℕ → Type 0
leaves op stack left = row_of op stack ≡ Goes 6 left (6 ∷ 7 ∷ []) []

words_are_moved : leaves (ops.Push 8) (3 ∷ []) (8 ∷ 3 ∷ []) × leaves ops.Dup (3 ∷ 2 ∷ []) (3 ∷ 3 ∷ 2 ∷ []) × leaves ops.Drop (3 ∷ 2 ∷ []) (2 ∷ []) × leaves ops.Swap (3 ∷ 2 ∷ 1 ∷ []) (2 ∷ 3 ∷ 1 ∷ []) × leaves ops.Over (3 ∷ 2 ∷ 1 ∷ []) (2 ∷ 3 ∷ 2 ∷ 1 ∷ []) × leaves (ops.Get 1) [] (7 ∷ []) × (row_of (ops.Set 1) (3 ∷ 2 ∷ []) ≡ Goes 6 (2 ∷ []) (6 ∷ 3 ∷ []) [])
words_are_moved = (refl, refl, refl, refl, refl, refl, refl)

sums_wrap : leaves ops.Add (1 ∷ 18446744073709551615 ∷ 4 ∷ []) (0 ∷ 4 ∷ []) × leaves ops.Sub (3 ∷ 5 ∷ []) (2 ∷ []) × leaves ops.Sub (5 ∷ 3 ∷ []) (18446744073709551614 ∷ []) × leaves ops.Mul (6 ∷ 7 ∷ []) (42 ∷ []) × leaves ops.Mul (2 ∷ 9223372036854775809 ∷ []) (2 ∷ [])
sums_wrap = (refl, refl, refl, refl, refl)

quotients : leaves ops.Div (5 ∷ 17 ∷ []) (3 ∷ []) × leaves ops.Rem (5 ∷ 17 ∷ []) (2 ∷ []) × (row_of ops.Div (0 ∷ 17 ∷ []) ≡ Ends (Trapped DivZero 5)) × (row_of ops.Rem (0 ∷ 17 ∷ []) ≡ Ends (Trapped DivZero 5))
quotients = (refl, refl, refl, refl)

bits : leaves ops.And (12 ∷ 10 ∷ []) (8 ∷ []) × leaves ops.Or (12 ∷ 10 ∷ []) (14 ∷ []) × leaves ops.Xor (12 ∷ 10 ∷ []) (6 ∷ []) × leaves ops.Not (1 ∷ []) (18446744073709551614 ∷ [])
bits = (refl, refl, refl, refl)

shifts : leaves ops.Shl (4 ∷ 3 ∷ []) (48 ∷ []) × leaves ops.Shl (63 ∷ 3 ∷ []) (9223372036854775808 ∷ []) × leaves ops.Shl (65 ∷ 3 ∷ []) (6 ∷ []) × leaves ops.Shr (4 ∷ 255 ∷ []) (15 ∷ []) × leaves ops.Shr (64 ∷ 255 ∷ []) (255 ∷ [])
shifts = (refl, refl, refl, refl, refl)

comparisons : leaves ops.Eq (4 ∷ 4 ∷ []) (1 ∷ []) × leaves ops.Eq (4 ∷ 3 ∷ []) (0 ∷ []) × leaves ops.Lt (4 ∷ 3 ∷ []) (1 ∷ []) × leaves ops.Lt (3 ∷ 3 ∷ []) (0 ∷ []) × leaves ops.Lt (3 ∷ 4 ∷ []) (0 ∷ [])
comparisons = (refl, refl, refl, refl, refl)

-- the position to which an instruction leads, with the stack that it leaves
abbrev leads_to : Op → List ℕ → ℕ → List ℕ → Type 0
leads_to op stack next left = row_of op stack ≡ Goes next left (6 ∷ 7 ∷ []) []

branches : leads_to (ops.Jump 2) (1 ∷ []) 2 (1 ∷ []) × leads_to (ops.Jz 2) (0 ∷ 1 ∷ []) 2 (1 ∷ []) × leads_to (ops.Jz 2) (3 ∷ 1 ∷ []) 6 (1 ∷ []) × leads_to (ops.Jnz 2) (0 ∷ 1 ∷ []) 6 (1 ∷ []) × leads_to (ops.Jnz 2) (3 ∷ 1 ∷ []) 2 (1 ∷ [])
branches = (refl, refl, refl, refl, refl)

accesses : (row_of (ops.Read 0) [] ≡ Stands (stops.Read 0)) × (row_of (ops.Write 0) (4 ∷ []) ≡ Stands (stops.Write 0 4)) × (row_of (ops.ReadAt 1) (1 ∷ []) ≡ Stands (stops.Read 2)) × (row_of (ops.ReadAt 1) (2 ∷ []) ≡ Ends (Trapped Range 5)) × (row_of (ops.WriteAt 1) (0 ∷ 4 ∷ []) ≡ Stands (stops.Write 1 4)) × (row_of (ops.WriteAt 1) (2 ∷ 4 ∷ []) ≡ Ends (Trapped Range 5))
accesses = (refl, refl, refl, refl, refl, refl)

-- an update stands with its change, and an answer pushes the old value
updates : (row_of (ops.Xchg 0) (4 ∷ []) ≡ Stands (stops.Update 0 (changes.Store 4))) × (row_of (ops.AddTo 0) (4 ∷ []) ≡ Stands (stops.Update 0 (changes.Plus 4))) × (row_of (ops.Cas 0) (4 ∷ 3 ∷ []) ≡ Stands (stops.Update 0 (changes.IfEqual 3 4))) × (done_stack (ops.Xchg 0) (4 ∷ 1 ∷ []) 9 ≡ 9 ∷ 1 ∷ []) × (done_stack (ops.AddTo 0) (4 ∷ 1 ∷ []) 9 ≡ 9 ∷ 1 ∷ []) × (done_stack (ops.Cas 0) (4 ∷ 3 ∷ 1 ∷ []) 9 ≡ 9 ∷ 1 ∷ [])
updates = (refl, refl, refl, refl, refl, refl)

-- what an update leaves in its cell
changes_store : (applied (changes.Store 4) 9 ≡ 4) × (applied (changes.Plus 4) 9 ≡ 13) × (applied (changes.Plus 2) 18446744073709551615 ≡ 1) × (applied (changes.IfEqual 9 4) 9 ≡ 4) × (applied (changes.IfEqual 8 4) 9 ≡ 9)
changes_store = (refl, refl, refl, refl, refl)

monitors : (row_of (ops.Enter 0) [] ≡ Stands (stops.Enter 0)) × (row_of (ops.Enter 1) [] ≡ Ends (Trapped Again 5)) × (row_of (ops.Exit 1) [] ≡ Stands (stops.Exit 1)) × (row_of (ops.Exit 0) [] ≡ Ends (Trapped NotHeld 5)) × (row_of ops.Halt [] ≡ Ends (Trapped HeldAtHalt 5))
monitors = (refl, refl, refl, refl, refl)

-- five threads, each of which ends by another trap
abbrev trapping : Listing
trapping = names ((ops.Push 2 ∷ ops.ReadAt 1 ∷ ops.Print ∷ ops.Halt ∷ []) ∷ (ops.Enter 0 ∷ ops.Enter 0 ∷ ops.Halt ∷ []) ∷ (ops.Exit 0 ∷ ops.Halt ∷ []) ∷ (ops.Enter 1 ∷ ops.Halt ∷ []) ∷ (ops.Push 1 ∷ ops.Push 0 ∷ ops.Div ∷ ops.Print ∷ ops.Halt ∷ []) ∷ [])

traps_end : replay_of trapping 50 (1 ∷ 3 ∷ []) ≡ Some ([], Trapped Range 1 ∷ Trapped Again 1 ∷ Trapped NotHeld 0 ∷ Trapped HeldAtHalt 1 ∷ Trapped DivZero 2 ∷ [])
unfolding digits local_steps settled sc_step sc_run printed_in settled_lines settle turn started ready locals_of expand_starts expand whole run_of
traps_end = refl

-- two threads that enter and exit one monitor
abbrev taking_turns : Listing
taking_turns = names ((ops.Enter 0 ∷ ops.Exit 0 ∷ ops.Halt ∷ []) ∷ (ops.Enter 0 ∷ ops.Exit 0 ∷ ops.Halt ∷ []) ∷ [])

-- a thread waits for a monitor while another holds it
waits : (refused_place taking_turns 50 (0 ∷ 1 ∷ []) ≡ Some 1) × (replay_of taking_turns 50 (0 ∷ 0 ∷ 1 ∷ []) ≡ Some ([], Halted ∷ Stopped 1 ∷ [])) × (replay_of taking_turns 50 (1 ∷ 1 ∷ 0 ∷ 0 ∷ []) ≡ Some ([], Halted ∷ Halted ∷ []))
unfolding digits local_steps settled sc_step sc_run printed_in settled_lines settle turn started ready locals_of expand_starts expand whole run_of
waits = (refl, refl, refl)

-- one thread counts down from 2 and prints, and the other never stops
abbrev counting : Listing
counting = names ((ops.Push 2 ∷ ops.Dup ∷ ops.Print ∷ ops.Push 1 ∷ ops.Sub ∷ ops.Dup ∷ ops.Jnz 1 ∷ ops.Halt ∷ []) ∷ (ops.Jump 0 ∷ []) ∷ [])

counts : replay_of counting 20 [] ≡ Some (codes "0 2\n0 1\n", Halted ∷ OutOfSteps ∷ [])
unfolding digits local_steps settled sc_step sc_run printed_in settled_lines settle turn started ready locals_of expand_starts expand whole run_of
counts = refl
