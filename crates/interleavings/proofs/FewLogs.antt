-- A recording has a log for each thread.
use Rattle.std.proofs.Common.{◌≡◌, ◌≤◌, ℕ, List, length, ap, arith}
use Rattle.std.proofs.lemmas.List.{length-map}
use Rattle.std.proofs.lemmas.List.FromFn.{length-range_with_len}
use Rattle.stride_isa.specs.Limits.{thread_limit}
use Rattle.interleavings.specs.declared.driven.Driven.{Driven}
use Rattle.interleavings.specs.DrivenSeen.{recording_seen}
use Rattle.interleavings.specs.Recording.{Recording, Setting}
use Rattle.interleavings.specs.Driving.{driven, recording_of}

length-logs : (g : Setting) (order : List ℕ) → length (driven g order).logs ≡ length g.program.threads
unfolding driven recording_of
length-logs g order = simp (length-map, length-range_with_len)

-- so there are few, where the program has few threads
pub few_logs : (g : Setting) (order : List ℕ) (d : Driven) → recording_seen d ≡ driven g order → length g.program.threads ≤ thread_limit → length d.logs.items ≤ thread_limit
few_logs g order d is few =
    let seen : length (recording_seen d).logs ≡ length (driven g order).logs = ap (λ (r : Recording). length r.logs) is in
    omega (arith, simp length-map at seen, length-logs g order)
