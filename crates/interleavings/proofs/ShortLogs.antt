-- A log by which a thread is run again has at most as many entries as the thread has fuel.
use Rattle.std.proofs.Common.{◌≡◌, ℕ, zero, suc, ◌+◌, ◌<◌, ◌≤◌, List, [], ◌∷◌, None, Ok, length, map, ap, arith}
use Rattle.std.specs.List.{AllByRecursion, range_with_len}
use Rattle.stride_isa.specs.Listing.{Listing}
use Rattle.interleavings.specs.declared.event.Event.{Event}
use Rattle.interleavings.specs.declared.event.Event.TheVariants as events
use Rattle.interleavings.specs.declared.event.LogEntry.{LogEntry}
use Rattle.interleavings.specs.Events.{log_of}
use Rattle.interleavings.specs.Following.{Followed, follow}
use Rattle.interleavings.specs.Recording.{Setting, activity_of}
use Rattle.interleavings.specs.Driving.{driven, recording_of, whole_run, stranger}
use Rattle.interleavings.proofs.FollowedWalks.{follow-gone}
use Rattle.interleavings.proofs.FollowsLogs.{followed_in, thread_followed}
use Rattle.interleavings.proofs.LogsUsed.{log_is_used}
use Rattle.interleavings.proofs.MachineLaws.{MachineLaws}
use Rattle.interleavings.proofs.Settling.{settled_run, order-resting}

-- each event leaves one entry at most
log_of-length : (es : List Event) → length (log_of es) ≤ length es
log_of-length [] = omega arith
log_of-length (events.Read cell value bound ∷ es) = omega (arith, log_of-length es)
log_of-length (events.Write cell value number ∷ es) = omega (arith, log_of-length es)
log_of-length (events.Update cell old new number ∷ es) = omega (arith, log_of-length es)
log_of-length (events.Enter monitor turn ∷ es) = omega (arith, log_of-length es)
log_of-length (events.Exit monitor turn ∷ es) = omega (arith, log_of-length es)

-- each event is an instruction, and the log was used up by the events
pub followed-short : MachineLaws → (p : Listing) (fuel t : ℕ) (log : List LogEntry) (f : Followed) → 1 ≤ fuel → follow p fuel t log ≡ Ok f → length log ≤ fuel
followed-short laws p fuel t log f some followed =
    let gone = follow-gone laws p fuel t log f some followed in
    omega (arith, ap length (log_is_used laws p fuel t log f some followed), log_of-length f.events, gone.counted, gone.made)

-- what holds at each number of a range holds of each item that is made of one
each_made : {X : Type 0} (P : X → Type 0) (f : ℕ → X) (n i k : ℕ) → ((t : ℕ) → t < n → P (f t)) → i + k ≡ n → AllByRecursion P (map f (range_with_len i k))
each_made P f n i zero each e = tt
each_made P f n i (suc k) each e = (each i (omega arith), each_made P f n (i + 1) k each (omega arith))

pub driven-short : MachineLaws → (g : Setting) (order : List ℕ) → 1 ≤ g.fuel → stranger (length g.program.threads) order ≡ None → AllByRecursion (λ log. length log ≤ g.fuel) (driven g order).logs
unfolding driven recording_of whole_run
driven-short laws g order some known =
    let d = settled_run g order in
    let settles = order-resting laws g order known in
    each_made (λ (log : List LogEntry). length log ≤ g.fuel) (λ t. log_of (activity_of g d.steps t).events) (length g.program.threads) 0 (length g.program.threads)
    (λ t below. followed-short laws g.program g.fuel t (log_of (activity_of g d.steps t).events) (followed_in g d t) some (thread_followed laws g d t below settles.0.0 (settles.1 t below)))
    (omega arith)
