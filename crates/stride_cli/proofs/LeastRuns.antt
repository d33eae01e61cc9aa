-- The least schedule of threads that were followed is a run, and it is short.
use Rattle.std.proofs.Common.{◌≡◌, ◌∙◌, ℕ, ◌*◌, ◌≤◌, List, [], ◌∷◌, Ok, ap, subst, sym, arith, length}
use Rattle.std.specs.Prelude.{sum_by}
use Rattle.std.specs.List.{AllByRecursion}
use Rattle.std.proofs.lemmas.List.{length-map}
use Rattle.std.proofs.lemmas.List.Sums.{sum_by-cons}
use Rattle.stride_isa.specs.Limits.{fuel_limit, thread_limit}
use Rattle.stride_isa.specs.Listing.{Listing}
use Rattle.stride_isa.specs.Validity.{IsValid}
use Rattle.interleavings.specs.declared.event.Event.{Event}
use Rattle.interleavings.specs.declared.event.LogEntry.{LogEntry}
use Rattle.interleavings.specs.declared.traces.Place.{Place}
use Rattle.interleavings.specs.Following.{Followed, follow_all}
use Rattle.interleavings.specs.TraceLists.{IsTraces, TraceLists}
use Rattle.linkage.specs.Sources.{event_count}
use Rattle.event_order.specs.Laws.{ExtensionsAreRuns, ExtensionsAreWhole, RunsAsFollowed, traces_of}
use Rattle.stride_cli.specs.Inferring.{Inferred, IsInferredOf, Ordered}

-- the least schedule is a run of the threads that were followed
pub least_runs : ExtensionsAreRuns → (p : Listing) → IsValid p → (fuel : ℕ) → 1 ≤ fuel → (logs : List (List LogEntry)) (all : List Followed) → follow_all p fuel logs ≡ Ok all → (inferred : Inferred) → IsInferredOf (traces_of p all) (Ordered inferred) → RunsAsFollowed p fuel all inferred.schedule
least_runs law p valid fuel some logs all follows inferred is =
    let Q : List ℕ → Type 0 = λ schedule. RunsAsFollowed p fuel all schedule in
    let least = is.1 in
    subst Q (sym least.of_places) (law p fuel logs all inferred.links least.places valid some follows is.0.unrefused is.0.linked least.extends)

rows_few : (rows : List (List Event)) → AllByRecursion (λ events. length events ≤ fuel_limit) rows → sum_by length rows ≤ length rows * fuel_limit
rows_few [] few = omega arith
rows_few (row ∷ rows) few = let rest = rows_few rows few.1 in let first = few.0 in let sum = sum_by-cons length row rows in omega (arith, rest, first, sum)

-- traces have no more events than all threads of a program have fuel
pub events_few : (traces : TraceLists) → IsTraces traces → event_count traces ≤ thread_limit * fuel_limit
events_few traces kept =
    let rows = rows_few traces.events kept.counts in
    let threads = kept.threads in
    omega (arith, rows, threads)

-- the least schedule is short
pub schedule_short : ExtensionsAreWhole → (traces : TraceLists) → IsTraces traces → (inferred : Inferred) → IsInferredOf traces (Ordered inferred) → length inferred.schedule ≤ thread_limit * fuel_limit
schedule_short law traces kept inferred is =
    let least = is.1 in
    let whole : length inferred.schedule ≡ event_count traces =
    ap length least.of_places ∙ (length-map least.places (λ (at : Place). at.thread) ∙ law traces inferred.links least.places least.extends) in
    let few = events_few traces kept in
    omega (arith, whole, few)
