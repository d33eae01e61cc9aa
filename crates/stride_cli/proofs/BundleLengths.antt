-- How long the spelling of a bundle is at most.
use Rattle.std.proofs.Common.{◌≡◌, ◌∙◌, lt-ltb, ℕ, zero, suc, ◌+◌, ◌*◌, ◌-◌, ◌/◌, ◌%◌, ◌^◌, ◌<◌, ◌≤◌, Bool, true, false, cond, List, [], ◌∷◌, ◌++◌, ap, arith, length, nat_lt}
use Rattle.std.proofs.lemmas.List.{length-append, length-map}
use Rattle.std.proofs.lemmas.List.Concat.{flat_map-cons}
use Rattle.std.specs.List.{AllByRecursion, flat_map}
use Rattle.stride_base.specs.Listed.{Listed}
use Rattle.stride_base.specs.declared.limits.TheConstants.{INPUT_LIMIT}
use Rattle.stride_isa.specs.Limits.{fuel_limit, thread_limit}
use Rattle.assembler.specs.Canonical.{canonical_limit}
use Rattle.interleavings.specs.declared.event.LogEntry.{LogEntry}
use Rattle.interleavings.specs.declared.event.LogEntry.TheVariants.{Read, Write, Update, Enter}
use Rattle.log_format.specs.Bundles.{Bundled, IsEntryOf, IsInRange, lists_of}
use Rattle.log_format.specs.Spelling.{bound_after, entries_bytes, entry_bytes, groups, log_bytes, logs_bytes, spelling, step_between, text_bytes}
use Rattle.log_format.specs.declared.version.Version.TheVariants.{Two}

by_size : (most n : ℕ) (small : Bool) (rest : List ℕ) → length rest ≤ suc most → length (cond small (n ∷ []) ((128 + n % 128) ∷ rest)) ≤ suc (suc most)
by_size most n true rest short = omega arith
by_size most n false rest short = omega (arith, short)

-- a number has at most so many groups
groups_short : (most n : ℕ) → length (groups most n) ≤ suc most
unfolding groups
groups_short zero n = omega arith
groups_short (suc most) n = by_size most n (nat_lt n 128) (groups most (n / 128)) (groups_short most (n / 128))

-- the numbers of so many groups and one more are below this
abbrev greatest_of : ℕ → ℕ
greatest_of zero = 128
greatest_of (suc more) = 128 * greatest_of more

by_small : (more n : ℕ) (small : Bool) (rest : List ℕ) → length rest ≤ suc more → length (cond small (n ∷ []) ((128 + n % 128) ∷ rest)) ≤ suc (suc more)
by_small more n true rest short = omega arith
by_small more n false rest short = omega (arith, short)

by_one : (n : ℕ) (small : Bool) (rest : List ℕ) → small ≡ true → length (cond small (n ∷ []) ((128 + n % 128) ∷ rest)) ≤ 1
by_one n true rest is = omega arith
by_one n false rest is = absurd (cc)

-- a small number has few groups
groups_few : (most more n : ℕ) → n < greatest_of more → length (groups most n) ≤ suc more
unfolding groups
groups_few zero more n below = omega arith
groups_few (suc most) zero n below = by_one n (nat_lt n 128) (groups most (n / 128)) (lt-ltb n 128 below)
groups_few (suc most) (suc more) n below =
    let less : n / 128 < greatest_of more = omega (arith, below) in
    by_small more n (nat_lt n 128) (groups most (n / 128)) (groups_few most more (n / 128) less)

-- a number of a `u32`, and twice such a one, has at most five groups
five : (n : ℕ) → n < 2 ^ 33 → length (groups 9 n) ≤ 5
five n below = groups_few 9 4 n (omega (arith, below))

by_order : (lower : Bool) (before bound : ℕ) → before < 2 ^ 32 → bound < 2 ^ 32 → cond lower (2 * (before - bound) - 1) (2 * (bound - before)) < 2 ^ 33
by_order true before bound small also = omega (arith, small, also)
by_order false before bound small also = omega (arith, small, also)

step_small : (before bound : ℕ) → before < 2 ^ 32 → bound < 2 ^ 32 → step_between before bound < 2 ^ 33
step_small before bound small also = by_order (nat_lt bound before) before bound small also

two_short : (first second : List ℕ) → length first ≤ 10 → length second ≤ 5 → length (first ++ second) ≤ 15
two_short first second one other = let both = length-append first second in omega (arith, both, one, other)

-- an entry has at most 16 bytes
entry_short : (before : ℕ) (entry : LogEntry) → before < 2 ^ 32 → IsEntryOf Two entry → length (entry_bytes Two before entry) ≤ 16
entry_short before (Read bound value) small is =
    let both = two_short (groups 9 value) (groups 9 (step_between before bound)) (groups_short 9 value) (five (step_between before bound) (step_small before bound small is.0)) in
    omega (arith, both)
entry_short before (Write number) small is = let one = five number (omega (arith, is)) in omega (arith, one)
entry_short before (Enter turn) small is = let one = five turn (omega (arith, is)) in omega (arith, one)
entry_short before (Update number old) small is =
    let below = is.1 in
    let both = two_short (groups 9 old) (groups 9 number) (groups_short 9 old) (five number (omega (arith, below))) in
    omega (arith, both)

bound_small : (before : ℕ) (entry : LogEntry) → before < 2 ^ 32 → IsEntryOf Two entry → bound_after before entry < 2 ^ 32
bound_small before (Read bound value) small is = is.0
bound_small before (Write number) small is = small
bound_small before (Update number old) small is = small
bound_small before (Enter turn) small is = small

entries_short : (before : ℕ) (entries : List LogEntry) → before < 2 ^ 32 → AllByRecursion (IsEntryOf Two) entries → length (entries_bytes Two before entries) ≤ 16 * length entries
entries_short before [] small are = omega arith
entries_short before (entry ∷ entries) small are =
    let first = entry_short before entry small are.0 in
    let rest = entries_short (bound_after before entry) entries (bound_small before entry small are.0) are.1 in
    let both = length-append (entry_bytes Two before entry) (entries_bytes Two (bound_after before entry) entries) in
    omega (arith, first, rest, both)

-- the bytes of a log of no more entries than a thread may have fuel
abbrev log_limit : ℕ
log_limit = 10 + 16 * fuel_limit

log_short : (log : List LogEntry) → length log ≤ fuel_limit → AllByRecursion (IsEntryOf Two) log → length (log_bytes Two log) ≤ log_limit
log_short log few are =
    let count = groups_short 9 (length log) in
    let entries = entries_short 0 log (omega arith) are in
    let both = length-append (groups 9 (length log)) (entries_bytes Two 0 log) in
    omega (arith, count, entries, both, few)

all_short : (fuel : ℕ) (logs : List (List LogEntry)) → fuel ≤ fuel_limit → AllByRecursion (λ log. length log ≤ fuel) logs → AllByRecursion (AllByRecursion (IsEntryOf Two)) logs → length (flat_map (log_bytes Two) logs) ≤ length logs * log_limit
all_short fuel [] most few are = omega arith
all_short fuel (log ∷ logs) most few are =
    let one = few.0 in
    let first = log_short log (omega (arith, one, most)) are.0 in
    let rest = all_short fuel logs most few.1 are.1 in
    let both = ap length (flat_map-cons (log_bytes Two) log logs) ∙ length-append (log_bytes Two log) (flat_map (log_bytes Two) logs) in
    omega (arith, first, rest, both)

-- what was recorded is no more than an input may have
pub spelling_short : (bundle : Bundled) → length bundle.text < canonical_limit → IsInRange Two bundle → length (spelling Two bundle) ≤ INPUT_LIMIT
spelling_short bundle short fits =
    let threads = fits.within.threads in
    let bound = groups_short 9 bundle.fuel in
    let text_count = groups_short 9 (length bundle.text) in
    let log_count = groups_short 9 (length bundle.logs) in
    let all = all_short bundle.fuel bundle.logs fits.within.fuel fits.within.counts fits.entries in
    let logs = length-append (groups 9 (length bundle.logs)) (flat_map (log_bytes Two) bundle.logs) in
    let text = length-append (groups 9 (length bundle.text)) bundle.text in
    let text_and_logs = length-append (text_bytes Two bundle.text) (logs_bytes Two bundle.logs) in
    let body = length-append (groups 9 bundle.fuel) (text_bytes Two bundle.text ++ logs_bytes Two bundle.logs) in
    omega (arith, bound, text_count, log_count, all, logs, text, text_and_logs, body, short, threads)

-- the logs without where they lie in memory are as short
pub lists_few : (fuel : ℕ) (logs : List (Listed LogEntry)) → AllByRecursion (λ log. length log.items ≤ fuel) logs → AllByRecursion (λ log. length log ≤ fuel) (lists_of logs)
lists_few fuel [] few = few
lists_few fuel (log ∷ logs) few = (few.0, lists_few fuel logs few.1)

pub lists_threads : (logs : List (Listed LogEntry)) → length logs ≤ thread_limit → length (lists_of logs) ≤ thread_limit
lists_threads logs few = let same = length-map logs (λ (log : Listed LogEntry). log.items) in omega (arith, few, same)
