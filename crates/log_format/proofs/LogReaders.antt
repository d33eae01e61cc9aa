-- The readers of the entries of a log, of a log and of the logs of a bundle.
use Rattle.std.proofs.Common.{◌≡◌, ℕ, zero, suc, ◌^◌, ◌≤◌, ◌<◌, List, [], ◌∷◌, ◌++◌, length, Result, Ok, refl, sym, ap, subst, ◌∙◌, arith, inl, inr}
use Rattle.std.specs.List.{AllByRecursion, flat_map}
use Rattle.std.proofs.lemmas.Bool.{cases_lt}
use Rattle.std.proofs.lemmas.List.{append-nil}
use Rattle.std.proofs.lemmas.List.Concat.{flat_map-cons}
use Rattle.interleavings.specs.declared.event.LogEntry.{LogEntry}
use Rattle.interleavings.specs.declared.event.LogEntry.TheVariants.{Read, Write, Update, Enter}
use Rattle.log_format.specs.declared.fault.Fault.{Fault}
use Rattle.log_format.specs.declared.version.Size.TheVariants.{Bits32, Bits64}
use Rattle.log_format.specs.declared.version.Version.{Version}
use Rattle.log_format.specs.declared.version.Version.TheVariants.{One, Two}
use Rattle.log_format.specs.Bundles.{IsEntryOf}
use Rattle.log_format.specs.Laws.{IsUnfinished}
use Rattle.log_format.specs.Reading.{◌>>=◌, number_up_to, entry_at, entries_at, log_at, logs_at}
use Rattle.log_format.specs.Spelling.{greatest, number_bytes, step_between, bound_after, entry_bytes, entries_bytes, log_bytes}
use Rattle.log_format.proofs.NumberReaders.{IsUpTo, up_to_begins, up_to_reads}
use Rattle.log_format.proofs.Readers.{Reads, Begins, IsSome, reads_as, begins_as, IsDone, reads_done, begins_done, Joined, reads_then, begins_then}
use Rattle.log_format.proofs.BoundReaders.{BoundFits, down_step, up_step}
use Rattle.log_format.proofs.EntryReaders.{EntryFits, IsEntry, NumbersFit, entry_begins, entry_reads}

-- ---- the entries of a log

-- each entry fits after those before it
abbrev EntriesFit : Version → ℕ → List LogEntry → Type 0
EntriesFit version before [] = Unit {0}
EntriesFit version before (entry ∷ entries) = EntryFits version before entry × EntriesFit version (bound_after before entry) entries

-- the text is the bytes of so many entries that fit
abbrev IsEntries : Version → ℕ → ℕ → List LogEntry → List ℕ → Type 0
IsEntries version before n entries text = (length entries ≡ n) × EntriesFit version before entries × (text ≡ entries_bytes version before entries)

-- what stands after the first entry: the others
abbrev NextEntries : Version → ℕ → ℕ → LogEntry → List LogEntry → List ℕ → Type 0
NextEntries version before n first = Joined (IsEntries version (bound_after before first) n) (λ others. IsDone (first ∷ others))

-- the reader of the others
abbrev next_entries : Version → ℕ → ℕ → LogEntry × List ℕ → Result (List LogEntry × List ℕ) Fault
next_entries version before n first = entries_at version (bound_after before first.0) n first.1 >>= λ others. Ok (first.0 ∷ others.0, others.1)

to_entries : (version : Version) (before n : ℕ) (entries : List LogEntry) (text : List ℕ) → Joined (IsEntry version before) (NextEntries version before n) entries text → IsEntries version before (suc n) entries text
to_entries version before n entries text j =
    let next = j.second in
    let made = j.value ∷ next.value in
    let behind : j.two ≡ entries_bytes version (bound_after before j.value) next.value = next.whole ∙ ap (λ t. next.one ++ t) next.second.1 ∙ append-nil next.one ∙ next.first.2 in
    let all : text ≡ entries_bytes version before made = j.whole ∙ ap (λ t. t ++ j.two) j.first.1 ∙ ap (λ t. entry_bytes version before j.value ++ t) behind in
    subst (λ es. IsEntries version before (suc n) es text) (sym next.second.0) (ap suc next.first.0, (j.first.0, next.first.1), all)

from_entries : (version : Version) (before n : ℕ) (entries : List LogEntry) (text : List ℕ) → IsEntries version before (suc n) entries text → Joined (IsEntry version before) (NextEntries version before n) entries text
from_entries version before n [] text is = absurd (omega (arith, is.0))
from_entries version before n (entry ∷ entries) text is = record {
  value = entry;
  one = entry_bytes version before entry;
  two = entries_bytes version (bound_after before entry) entries;
  first = (is.1.0, refl);
  second = record {
    value = entries;
    one = entries_bytes version (bound_after before entry) entries;
    two = [];
    first = (omega (arith, is.0), is.1.1, refl);
    second = (refl, refl);
    whole = sym (append-nil (entries_bytes version (bound_after before entry) entries));
  };
  whole = is.2;
}

-- no entries
none_are : (version : Version) (before : ℕ) (entries : List LogEntry) (text : List ℕ) → IsEntries version before 0 entries text → IsDone [] entries text
none_are version before [] text is = (refl, is.2)
none_are version before (entry ∷ entries) text is = absurd (omega (arith, is.0))

are_none : (version : Version) (before : ℕ) (entries : List LogEntry) (text : List ℕ) → IsDone [] entries text → IsEntries version before 0 entries text
are_none version before entries text is = subst (λ es. IsEntries version before 0 es text) (sym is.0) (refl, tt, is.1)

entries_read : (version : Version) (before n : ℕ) → Reads (entries_at version before n) (IsEntries version before n)
unfolding entries_at
entries_read version before zero = reads_as (entries_at version before 0) (IsDone []) (IsEntries version before 0) (are_none version before) (none_are version before) (reads_done [])
entries_read version before (suc n) =
    reads_as (entries_at version before (suc n)) (Joined (IsEntry version before) (NextEntries version before n)) (IsEntries version before (suc n)) (to_entries version before n) (from_entries version before n)
    (reads_then (entry_at version before) (next_entries version before n) (IsEntry version before) (NextEntries version before n) (entry_reads version before)
    (λ first. reads_then (entries_at version (bound_after before first) n) (λ others. Ok (first ∷ others.0, others.1)) (IsEntries version (bound_after before first) n) (λ others. IsDone (first ∷ others)) (entries_read version (bound_after before first) n) (λ others. reads_done (first ∷ others))))

bound_is_low : (version : Version) (before bound : ℕ) → BoundFits version before bound → bound ≤ greatest Bits32
bound_is_low One before bound fits = fits
bound_is_low Two before bound fits = fits.0

-- the bound stays one of 32 bits
after_is_low : (version : Version) (before : ℕ) (entry : LogEntry) → before ≤ greatest Bits32 → NumbersFit version before entry → bound_after before entry ≤ greatest Bits32
after_is_low version before (Read bound value) low fits = bound_is_low version before bound fits.1
after_is_low version before (Write number) low fits = low
after_is_low version before (Update number old) low fits = low
after_is_low version before (Enter turn) low fits = low

-- so many writes
some_entries : (version : Version) (before n : ℕ) → IsSome (IsEntries version before n)
some_entries version before zero = record { value = []; text = []; is = (refl, tt, refl) }
some_entries version before (suc n) =
    let others = some_entries version before n in
    record {
      value = Write 0 ∷ others.value;
      text = entry_bytes version before (Write 0) ++ others.text;
      is = (ap suc others.is.0, ((tt, omega arith), others.is.1), ap (λ t. entry_bytes version before (Write 0) ++ t) others.is.2);
    }

entries_begin : (version : Version) (before n : ℕ) → before ≤ greatest Bits32 → Begins (entries_at version before n) (IsEntries version before n) (IsUnfinished version)
unfolding entries_at
entries_begin version before zero low = begins_as (entries_at version before 0) (IsDone []) (IsEntries version before 0) (are_none version before) (IsUnfinished version) (begins_done [] (IsUnfinished version))
entries_begin version before (suc n) low =
    begins_as (entries_at version before (suc n)) (Joined (IsEntry version before) (NextEntries version before n)) (IsEntries version before (suc n)) (to_entries version before n) (IsUnfinished version)
    (begins_then (entry_at version before) (next_entries version before n) (IsEntry version before) (NextEntries version before n) (entry_reads version before) (IsUnfinished version) (entry_begins version before low)
    (λ first text is. begins_then (entries_at version (bound_after before first) n) (λ others. Ok (first ∷ others.0, others.1)) (IsEntries version (bound_after before first) n) (λ others. IsDone (first ∷ others))
    (entries_read version (bound_after before first) n) (IsUnfinished version) (entries_begin version (bound_after before first) n (after_is_low version before first low is.0.1))
    (λ others text is. begins_done (first ∷ others) (IsUnfinished version)) (λ others text is. record { value = first ∷ others; text = []; is = (refl, refl) }))
    (λ first text is. (let others = some_entries version (bound_after before first) n in
    record { value = first ∷ others.value; text = others.text; is = record { value = others.value; one = others.text; two = []; first = others.is; second = (refl, refl); whole = sym (append-nil others.text) } })))

-- an entry of the version is one whose numbers fit
entry_of_it : (version : Version) (before : ℕ) (entry : LogEntry) → EntryFits version before entry → IsEntryOf version entry
entry_of_it version before (Read bound value) fits = (omega (arith, bound_is_low version before bound fits.1.1), omega (arith, fits.1.0))
entry_of_it version before (Write number) fits = omega (arith, fits.1)
entry_of_it version before (Update number old) fits = (fits.0, omega (arith, fits.1.1), omega (arith, fits.1.0))
entry_of_it version before (Enter turn) fits = omega (arith, fits.1)

bound_fits : (version : Version) (before bound : ℕ) → before ≤ greatest Bits32 → bound < 2 ^ 32 → BoundFits version before bound
bound_fits One before bound low below = omega arith
bound_fits Two before bound low below =
    let way : step_between before bound ≤ greatest Bits64 = elim (cases_lt bound before) [ inl down ↦ omega (arith, down_step before bound down) | inr up ↦ omega (arith, up_step before bound up) ] in
    (omega arith, way)

its_numbers_fit : (version : Version) (before : ℕ) (entry : LogEntry) → before ≤ greatest Bits32 → IsEntryOf version entry → EntryFits version before entry
its_numbers_fit version before (Read bound value) low is = (tt, (omega (arith, is.1), bound_fits version before bound low is.0))
its_numbers_fit version before (Write number) low is = (tt, omega (arith, is))
its_numbers_fit version before (Update number old) low is = (is.0, (omega (arith, is.2), omega (arith, is.1)))
its_numbers_fit version before (Enter turn) low is = (tt, omega (arith, is))

entries_of_it : (version : Version) (before : ℕ) (entries : List LogEntry) → EntriesFit version before entries → AllByRecursion (IsEntryOf version) entries
entries_of_it version before [] fit = tt
entries_of_it version before (entry ∷ entries) fit = (entry_of_it version before entry fit.0, entries_of_it version (bound_after before entry) entries fit.1)

their_numbers_fit : (version : Version) (before : ℕ) (entries : List LogEntry) → before ≤ greatest Bits32 → AllByRecursion (IsEntryOf version) entries → EntriesFit version before entries
their_numbers_fit version before [] low are = tt
their_numbers_fit version before (entry ∷ entries) low are =
    let fits = its_numbers_fit version before entry low are.0 in
    (fits, their_numbers_fit version (bound_after before entry) entries (after_is_low version before entry low fits.1) are.1)

-- ---- the log of a thread

-- a log has no more entries than the fuel, and each is one of the version
abbrev pub LogFits : Version → ℕ → List LogEntry → Type 0
LogFits version fuel log = (length log ≤ fuel) × (length log ≤ greatest Bits32) × AllByRecursion (IsEntryOf version) log

-- the text is the bytes of a log that fits
abbrev IsLog : Version → ℕ → List LogEntry → List ℕ → Type 0
IsLog version fuel log text = LogFits version fuel log × (text ≡ log_bytes version log)

to_log : (version : Version) (fuel : ℕ) (log : List LogEntry) (text : List ℕ) → Joined (IsUpTo version Bits32 fuel) (IsEntries version 0) log text → IsLog version fuel log text
to_log version fuel log text j =
    let count = j.second.0 in (
      (omega (arith, j.first.1, count), omega (arith, j.first.0.0, count), entries_of_it version 0 log j.second.1),
      j.whole ∙ ap (λ t. t ++ j.two) j.first.0.1 ∙ ap (λ t. number_bytes version Bits32 j.value ++ t) j.second.2 ∙ ap (λ n. number_bytes version Bits32 n ++ entries_bytes version 0 log) (sym count),
    )

from_log : (version : Version) (fuel : ℕ) (log : List LogEntry) (text : List ℕ) → IsLog version fuel log text → Joined (IsUpTo version Bits32 fuel) (IsEntries version 0) log text
from_log version fuel log text is = record {
  value = length log;
  one = number_bytes version Bits32 (length log);
  two = entries_bytes version 0 log;
  first = ((is.0.1, refl), is.0.0);
  second = (refl, their_numbers_fit version 0 log (omega arith) is.0.2, refl);
  whole = is.1;
}

-- the reader of the entries after their number
abbrev counted_entries : Version → ℕ × List ℕ → Result (List LogEntry × List ℕ) Fault
counted_entries version count = entries_at version 0 count.0 count.1

log_reads : (version : Version) (fuel : ℕ) → Reads (log_at version fuel) (IsLog version fuel)
unfolding log_at
log_reads version fuel =
    reads_as (log_at version fuel) (Joined (IsUpTo version Bits32 fuel) (IsEntries version 0)) (IsLog version fuel) (to_log version fuel) (from_log version fuel)
    (reads_then (number_up_to version Bits32 fuel) (counted_entries version) (IsUpTo version Bits32 fuel) (IsEntries version 0) (up_to_reads version Bits32 fuel) (entries_read version 0))

log_begins : (version : Version) (fuel : ℕ) → Begins (log_at version fuel) (IsLog version fuel) (IsUnfinished version)
unfolding log_at
log_begins version fuel =
    begins_as (log_at version fuel) (Joined (IsUpTo version Bits32 fuel) (IsEntries version 0)) (IsLog version fuel) (to_log version fuel) (IsUnfinished version)
    (begins_then (number_up_to version Bits32 fuel) (counted_entries version) (IsUpTo version Bits32 fuel) (IsEntries version 0) (up_to_reads version Bits32 fuel) (IsUnfinished version) (up_to_begins version Bits32 fuel)
    (λ count text is. entries_begin version 0 count (omega arith)) (λ count text is. some_entries version 0 count))

-- ---- the logs of the threads

-- the text is the bytes of so many logs that fit
abbrev pub IsLogs : Version → ℕ → ℕ → List (List LogEntry) → List ℕ → Type 0
IsLogs version fuel n logs text = (length logs ≡ n) × AllByRecursion (LogFits version fuel) logs × (text ≡ flat_map (log_bytes version) logs)

-- what stands after the first log: the others
abbrev NextLogs : Version → ℕ → ℕ → List LogEntry → List (List LogEntry) → List ℕ → Type 0
NextLogs version fuel n first = Joined (IsLogs version fuel n) (λ others. IsDone (first ∷ others))

-- the reader of the others
abbrev next_logs : Version → ℕ → ℕ → List LogEntry × List ℕ → Result (List (List LogEntry) × List ℕ) Fault
next_logs version fuel n first = logs_at version fuel n first.1 >>= λ others. Ok (first.0 ∷ others.0, others.1)

to_logs : (version : Version) (fuel n : ℕ) (logs : List (List LogEntry)) (text : List ℕ) → Joined (IsLog version fuel) (NextLogs version fuel n) logs text → IsLogs version fuel (suc n) logs text
to_logs version fuel n logs text j =
    let next = j.second in
    let behind : j.two ≡ flat_map (log_bytes version) next.value = next.whole ∙ ap (λ t. next.one ++ t) next.second.1 ∙ append-nil next.one ∙ next.first.2 in
    let all : text ≡ flat_map (log_bytes version) (j.value ∷ next.value) = j.whole ∙ ap (λ t. t ++ j.two) j.first.1 ∙ ap (λ t. log_bytes version j.value ++ t) behind ∙ sym (flat_map-cons (log_bytes version) j.value next.value) in
    subst (λ ls. IsLogs version fuel (suc n) ls text) (sym next.second.0) (ap suc next.first.0, (j.first.0, next.first.1), all)

from_logs : (version : Version) (fuel n : ℕ) (logs : List (List LogEntry)) (text : List ℕ) → IsLogs version fuel (suc n) logs text → Joined (IsLog version fuel) (NextLogs version fuel n) logs text
from_logs version fuel n [] text is = absurd (omega (arith, is.0))
from_logs version fuel n (log ∷ logs) text is = record {
  value = log;
  one = log_bytes version log;
  two = flat_map (log_bytes version) logs;
  first = (is.1.0, refl);
  second = record { value = logs; one = flat_map (log_bytes version) logs; two = []; first = (omega (arith, is.0), is.1.1, refl); second = (refl, refl); whole = sym (append-nil (flat_map (log_bytes version) logs)) };
  whole = is.2 ∙ flat_map-cons (log_bytes version) log logs;
}

-- no logs
no_logs : (version : Version) (fuel : ℕ) (logs : List (List LogEntry)) (text : List ℕ) → IsLogs version fuel 0 logs text → IsDone [] logs text
no_logs version fuel [] text is = (refl, is.2)
no_logs version fuel (log ∷ logs) text is = absurd (omega (arith, is.0))

are_no_logs : (version : Version) (fuel : ℕ) (logs : List (List LogEntry)) (text : List ℕ) → IsDone [] logs text → IsLogs version fuel 0 logs text
are_no_logs version fuel logs text is = subst (λ ls. IsLogs version fuel 0 ls text) (sym is.0) (refl, tt, is.1)

pub logs_read : (version : Version) (fuel n : ℕ) → Reads (logs_at version fuel n) (IsLogs version fuel n)
unfolding logs_at
logs_read version fuel zero = reads_as (logs_at version fuel 0) (IsDone []) (IsLogs version fuel 0) (are_no_logs version fuel) (no_logs version fuel) (reads_done [])
logs_read version fuel (suc n) =
    reads_as (logs_at version fuel (suc n)) (Joined (IsLog version fuel) (NextLogs version fuel n)) (IsLogs version fuel (suc n)) (to_logs version fuel n) (from_logs version fuel n)
    (reads_then (log_at version fuel) (next_logs version fuel n) (IsLog version fuel) (NextLogs version fuel n) (log_reads version fuel)
    (λ first. reads_then (logs_at version fuel n) (λ others. Ok (first ∷ others.0, others.1)) (IsLogs version fuel n) (λ others. IsDone (first ∷ others)) (logs_read version fuel n) (λ others. reads_done (first ∷ others))))

-- so many empty logs
pub some_logs : (version : Version) (fuel n : ℕ) → IsSome (IsLogs version fuel n)
some_logs version fuel zero = record { value = []; text = []; is = (refl, tt, refl) }
some_logs version fuel (suc n) =
    let others = some_logs version fuel n in
    record {
      value = [] ∷ others.value;
      text = log_bytes version [] ++ others.text;
      is = (ap suc others.is.0, ((omega arith, omega arith, tt), others.is.1), ap (λ t. log_bytes version [] ++ t) others.is.2 ∙ sym (flat_map-cons (log_bytes version) [] others.value));
    }

pub logs_begin : (version : Version) (fuel n : ℕ) → Begins (logs_at version fuel n) (IsLogs version fuel n) (IsUnfinished version)
unfolding logs_at
logs_begin version fuel zero = begins_as (logs_at version fuel 0) (IsDone []) (IsLogs version fuel 0) (are_no_logs version fuel) (IsUnfinished version) (begins_done [] (IsUnfinished version))
logs_begin version fuel (suc n) =
    begins_as (logs_at version fuel (suc n)) (Joined (IsLog version fuel) (NextLogs version fuel n)) (IsLogs version fuel (suc n)) (to_logs version fuel n) (IsUnfinished version)
    (begins_then (log_at version fuel) (next_logs version fuel n) (IsLog version fuel) (NextLogs version fuel n) (log_reads version fuel) (IsUnfinished version) (log_begins version fuel)
    (λ first text is. begins_then (logs_at version fuel n) (λ others. Ok (first ∷ others.0, others.1)) (IsLogs version fuel n) (λ others. IsDone (first ∷ others))
    (logs_read version fuel n) (IsUnfinished version) (logs_begin version fuel n)
    (λ others text is. begins_done (first ∷ others) (IsUnfinished version)) (λ others text is. record { value = first ∷ others; text = []; is = (refl, refl) }))
    (λ first text is. (let others = some_logs version fuel n in
    record { value = first ∷ others.value; text = others.text; is = record { value = others.value; one = others.text; two = []; first = others.is; second = (refl, refl); whole = sym (append-nil others.text) } })))
