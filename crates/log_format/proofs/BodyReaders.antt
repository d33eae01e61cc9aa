-- The reader of what stands after the magic bytes.
use Rattle.std.proofs.Common.{◌≡◌, ℕ, ◌≤◌, List, [], ◌∷◌, ◌++◌, length, Result, Ok, refl, sym, ap, subst, ◌∙◌, arith}
use Rattle.std.specs.List.{AllByRecursion, flat_map}
use Rattle.std.proofs.lemmas.List.{append-nil}
use Rattle.stride_isa.specs.Limits.{fuel_limit, thread_limit}
use Rattle.interleavings.specs.declared.event.LogEntry.{LogEntry}
use Rattle.log_format.specs.declared.fault.Fault.{Fault}
use Rattle.log_format.specs.declared.version.Size.TheVariants.{Bits16, Bits32}
use Rattle.log_format.specs.declared.version.Version.{Version}
use Rattle.log_format.specs.Bundles.{Bundled, IsEntryOf, IsInRange}
use Rattle.log_format.specs.Laws.{IsUnfinished}
use Rattle.log_format.specs.Reading.{◌>>=◌, number_up_to, fuel_at, text_at, logs_at, body_at}
use Rattle.log_format.specs.Spelling.{number_bytes, log_bytes, text_bytes, logs_bytes, body_bytes}
use Rattle.log_format.proofs.NumberReaders.{IsFuel, IsText, IsUpTo, a_limited, fuel_begins, fuel_reads, text_begins, text_reads, up_to_begins, up_to_reads}
use Rattle.log_format.proofs.Readers.{Reads, Begins, IsSome, reads_as, begins_as, IsDone, reads_done, begins_done, Joined, reads_then, begins_then}
use Rattle.log_format.proofs.LogReaders.{IsLogs, LogFits, logs_begin, logs_read, some_logs}

-- ---- what stands after the magic bytes

-- the text is what stands after the magic bytes of a bundle that the version can hold
abbrev pub IsBody : Version → Bundled → List ℕ → Type 0
IsBody version bundle text = IsInRange version bundle × (text ≡ body_bytes version bundle)

-- what stands after the number of threads: their logs
abbrev AfterThreads : Version → ℕ → List ℕ → ℕ → Bundled → List ℕ → Type 0
AfterThreads version fuel text threads = Joined (IsLogs version fuel threads) (λ logs. IsDone (record { fuel = fuel; text = text; logs = logs }))

-- what stands after the text: the number of threads, and their logs
abbrev AfterText : Version → ℕ → List ℕ → Bundled → List ℕ → Type 0
AfterText version fuel text = Joined (IsUpTo version Bits16 thread_limit) (AfterThreads version fuel text)

-- what stands after the bound on the instructions: the text, and what follows it
abbrev AfterFuel : Version → ℕ → Bundled → List ℕ → Type 0
AfterFuel version fuel = Joined (IsText version) (AfterText version fuel)

-- the reader of what stands after the number of threads
abbrev after_threads : Version → ℕ → List ℕ → ℕ × List ℕ → Result (Bundled × List ℕ) Fault
after_threads version fuel text threads = logs_at version fuel threads.0 threads.1 >>= λ logs. Ok (record { fuel = fuel; text = text; logs = logs.0 }, logs.1)

-- the reader of what stands after the text
abbrev after_text : Version → ℕ → List ℕ × List ℕ → Result (Bundled × List ℕ) Fault
after_text version fuel text = number_up_to version Bits16 thread_limit text.1 >>= after_threads version fuel text.0

-- the reader of what stands after the bound on the instructions
abbrev after_fuel : Version → ℕ × List ℕ → Result (Bundled × List ℕ) Fault
after_fuel version fuel = text_at version fuel.1 >>= after_text version fuel.0

-- what holds of each log
each_count : (version : Version) (fuel : ℕ) (logs : List (List LogEntry)) → AllByRecursion (LogFits version fuel) logs → AllByRecursion (λ log. length log ≤ fuel) logs × AllByRecursion (AllByRecursion (IsEntryOf version)) logs
each_count version fuel [] fit = (tt, tt)
each_count version fuel (log ∷ logs) fit = (let others = each_count version fuel logs fit.1 in ((fit.0.0, others.0), (fit.0.2, others.1)))

each_log : (version : Version) (fuel : ℕ) (logs : List (List LogEntry)) → fuel ≤ fuel_limit → AllByRecursion (λ log. length log ≤ fuel) logs → AllByRecursion (AllByRecursion (IsEntryOf version)) logs → AllByRecursion (LogFits version fuel) logs
each_log version fuel [] small counts entries = tt
each_log version fuel (log ∷ logs) small counts entries = ((counts.0, omega (arith, counts.0), entries.0), each_log version fuel logs small counts.1 entries.1)

to_body : (version : Version) (bundle : Bundled) (text : List ℕ) → Joined (IsFuel version) (AfterFuel version) bundle text → IsBody version bundle text
to_body version bundle text j =
    let fuel = j.value in
    let t = j.second in
    let threads = t.second in
    let logs = threads.second in
    let made : Bundled = record { fuel = fuel; text = t.value; logs = logs.value } in
    let each = each_count version fuel logs.value logs.first.1 in
    let last : threads.two ≡ flat_map (log_bytes version) logs.value = logs.whole ∙ ap (λ x. logs.one ++ x) logs.second.1 ∙ append-nil logs.one ∙ logs.first.2 in
    let third : t.two ≡ logs_bytes version logs.value =
    threads.whole ∙ ap (λ x. x ++ threads.two) threads.first.0.1 ∙ ap (λ x. number_bytes version Bits16 threads.value ++ x) last ∙ ap (λ n. number_bytes version Bits16 n ++ flat_map (log_bytes version) logs.value) (sym logs.first.0) in
    let second : j.two ≡ text_bytes version t.value ++ logs_bytes version logs.value = t.whole ∙ ap (λ x. x ++ t.two) t.first.2 ∙ ap (λ x. text_bytes version t.value ++ x) third in
    let all : text ≡ body_bytes version made = j.whole ∙ ap (λ x. x ++ j.two) j.first.2 ∙ ap (λ x. number_bytes version Bits32 fuel ++ x) second in
    let within : IsInRange version made = record {
      within = record { some_fuel = j.first.0; fuel = j.first.1; text = omega (arith, t.first.0); threads = omega (arith, threads.first.1, logs.first.0); counts = each.0 };
      bytes = t.first.1;
      entries = each.1;
    } in
    subst (λ b. IsBody version b text) (sym logs.second.0) (within, all)

from_body : (version : Version) (bundle : Bundled) (text : List ℕ) → IsBody version bundle text → Joined (IsFuel version) (AfterFuel version) bundle text
from_body version bundle text is =
    let w = is.0.within in
    let logs = flat_map (log_bytes version) bundle.logs in
    record {
      value = bundle.fuel;
      one = number_bytes version Bits32 bundle.fuel;
      two = text_bytes version bundle.text ++ logs_bytes version bundle.logs;
      first = (w.some_fuel, w.fuel, refl);
      second = record {
        value = bundle.text;
        one = text_bytes version bundle.text;
        two = logs_bytes version bundle.logs;
        first = (omega (arith, w.text), is.0.bytes, refl);
        second = record {
          value = length bundle.logs;
          one = number_bytes version Bits16 (length bundle.logs);
          two = logs;
          first = ((omega (arith, w.threads), refl), w.threads);
          second = record { value = bundle.logs; one = logs; two = []; first = (refl, each_log version bundle.fuel bundle.logs w.fuel w.counts is.0.entries, refl); second = (refl, refl); whole = sym (append-nil logs) };
          whole = refl;
        };
        whole = refl;
      };
      whole = is.1;
    }

threads_read : (version : Version) (fuel : ℕ) (text : List ℕ) (threads : ℕ) → Reads (λ bytes. after_threads version fuel text (threads, bytes)) (AfterThreads version fuel text threads)
threads_read version fuel text threads =
    reads_then (logs_at version fuel threads) (λ logs. Ok (record { fuel = fuel; text = text; logs = logs.0 }, logs.1)) (IsLogs version fuel threads) (λ logs. IsDone (record { fuel = fuel; text = text; logs = logs })) (logs_read version fuel threads)
    (λ logs. reads_done (record { fuel = fuel; text = text; logs = logs }))

texts_read : (version : Version) (fuel : ℕ) (text : List ℕ) → Reads (λ bytes. after_text version fuel (text, bytes)) (AfterText version fuel text)
texts_read version fuel text = reads_then (number_up_to version Bits16 thread_limit) (after_threads version fuel text) (IsUpTo version Bits16 thread_limit) (AfterThreads version fuel text) (up_to_reads version Bits16 thread_limit) (threads_read version fuel text)

fuels_read : (version : Version) (fuel : ℕ) → Reads (λ bytes. after_fuel version (fuel, bytes)) (AfterFuel version fuel)
fuels_read version fuel = reads_then (text_at version) (after_text version fuel) (IsText version) (AfterText version fuel) (text_reads version) (texts_read version fuel)

pub body_reads : (version : Version) → Reads (body_at version) (IsBody version)
unfolding body_at
body_reads version =
    reads_as (body_at version) (Joined (IsFuel version) (AfterFuel version)) (IsBody version) (to_body version) (from_body version)
    (reads_then (fuel_at version) (after_fuel version) (IsFuel version) (AfterFuel version) (fuel_reads version) (fuels_read version))

-- ways to go on

after_threads_some : (version : Version) (fuel : ℕ) (text : List ℕ) (threads : ℕ) → IsSome (AfterThreads version fuel text threads)
after_threads_some version fuel text threads =
    let logs = some_logs version fuel threads in
    record {
      value = record { fuel = fuel; text = text; logs = logs.value };
      text = logs.text;
      is = record { value = logs.value; one = logs.text; two = []; first = logs.is; second = (refl, refl); whole = sym (append-nil logs.text) };
    }

after_text_some : (version : Version) (fuel : ℕ) (text : List ℕ) → IsSome (AfterText version fuel text)
after_text_some version fuel text =
    let threads = a_limited version Bits16 thread_limit in
    let next = after_threads_some version fuel text threads.value in
    record { value = next.value; text = threads.text ++ next.text; is = record { value = threads.value; one = threads.text; two = next.text; first = threads.is; second = next.is; whole = refl } }

after_fuel_some : (version : Version) (fuel : ℕ) → IsSome (AfterFuel version fuel)
after_fuel_some version fuel =
    let next = after_text_some version fuel [] in
    record {
      value = next.value;
      text = text_bytes version [] ++ next.text;
      is = record { value = []; one = text_bytes version []; two = next.text; first = (omega arith, λ i. omega arith, refl); second = next.is; whole = refl };
    }

pub a_body : (version : Version) → IsSome (IsBody version)
a_body version =
    let next = after_fuel_some version 1 in
    let text = number_bytes version Bits32 1 ++ next.text in
    record {
      value = next.value;
      text = text;
      is = to_body version next.value text (record { value = 1; one = number_bytes version Bits32 1; two = next.text; first = (omega arith, omega arith, refl); second = next.is; whole = refl });
    }

pub body_begins : (version : Version) → Begins (body_at version) (IsBody version) (IsUnfinished version)
unfolding body_at
body_begins version =
    begins_as (body_at version) (Joined (IsFuel version) (AfterFuel version)) (IsBody version) (to_body version) (IsUnfinished version)
    (begins_then (fuel_at version) (after_fuel version) (IsFuel version) (AfterFuel version) (fuel_reads version) (IsUnfinished version) (fuel_begins version)
    (λ fuel text is. begins_then (text_at version) (after_text version fuel) (IsText version) (AfterText version fuel) (text_reads version) (IsUnfinished version) (text_begins version)
    (λ text spelled is. begins_then (number_up_to version Bits16 thread_limit) (after_threads version fuel text) (IsUpTo version Bits16 thread_limit) (AfterThreads version fuel text) (up_to_reads version Bits16 thread_limit) (IsUnfinished version) (up_to_begins version Bits16 thread_limit)
    (λ threads spelled is. begins_then (logs_at version fuel threads) (λ logs. Ok (record { fuel = fuel; text = text; logs = logs.0 }, logs.1)) (IsLogs version fuel threads) (λ logs. IsDone (record { fuel = fuel; text = text; logs = logs })) (logs_read version fuel threads) (IsUnfinished version) (logs_begin version fuel threads)
    (λ logs spelled is. begins_done (record { fuel = fuel; text = text; logs = logs }) (IsUnfinished version))
    (λ logs spelled is. record { value = record { fuel = fuel; text = text; logs = logs }; text = []; is = (refl, refl) }))
    (λ threads spelled is. after_threads_some version fuel text threads))
    (λ text spelled is. after_text_some version fuel text))
    (λ fuel text is. after_fuel_some version fuel))
