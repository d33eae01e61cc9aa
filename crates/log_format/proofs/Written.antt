-- What was written so far, and that its numbers fit their types.
use Rattle.std.proofs.Common.{◌≡◌, ◌∙◌, ℕ, ◌+◌, ◌<◌, ◌≤◌, List, [], ◌∷◌, ◌++◌, All, ap, append_assoc, add-one, drop, get_or, length, sym, take}
use Rattle.std.specs.List.{AllByRecursion, flat_map}
use Rattle.std.proofs.Math.Seq.{drop-cons}
use Rattle.std.proofs.lemmas.Grind.{flat_map-append}
use Rattle.std.proofs.lemmas.List.{append-nil, drop_all, map-append, take_more}
use Rattle.std.proofs.lemmas.List.Elements.{recursion_from_All}
use Rattle.stride_base.specs.Listed.{Listed}
use Rattle.interleavings.specs.declared.event.LogEntry.{LogEntry}
use Rattle.log_format.specs.Bundles.{IsEntryOf, lists_of}
use Rattle.log_format.specs.Spelling.{bound_after, entries_bytes, entry_bytes}
use Rattle.log_format.specs.declared.version.Version.TheVariants.{Two}

-- ---- entries

-- the next entry
pub next_entry_written : (before : ℕ) (entries : List LogEntry) (i : ℕ) (d : LogEntry) (out out' all : List ℕ) → i < length entries → out ++ entries_bytes Two before (drop i entries) ≡ all → out' ≡ out ++ entry_bytes Two before (get_or entries i d)
    → out' ++ entries_bytes Two (bound_after before (get_or entries i d)) (drop (i + 1) entries) ≡ all
next_entry_written before entries i d out out' all inside so_far written =
    let entry = get_or entries i d in
    let next : drop i entries ≡ entry ∷ drop (i + 1) entries = drop-cons entries i d inside ∙ ap (λ k. entry ∷ drop k entries) (sym (add-one i)) in
    let rest = entries_bytes Two (bound_after before entry) (drop (i + 1) entries) in
    ap (λ o. o ++ rest) written ∙ append_assoc out (entry_bytes Two before entry) rest ∙ ap (λ es. out ++ entries_bytes Two before es) (sym next) ∙ so_far

-- all entries
pub entries_written : (before : ℕ) (entries : List LogEntry) (i : ℕ) (out all : List ℕ) → length entries ≤ i → out ++ entries_bytes Two before (drop i entries) ≡ all → out ≡ all
entries_written before entries i out all past so_far = sym (append-nil out) ∙ ap (λ es. out ++ entries_bytes Two before es) (sym (drop_all i entries past)) ∙ so_far

-- ---- logs

-- the next log
pub next_log_written : (f : List LogEntry → List ℕ) (logs : List (Listed LogEntry)) (i : ℕ) (log : Listed LogEntry) (start out out' : List ℕ) → i < length logs → log ≡ get_or logs i log → out ≡ start ++ flat_map f (lists_of (take i logs)) → out' ≡ out ++ f log.items → out' ≡ start ++ flat_map f (lists_of (take (i + 1) logs))
next_log_written f logs i log start out out' inside is so_far written =
    let before = lists_of (take i logs) in
    let more : lists_of (take (i + 1) logs) ≡ before ++ log.items ∷ [] =
    ap lists_of (take_more logs i log inside) ∙ map-append (λ (l : Listed LogEntry). l.items) (take i logs) (get_or logs i log ∷ []) ∙ ap (λ (l : Listed LogEntry). before ++ l.items ∷ []) (sym is) in
    written
    ∙ ap (λ o. o ++ f log.items) so_far
    ∙ append_assoc start (flat_map f before) (f log.items)
    ∙ ap (λ piece. start ++ (flat_map f before ++ piece)) (sym (append-nil (f log.items)))
    ∙ ap (λ all. start ++ all) (sym (flat_map-append f before (log.items ∷ [])))
    ∙ ap (λ all. start ++ flat_map f all) (sym more)

-- entries of which each is one of version 2
pub each_fits : (logs : List (Listed LogEntry)) → AllByRecursion (λ (log : Listed LogEntry). All (IsEntryOf Two) log.items) logs → AllByRecursion (AllByRecursion (IsEntryOf Two)) (lists_of logs)
each_fits [] fit = tt
each_fits (log ∷ logs) fit = (recursion_from_All (IsEntryOf Two) log.items fit.0, each_fits logs fit.1)
