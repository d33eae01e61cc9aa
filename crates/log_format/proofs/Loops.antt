-- Reading items one after the other, as a loop does.
use Rattle.std.proofs.Common.{◌≡◌, ℕ, suc, ◌-◌, ◌+◌, ◌≤◌, ◌<◌, List, [], ◌∷◌, ◌++◌, length, drop, slice_index, Result, Ok, Err, refl, sym, ap, ◌∙◌, append_assoc, add-one, arith}
use Rattle.std.proofs.Math.Seq.{drop-cons}
use Rattle.std.proofs.lemmas.List.{append-nil, drop_all}
use Rattle.interleavings.specs.declared.event.LogEntry.{LogEntry}
use Rattle.log_format.specs.declared.fault.Fault.{Fault}
use Rattle.log_format.specs.declared.fault.ReadError.{ReadError}
use Rattle.log_format.specs.declared.fault.ReadError.TheVariants as inside
use Rattle.log_format.specs.declared.version.Version.{Version}
use Rattle.log_format.specs.Answers.{Fails}
use Rattle.log_format.specs.Reading.{◌>>=◌, letter_at, letters_at, entry_at, entries_at, log_at, logs_at}
use Rattle.log_format.specs.Spelling.{bound_after}

-- ---- the magic bytes

pub letters-go_on : (wanted : List ℕ) (i : ℕ) (bytes after : List ℕ) (total : Result (Unit {0} × List ℕ) Fault) → i < length wanted → letter_at (slice_index wanted i) bytes ≡ Ok (tt, after)
    → letters_at (drop i wanted) bytes ≡ total → letters_at (drop (i + 1) wanted) after ≡ total
unfolding letters_at
letters-go_on wanted i bytes after total lt h so_far =
    let one : letters_at (drop i wanted) bytes ≡ letters_at (drop (i + 1) wanted) after = rw (add-one, drop-cons wanted i 0, h) refl in
    sym one ∙ so_far

pub letters-end : (e : ReadError) (wanted : List ℕ) (i : ℕ) (bytes : List ℕ) (total : Result (Unit {0} × List ℕ) Fault) → i < length wanted → Fails e (letter_at (slice_index wanted i) bytes)
    → letters_at (drop i wanted) bytes ≡ total → Fails e total
unfolding letters_at
letters-end inside.NoMemory wanted i bytes total lt h so_far = tt
letters-end (inside.Fault wrong) wanted i bytes total lt h so_far =
    let one : letters_at (drop i wanted) bytes ≡ Err wrong = rw (drop-cons wanted i 0, h) refl in
    sym so_far ∙ one

pub letters-done : (wanted : List ℕ) (i : ℕ) (bytes : List ℕ) (total : Result (Unit {0} × List ℕ) Fault) → length wanted ≤ i → letters_at (drop i wanted) bytes ≡ total → total ≡ Ok (tt, bytes)
unfolding letters_at
letters-done wanted i bytes total le so_far =
    let one : letters_at (drop i wanted) bytes ≡ Ok (tt, bytes) = rw (drop_all i wanted le) refl in
    sym so_far ∙ one

-- ---- items

-- what was read before, and what is still read
abbrev pub with_front : {X : Type 0} → List X → Result (List X × List ℕ) Fault → Result (List X × List ℕ) Fault
with_front front read = read >>= λ x. Ok (front ++ x.0, x.1)

regroup : {X : Type 0} (front : List X) (item : X) (read : Result (List X × List ℕ) Fault) → with_front front (read >>= λ x. Ok (item ∷ x.0, x.1)) ≡ with_front (front ++ item ∷ []) read
regroup {X = X} front item (Ok x) = ap (λ (items : List X). Ok (items, x.1)) (simp append_assoc)
regroup front item (Err wrong) = refl

-- ---- the entries of a log

module _ (version : Version) (before : ℕ) (front : List LogEntry) (count i : ℕ) (bytes : List ℕ) (total : Result (List LogEntry × List ℕ) Fault) where
  pub entries-go_on : (entry : LogEntry) (after : List ℕ) → i < count → entry_at version before bytes ≡ Ok (entry, after)
      → with_front front (entries_at version before (count - i) bytes) ≡ total → with_front (front ++ entry ∷ []) (entries_at version (bound_after before entry) (count - (i + 1)) after) ≡ total
  unfolding entries_at
  entries-go_on entry after lt h so_far =
      let k : count - i ≡ suc (count - (i + 1)) = omega arith in
      let one : with_front front (entries_at version before (count - i) bytes) ≡ with_front (front ++ entry ∷ []) (entries_at version (bound_after before entry) (count - (i + 1)) after) =
      rw (k, h) (regroup front entry (entries_at version (bound_after before entry) (count - (i + 1)) after)) in
      sym one ∙ so_far

  pub entries-end : (e : ReadError) → i < count → Fails e (entry_at version before bytes) → with_front front (entries_at version before (count - i) bytes) ≡ total → Fails e total
  unfolding entries_at
  entries-end inside.NoMemory lt h so_far = tt
  entries-end (inside.Fault wrong) lt h so_far =
      let k : count - i ≡ suc (count - (i + 1)) = omega arith in
      let one : with_front front (entries_at version before (count - i) bytes) ≡ Err wrong = rw (k, h) refl in
      sym so_far ∙ one

  pub entries-done : count ≤ i → with_front front (entries_at version before (count - i) bytes) ≡ total → total ≡ Ok (front, bytes)
  unfolding entries_at
  entries-done le so_far =
      let k : count - i ≡ 0 = omega arith in
      let one : with_front front (entries_at version before (count - i) bytes) ≡ Ok (front, bytes) = rw k (ap (λ (items : List LogEntry). Ok (items, bytes)) (append-nil front)) in
      sym so_far ∙ one

-- ---- the logs of the threads

module _ (version : Version) (fuel : ℕ) (front : List (List LogEntry)) (count i : ℕ) (bytes : List ℕ) (total : Result (List (List LogEntry) × List ℕ) Fault) where
  pub logs-go_on : (log : List LogEntry) (after : List ℕ) → i < count → log_at version fuel bytes ≡ Ok (log, after)
      → with_front front (logs_at version fuel (count - i) bytes) ≡ total → with_front (front ++ log ∷ []) (logs_at version fuel (count - (i + 1)) after) ≡ total
  unfolding logs_at
  logs-go_on log after lt h so_far =
      let k : count - i ≡ suc (count - (i + 1)) = omega arith in
      let one : with_front front (logs_at version fuel (count - i) bytes) ≡ with_front (front ++ log ∷ []) (logs_at version fuel (count - (i + 1)) after) = rw (k, h) (regroup front log (logs_at version fuel (count - (i + 1)) after)) in
      sym one ∙ so_far

  pub logs-end : (e : ReadError) → i < count → Fails e (log_at version fuel bytes) → with_front front (logs_at version fuel (count - i) bytes) ≡ total → Fails e total
  unfolding logs_at
  logs-end inside.NoMemory lt h so_far = tt
  logs-end (inside.Fault wrong) lt h so_far =
      let k : count - i ≡ suc (count - (i + 1)) = omega arith in
      let one : with_front front (logs_at version fuel (count - i) bytes) ≡ Err wrong = rw (k, h) refl in
      sym so_far ∙ one

  pub logs-done : count ≤ i → with_front front (logs_at version fuel (count - i) bytes) ≡ total → total ≡ Ok (front, bytes)
  unfolding logs_at
  logs-done le so_far =
      let k : count - i ≡ 0 = omega arith in
      let one : with_front front (logs_at version fuel (count - i) bytes) ≡ Ok (front, bytes) = rw k (ap (λ (items : List (List LogEntry)). Ok (items, bytes)) (append-nil front)) in
      sym so_far ∙ one
