-- The machine after the local starts.
use Rattle.std.proofs.Common.{◌≡◌, ℕ, zero, suc, ◌+◌, List, [], ◌∷◌, ◌++◌, length, replicate, map, Option, None, refl, sym, ◌∙◌, ap, append_assoc, append-nil}
use Rattle.std.proofs.lemmas.List.{get_or_at, set_at, length_push}
use Rattle.std.specs.List.{flat_map, range_with_len}
use Rattle.stride_isa.specs.Listing.{Listing, start_of}
use Rattle.sc_machine.specs.ThreadStep.{Thread, start_thread, settled}
use Rattle.sc_machine.specs.Machine.{Machine, Printed, with_thread}
use Rattle.sc_machine.specs.Schedule.{settled_lines, settle, started, thread_numbers, ready}

abbrev machine_of : List Thread → List Printed → (ℕ → ℕ) → (ℕ → Option ℕ) → Machine
machine_of threads lines cells holders = record { threads = threads; cells = cells; holders = holders; transcript = lines }

abbrev settled_from : Listing → ℕ → ℕ → ℕ → List Thread
settled_from p fuel i k = map (λ t. settled p fuel t start_thread) (range_with_len i k)

abbrev lines_from : Listing → ℕ → ℕ → ℕ → List Printed
lines_from p fuel i k = flat_map (λ t. settled_lines p fuel t start_thread) (range_with_len i k)

settle-next : (p : Listing) (fuel i k : ℕ) (done : List Thread) (lines : List Printed) (cells : ℕ → ℕ) (holders : ℕ → Option ℕ) → length done ≡ i → settle p fuel i (machine_of (done ++ start_thread ∷ replicate k start_thread) lines cells holders) ≡ machine_of ((done ++ settled p fuel i start_thread ∷ []) ++ replicate k start_thread) (lines ++ settled_lines p fuel i start_thread) cells holders
unfolding settle
settle-next p fuel i k done lines cells holders e =
    let rest = replicate k start_thread in
    let s = settled p fuel i start_thread in
    let m = machine_of (done ++ start_thread ∷ rest) lines cells holders in
    ap (λ x. with_thread i (settled p fuel i x) (settled_lines p fuel i x) m) (get_or_at done start_thread rest start_thread i e)
    ∙ ap (λ threads. machine_of threads (lines ++ settled_lines p fuel i start_thread) cells holders) (set_at done start_thread rest s i e ∙ sym (append_assoc done (s ∷ []) rest))

started-from : (p : Listing) (fuel i k : ℕ) (done : List Thread) (lines : List Printed) (cells : ℕ → ℕ) (holders : ℕ → Option ℕ) → length done ≡ i → started p fuel (range_with_len i k) (machine_of (done ++ replicate k start_thread) lines cells holders) ≡ machine_of (done ++ settled_from p fuel i k) (lines ++ lines_from p fuel i k) cells holders
unfolding started
started-from p fuel i zero done lines cells holders e = ap (λ xs. machine_of (done ++ []) xs cells holders) (sym (append-nil lines))
started-from p fuel i (suc k) done lines cells holders e =
    let s = settled p fuel i start_thread in
    let own = settled_lines p fuel i start_thread in
    ap (λ m. started p fuel (range_with_len (i + 1) k) m) (settle-next p fuel i k done lines cells holders e)
    ∙ started-from p fuel (i + 1) k (done ++ s ∷ []) (lines ++ own) cells holders (length_push done s ∙ ap (λ n. n + 1) e)
    ∙ ap (λ threads. machine_of threads ((lines ++ own) ++ lines_from p fuel (i + 1) k) cells holders) (append_assoc done (s ∷ []) (settled_from p fuel (i + 1) k))
    ∙ ap (λ xs. machine_of (done ++ s ∷ settled_from p fuel (i + 1) k) xs cells holders) (append_assoc lines own (lines_from p fuel (i + 1) k))

map-start : {X : Type 0} (xs : List X) → map (λ (x : X). start_thread) xs ≡ replicate (length xs) start_thread
map-start [] = refl
map-start (x ∷ xs) = ap (λ threads. start_thread ∷ threads) (map-start xs)

-- after the local starts each thread has settled by itself, and its lines stand in order of number
pub ready-settled : (p : Listing) (fuel : ℕ) → ready p fuel ≡ record { threads = map (λ t. settled p fuel t start_thread) (thread_numbers p); cells = start_of p; holders = λ monitor. None; transcript = flat_map (λ t. settled_lines p fuel t start_thread) (thread_numbers p) }
unfolding ready
ready-settled p fuel =
    ap (λ threads. started p fuel (thread_numbers p) (machine_of threads [] (start_of p) (λ monitor. None))) (map-start p.threads)
    ∙ started-from p fuel 0 (length p.threads) [] [] (start_of p) (λ monitor. None) refl
