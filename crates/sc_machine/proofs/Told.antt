-- Each thread's output is its lines of the transcript.
use borrow.Author.Tests.{eq-eqb, ne_eqb}
use Rattle.std.proofs.Common.{◌≡◌, ◌≢◌, ℕ, zero, suc, ⊎_elim, ◌==◌, ◌<◌, Bool, true, false, cond, List, [], ◌∷◌, ◌++◌, length, map, slice_index_or, slice_set, Option, Some, None, refl, sym, ◌∙◌, ap, subst, append-nil, arith}
use Rattle.std.proofs.lemmas.Bool.{cases_eq}
use Rattle.std.proofs.lemmas.Grind.{flat_map-append}
use Rattle.std.proofs.lemmas.List.{get_or-set_same, get_or-set_other, get_or-map, length-map}
use Rattle.std.proofs.lemmas.List.FromFn.{fill_by_all}
use Rattle.std.specs.Option.{option_map}
use Rattle.stride_isa.specs.Listing.{Listing}
use Rattle.sc_machine.specs.ThreadStep.{Thread, Row, Goes, Ends, Stands, start_thread, now}
use Rattle.sc_machine.specs.Machine.{Machine, Printed, start_machine, thread_at, can, printed_line, stepped_by, sc_step, sc_run}
use Rattle.sc_machine.specs.Schedule.{whole, run_of, finished, stopped, replayed, outputs, thread_numbers}
use Rattle.sc_machine.specs.Transcript.{bytes_of}
use Rattle.sc_machine.proofs.Single.{there_from_can, length-sc_step}

-- each thread's output is its lines of the transcript
abbrev IsTold : Machine → Type 0
IsTold m = (t : ℕ) → (thread_at m t).out ≡ bytes_of t m.transcript

bytes_of-own : (t : ℕ) (bytes : List ℕ) → bytes_of t (printed_line t bytes) ≡ bytes
bytes_of-own t [] = refl
bytes_of-own t (byte ∷ bytes) =
    ap (λ b. cond b (byte ∷ bytes) [] ++ []) (eq-eqb t t refl) ∙ append-nil (byte ∷ bytes)

bytes_of-other : (t u : ℕ) (bytes : List ℕ) → u ≢ t → bytes_of t (printed_line u bytes) ≡ []
bytes_of-other t u [] apart = refl
bytes_of-other t u (byte ∷ bytes) apart = ap (λ b. cond b (byte ∷ bytes) [] ++ []) (ne_eqb u t apart)

bytes_of-append : (t : ℕ) (xs ys : List Printed) → bytes_of t (xs ++ ys) ≡ bytes_of t xs ++ bytes_of t ys
bytes_of-append t xs ys = flat_map-append (λ (x : Printed). cond (x.thread == t) x.line []) xs ys

-- what one thread prints is told by its new line
told_after : (threads : List Thread) (lines : List Printed) (u : ℕ) (s : Thread) (bytes : List ℕ) → u < length threads → s.out ≡ (slice_index_or threads u start_thread).out ++ bytes → ((t : ℕ) → (slice_index_or threads t start_thread).out ≡ bytes_of t lines) → (t : ℕ) → (slice_index_or (slice_set threads u s) t start_thread).out ≡ bytes_of t (lines ++ printed_line u bytes)
told_after threads lines u s bytes there out told t = ⊎_elim own other (cases_eq t u)
  where
    own : t ≡ u → (slice_index_or (slice_set threads u s) t start_thread).out ≡ bytes_of t (lines ++ printed_line u bytes)
    own e = subst (λ (x : ℕ). (slice_index_or (slice_set threads u s) x start_thread).out ≡ bytes_of x (lines ++ printed_line u bytes)) (sym e) (
        ap (λ (x : Thread). x.out) (get_or-set_same threads u s start_thread there) ∙ out
        ∙ ap (λ xs. xs ++ bytes) (told u) ∙ sym (ap (λ xs. bytes_of u lines ++ xs) (bytes_of-own u bytes))
        ∙ sym (bytes_of-append u lines (printed_line u bytes)))

    other : (t ≡ u → ⊥) → (slice_index_or (slice_set threads u s) t start_thread).out ≡ bytes_of t (lines ++ printed_line u bytes)
    other apart =
        ap (λ (x : Thread). x.out) (get_or-set_other threads u t s start_thread apart) ∙ told t ∙ sym (append-nil (bytes_of t lines))
        ∙ sym (ap (λ xs. bytes_of t lines ++ xs) (bytes_of-other t u bytes (λ e. apart (sym e))))
        ∙ sym (bytes_of-append t lines (printed_line u bytes))

IsTold-stepped : (p : Listing) (fuel t : ℕ) (r : Row) (m : Machine) → t < length m.threads → IsTold m → IsTold (stepped_by p fuel t r m)
IsTold-stepped p fuel t (Goes pc stack locals printed) m there told = told_after m.threads m.transcript t _ printed there refl told
IsTold-stepped p fuel t (Ends end) m there told = told_after m.threads m.transcript t _ [] there (sym (append-nil (thread_at m t).out)) told
IsTold-stepped p fuel t (Stands stop) m there told = λ u.
    told_after m.threads m.transcript t _ [] there (sym (append-nil (thread_at m t).out)) told u
    ∙ ap (λ lines. bytes_of u lines) (append-nil m.transcript)

taken : (b : Bool) (o : Option Machine) (m : Machine) → cond b o None ≡ Some m → (b ≡ true) × (o ≡ Some m)
taken true o m e = (refl, e)
taken false o m e = cc

-- a run keeps the threads, and each one's output is told
told_run : (p : Listing) (fuel : ℕ) (xs : List ℕ) (m after : Machine) → IsTold m → sc_run p fuel xs m ≡ Some after → IsTold after × (length after.threads ≡ length m.threads)
unfolding sc_run sc_step
told_run p fuel [] m after told e =
    let same : m ≡ after = cc in
    (subst IsTold same told, sym (ap (λ (x : Machine). length x.threads) same))
told_run p fuel (t ∷ xs) m after told e =
    let went = taken (can p t m) (sc_run p fuel xs (sc_step p fuel t m)) after e in
    let rest = told_run p fuel xs (sc_step p fuel t m) after (IsTold-stepped p fuel t (now p t (thread_at m t)) m (there_from_can p t m went.0) told) went.1 in
    (rest.0, rest.1 ∙ length-sc_step p fuel t m)

IsTold-start : (p : Listing) → IsTold (start_machine p)
IsTold-start p t = ap (λ (x : Thread). x.out) (all_start p.threads t)
  where
    all_start : {X : Type 0} (xs : List X) (i : ℕ) → slice_index_or (map (λ (x : X). start_thread) xs) i start_thread ≡ start_thread
    all_start [] i = refl
    all_start (x ∷ xs) zero = refl
    all_start (x ∷ xs) (suc i) = all_start xs i

mapped : (f : Machine → Machine) (o : Option Machine) (m : Machine) → option_map f o ≡ Some m → (before : Machine) × (o ≡ Some before) × (f before ≡ m)
mapped f None m e = cc
mapped f (Some before) m e = (before, refl, cc)

outputs-finished : (threads : List Thread) → map (λ (s : Thread). s.out) (map stopped threads) ≡ map (λ (s : Thread). s.out) threads
outputs-finished [] = refl
outputs-finished (s ∷ threads) = ap (λ xs. s.out ∷ xs) (outputs-finished threads)

-- the output of each thread of a run is its lines of the transcript
pub outputs-told : (p : Listing) (fuel : ℕ) (schedule : List ℕ) (m : Machine) → replayed p fuel schedule ≡ Some m → outputs m ≡ map (λ t. bytes_of t m.transcript) (thread_numbers p)
unfolding run_of
outputs-told p fuel schedule m e =
    let run = mapped finished (run_of p fuel schedule) m e in
    let before = run.0 in
    let told = told_run p fuel (whole p fuel schedule) (start_machine p) before (IsTold-start p) run.1 in
    let outs = map (λ (s : Thread). s.out) before.threads in
    let long : length outs ≡ length p.threads = length-map before.threads (λ (s : Thread). s.out) ∙ told.1 ∙ length-map p.threads (λ code. start_thread) in
    ap outputs (sym run.2) ∙ outputs-finished before.threads
    ∙ fill_by_all (λ t. bytes_of t before.transcript) outs (length p.threads) [] long (λ k within.
    get_or-map (λ (s : Thread). s.out) before.threads k start_thread [] (omega (arith, told.1, length-map p.threads (λ code. start_thread))) ∙ told.0 k)
    ∙ ap (λ (x : Machine). map (λ t. bytes_of t x.transcript) (thread_numbers p)) run.2
