-- Whole turns and their single steps.
use borrow.Author.Tests.{lt-ltb, ltb-true}
use Rattle.std.proofs.Common.{◌≡◌, ℕ, zero, suc, ◌+◌, ◌-◌, ◌<◌, ◌≤◌, Bool, true, false, cond, ◌&&◌, nat_lt, List, [], ◌∷◌, ◌++◌, length, replicate, slice_set, Option, Some, None, refl, sym, ◌∙◌, ap, append_assoc, append-nil, length-set, arith}
use Rattle.std.proofs.lemmas.List.{get_or-set_same, set-set, set-get_or, length-map}
use Rattle.std.specs.List.{range_with_len}
use Rattle.std.specs.Option.{option_and_then}
use Rattle.stride_isa.specs.Listing.{Listing}
use Rattle.sc_machine.specs.ThreadStep.{Thread, Row, Goes, Ends, Stands, start_thread, printed_by, now, moved, local_step, local_steps, settled}
use Rattle.sc_machine.specs.Machine.{Machine, Printed, start_machine, thread_at, may_make, can, printed_line, with_thread, stepped_by, moved_by, sc_step, sc_run}
use Rattle.sc_machine.specs.Schedule.{printed_in, settled_lines, settle, turn, turns, started, ready, locals_of, expand_starts, expand, whole, run_of}

-- no local instruction takes back what was counted
moved-made-le : (fuel : ℕ) (r : Row) (s : Thread) → s.made ≤ (moved fuel r s).made
moved-made-le fuel (Goes pc stack locals printed) s = omega arith
moved-made-le fuel (Ends end) s = omega arith
moved-made-le fuel (Stands stop) s = omega arith

pub local_steps-made-le : (p : Listing) (fuel t n : ℕ) (s : Thread) → s.made ≤ (local_steps p fuel t n s).made
unfolding local_steps
local_steps-made-le p fuel t zero s = omega arith
local_steps-made-le p fuel t (suc n) s =
    omega (arith, moved-made-le fuel (now p t s) s, local_steps-made-le p fuel t n (local_step p fuel t s))

pub append_under : (b : Bool) (f : Machine → Option Machine) (x y : Option Machine) → x ≡ option_and_then f y → cond b x None ≡ option_and_then f (cond b y None)
append_under true f x y e = e
append_under false f x y e = refl

-- two runs in a row
pub sc_run-append : (p : Listing) (fuel : ℕ) (xs ys : List ℕ) (m : Machine) → sc_run p fuel (xs ++ ys) m ≡ option_and_then (sc_run p fuel ys) (sc_run p fuel xs m)
unfolding sc_run
sc_run-append p fuel [] ys m = refl
sc_run-append p fuel (t ∷ xs) ys m = append_under (can p t m) (sc_run p fuel ys) (sc_run p fuel (xs ++ ys) (sc_step p fuel t m)) (sc_run p fuel xs (sc_step p fuel t m)) (sc_run-append p fuel xs ys (sc_step p fuel t m))

with_thread-with_thread : (t : ℕ) (s s' : Thread) (xs ys : List Printed) (m : Machine) → with_thread t s' ys (with_thread t s xs m) ≡ with_thread t s' (xs ++ ys) m
with_thread-with_thread t s s' xs ys m =
    let made : List Thread → List Printed → Machine = λ threads lines. record { threads = threads; cells = m.cells; holders = m.holders; transcript = lines } in
    ap (λ threads. made threads ((m.transcript ++ xs) ++ ys)) (set-set m.threads t s s') ∙ ap (λ lines. made (slice_set m.threads t s') lines) (append_assoc m.transcript xs ys)

with_thread-same : (t : ℕ) (m : Machine) → with_thread t (thread_at m t) [] m ≡ m
with_thread-same t m =
    let made : List Thread → List Printed → Machine = λ threads lines. record { threads = threads; cells = m.cells; holders = m.holders; transcript = lines } in
    ap (λ threads. made threads (m.transcript ++ [])) (set-get_or m.threads t start_thread) ∙ ap (λ lines. made m.threads lines) (append-nil m.transcript)

-- a run of up to n local instructions of a thread, from its state s
abbrev RunsLocals : Listing → ℕ → ℕ → ℕ → Type 0
RunsLocals p fuel t n = (s : Thread) (m : Machine) → t < length m.threads → thread_at m t ≡ s → sc_run p fuel (replicate ((local_steps p fuel t n s).made - s.made) t) m ≡ Some (with_thread t (local_steps p fuel t n s) (printed_in p fuel t n s) m)

-- the same where the next instruction is known
abbrev RunsNext : Listing → ℕ → ℕ → ℕ → Row → Thread → Machine → Type 0
RunsNext p fuel t n r s m = sc_run p fuel (replicate ((local_steps p fuel t n (moved fuel r s)).made - s.made) t) m ≡ Some (with_thread t (local_steps p fuel t n (moved fuel r s)) (printed_line t (printed_by r) ++ printed_in p fuel t n (moved fuel r s)) m)

-- where the next instruction is local, it is the first step
first_local : (p : Listing) (fuel t n : ℕ) (r : Row) (s : Thread) (m : Machine) → RunsLocals p fuel t n → now p t s ≡ r → t < length m.threads → thread_at m t ≡ s → (moved fuel r s).made ≡ s.made + 1 → stepped_by p fuel t r m ≡ moved_by fuel t r m → may_make t r m.holders ≡ true → RunsNext p fuel t n r s m
unfolding sc_run sc_step
first_local p fuel t n r s m rest e there is counted stepped may =
    let s' = moved fuel r s in
    let lines = printed_line t (printed_by r) in
    let m' = with_thread t s' lines m in
    let k = (local_steps p fuel t n s').made - s'.made in
    let count : (local_steps p fuel t n s').made - s.made ≡ suc k = omega (arith, local_steps-made-le p fuel t n s') in
    let enabled : can p t m ≡ true =
    ap (λ b. b && may_make t (now p t (thread_at m t)) m.holders) (lt-ltb t (length m.threads) there)
    ∙ ap (λ x. may_make t (now p t x) m.holders) is ∙ ap (λ x. may_make t x m.holders) e ∙ may in
    let step : sc_step p fuel t m ≡ m' =
    ap (λ x. stepped_by p fuel t (now p t x) m) is ∙ ap (λ x. stepped_by p fuel t x m) e ∙ stepped
    ∙ ap (λ x. with_thread t (moved fuel r x) lines m) is in
    let there' : t < length m'.threads = omega (arith, length-set m.threads t s') in
    ap (λ c. sc_run p fuel (replicate c t) m) count
    ∙ ap (λ b. cond b (sc_run p fuel (replicate k t) (sc_step p fuel t m)) None) enabled
    ∙ ap (λ x. sc_run p fuel (replicate k t) x) step
    ∙ rest s' m' there' (get_or-set_same m.threads t s' start_thread there)
    ∙ ap Some (with_thread-with_thread t s' (local_steps p fuel t n s') lines (printed_in p fuel t n s') m)

next_local : (p : Listing) (fuel t n : ℕ) (r : Row) (s : Thread) (m : Machine) → RunsLocals p fuel t n → now p t s ≡ r → t < length m.threads → thread_at m t ≡ s → RunsNext p fuel t n r s m
next_local p fuel t n (Goes pc stack locals printed) s m rest e there is = first_local p fuel t n (Goes pc stack locals printed) s m rest e there is refl refl refl
next_local p fuel t n (Ends end) s m rest e there is = first_local p fuel t n (Ends end) s m rest e there is refl refl refl
next_local p fuel t n (Stands stop) s m rest e there is = rest s m there is

runs_locals : (p : Listing) (fuel t n : ℕ) → RunsLocals p fuel t n
unfolding sc_run local_steps printed_in
runs_locals p fuel t zero s m there is =
    let none : s.made - s.made ≡ 0 = omega arith in
    ap (λ c. sc_run p fuel (replicate c t) m) none ∙ ap Some (sym (ap (λ x. with_thread t x [] m) (sym is) ∙ with_thread-same t m))
runs_locals p fuel t (suc n) s m there is = next_local p fuel t n (now p t s) s m (runs_locals p fuel t n) refl there is

-- the single local steps of a thread settle it
pub sc_run-locals : (p : Listing) (fuel t : ℕ) (m : Machine) → t < length m.threads → sc_run p fuel (replicate (locals_of p fuel t m) t) m ≡ Some (settle p fuel t m)
unfolding settled settled_lines settle locals_of
sc_run-locals p fuel t m there =
    runs_locals p fuel t (fuel - (thread_at m t).made) (thread_at m t) m there refl

pub length-settle : (p : Listing) (fuel t : ℕ) (m : Machine) → length (settle p fuel t m).threads ≡ length m.threads
unfolding settle
length-settle p fuel t m = length-set m.threads t (settled p fuel t (thread_at m t))

length-stepped : (p : Listing) (fuel t : ℕ) (r : Row) (m : Machine) → length (stepped_by p fuel t r m).threads ≡ length m.threads
length-stepped p fuel t (Goes pc stack locals printed) m = length-set m.threads t _
length-stepped p fuel t (Ends end) m = length-set m.threads t _
length-stepped p fuel t (Stands stop) m = length-set m.threads t _

pub length-sc_step : (p : Listing) (fuel t : ℕ) (m : Machine) → length (sc_step p fuel t m).threads ≡ length m.threads
unfolding sc_step
length-sc_step p fuel t m = length-stepped p fuel t (now p t (thread_at m t)) m

-- an enabled thread is there
pub there_from_can : (p : Listing) (t : ℕ) (m : Machine) → can p t m ≡ true → t < length m.threads
there_from_can p t m e = ltb-true t (length m.threads) (first_of_both (nat_lt t (length m.threads)) (may_make t (now p t (thread_at m t)) m.holders) e)
  where
    first_of_both : (a b : Bool) → (a && b) ≡ true → a ≡ true
    first_of_both true b e = refl
    first_of_both false b e = e

cond_under : {X : Type 0} (b : Bool) (x y z : X) → (b ≡ true → x ≡ y) → cond b x z ≡ cond b y z
cond_under true x y z f = f refl
cond_under false x y z f = refl

-- the single steps of turns are those turns
pub sc_run-expand : (p : Listing) (fuel : ℕ) (ts : List ℕ) (m : Machine) → sc_run p fuel (expand p fuel ts m) m ≡ turns p fuel ts m
unfolding sc_run expand turns turn
sc_run-expand p fuel [] m = refl
sc_run-expand p fuel (t ∷ ts) m = cond_under (can p t m) _ _ None (λ e.
    let m' = sc_step p fuel t m in
    let steps = replicate (locals_of p fuel t m') t in
    sc_run-append p fuel steps (expand p fuel ts (settle p fuel t m')) m'
    ∙ ap (λ x. option_and_then (sc_run p fuel (expand p fuel ts (settle p fuel t m'))) x) (sc_run-locals p fuel t m' (omega (arith, there_from_can p t m e, length-sc_step p fuel t m)))
    ∙ sc_run-expand p fuel ts (settle p fuel t m'))

-- the single steps of local starts, and then others
sc_run-expand_starts : (p : Listing) (fuel i k : ℕ) (ys : List ℕ) (m : Machine) → i + k ≤ length m.threads → sc_run p fuel (expand_starts p fuel (range_with_len i k) m ++ ys) m ≡ sc_run p fuel ys (started p fuel (range_with_len i k) m)
unfolding expand_starts started
sc_run-expand_starts p fuel i zero ys m within = refl
sc_run-expand_starts p fuel i (suc k) ys m within =
    let m' = settle p fuel i m in
    let steps = replicate (locals_of p fuel i m) i in
    let rest = expand_starts p fuel (range_with_len (i + 1) k) m' in
    ap (λ xs. sc_run p fuel xs m) (append_assoc steps rest ys)
    ∙ sc_run-append p fuel steps (rest ++ ys) m
    ∙ ap (λ x. option_and_then (sc_run p fuel (rest ++ ys)) x) (sc_run-locals p fuel i m (omega arith))
    ∙ sc_run-expand_starts p fuel (i + 1) k ys m' (omega (arith, length-settle p fuel i m))

-- a run of a schedule is its whole turns after the local starts
pub run_of-turns : (p : Listing) (fuel : ℕ) (schedule : List ℕ) → run_of p fuel schedule ≡ turns p fuel schedule (ready p fuel)
unfolding run_of whole ready
run_of-turns p fuel schedule =
    sc_run-expand_starts p fuel 0 (length p.threads) (expand p fuel schedule (ready p fuel)) (start_machine p) (omega (arith, length-map p.threads (λ code. start_thread)))
    ∙ sc_run-expand p fuel schedule (ready p fuel)
