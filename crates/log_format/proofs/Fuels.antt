-- A bundle that was read has a bound on the instructions that is within its range.
use Rattle.std.proofs.Common.{◌≡◌, ℕ, ◌==◌, ◌≤◌, List, Ok, Err, ap, arith, length, nat_lt}
use Rattle.std.proofs.lemmas.Bool.{eqb-false, ltb-false}
use Rattle.stride_isa.specs.Limits.{fuel_limit, thread_limit}
use Rattle.log_format.specs.declared.version.Size.TheVariants.{Bits16, Bits32}
use Rattle.log_format.specs.declared.version.Version.{Version}
use Rattle.log_format.specs.Bundles.{Bundled}
use Rattle.log_format.specs.Laws.{FuelIsInRange}
use Rattle.log_format.specs.Reading.{body_at, bundle_at, fuel_at, logs_at, magic_at, number_at, number_up_to, placed, text_at}
use Rattle.log_format.proofs.Readers.{bind_ok, given, guard_ok, guard_passed, ok_is}

-- a number of instructions that is within its range
abbrev InRange : ℕ → Type 0
InRange n = (1 ≤ n) × (n ≤ fuel_limit)

-- a number that was read is within its limit
up_to : (version : Version) (bytes : List ℕ) (n : ℕ × List ℕ) → number_up_to version Bits32 fuel_limit bytes ≡ Ok n → n.0 ≤ fuel_limit
unfolding number_up_to
up_to version bytes n is =
    let read = bind_ok (number_at version Bits32 bytes) _ n is in
    let passed = guard_ok (nat_lt fuel_limit read.0.0) _ (given read.0) n read.2 in
    let same : read.0.0 ≡ n.0 = ap (λ (x : ℕ × List ℕ). x.0) (ok_is read.0 n passed.1) in
    let below = ltb-false fuel_limit read.0.0 passed.0 in
    omega (arith, same, below)

fuel_in_range : (version : Version) (bytes : List ℕ) (n : ℕ × List ℕ) → fuel_at version bytes ≡ Ok n → InRange n.0
unfolding fuel_at
fuel_in_range version bytes n is =
    let read = bind_ok (number_up_to version Bits32 fuel_limit bytes) _ n is in
    let passed = guard_ok (read.0.0 == 0) _ (given read.0) n read.2 in
    let same : read.0.0 ≡ n.0 = ap (λ (x : ℕ × List ℕ). x.0) (ok_is read.0 n passed.1) in
    let most = up_to version bytes read.0 read.1 in
    (omega (arith, same, eqb-false read.0.0 0 passed.0), omega (arith, same, most))

body_in_range : (version : Version) (bytes : List ℕ) (body : Bundled × List ℕ) → body_at version bytes ≡ Ok body → InRange body.0.fuel
unfolding body_at
body_in_range version bytes body is =
    let fuel = bind_ok (fuel_at version bytes) _ body is in
    let text = bind_ok (text_at version fuel.0.1) _ body fuel.2 in
    let threads = bind_ok (number_up_to version Bits16 thread_limit text.0.1) _ body text.2 in
    let logs = bind_ok (logs_at version fuel.0.0 threads.0.0 threads.0.1) _ body threads.2 in
    let same : fuel.0.0 ≡ body.0.fuel = ap (λ (x : Bundled × List ℕ). x.0.fuel) (ok_is _ body logs.2) in
    let range = fuel_in_range version bytes fuel.0 fuel.1 in
    (omega (arith, same, range.0), omega (arith, same, range.1))

bundle_in_range : (bytes : List ℕ) (bundle : Bundled) → bundle_at bytes ≡ Ok bundle → InRange bundle.fuel
unfolding bundle_at
bundle_in_range bytes bundle is =
    let version = bind_ok (magic_at bytes) _ bundle is in
    let body = bind_ok (body_at version.0.0 version.0.1) _ bundle version.2 in
    let passed = guard_passed (length body.0.1 == 0) _ (given body.0.0) bundle body.2 in
    let same : body.0.0.fuel ≡ bundle.fuel = ap (λ (b : Bundled). b.fuel) (ok_is body.0.0 bundle passed.1) in
    let range = body_in_range version.0.0 version.0.1 body.0 body.1 in
    (omega (arith, same, range.0), omega (arith, same, range.1))

pub fuel_is_in_range : FuelIsInRange
fuel_is_in_range bytes bundle is =
    let placed_ok = elim (bundle_at bytes) as (λ r. placed (length bytes) r ≡ Ok bundle → r ≡ given bundle) [
      | Ok other ↦ λ same. ap given (let e : other ≡ bundle = (cc) in e)
      | Err wrong ↦ λ same. absurd (cc)
    ] in
    bundle_in_range bytes bundle (placed_ok is)
