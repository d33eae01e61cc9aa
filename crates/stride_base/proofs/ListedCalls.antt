-- How the number of listed calls grows with the calls.
use Rattle.std.proofs.Common.{◌≡◌, ℕ, zero, suc, ◌+◌, ◌-◌, ◌^◌, ◌<◌, ◌≤◌, List, Bool, true, false, cond, refl, arith, inl, inr}
use Rattle.std.proofs.lemmas.Bool.{cases_lt, le-ltb, and_left, and_parts, ltb-true}
use Rattle.stride_base.specs.Devices.{raised}
use Rattle.stride_base.specs.MemoryDevices.{is_listed, listed_calls}

-- no call was made, so none is listed
pub listed_calls-zero : (failing : List ℕ) → listed_calls failing 0 ≡ 0
unfolding listed_calls
listed_calls-zero failing = refl

listed_calls-suc : (failing : List ℕ) (calls : ℕ) → listed_calls failing (suc calls) ≡ listed_calls failing calls + cond (is_listed failing (suc calls)) 1 0
unfolding listed_calls
listed_calls-suc failing calls = refl

cond_le_one : (b : Bool) → cond b 1 0 ≤ 1
cond_le_one true = omega arith
cond_le_one false = omega arith

-- no more calls are listed than were made
pub listed_calls-le : (failing : List ℕ) (calls : ℕ) → listed_calls failing calls ≤ calls
listed_calls-le failing zero = omega (arith, listed_calls-zero failing)
listed_calls-le failing (suc calls) =
    omega (arith, listed_calls-suc failing calls, listed_calls-le failing calls, cond_le_one (is_listed failing (suc calls)))

-- calls past the numbers of a `u32` are not listed
pub is_listed-large : (failing : List ℕ) (call : ℕ) → 2 ^ 32 ≤ call → is_listed failing call ≡ false
is_listed-large failing call large = and_left _ _ (le-ltb call (2 ^ 32) large)

pub is_listed-small : (failing : List ℕ) (call : ℕ) → is_listed failing call ≡ true → call < 2 ^ 32
is_listed-small failing call listed = ltb-true call (2 ^ 32) (and_parts _ _ listed).0

-- the next call counts where it is listed
listed_calls-raised : (failing : List ℕ) (calls : ℕ) → calls < 2 ^ 64 → listed_calls failing (raised calls) ≡ listed_calls failing calls + cond (is_listed failing (raised calls)) 1 0
listed_calls-raised failing calls small =
    elim (cases_lt calls (2 ^ 64 - 1)) [
      | inl below ↦ (let next : raised calls ≡ suc calls = omega arith in rw next (listed_calls-suc failing calls))
      | inr last ↦ (
          let same : raised calls ≡ calls = omega arith in
          let large : 2 ^ 32 ≤ calls = omega arith in
          rw same (rw (is_listed-large failing calls large) (omega arith)))
    ]

-- a call that is listed raises the number
pub listed_calls-listed : (failing : List ℕ) (calls : ℕ) → calls < 2 ^ 64 → is_listed failing (raised calls) ≡ true → listed_calls failing (raised calls) ≡ raised (listed_calls failing calls)
listed_calls-listed failing calls small listed =
    let few = listed_calls-le failing calls in
    let below : raised calls < 2 ^ 32 = is_listed-small failing (raised calls) listed in
    let grown : listed_calls failing (raised calls) ≡ listed_calls failing calls + 1 = rw listed at (listed_calls-raised failing calls small) in
    rw grown (omega arith)

-- any other call leaves it
pub listed_calls-passed : (failing : List ℕ) (calls : ℕ) → calls < 2 ^ 64 → is_listed failing (raised calls) ≡ false → listed_calls failing (raised calls) ≡ listed_calls failing calls
listed_calls-passed failing calls small passed =
    let grown : listed_calls failing (raised calls) ≡ listed_calls failing calls + 0 = rw passed at (listed_calls-raised failing calls small) in
    rw grown (omega arith)

pub ruleset listed_calls_steps = (listed_calls-zero, listed_calls-listed, listed_calls-passed)
