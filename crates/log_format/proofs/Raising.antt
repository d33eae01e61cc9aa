-- The higher groups of a number, added up from the lowest.
use Rattle.std.proofs.Common.{◌≡◌, ℕ, suc, ◌+◌, ◌*◌, ◌-◌, ◌^◌, ◌<◌, ◌≤◌, List, [], ◌∷◌, Result, Ok, Err, refl, sym, ap, subst, ◌∙◌, arith}
use Rattle.std.proofs.Math.Nat.{mul-le-mul_left, mul_assoc, mul-add, pow-le-pow_right}
use Rattle.log_format.specs.declared.fault.Fault.{Fault}
use Rattle.log_format.specs.declared.fault.ReadError.{ReadError}
use Rattle.log_format.specs.declared.fault.ReadError.TheVariants as inside
use Rattle.log_format.specs.Answers.{Fails}
use Rattle.log_format.specs.Bundles.{IsBytes}
use Rattle.log_format.specs.Reading.{◌>>=◌, byte_at, groups_at}
use Rattle.log_format.proofs.Bytes.{IsBytes-rest}
use Rattle.log_format.proofs.Groups.{at_more, at_last, next_power, with_low}
use Rattle.log_format.proofs.Readers.{ok_fails, ok_is}

-- the value above lower groups of this weight
abbrev above : ℕ → ℕ → ℕ × List ℕ → Result (ℕ × List ℕ) Fault
above number weight higher = Ok (number + weight * higher.0, higher.1)

-- so many groups gave the number, and what is left read from here gives with it what all gave
pub record IsRaising (wrong : Fault) (bytes : List ℕ) (turn number weight : ℕ) (rest : List ℕ) : Type 0 where
  pub power : weight ≡ 128 ^ turn
  pub below : number < weight
  pub within : IsBytes rest
  pub same : (groups_at wrong (8 - turn) rest >>= above number weight) ≡ groups_at wrong 8 bytes

-- nothing is left
raising_short : (wrong : Fault) (bytes : List ℕ) (turn number weight : ℕ) (rest : List ℕ) (d : Fault) → IsRaising wrong bytes turn number weight rest → byte_at rest ≡ Err d → groups_at wrong 8 bytes ≡ Err d
unfolding groups_at
raising_short wrong bytes turn number weight [] d r e = sym r.same ∙ e
raising_short wrong bytes turn number weight (byte ∷ rest) d r e = absurd (ok_fails (byte, rest) d e)

pub raising_fails : (wrong : Fault) (bytes : List ℕ) (turn number weight : ℕ) (rest : List ℕ) (error : ReadError) → IsRaising wrong bytes turn number weight rest → Fails error (byte_at rest) → Fails error (groups_at wrong 8 bytes)
raising_fails wrong bytes turn number weight rest (inside.Fault d) r e = raising_short wrong bytes turn number weight rest d r e
raising_fails wrong bytes turn number weight rest inside.NoMemory r e = tt

begins_with : (rest : List ℕ) (x : ℕ × List ℕ) → byte_at rest ≡ Ok x → rest ≡ x.0 ∷ x.1
begins_with [] x e = absurd (ok_fails x _ (sym e))
begins_with (byte ∷ rest) x e = ap (λ (y : ℕ × List ℕ). y.0 ∷ y.1) (ok_is (byte, rest) x e)

pub raising_byte : (wrong : Fault) (bytes : List ℕ) (turn number weight : ℕ) (rest : List ℕ) (byte : ℕ) (after : List ℕ) → IsRaising wrong bytes turn number weight rest → byte_at rest ≡ Ok (byte, after) → byte < 256
raising_byte wrong bytes turn number weight rest byte after r e = subst IsBytes (begins_with rest (byte, after) e) r.within 0

-- with the byte in front
opened : (wrong : Fault) (bytes : List ℕ) (turn number weight : ℕ) (rest : List ℕ) (byte : ℕ) (after : List ℕ) → turn < 8 → IsRaising wrong bytes turn number weight rest → byte_at rest ≡ Ok (byte, after) → (groups_at wrong (suc (7 - turn)) (byte ∷ after) >>= above number weight) ≡ groups_at wrong 8 bytes
opened wrong bytes turn number weight rest byte after more r e =
    let left : suc (7 - turn) ≡ 8 - turn = omega arith in
    ap (λ m. groups_at wrong m (byte ∷ after) >>= above number weight) left
    ∙ ap (λ b. groups_at wrong (8 - turn) b >>= above number weight) (sym (begins_with rest (byte, after) e))
    ∙ r.same

at_none : (wrong : Fault) (most byte : ℕ) (rest : List ℕ) → byte ≡ 0 → groups_at wrong (suc most) (byte ∷ rest) ≡ Err wrong
unfolding groups_at
at_none wrong most byte rest none = rw none refl

pub raising_none : (wrong : Fault) (bytes : List ℕ) (turn number weight : ℕ) (rest : List ℕ) (byte : ℕ) (after : List ℕ) → turn < 8 → IsRaising wrong bytes turn number weight rest → byte_at rest ≡ Ok (byte, after) → byte ≡ 0 → groups_at wrong 8 bytes ≡ Err wrong
raising_none wrong bytes turn number weight rest byte after more r e none =
    sym (opened wrong bytes turn number weight rest byte after more r e) ∙ ap (λ g. g >>= above number weight) (at_none wrong (7 - turn) byte after none)

pub raising_last : (wrong : Fault) (bytes : List ℕ) (turn number weight : ℕ) (rest : List ℕ) (byte : ℕ) (after : List ℕ) → turn < 8 → IsRaising wrong bytes turn number weight rest → byte_at rest ≡ Ok (byte, after) → 1 ≤ byte → byte < 128 → groups_at wrong 8 bytes ≡ Ok (number + weight * byte, after)
raising_last wrong bytes turn number weight rest byte after more r e some few =
    sym (opened wrong bytes turn number weight rest byte after more r e) ∙ ap (λ g. g >>= above number weight) (at_last wrong (7 - turn) byte after some few)

raised : (number weight low byte : ℕ) (r : Result (ℕ × List ℕ) Fault) → low ≡ byte - 128 → (r >>= above (number + weight * low) (weight * 128)) ≡ ((r >>= with_low byte) >>= above number weight)
raised number weight low byte (Ok x) is =
    let parts : weight * (low + 128 * x.0) ≡ weight * low + weight * (128 * x.0) = mul-add weight low (128 * x.0) in
    let grouped : weight * 128 * x.0 ≡ weight * (128 * x.0) = mul_assoc weight 128 x.0 in
    let sum : number + weight * low + weight * 128 * x.0 ≡ number + weight * (low + 128 * x.0) = omega arith in
    ap (λ n. Ok (n, x.1)) sum ∙ ap (λ l. Ok (number + weight * (l + 128 * x.0), x.1)) is
raised number weight low byte (Err d) is = refl

pub raising_on : (wrong : Fault) (bytes : List ℕ) (turn number weight : ℕ) (rest : List ℕ) (byte : ℕ) (after : List ℕ) (low : ℕ) → turn < 8 → IsRaising wrong bytes turn number weight rest → byte_at rest ≡ Ok (byte, after) → 128 ≤ byte → low ≡ byte - 128 → IsRaising wrong bytes (turn + 1) (number + weight * low) (weight * 128) after
raising_on wrong bytes turn number weight rest byte after low more r e many is =
    let small : byte < 256 = raising_byte wrong bytes turn number weight rest byte after r e in
    let left : 8 - (turn + 1) ≡ 7 - turn = omega arith in
    let next : suc turn ≡ turn + 1 = omega arith in
    let power : weight * 128 ≡ 128 ^ suc turn = omega (arith, r.power, next_power turn) in
    let most : weight * low ≤ weight * 127 = mul-le-mul_left weight (omega arith) in
    record {
      power = power ∙ ap (λ n. 128 ^ n) next;
      below = omega (arith, r.below, most);
      within = IsBytes-rest byte after (subst IsBytes (begins_with rest (byte, after) e) r.within);
      same =
          ap (λ m. groups_at wrong m after >>= above (number + weight * low) (weight * 128)) left
          ∙ raised number weight low byte (groups_at wrong (7 - turn) after) is
          ∙ ap (λ g. g >>= above number weight) (sym (at_more wrong (7 - turn) byte after many))
          ∙ opened wrong bytes turn number weight rest byte after more r e;
    }

-- how great the number can be with one group more
pub raising_small : (wrong : Fault) (bytes : List ℕ) (turn number weight : ℕ) (rest : List ℕ) (group : ℕ) → IsRaising wrong bytes turn number weight rest → turn < 8 → group < 128 → number + weight * group < 2 ^ 56
raising_small wrong bytes turn number weight rest group r more small =
    let most : weight * group ≤ weight * 127 = mul-le-mul_left weight (omega arith) in
    let few : turn ≤ 7 = omega arith in
    let power : 128 ^ turn ≤ 128 ^ 7 = pow-le-pow_right {n = 128} (omega arith) few in
    omega (arith, r.below, r.power, power, most)
