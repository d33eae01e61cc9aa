-- Numbers in groups of seven bits.
use Rattle.std.proofs.Common.{◌≡◌, ℕ, zero, suc, ◌+◌, ◌*◌, ◌-◌, ◌/◌, ◌%◌, ◌^◌, ◌<◌, ◌≤◌, cond, ltb, eqb, ◌⊎◌, List, [], ◌∷◌, ◌++◌, length, Result, Ok, Err, refl, sym, ap, subst, ◌∙◌, arith, inl, inr, length-append, append_assoc}
use Rattle.std.proofs.Math.Nat.{one-le-pow, pow-le-pow_right, pow-suc}
use Rattle.std.proofs.lemmas.Bool.{cases_lt, ltb-true, ltb-false, lt-ltb, le-ltb, eqb-true, eqb-false, ne_eqb}
use Rattle.log_format.specs.declared.fault.Fault.{Fault}
use Rattle.log_format.specs.declared.format_error.FormatKind.TheVariants.{BadForm}
use Rattle.log_format.specs.declared.version.Size.TheVariants.{Bits64}
use Rattle.log_format.specs.Bundles.{IsBytes}
use Rattle.log_format.specs.Laws.{TellsWrong}
use Rattle.log_format.specs.Spelling.{greatest, groups}
use Rattle.log_format.specs.Reading.{◌>>=◌, short, fault, groups_at, grouped_at}
use Rattle.log_format.proofs.Bytes.{IsBytes-rest}
use Rattle.log_format.proofs.Readers.{bind_ok, guard_ok, guard_passed, chosen, failed, given, ok_is, err_is, ok_fails, tells_no_short, moved, IsWrong, Leaves, Takes, Reads}

-- ---- how many numbers have so many groups

pub some_power : (most : ℕ) → 1 ≤ 128 ^ most
some_power most = one-le-pow most 128 (omega arith)

pub next_power : (most : ℕ) → 128 ^ suc most ≡ 128 * 128 ^ most
next_power most = omega (arith, pow-suc 128 most)

-- ---- writing

-- the last group
pub groups_last : (most n : ℕ) → n < 128 → groups most n ≡ n ∷ []
unfolding groups
groups_last zero n few = refl
groups_last (suc most) n few = ap (λ b. cond b (n ∷ []) ((128 + n % 128) ∷ groups most (n / 128))) (lt-ltb n 128 few)

-- a group before the last
pub groups_more : (most n : ℕ) → 128 ≤ n → groups (suc most) n ≡ (128 + n % 128) ∷ groups most (n / 128)
unfolding groups
groups_more most n many = ap (λ b. cond b (n ∷ []) ((128 + n % 128) ∷ groups most (n / 128))) (le-ltb n 128 many)

-- a group before the last, from the byte and the groups above it
next_group : (most byte higher : ℕ) → 128 ≤ byte → byte < 256 → 1 ≤ higher → groups (suc most) (byte - 128 + 128 * higher) ≡ byte ∷ groups most higher
next_group most byte higher high small some =
    let n = byte - 128 + 128 * higher in
    let low : 128 + n % 128 ≡ byte = omega arith in
    let up : n / 128 ≡ higher = omega arith in
    groups_more most n (omega arith) ∙ ap (λ b. b ∷ groups most (n / 128)) low ∙ ap (λ h. byte ∷ groups most h) up

-- ---- the higher groups

-- the value with a lower group
abbrev pub with_low : ℕ → ℕ × List ℕ → Result (ℕ × List ℕ) Fault
with_low byte higher = Ok (byte - 128 + 128 * higher.0, higher.1)

-- the fault of the groups above is that of all
failed_first : (r : Result (ℕ × List ℕ) Fault) (byte : ℕ) (d : Fault) → (r >>= with_low byte) ≡ Err d → r ≡ Err d
failed_first (Ok x) byte d e = absurd (ok_fails (byte - 128 + 128 * x.0, x.1) d e)
failed_first (Err wrong) byte d e = ap failed (err_is wrong d e)

pub at_last : (wrong : Fault) (most byte : ℕ) (rest : List ℕ) → 1 ≤ byte → byte < 128 → groups_at wrong (suc most) (byte ∷ rest) ≡ Ok (byte, rest)
unfolding groups_at
at_last wrong most byte rest some few =
    ap (λ b. cond b (failed wrong) (cond (ltb byte 128) (given (byte, rest)) (groups_at wrong most rest >>= with_low byte))) (ne_eqb byte 0 (omega arith))
    ∙ ap (λ b. cond b (given (byte, rest)) (groups_at wrong most rest >>= with_low byte)) (lt-ltb byte 128 few)

pub at_more : (wrong : Fault) (most byte : ℕ) (rest : List ℕ) → 128 ≤ byte → groups_at wrong (suc most) (byte ∷ rest) ≡ (groups_at wrong most rest >>= with_low byte)
unfolding groups_at
at_more wrong most byte rest many =
    ap (λ b. cond b (failed wrong) (cond (ltb byte 128) (given (byte, rest)) (groups_at wrong most rest >>= with_low byte))) (ne_eqb byte 0 (omega arith))
    ∙ ap (λ b. cond b (given (byte, rest)) (groups_at wrong most rest >>= with_low byte)) (le-ltb byte 128 many)

-- the groups of a number above 0, of which so many can have a high bit
pub record AreGroups (most : ℕ) (bytes : List ℕ) (n : ℕ) (rest : List ℕ) : Type 0 where
  pub some : 1 ≤ n
  pub below : n < 2 * 128 ^ most
  pub parts : bytes ≡ groups most n ++ rest

pub groups_take : (wrong : Fault) (most : ℕ) (bytes : List ℕ) (x : ℕ × List ℕ) → IsBytes bytes → groups_at wrong most bytes ≡ Ok x → AreGroups most bytes x.0 x.1
unfolding groups_at groups
groups_take wrong most [] x fits e = absurd (ok_fails x short (sym e))
groups_take wrong zero (byte ∷ rest) x fits e =
    let g = guard_passed (eqb byte 1) wrong (given (1, rest)) x e in
    subst (λ (y : ℕ × List ℕ). AreGroups zero (byte ∷ rest) y.0 y.1) (ok_is (1, rest) x g.1) (record { some = omega arith; below = omega arith; parts = ap (λ b. b ∷ rest) (eqb-true byte 1 g.0) })
groups_take wrong (suc most) (byte ∷ rest) x fits e =
    let g = guard_ok (eqb byte 0) wrong (cond (ltb byte 128) (given (byte, rest)) (groups_at wrong most rest >>= with_low byte)) x e in
    let powers : 128 ^ suc most ≡ 128 * 128 ^ most = next_power most in
    let power : 1 ≤ 128 ^ most = some_power most in
    elim (chosen (ltb byte 128) (given (byte, rest)) (groups_at wrong most rest >>= with_low byte) (given x) g.1) [
      | inl last ↦ (
          let few : byte < 128 = ltb-true byte 128 last.0 in
          let there : byte ≡ 0 → ⊥ = eqb-false byte 0 g.0 in
          subst (λ (y : ℕ × List ℕ). AreGroups (suc most) (byte ∷ rest) y.0 y.1) (ok_is (byte, rest) x last.1)
          (record { some = omega arith; below = omega arith; parts = ap (λ b. b ++ rest) (sym (groups_last (suc most) byte few)) }))
      | inr more ↦ (
          let many : 128 ≤ byte = ltb-false byte 128 more.0 in
          let small : byte < 256 = fits 0 in
          let a = bind_ok (groups_at wrong most rest) (with_low byte) x more.1 in
          let t = groups_take wrong most rest a.0 (IsBytes-rest byte rest fits) a.1 in
          let higher = a.0.0 in
          subst (λ (y : ℕ × List ℕ). AreGroups (suc most) (byte ∷ rest) y.0 y.1) (ok_is (byte - 128 + 128 * higher, a.0.1) x a.2)
          (record {
            some = omega (arith, t.some);
            below = omega (arith, t.below);
            parts = ap (λ r. byte ∷ r) t.parts ∙ ap (λ b. b ++ a.0.1) (sym (next_group most byte higher many small t.some));
          }))
    ]

pub groups_again : (wrong : Fault) (most n : ℕ) (rest : List ℕ) → 1 ≤ n → n < 2 * 128 ^ most → groups_at wrong most (groups most n ++ rest) ≡ Ok (n, rest)
unfolding groups_at groups
groups_again wrong zero n rest some below = (let one : n ≡ 1 = omega arith in rw one refl)
groups_again wrong (suc most) n rest some below =
    let powers : 128 ^ suc most ≡ 128 * 128 ^ most = next_power most in
    elim (cases_lt n 128) [
      | inl few ↦ ap (λ b. groups_at wrong (suc most) (b ++ rest)) (groups_last (suc most) n few) ∙ at_last wrong most n rest some few
      | inr many ↦ (
          let up : 1 ≤ n / 128 = omega arith in
          let small : n / 128 < 2 * 128 ^ most = omega arith in
          let back : 128 + n % 128 - 128 + 128 * (n / 128) ≡ n = omega arith in
          ap (λ b. groups_at wrong (suc most) (b ++ rest)) (groups_more most n many)
          ∙ at_more wrong most (128 + n % 128) (groups most (n / 128) ++ rest) (omega arith)
          ∙ ap (λ r. r >>= with_low (128 + n % 128)) (groups_again wrong most (n / 128) rest up small)
          ∙ ap (λ m. given (m, rest)) back)
    ]

-- the higher groups were read from the front, and would be whatever follows
pub record GroupsLeave (most : ℕ) (bytes : List ℕ) (n : ℕ) (rest : List ℕ) : Type 0 where
  pub used : List ℕ
  pub whole : bytes ≡ used ++ rest
  pub again : (wrong : Fault) (more : List ℕ) → groups_at wrong most (used ++ more) ≡ Ok (n, more)

pub groups_leave : (wrong : Fault) (most : ℕ) (bytes : List ℕ) (x : ℕ × List ℕ) → groups_at wrong most bytes ≡ Ok x → GroupsLeave most bytes x.0 x.1
unfolding groups_at
groups_leave wrong most [] x e = absurd (ok_fails x short (sym e))
groups_leave wrong zero (byte ∷ rest) x e =
    let g = guard_passed (eqb byte 1) wrong (given (1, rest)) x e in
    subst (λ (y : ℕ × List ℕ). GroupsLeave zero (byte ∷ rest) y.0 y.1) (ok_is (1, rest) x g.1)
    (record { used = byte ∷ []; whole = refl; again = λ wrong more. ap (λ b. cond b (given (1, more)) (failed wrong)) g.0 })
groups_leave wrong (suc most) (byte ∷ rest) x e =
    let g = guard_ok (eqb byte 0) wrong (cond (ltb byte 128) (given (byte, rest)) (groups_at wrong most rest >>= with_low byte)) x e in
    let there : byte ≡ 0 → ⊥ = eqb-false byte 0 g.0 in
    elim (chosen (ltb byte 128) (given (byte, rest)) (groups_at wrong most rest >>= with_low byte) (given x) g.1) [
      | inl last ↦ subst (λ (y : ℕ × List ℕ). GroupsLeave (suc most) (byte ∷ rest) y.0 y.1) (ok_is (byte, rest) x last.1)
          (record { used = byte ∷ []; whole = refl; again = λ wrong more. at_last wrong most byte more (omega arith) (ltb-true byte 128 last.0) })
      | inr more ↦ (
          let a = bind_ok (groups_at wrong most rest) (with_low byte) x more.1 in
          let l = groups_leave wrong most rest a.0 a.1 in
          subst (λ (y : ℕ × List ℕ). GroupsLeave (suc most) (byte ∷ rest) y.0 y.1) (ok_is (byte - 128 + 128 * a.0.0, a.0.1) x a.2)
          (record {
            used = byte ∷ l.used;
            whole = ap (λ r. byte ∷ r) l.whole;
            again = λ wrong others. at_more wrong most byte (l.used ++ others) (ltb-false byte 128 more.0) ∙ ap (λ r. r >>= with_low byte) (l.again wrong others);
          }))
    ]

-- the higher groups are of no form, whatever follows
abbrev AreWrong : ℕ → List ℕ → Fault → Fault → Type 0
AreWrong most bytes wrong d = (d ≡ wrong) × ((other : Fault) (more : List ℕ) → groups_at other most (bytes ++ more) ≡ Err other)

pub groups_stop : (wrong : Fault) (most : ℕ) (bytes : List ℕ) (d : Fault) → groups_at wrong most bytes ≡ Err d → (d ≡ short) ⊎ AreWrong most bytes wrong d
unfolding groups_at
groups_stop wrong most [] d e = inl (sym (err_is short d e))
groups_stop wrong zero (byte ∷ rest) d e =
    elim (chosen (eqb byte 1) (given (1, rest)) (failed wrong) (failed d) e) [
      | inl good ↦ absurd (ok_fails (1, rest) d good.1)
      | inr bad ↦ inr (sym (err_is wrong d bad.1), λ other more. ap (λ b. cond b (given (1, rest ++ more)) (failed other)) bad.0)
    ]
groups_stop wrong (suc most) (byte ∷ rest) d e =
    elim (chosen (eqb byte 0) (failed wrong) (cond (ltb byte 128) (given (byte, rest)) (groups_at wrong most rest >>= with_low byte)) (failed d) e) [
      | inl none ↦ inr (sym (err_is wrong d none.1), λ other more. ap (λ b. cond b (failed other) (cond (ltb byte 128) (given (byte, rest ++ more)) (groups_at other most (rest ++ more) >>= with_low byte))) none.0)
      | inr some ↦ elim (chosen (ltb byte 128) (given (byte, rest)) (groups_at wrong most rest >>= with_low byte) (failed d) some.1) [
        | inl last ↦ absurd (ok_fails (byte, rest) d last.1)
        | inr more ↦ elim (groups_stop wrong most rest d (failed_first (groups_at wrong most rest) byte d more.1)) [
          | inl few ↦ inl few
          | inr bad ↦ inr (bad.0, λ other others. at_more other most byte (rest ++ others) (ltb-false byte 128 more.0) ∙ ap (λ r. r >>= with_low byte) (bad.1 other others))
        ]
      ]
    ]

-- the higher groups of a number that is not whole
pub record AreBegun (most : ℕ) (bytes : List ℕ) : Type 0 where
  pub number : ℕ
  pub missing : List ℕ
  pub some : 1 ≤ number
  pub below : number < 2 * 128 ^ most
  pub more : 0 < length missing
  pub whole : bytes ++ missing ≡ groups most number

pub groups_begin : (wrong : Fault) (most : ℕ) (bytes : List ℕ) → (wrong ≡ short → ⊥) → IsBytes bytes → groups_at wrong most bytes ≡ Err short → AreBegun most bytes
unfolding groups_at
groups_begin wrong most [] never fits e =
    let power : 1 ≤ 128 ^ most = some_power most in
    record { number = 1; missing = 1 ∷ []; some = omega arith; below = omega arith; more = omega arith; whole = sym (groups_last most 1 (omega arith)) }
groups_begin wrong zero (byte ∷ rest) never fits e =
    elim (chosen (eqb byte 1) (given (1, rest)) (failed wrong) (failed short) e) [
      | inl good ↦ absurd (ok_fails (1, rest) short good.1)
      | inr bad ↦ absurd (never (err_is wrong short bad.1))
    ]
groups_begin wrong (suc most) (byte ∷ rest) never fits e =
    elim (chosen (eqb byte 0) (failed wrong) (cond (ltb byte 128) (given (byte, rest)) (groups_at wrong most rest >>= with_low byte)) (failed short) e) [
      | inl none ↦ absurd (never (err_is wrong short none.1))
      | inr some ↦ elim (chosen (ltb byte 128) (given (byte, rest)) (groups_at wrong most rest >>= with_low byte) (failed short) some.1) [
        | inl last ↦ absurd (ok_fails (byte, rest) short last.1)
        | inr more ↦ (
            let h = groups_begin wrong most rest never (IsBytes-rest byte rest fits) (failed_first (groups_at wrong most rest) byte short more.1) in
            let powers : 128 ^ suc most ≡ 128 * 128 ^ most = next_power most in
            let many : 128 ≤ byte = ltb-false byte 128 more.0 in
            let small : byte < 256 = fits 0 in
            record {
              number = byte - 128 + 128 * h.number;
              missing = h.missing;
              some = omega (arith, h.some);
              below = omega (arith, h.below);
              more = h.more;
              whole = ap (λ r. byte ∷ r) h.whole ∙ sym (next_group most byte h.number many small h.some);
            })
      ]
    ]

-- ---- a number

-- how a number is spelled in groups
abbrev pub IsGrouped : ℕ → List ℕ → Type 0
IsGrouped n text = (n ≤ greatest Bits64) × (text ≡ groups 9 n)

grouped_last : (byte : ℕ) (rest : List ℕ) → byte < 128 → grouped_at (byte ∷ rest) ≡ Ok (byte, rest)
unfolding grouped_at
grouped_last byte rest few = ap (λ b. cond b (given (byte, rest)) (groups_at (fault BadForm (byte ∷ rest)) 8 rest >>= with_low byte)) (lt-ltb byte 128 few)

grouped_more : (byte : ℕ) (rest : List ℕ) → 128 ≤ byte → grouped_at (byte ∷ rest) ≡ (groups_at (fault BadForm (byte ∷ rest)) 8 rest >>= with_low byte)
unfolding grouped_at
grouped_more byte rest many = ap (λ b. cond b (given (byte, rest)) (groups_at (fault BadForm (byte ∷ rest)) 8 rest >>= with_low byte)) (le-ltb byte 128 many)

grouped_leaves : (bytes : List ℕ) (n : ℕ) (rest : List ℕ) → grouped_at bytes ≡ Ok (n, rest) → Leaves grouped_at bytes n rest
unfolding grouped_at
grouped_leaves [] n rest e = absurd (ok_fails (n, rest) short (sym e))
grouped_leaves (byte ∷ bytes) n rest e =
    elim (chosen (ltb byte 128) (given (byte, bytes)) (groups_at (fault BadForm (byte ∷ bytes)) 8 bytes >>= with_low byte) (given (n, rest)) e) [
      | inl last ↦ (
          let same = ok_is (byte, bytes) (n, rest) last.1 in
          record {
            used = byte ∷ [];
            whole = ap (λ (p : ℕ × List ℕ). byte ∷ p.1) same;
            again = λ more. grouped_last byte more (ltb-true byte 128 last.0) ∙ ap (λ (p : ℕ × List ℕ). given (p.0, more)) same;
          })
      | inr more ↦ (
          let a = bind_ok (groups_at (fault BadForm (byte ∷ bytes)) 8 bytes) (with_low byte) (n, rest) more.1 in
          let l = groups_leave (fault BadForm (byte ∷ bytes)) 8 bytes a.0 a.1 in
          let same = ok_is (byte - 128 + 128 * a.0.0, a.0.1) (n, rest) a.2 in
          record {
            used = byte ∷ l.used;
            whole = ap (λ r. byte ∷ r) l.whole ∙ ap (λ (p : ℕ × List ℕ). byte ∷ (l.used ++ p.1)) same;
            again = λ others. grouped_more byte (l.used ++ others) (ltb-false byte 128 more.0) ∙ ap (λ r. r >>= with_low byte) (l.again (fault BadForm (byte ∷ (l.used ++ others))) others) ∙ ap (λ (p : ℕ × List ℕ). given (p.0, others)) same;
          })
    ]

grouped_stops : (bytes : List ℕ) (wrong : Fault) → grouped_at bytes ≡ Err wrong → (wrong ≡ short) ⊎ IsWrong grouped_at bytes wrong
unfolding grouped_at
grouped_stops [] wrong e = inl (sym (err_is short wrong e))
grouped_stops (byte ∷ bytes) wrong e =
    elim (chosen (ltb byte 128) (given (byte, bytes)) (groups_at (fault BadForm (byte ∷ bytes)) 8 bytes >>= with_low byte) (failed wrong) e) [
      | inl last ↦ absurd (ok_fails (byte, bytes) wrong last.1)
      | inr more ↦ elim (groups_stop (fault BadForm (byte ∷ bytes)) 8 bytes wrong (failed_first (groups_at (fault BadForm (byte ∷ bytes)) 8 bytes) byte wrong more.1)) [
        | inl few ↦ inl few
        | inr bad ↦ (
            let same : fault BadForm (byte ∷ bytes) ≡ wrong = sym bad.0 in
            inr (record {
              front = [];
              back = byte ∷ bytes;
              tells = subst (λ (w : Fault). TellsWrong w.kind) same tt;
              whole = refl;
              left = sym (ap (λ (w : Fault). w.left) same);
              some = omega arith;
              few = refl;
              stays = λ others.
                  grouped_more byte (bytes ++ others) (ltb-false byte 128 more.0)
                  ∙ ap (λ r. r >>= with_low byte) (bad.1 (fault BadForm (byte ∷ (bytes ++ others))) others)
                  ∙ ap (λ n. failed (record { kind = BadForm; left = n })) (length-append (byte ∷ bytes) others)
                  ∙ ap (λ (w : Fault). failed (moved others w)) same;
            }))
      ]
    ]

grouped_again : (n : ℕ) (text rest : List ℕ) → IsGrouped n text → grouped_at (text ++ rest) ≡ Ok (n, rest)
grouped_again n text rest is =
    elim (cases_lt n 128) [
      | inl few ↦ ap (λ t. grouped_at (t ++ rest)) (is.1 ∙ groups_last 9 n few) ∙ grouped_last n rest few
      | inr many ↦ (
          let up : 1 ≤ n / 128 = omega arith in
          let below : n / 128 < 2 * 128 ^ 8 = omega (arith, is.0) in
          let back : 128 + n % 128 - 128 + 128 * (n / 128) ≡ n = omega arith in
          let others = groups 8 (n / 128) ++ rest in
          ap (λ t. grouped_at (t ++ rest)) (is.1 ∙ groups_more 8 n many)
          ∙ grouped_more (128 + n % 128) others (omega arith)
          ∙ ap (λ r. r >>= with_low (128 + n % 128)) (groups_again (fault BadForm ((128 + n % 128) ∷ others)) 8 (n / 128) rest up below)
          ∙ ap (λ m. given (m, rest)) back)
    ]

grouped_takes : (bytes : List ℕ) (n : ℕ) (rest : List ℕ) → IsBytes bytes → grouped_at bytes ≡ Ok (n, rest) → Takes IsGrouped bytes n rest
unfolding grouped_at
grouped_takes [] n rest fits e = absurd (ok_fails (n, rest) short (sym e))
grouped_takes (byte ∷ bytes) n rest fits e =
    elim (chosen (ltb byte 128) (given (byte, bytes)) (groups_at (fault BadForm (byte ∷ bytes)) 8 bytes >>= with_low byte) (given (n, rest)) e) [
      | inl last ↦ (
          let few : byte < 128 = ltb-true byte 128 last.0 in
          subst (λ (y : ℕ × List ℕ). Takes IsGrouped (byte ∷ bytes) y.0 y.1) (ok_is (byte, bytes) (n, rest) last.1)
          (record { text = byte ∷ []; is = (omega arith, sym (groups_last 9 byte few)); whole = refl }))
      | inr more ↦ (
          let many : 128 ≤ byte = ltb-false byte 128 more.0 in
          let small : byte < 256 = fits 0 in
          let a = bind_ok (groups_at (fault BadForm (byte ∷ bytes)) 8 bytes) (with_low byte) (n, rest) more.1 in
          let t = groups_take (fault BadForm (byte ∷ bytes)) 8 bytes a.0 (IsBytes-rest byte bytes fits) a.1 in
          subst (λ (y : ℕ × List ℕ). Takes IsGrouped (byte ∷ bytes) y.0 y.1) (ok_is (byte - 128 + 128 * a.0.0, a.0.1) (n, rest) a.2)
          (record { text = byte ∷ groups 8 a.0.0; is = (omega (arith, t.below), sym (next_group 8 byte a.0.0 many small t.some)); whole = ap (λ r. byte ∷ r) t.parts }))
    ]

pub grouped_reads : Reads grouped_at IsGrouped
grouped_reads = record { leaves = grouped_leaves; stops = grouped_stops; again = grouped_again; takes = grouped_takes }

pub grouped_of_nothing : grouped_at [] ≡ Err short
unfolding grouped_at
grouped_of_nothing = refl

pub groups_are_some : (most n : ℕ) → 0 < length (groups most n)
unfolding groups
groups_are_some zero n = omega arith
groups_are_some (suc most) n =
    elim (cases_lt n 128) [
      | inl few ↦ omega (arith, ap length (groups_last (suc most) n few))
      | inr many ↦ omega (arith, ap length (groups_more most n many))
    ]

-- a number that is not whole can be made whole
pub grouped_begins : (bytes : List ℕ) → IsBytes bytes → grouped_at bytes ≡ Err short → (n : ℕ) × (missing : List ℕ) × (n ≤ greatest Bits64) × (0 < length missing) × (bytes ++ missing ≡ groups 9 n)
unfolding grouped_at
grouped_begins [] fits e = (0, 0 ∷ [], omega arith, omega arith, sym (groups_last 9 0 (omega arith)))
grouped_begins (byte ∷ bytes) fits e =
    elim (chosen (ltb byte 128) (given (byte, bytes)) (groups_at (fault BadForm (byte ∷ bytes)) 8 bytes >>= with_low byte) (failed short) e) [
      | inl last ↦ absurd (ok_fails (byte, bytes) short last.1)
      | inr more ↦ (
          let many : 128 ≤ byte = ltb-false byte 128 more.0 in
          let small : byte < 256 = fits 0 in
          let wrong = fault BadForm (byte ∷ bytes) in
          let h = groups_begin wrong 8 bytes (tells_no_short wrong tt) (IsBytes-rest byte bytes fits) (failed_first (groups_at wrong 8 bytes) byte short more.1) in
          (byte - 128 + 128 * h.number, h.missing, omega (arith, h.below), h.more, ap (λ r. byte ∷ r) h.whole ∙ sym (next_group 8 byte h.number many small h.some)))
    ]

-- with a lower group they fit 64 bits
pub groups_below : (wrong : Fault) (most : ℕ) (bytes : List ℕ) (n : ℕ) (rest : List ℕ) → groups_at wrong most bytes ≡ Ok (n, rest) → most ≤ 8 → IsBytes bytes → n < 2 ^ 57
groups_below wrong most bytes n rest e few fits = omega (arith, (groups_take wrong most bytes (n, rest) fits e).below, pow-le-pow_right {n = 128} (omega arith) few)

-- ---- for the code that writes

-- what was written, and the groups that are not written yet, are the number's
abbrev pub IsWriting : List ℕ → ℕ → List ℕ → ℕ → Type 0
IsWriting start number out higher = (most : ℕ) × (higher < 2 * 128 ^ most) × (out ++ groups most higher ≡ start ++ groups 9 number)

-- one group more
pub goes_on : (start : List ℕ) (number : ℕ) (out : List ℕ) (higher : ℕ) → 128 ≤ higher → IsWriting start number out higher → IsWriting start number (out ++ (higher % 128 + 128) ∷ []) (higher / 128)
goes_on start number out higher many writing = by_groups writing.0 writing.1 writing.2
  where
    by_groups : (most : ℕ) → higher < 2 * 128 ^ most → out ++ groups most higher ≡ start ++ groups 9 number → IsWriting start number (out ++ (higher % 128 + 128) ∷ []) (higher / 128)
    by_groups zero below so_far = absurd (omega arith)
    by_groups (suc most) below so_far =
        let powers : 128 ^ suc most ≡ 128 * 128 ^ most = next_power most in
        let group : 128 + higher % 128 ≡ higher % 128 + 128 = omega arith in (
          most,
          omega arith,
          append_assoc out ((higher % 128 + 128) ∷ []) (groups most (higher / 128)) ∙ ap (λ b. out ++ b ∷ groups most (higher / 128)) (sym group) ∙ ap (λ g. out ++ g) (sym (groups_more most higher many)) ∙ so_far,
        )

-- the last group
pub is_written : (start : List ℕ) (number : ℕ) (out : List ℕ) (higher : ℕ) → higher < 128 → IsWriting start number out higher → out ++ higher ∷ [] ≡ start ++ groups 9 number
is_written start number out higher few writing = ap (λ g. out ++ g) (sym (groups_last writing.0 higher few)) ∙ writing.2
