use Rattle.std.proofs.Common.{◌≡◌, ◌≤◌, ℕ, ◌*◌, ◌%◌, ◌^◌, ◌∙◌, sym, ap, inl, inr, w16, arith}
use Rattle.std.specs.Prelude.{bit_and}
use Rattle.std.specs.Int.{bit_at, bit_not}
use Rattle.std.proofs.lemmas.Bool.{cases_eq, cases_lt}
use Rattle.std.proofs.lemmas.Nat.{and_le_l}
use Rattle.std.proofs.lemmas.Nat.Bits.{bit_at_clear_same, bit_at_clear_other}
use Rattle.event_order.proofs.thread_set.ThreadSet.without.Goals as goal

-- what is left of a number without its bit at a place
cleared : ℕ → ℕ → ℕ
cleared n k = bit_and n (bit_not w16 (1 * 2 ^ k % 2 ^ 16))

pub returns : goal.returns
unfolding cleared
returns c =
    let bits = c.args.self.bits in
    let thread = c.args.thread in
    let none : bit_at (cleared bits thread) thread ≡ 0 = bit_at_clear_same w16 bits thread c.requires in
    record {
      gone = λ has. let one : bit_at (cleared bits thread) thread ≡ 1 = has.1 in omega arith;
      kept = λ other has apart. (has.0, bit_at_clear_other w16 _ _ c.requires other has.0 apart ∙ has.1);
      only = λ other has. (
        has.0,
        elim (cases_eq other thread) [
          | inl same ↦ absurd (let one : bit_at (cleared bits thread) other ≡ 1 = has.1 in let at : bit_at (cleared bits thread) other ≡ bit_at (cleared bits thread) thread = ap (bit_at (cleared bits thread)) same in omega arith)
          | inr apart ↦ sym (bit_at_clear_other w16 _ _ c.requires other has.0 apart) ∙ has.1
        ],
      );
      less = λ has.
          let most : cleared bits thread ≤ bits = and_le_l bits _ in
          elim (cases_lt (cleared bits thread) bits) [
            | inl less ↦ less
            | inr more ↦ absurd (
                let same : cleared bits thread ≡ bits = omega arith in
                let at : bit_at (cleared bits thread) thread ≡ bit_at bits thread = ap (λ n. bit_at n thread) same in
                let one : bit_at bits thread ≡ 1 = has.1 in
                omega arith)
          ];
    }
