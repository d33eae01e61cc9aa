-- What halves of a row of threads need, and what they come to together.
use Rattle.std.proofs.Common.{◌≡◌, ℕ, zero, suc, ◌+◌, ◌-◌, ◌*◌, ◌/◌, ◌^◌, ◌≤◌, List, [], ◌∷◌, ◌++◌, length, refl, sym, ap, subst, ◌∙◌, append_assoc, arith, length-append}
use Rattle.std.proofs.Math.Nat.{pow-succ'}
use Rattle.std.proofs.lemmas.List.{append-nil}
use Rattle.std.specs.List.{AllByRecursion}
use Rattle.interleavings.specs.declared.activity.Activity.{Activity}
use Rattle.interleavings.specs.History.{newcomer}
use Rattle.interleavings.specs.Recording.{Setting}
use Rattle.shared_rule.specs.declared.shared.Shared.{Shared}
use Rattle.shared_rule.specs.declared.view.View.{View}
use Rattle.shared_rule.specs.Views.{brought, halved, split_off, taken_in}
use Rattle.recorder.specs.declared.slot.Slot.{Slot}
use Rattle.recorder.specs.Halves.{AreKept, CanRun, IsFree, Ran}
use Rattle.recorder.proofs.Rows.{each_back, each_front}

-- a row of two or more threads can be halved
some_depth : (n depth : ℕ) → 2 ≤ n → n ≤ 2 ^ depth → 1 ≤ depth
some_depth n zero some deep = absurd (omega arith)
some_depth n (suc depth) some deep = omega arith

-- and then there are half as many for each half
twice : (depth : ℕ) → 1 ≤ depth → 2 ^ depth ≡ 2 * 2 ^ (depth - 1)
twice zero some = absurd (omega arith)
twice (suc depth) some = let before : suc depth - 1 ≡ depth = omega arith in pow-succ' 2 depth ∙ ap (λ n. 2 * 2 ^ n) (sym before)

module _ (g : Setting) (shared : Shared) (first depth : ℕ) (v : View) (slots left right : List Slot) (can : CanRun g shared first depth v slots) (some : 2 ≤ length slots) (cut : slots ≡ left ++ right) (half : length left ≡ length slots / 2) where
  whole : length slots ≡ length left + length right
  whole = ap length cut ∙ length-append left right

  pub can_left : CanRun g shared first (depth - 1) (halved v) left
  can_left =
      let double = twice depth (some_depth (length slots) depth some can.deep) in
      record {
        suits = can.suits;
        nameless = can.nameless;
        free = each_front (IsFree g.fuel) left right (subst (AllByRecursion (IsFree g.fuel)) cut can.free);
        numbers = omega (arith, whole, can.numbers);
        deep = omega (arith, half, can.deep, double);
        draws = omega (arith, can.draws, double);
      }

  pub can_right : (second : ℕ) → second ≡ first + length left → CanRun g shared second (depth - 1) (split_off v) right
  can_right second is =
      let double = twice depth (some_depth (length slots) depth some can.deep) in
      record {
        suits = can.suits;
        nameless = refl;
        free = each_back (IsFree g.fuel) left right (subst (AllByRecursion (IsFree g.fuel)) cut can.free);
        numbers = omega (arith, whole, is, can.numbers);
        deep = omega (arith, whole, half, can.deep, double);
        draws = omega (arith, can.draws, double);
      }

-- what was recorded of the threads of two rows, one after the other
kept_append : (g : Setting) (t second : ℕ) (slots others : List Slot) (people more : List Activity) → second ≡ t + length slots → AreKept g t slots people → AreKept g second others more → AreKept g t (slots ++ others) (people ++ more)
kept_append g t second [] others [] more is kept then = let here : second ≡ t = omega (arith, is) in subst (λ n. AreKept g n others more) here then
kept_append g t second [] others (activity ∷ people) more is kept then = absurd kept
kept_append g t second (slot ∷ slots) others [] more is kept then = absurd kept
kept_append g t second (slot ∷ slots) others (activity ∷ people) more is kept then = (kept.0, kept_append g (t + 1) second slots others people more (omega (arith, is)) kept.1 then)

-- what a pass gathers that takes in another without a name
nothing_brought : (a : Activity) → a ≡ newcomer.activity → brought a.name a ≡ []
nothing_brought a is = ap (λ (b : Activity). brought b.name b) is

-- two halves, one after the other, of which the first takes in the second
pub both_ran : (g : Setting) (first second : ℕ) (v now other : View) (left right : List Slot) → second ≡ first + length left → Ran g first (halved v) now left → Ran g second (split_off v) other right → Ran g first v (taken_in now other) (left ++ right)
both_ran g first second v now other left right is one two = record {
  nameless = one.nameless;
  people = one.people ++ two.people;
  gathered =
      ap (λ xs. (now.gathered ++ xs) ++ other.gathered) (nothing_brought other.activity two.nameless)
      ∙ ap (λ xs. xs ++ other.gathered) (append-nil now.gathered)
      ∙ ap (λ xs. xs ++ other.gathered) one.gathered
      ∙ ap (λ xs. (v.gathered ++ one.people) ++ xs) two.gathered
      ∙ append_assoc v.gathered one.people two.people;
  kept = kept_append g first second left right one.people two.people is one.kept two.kept;
  draws = omega (arith, one.draws, two.draws, length-append left right);
}
