use Rattle.std.proofs.Common.{rules, ◌≡◌, ◌+◌, ◌-◌, ◌/◌, ◌∙◌, ◌++◌, length, sym, subst, ap}
use Rattle.recorder.specs.Halves.{CanRun, Ran, setting_of}
use Rattle.shared_rule.specs.Passes.{view_of}
use Rattle.shared_rule.specs.Views.{taken_in}
use Rattle.recorder.proofs.Halving.{both_ran, can_left, can_right}
use Rattle.recorder.proofs.halves.+fn-record_all-join_mut+arg2+fn-record_all-join_mut+arg3+record_all.Goals as goal

pub join_mut-requires-after_bounds : goal.join_mut-requires-after_bounds
join_mut-requires-after_bounds g t c κs within =
    let setting = setting_of c.args.task.now in
    let shared = c.args.task.now.shared.now in
    let slots = c.args.slots.now in
    let left = c.split_at_mut-left.result.0.now in
    let right = c.split_at_mut-left.result.1.now in
    let cut = c.split_at_mut-left.ensures in
    let split = c.split-other.ensures in
    let v = view_of c.args.pass.now in
    let one = can_left setting shared c.args.first c.args.depth v slots left right c.requires.can c.in_default.len_at_least cut.value cut.front_len in
    let two = can_right setting shared c.args.first c.args.depth v slots left right c.requires.can c.in_default.len_at_least cut.value cut.front_len (c.args.first + length slots / 2) (ap (λ n. c.args.first + n) (sym cut.front_len)) in (
      (search rules, ((λ a m. m), ((λ a m. m), ((search rules, split.pass, subst (λ w. CanRun setting shared c.args.first (c.args.depth - 1) w left) (sym split.left) one), (search rules, search rules))))),
      (search rules, ((λ a m. m), ((λ a m. m), ((search rules, split.new, subst (λ w. CanRun setting shared (c.args.first + length slots / 2) (c.args.depth - 1) w right) (sym split.right) two), (search rules, search rules))))),
    )

pub returns-in_default-clause-ran : goal.returns-in_default-clause-ran
returns-in_default-clause-ran g t c =
    let setting = setting_of c.args.task.now in
    let first = c.args.first in
    let second = c.args.first + length c.args.slots.now / 2 in
    let v = view_of c.args.pass.now in
    let now = view_of c.pass-1.given.0 in
    let other = view_of c.other-in_default-1.given.0 in
    let left = c.left-1.given.0 in
    let right = c.right-1.given.0 in
    let split = c.split-other.ensures in
    let one : Ran setting first (view_of c.split-other.new.pass) now left = search rules in
    let two : Ran setting second (view_of c.split-other.result) other right = search rules in
    let gathered : view_of c.gather.new.pass ≡ taken_in now other = search rules in
    let place : second ≡ first + length left = ap (λ n. first + n) (sym (c.left-1.given.1.0 ∙ c.split_at_mut-left.ensures.front_len)) in
    subst (λ w. Ran setting first v w (left ++ right)) (sym gathered)
    (both_ran setting first second v now other left right place
    (subst (λ w. Ran setting first w now left) split.left one)
    (subst (λ w. Ran setting second w other right) split.right two))
