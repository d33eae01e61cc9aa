use Rattle.std.proofs.Common.{◌≡◌, ◌∙◌, ap, sym, subst, length, [], List, ℕ}
use Rattle.atomic_table.specs.Table.{opening}
use Rattle.shared_rule.specs.Holding.{Holds}
use Rattle.shared_rule.specs.Lines.{opening_words, width}
use Rattle.shared_rule.specs.Views.{first_view}
use Rattle.shared_rule.proofs.Sharing.{opens, opening_length}
use Rattle.shared_rule.proofs.shared.Shared.prepare.Goals as goal

pub of_words-requires : goal.of_words-requires
of_words-requires c =
    let starts : List ℕ = c.args.starts.now in
    let items_are : c.in_ok-from_slice.field-0.items ≡ starts = c.in_ok-from_slice.ensures.items in
    let words_are : c.as_slice.result.now ≡ opening_words starts = c.as_slice.ensures.value ∙ c.in_ok-words.ensures in
    subst (λ (xs : List ℕ). Holds xs (opening c.as_slice.result.now [] (first_view xs))) (sym items_are)
    (subst (λ (words : List ℕ). Holds starts (opening words [] (first_view starts))) (sym words_are) (opens starts))

pub shared_of-requires-clause-wide : goal.shared_of-requires-clause-wide
shared_of-requires-clause-wide c =
    let starts : List ℕ = c.args.starts.now in
    let items_are : c.in_ok-from_slice.field-0.items ≡ starts = c.in_ok-from_slice.ensures.items in
    let words_are : c.as_slice.result.now ≡ opening_words starts = c.as_slice.ensures.value ∙ c.in_ok-words.ensures in
    let key_is = c.in_ok-table.ensures.5 in
    c.in_ok-table.ensures.0
    ∙ ap length words_are
    ∙ opening_length starts
    ∙ ap (λ (xs : List ℕ). width (length xs)) (sym items_are)
    ∙ sym (ap (λ plan. width (length plan.starts.items)) key_is)
