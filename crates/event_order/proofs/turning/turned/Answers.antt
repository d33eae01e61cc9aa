use Rattle.std.proofs.Common.{◌≡◌, ◌+◌, [], ◌∷◌, ◌++◌, Some, take, drop, get_or, reverse, ◌∙◌, ap}
use Rattle.std.specs.Prelude.{slice_get}
use Rattle.std.proofs.lemmas.List.{take_rest}
use Rattle.std.proofs.lemmas.Option.{slice_get-get_or, slice_get_within}
use Rattle.interleavings.specs.declared.traces.Place.{Place}
use Rattle.event_order.proofs.turning.turned.Goals as goal

pub returns : goal.returns
returns c =
    let ring = c.args.ring.now in
    let least = c.least_of-least.result in
    let begin : Place = get_or ring least (record { thread = 0; place = 0 }) in
    let there : slice_get ring least ≡ Some begin = slice_get-get_or ring least (record { thread = 0; place = 0 }) c.least_of-least.ensures.there in
    let one : c.push.new.self.items ≡ begin ∷ [] = c.in_ok-push.ensures.items ∙ ap (λ xs. xs ++ begin ∷ []) c.new-cycle.ensures.items in
    let two : c.push_reversed.new.list.items ≡ begin ∷ reverse (take least ring) = c.in_ok-push_reversed.ensures ∙ ap (λ xs. xs ++ reverse (take least ring)) one in
    let three : c.push_reversed-2.new.list.items ≡ begin ∷ (reverse (take least ring) ++ reverse (drop (least + 1) ring)) =
    c.in_ok-push_reversed-2.ensures ∙ (ap (λ xs. c.push_reversed.new.list.items ++ reverse xs) (take_rest ring (least + 1)) ∙ ap (λ xs. xs ++ reverse (drop (least + 1) ring)) two) in
    record {
      number = least;
      begin = begin;
      there = there;
      parts = three;
      least = λ i at is. c.least_of-least.ensures.least i at begin (slice_get_within ring i at is) is there;
    }
