-- How what is added to a sink joins from put to put.
use Rattle.std.proofs.Common.{◌≡◌, ℕ, ◌<◌, ◌≤◌, List, [], ◌++◌, length, take, drop, Option, Some, None, sym, ap, ◌∙◌, append_assoc, length-append, arith}
use Rattle.std.proofs.lemmas.List.{take-append-drop}
use Rattle.stride_base.specs.Devices.{Adds}

-- two pieces added one after another are one piece
Adds-more : (a b c : Option (List ℕ)) (xs ys : List ℕ) → Adds a b xs → Adds b c ys → Adds a c (xs ++ ys)
Adds-more None None None xs ys first second = tt
Adds-more None None (Some c) xs ys first second = second
Adds-more None (Some b) c xs ys first second = absurd first
Adds-more (Some a) None c xs ys first second = absurd first
Adds-more (Some a) (Some b) None xs ys first second = second
Adds-more (Some a) (Some b) (Some c) xs ys first second =
    second ∙ (ap (λ l. l ++ ys) first ∙ append_assoc a xs ys)

-- a prefix of the piece was added, the rest is still to come, and the count didn't fall
pub record PutSoFar (old new : Option (List ℕ)) (piece rest : List ℕ) (count_old count_new : ℕ) : Type 0 where
  pub front : List ℕ
  pub parts : piece ≡ front ++ rest
  pub added : Adds old new front
  pub counted : count_old ≤ count_new

module _ {a b : Option (List ℕ)} {piece rest : List ℕ} {f g : ℕ} (so_far : PutSoFar a b piece rest f g) where
  -- after one more put
  pub PutSoFar-more : (c : Option (List ℕ)) (n : ℕ) (later : List ℕ) (h : ℕ) → later ≡ drop n rest → Adds b c (take n rest) → g ≤ h → PutSoFar a c piece later f h
  PutSoFar-more c n later h is added grown = rw is record {
    front = so_far.front ++ take n rest;
    parts = so_far.parts
        ∙ (ap (λ l. so_far.front ++ l) (sym (take-append-drop n rest)) ∙ sym (append_assoc so_far.front (take n rest) (drop n rest)));
    added = Adds-more a b c so_far.front (take n rest) so_far.added added;
    counted = omega (arith, so_far.counted);
  }

  -- where something is still to come, the piece isn't empty
  pub PutSoFar-not_empty : 0 < length rest → piece ≡ [] → ⊥
  PutSoFar-not_empty some empty =
      omega (arith, ap length so_far.parts, ap length empty, length-append so_far.front rest)
