-- How what is taken from a source joins from read to read.
use Rattle.std.proofs.Common.{◌≡◌, ℕ, ◌+◌, ◌<◌, ◌≤◌, List, [], ◌++◌, length, take, Option, Some, None, refl, sym, ap, ◌∙◌, append_assoc, length-append, arith}
use Rattle.std.proofs.lemmas.List.{append-nil, length-take-le}
use Rattle.std.specs.Prelude.{IfSome}
use Rattle.stride_base.specs.Devices.{Takes, TakesMany}

-- nothing taken leaves all
Takes-none : (left : Option (List ℕ)) → Takes left left []
Takes-none None = tt
Takes-none (Some bytes) = refl

-- two pieces taken one after another are one piece
Takes-more : (a b c : Option (List ℕ)) (xs ys : List ℕ) → Takes a b xs → Takes b c ys → Takes a c (xs ++ ys)
Takes-more None None None xs ys first second = tt
Takes-more None None (Some c) xs ys first second = second
Takes-more None (Some b) c xs ys first second = absurd first
Takes-more (Some a) None c xs ys first second = absurd first
Takes-more (Some a) (Some b) None xs ys first second = second
Takes-more (Some a) (Some b) (Some c) xs ys first second =
    first ∙ (ap (λ l. xs ++ l) second ∙ sym (append_assoc xs ys c))

-- what was taken is all where nothing is left
Takes-all : (a b : Option (List ℕ)) (xs : List ℕ) → Takes a b xs → IfSome b (λ bytes. bytes ≡ []) → IfSome a (λ bytes. xs ≡ bytes)
Takes-all None b xs taken at_end = tt
Takes-all (Some a) None xs taken at_end = absurd taken
Takes-all (Some a) (Some b) xs taken at_end = sym (append-nil xs) ∙ (ap (λ l. xs ++ l) (sym at_end) ∙ sym taken)

-- what was taken is no more than was left
Takes-longer : (a b : Option (List ℕ)) (xs : List ℕ) (limit : ℕ) → Takes a b xs → limit < length xs → IfSome a (λ bytes. limit < length bytes)
Takes-longer None b xs limit taken long = tt
Takes-longer (Some a) None xs limit taken long = absurd taken
Takes-longer (Some a) (Some b) xs limit taken long = omega (arith, ap length taken, length-append xs b)

-- these bytes were taken since the start, and the count didn't fall
pub record ReadSoFar (old new : Option (List ℕ)) (bytes : List ℕ) (count_old count_new : ℕ) : Type 0 where
  pub taken : Takes old new bytes
  pub counted : count_old ≤ count_new

-- before the first read
pub ReadSoFar-none : (left : Option (List ℕ)) (bytes : List ℕ) (f : ℕ) → bytes ≡ [] → ReadSoFar left left bytes f f
ReadSoFar-none left bytes f empty = record { taken = rw empty (Takes-none left); counted = omega arith }

module _ {a b : Option (List ℕ)} {xs : List ℕ} {f g : ℕ} (so_far : ReadSoFar a b xs f g) where
  -- after one more read
  pub ReadSoFar-more : (c : Option (List ℕ)) (ys zs : List ℕ) (h : ℕ) → zs ≡ xs ++ ys → Takes b c ys → g ≤ h → ReadSoFar a c zs f h
  ReadSoFar-more c ys zs h joined taken grown = record {
    taken = rw joined (Takes-more a b c xs ys so_far.taken taken);
    counted = omega (arith, so_far.counted);
  }

  -- a read that gave nothing was the end
  pub ReadSoFar-all : (c : Option (List ℕ)) (buf : List ℕ) (n : ℕ) → Takes b c (take n buf) → n ≡ 0 → IfSome c (λ bytes. bytes ≡ []) → IfSome a (λ bytes. xs ≡ bytes)
  ReadSoFar-all c buf n taken none at_end =
      let nothing : Takes b c [] = rw none at taken in
      Takes-all a c xs (rw append-nil at (Takes-more a b c xs [] so_far.taken nothing)) at_end

  -- a read that went past the limit shows that more than the limit was left
  pub ReadSoFar-longer : (c : Option (List ℕ)) (buf : List ℕ) (n limit : ℕ) → Takes b c (take n buf) → n ≤ length buf → limit < length xs + n → IfSome a (λ bytes. limit < length bytes)
  ReadSoFar-longer c buf n limit taken within long =
      Takes-longer a c (xs ++ take n buf) limit (Takes-more a b c xs (take n buf) so_far.taken taken)
      (omega (arith, length-append xs (take n buf), length-take-le n buf within))

  -- a read that gave the byte past the limit took no more than that
  pub ReadSoFar-past : (c : Option (List ℕ)) (buf : List ℕ) (n limit : ℕ) → Takes b c (take n buf) → n ≤ length buf → length xs + n ≡ limit + 1 → TakesMany a c (limit + 1)
  ReadSoFar-past c buf n limit taken within count = record {
    bytes = xs ++ take n buf;
    many = omega (arith, length-append xs (take n buf), length-take-le n buf within);
    taken = Takes-more a b c xs (take n buf) so_far.taken taken;
  }
