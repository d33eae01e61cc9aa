-- A monitor is let go by a turn through the list of turns that are held.
use Rattle.std.proofs.Common.{◌≡◌, ℕ, ◌+◌, ◌<◌, ◌∙◌, ◌==◌, not, List, [], ◌∷◌, ◌++◌, length, filter, take, drop, get_or, sym, ap, add-one, append_assoc}
use Rattle.std.proofs.Math.Seq.{drop-cons}
use Rattle.std.proofs.lemmas.List.{take_more}
use Rattle.std.proofs.lemmas.List.Elements.{filter-append}
use Rattle.interleavings.specs.declared.activity.HeldTurn.{HeldTurn}

-- the turns of the other monitors
abbrev others : ℕ → List HeldTurn → List HeldTurn
others mon held = filter (λ h. not (h.mon == mon)) held

module _ (old : List HeldTurn) (mon i : ℕ) (inside : i < length old) where
  -- the entry at i is turned over
  pub turned_over : (held : List HeldTurn) → held ≡ drop i old ++ others mon (take i old) → drop 1 held ++ others mon (take 1 held) ≡ drop (i + 1) old ++ others mon (take (i + 1) old)
  turned_over held turned =
      let x : HeldTurn = get_or old i (record { mon = 0; turn = 0 }) in
      let cons : drop i old ≡ x ∷ drop (i + 1) old = rw add-one (drop-cons old i (record { mon = 0; turn = 0 }) inside) in
      let here : held ≡ x ∷ (drop (i + 1) old ++ others mon (take i old)) = turned ∙ ap (λ xs. xs ++ others mon (take i old)) cons in
      ap (λ xs. drop 1 xs ++ others mon (take 1 xs)) here
      ∙ append_assoc (drop (i + 1) old) (others mon (take i old)) (others mon (x ∷ []))
      ∙ ap (λ xs. drop (i + 1) old ++ xs) (sym (filter-append (λ h. not (h.mon == mon)) (take i old) (x ∷ [])) ∙ ap (others mon) (sym (take_more old i (record { mon = 0; turn = 0 }) inside)))
