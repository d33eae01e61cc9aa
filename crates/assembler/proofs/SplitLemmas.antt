-- The parts into which the line `order` splits a text.
use Rattle.std.proofs.Common.{◌≡◌, ℕ, ◌+◌, ◌<◌, ◌≤◌, ◌==◌, ◌⊎◌, ◌∙◌, Bool, true, false, List, [], ◌∷◌, ◌++◌, length, min, if◌then◌else◌, zero, suc, refl, sym, ap, subst, inl, inr, arith, append_assoc, append-nil, length-append}
use Rattle.std.proofs.lemmas.Bool.{eqb-true}
use Rattle.std.specs.List.{AllByRecursion}
use Rattle.assembler.specs.Laws.{SplitIsParts}
use Rattle.assembler.specs.Lines.{lines}
use Rattle.assembler.specs.Splits.{IsOrderLine, is_order, split_from}
use Rattle.assembler.specs.Words.{words_of}
use Rattle.assembler.specs.declared.order_split.OrderSplit.{OrderSplit}

-- the first line of a text and what follows it
record Cut (text : List ℕ) : Type 0 where
  line : List ℕ
  after : List ℕ
  all : lines text ≡ line ∷ lines after
  whole : (text ≡ line ++ 10 ∷ after) ⊎ ((text ≡ line) × (after ≡ []))
  free : (more : List ℕ) → lines (line ++ 10 ∷ more) ≡ line ∷ lines more

cut_size : (text line after : List ℕ) → text ≡ line ++ 10 ∷ after → length text ≡ length line + 1 + length after
cut_size text line after e = rw e (omega (arith, length-append line (10 ∷ after)))

-- a line with one more byte in front
cut_more : (byte : ℕ) (bytes : List ℕ) → (byte == 10) ≡ false → Cut bytes → Cut (byte ∷ bytes)
cut_more byte bytes other c =
    let all = c.all in
    record {
      line = byte ∷ c.line;
      after = c.after;
      all = rw (other, all) refl;
      whole = elim c.whole [
        | inl e ↦ inl (ap (λ bs. byte ∷ bs) e)
        | inr both ↦ inr (ap (λ bs. byte ∷ bs) both.0, both.1)
      ];
      free = λ more. let free = c.free more in rw (other, free) refl;
    }

cut : (byte : ℕ) (bytes : List ℕ) → Cut (byte ∷ bytes)
cut byte [] = at (byte == 10) refl where
  at : (feed : Bool) → (byte == 10) ≡ feed → Cut (byte ∷ [])
  at true e =
      let same : byte ≡ 10 = eqb-true byte 10 e in
      record { line = []; after = []; all = rw e refl; whole = inl (ap (λ b. b ∷ []) same); free = λ more. refl }
  at false e =
      record { line = byte ∷ []; after = []; all = rw e refl; whole = inr (refl, refl); free = λ more. rw e refl }
cut byte (next ∷ bytes) = at (byte == 10) refl (cut next bytes) where
  at : (feed : Bool) → (byte == 10) ≡ feed → Cut (next ∷ bytes) → Cut (byte ∷ next ∷ bytes)
  at true e c =
      let same : byte ≡ 10 = eqb-true byte 10 e in
      record { line = []; after = next ∷ bytes; all = rw e refl; whole = inl (ap (λ b. b ∷ next ∷ bytes) same); free = λ more. refl }
  at false e c = cut_more byte (next ∷ bytes) e c

-- the parts of what is left of a text, from an offset and a line's number on
record PartsFrom (rest : List ℕ) (offset number : ℕ) (s : OrderSplit) : Type 0 where
  program : List ℕ
  line : List ℕ
  order : List ℕ
  joined : program ++ (line ++ order) ≡ rest
  program_end : s.program_end ≡ offset + length program
  order_start : s.order_start ≡ offset + length program + length line
  order_line : s.order_line ≡ number + length (lines (program ++ line))
  no_order : AllByRecursion (λ l. is_order (words_of l) ≡ false) (lines program)
  is_line : ((line ≡ []) × (order ≡ [])) ⊎ IsOrderLine line

-- the first line is `order`
parts_here : (rest : List ℕ) (total offset number : ℕ) (c : Cut rest) → total ≡ offset + length rest → is_order (words_of c.line) ≡ true → PartsFrom rest offset number (record { program_end = offset; order_start = min (offset + length c.line + 1) total; order_line = number + 1 })
parts_here rest total offset number c long is = elim c.whole [
  | inl e ↦
      let size = cut_size rest c.line c.after e in
      let alone = c.free [] in
      record {
        program = [];
        line = c.line ++ 10 ∷ [];
        order = c.after;
        joined = append_assoc c.line (10 ∷ []) c.after ∙ sym e;
        program_end = omega arith;
        order_start = omega (arith, length-append c.line (10 ∷ []));
        order_line = rw alone refl;
        no_order = tt;
        is_line = inr (record { line = c.line; alone = alone; only = is });
      }
  | inr both ↦
      let size : length rest ≡ length c.line = ap length both.0 in
      let alone : lines c.line ≡ c.line ∷ [] = ap lines (sym both.0) ∙ (c.all ∙ ap (λ bs. c.line ∷ lines bs) both.1) in
      record {
        program = [];
        line = c.line;
        order = [];
        joined = append-nil c.line ∙ sym both.0;
        program_end = omega arith;
        order_start = omega arith;
        order_line = rw alone refl;
        no_order = tt;
        is_line = inr (record { line = c.line; alone = alone; only = is });
      }
]

first_nil : (xs ys : List ℕ) → xs ++ ys ≡ [] → xs ≡ []
first_nil [] ys e = refl
first_nil (x ∷ xs) ys e = absurd (cc)

second_nil : (xs ys : List ℕ) → xs ++ ys ≡ [] → ys ≡ []
second_nil [] ys e = e
second_nil (x ∷ xs) ys e = absurd (cc)

-- the first line is not `order`, and the lines after it have these parts
parts_later : (rest : List ℕ) (total offset number : ℕ) (s : OrderSplit) (c : Cut rest) → total ≡ offset + length rest → is_order (words_of c.line) ≡ false → PartsFrom c.after (min (offset + length c.line + 1) total) (number + 1) s → PartsFrom rest offset number s
parts_later rest total offset number s c long is p = elim c.whole [
  | inl e ↦
      let size = cut_size rest c.line c.after e in
      let lined = c.free p.program in
      let numbered : lines ((c.line ++ 10 ∷ p.program) ++ p.line) ≡ c.line ∷ lines (p.program ++ p.line) = ap lines (append_assoc c.line (10 ∷ p.program) p.line) ∙ c.free (p.program ++ p.line) in
      record {
        program = c.line ++ 10 ∷ p.program;
        line = p.line;
        order = p.order;
        joined = append_assoc c.line (10 ∷ p.program) (p.line ++ p.order) ∙ (ap (λ bs. c.line ++ 10 ∷ bs) p.joined ∙ sym e);
        program_end = omega (arith, p.program_end, length-append c.line (10 ∷ p.program));
        order_start = omega (arith, p.order_start, length-append c.line (10 ∷ p.program));
        order_line = omega (arith, p.order_line, let count : length (lines ((c.line ++ 10 ∷ p.program) ++ p.line)) ≡ 1 + length (lines (p.program ++ p.line)) = ap length numbered ∙ omega arith in count);
        no_order = rw lined (is, p.no_order);
        is_line = p.is_line;
      }
  | inr both ↦
      let size : length rest ≡ length c.line = ap length both.0 in
      let none : p.program ++ (p.line ++ p.order) ≡ [] = p.joined ∙ both.1 in
      let no_program : p.program ≡ [] = first_nil p.program (p.line ++ p.order) none in
      let no_line : p.line ≡ [] = first_nil p.line p.order (second_nil p.program (p.line ++ p.order) none) in
      let alone : lines c.line ≡ c.line ∷ [] = ap lines (sym both.0) ∙ (c.all ∙ ap (λ bs. c.line ∷ lines bs) both.1) in
      let no_more : length p.program ≡ 0 = ap length no_program in
      let no_word : length p.line ≡ 0 = ap length no_line in
      let counted : length (lines (p.program ++ p.line)) ≡ 0 = rw (no_program, no_line) refl in
      let numbered : length (lines (c.line ++ [])) ≡ 1 = rw (append-nil, alone) refl in
      record {
        program = c.line;
        line = [];
        order = [];
        joined = append-nil c.line ∙ sym both.0;
        program_end = omega (arith, p.program_end);
        order_start = omega (arith, p.order_start);
        order_line = omega (arith, p.order_line);
        no_order = rw alone (is, tt);
        is_line = inl (refl, refl);
      }
]

-- the first line, by whether it is `order`
parts_by : (rest : List ℕ) (total offset number : ℕ) (c : Cut rest) → total ≡ offset + length rest → (order : Bool) → is_order (words_of c.line) ≡ order → PartsFrom c.after (min (offset + length c.line + 1) total) (number + 1) (split_from total (min (offset + length c.line + 1) total) (number + 1) (lines c.after)) → PartsFrom rest offset number (if order then record { program_end = offset; order_start = min (offset + length c.line + 1) total; order_line = number + 1 } else split_from total (min (offset + length c.line + 1) total) (number + 1) (lines c.after))
parts_by rest total offset number c long true is later = parts_here rest total offset number c long is
parts_by rest total offset number c long false is later = parts_later rest total offset number _ c long is later

-- what is left of a text after its first line is shorter
cut_shorter : (rest : List ℕ) (c : Cut rest) → 0 < length rest → length c.after < length rest
cut_shorter rest c some = elim c.whole [
  | inl e ↦ let size = cut_size rest c.line c.after e in omega arith
  | inr both ↦ let none : length c.after ≡ 0 = ap length both.1 in omega arith
]

-- and begins where the first line ends
cut_next : (rest : List ℕ) (c : Cut rest) (total offset : ℕ) → total ≡ offset + length rest → total ≡ min (offset + length c.line + 1) total + length c.after
cut_next rest c total offset long = elim c.whole [
  | inl e ↦ let size = cut_size rest c.line c.after e in omega arith
  | inr both ↦
      let none : length c.after ≡ 0 = ap length both.1 in
      let size : length rest ≡ length c.line = ap length both.0 in
      omega arith
]

-- the lines that are left are split into these parts
parts : (n : ℕ) (rest : List ℕ) (total offset number : ℕ) → length rest ≤ n → total ≡ offset + length rest → PartsFrom rest offset number (split_from total offset number (lines rest))
parts n [] total offset number few long = record {
  program = [];
  line = [];
  order = [];
  joined = refl;
  program_end = omega arith;
  order_start = omega arith;
  order_line = omega arith;
  no_order = tt;
  is_line = inl (refl, refl);
}
parts zero (byte ∷ bytes) total offset number few long = absurd (omega arith)
parts (suc n) (byte ∷ bytes) total offset number few long =
    let c = cut byte bytes in
    let shorter = cut_shorter (byte ∷ bytes) c (omega arith) in
    let next = min (offset + length c.line + 1) total in
    subst (λ (ls : List (List ℕ)). PartsFrom (byte ∷ bytes) offset number (split_from total offset number ls)) (sym c.all)
    (parts_by (byte ∷ bytes) total offset number c long (is_order (words_of c.line)) refl (parts n c.after total next (number + 1) (omega arith) (cut_next (byte ∷ bytes) c total offset long)))

-- a text is split into its parts
pub split_is_parts : SplitIsParts
split_is_parts text =
    let p = parts (length text) text (length text) 0 1 (omega arith) (omega arith) in
    record {
      program = p.program;
      line = p.line;
      order = p.order;
      joined = p.joined;
      program_end = omega (arith, p.program_end);
      order_start = omega (arith, p.order_start);
      order_line = omega (arith, p.order_line);
      no_order = p.no_order;
      is_line = p.is_line;
    }
