-- What `clap` takes a word for.
use Rattle.std.proofs.Common.{◌≡◌, ◌∙◌, ◌+◌, ◌&&◌, ◌||◌, ℕ, Bool, cond, true, false, not, suc, List, [], ◌∷◌, ◌++◌, take, drop, length, Option, Some, None, refl, sym, ap, ap₂, subst, arith, codes, slice_get, append_assoc}
use Rattle.std.specs.List.{after_first, before_first, position_or_len}
use Rattle.std.specs.Option.{option_map_or}
use Rattle.std.specs.Prelude.{◌==◌, option_and_then}
use Rattle.std.specs.Str.{bytes_eq, chars}
use Rattle.std.proofs.lemmas.Bool.{eqb-true}
use Rattle.clap.specs.Faults.{bundle_fault, bundle_step_fault, flag_word_fault, flags_fault, long_fault, other_fault}
use Rattle.clap.specs.Lexer.{has_byte, long_of, long_of_rest, short_of, short_of_rest, strip_byte}
use Rattle.clap.specs.Walk.{Held, Outcome, Row, Rule, Text, after_flag, arg_by_long, bundle, bundle_met, bundle_step, long_or_other, plain, short_or_plain, trailing}
use Rattle.command_words.specs.Words.{flag}
use Rattle.command_words.specs.declared.options.Setting.{Setting}
use Rattle.command_words.specs.declared.options.Setting.TheVariants.{Fuel, Patience}
use Rattle.command_words.proofs.Rows.{built_option, eq_bytes, name, rules}
use Rattle.command_words.proofs.Steps.{IsOdd, IsTaken, hold, top}

pub data Look (word : Text) : Type 0 where
  taken : IsTaken word → Look word
  bare : (setting : Setting) → word ≡ flag setting → Look word
  joint : (setting : Setting) (value : Text) → word ≡ flag setting ++ codes "=" ++ value → Look word
  dashes : word ≡ codes "--" → Look word
  odd : IsOdd word → Look word

-- a word that is not `--`, as the lexer reads it
record Reads (word : Text) (long : Option (Text × Option Text)) (short : Option Text) : Type 0 where
  not_dashes : bytes_eq word (codes "--") ≡ false
  long_is : long_of word ≡ long
  short_is : short_of word ≡ short

plain_taken : (word : Text) → Reads word None None → IsTaken word
plain_taken word reads = record {
  plain = λ waiting rows pending.
      ap (λ (b : Bool). cond b (hold rows pending, trailing 1) (long_or_other rules waiting word (long_of word) (hold rows pending))) reads.not_dashes
      ∙ ap (λ (l : Option (Text × Option Text)). long_or_other rules waiting word l (hold rows pending)) reads.long_is
      ∙ ap (λ (o : Option Text). short_or_plain rules waiting word o (hold rows pending)) reads.short_is;
  clear = λ rows pending.
      ap (λ (b : Bool). cond b [] (flag_word_fault rules false (long_of word) word (hold rows pending))) reads.not_dashes
      ∙ ap (λ (l : Option (Text × Option Text)). flag_word_fault rules false l word (hold rows pending)) reads.long_is
      ∙ ap (λ (o : Option Text). option_map_or (λ flags. bundle_fault rules false flags (hold rows pending)) o []) reads.short_is;
}

-- ---- short flags, of which there are none

bundle_plain : (first : ℕ) (rest : Text) (h : Held) → h.skip ≡ 0 → slice_get (chars (first ∷ rest)) 0 ≡ None → ◌≡◌ {A = Held × Outcome} (bundle rules (first ∷ rest) h) (record h { skip = 0 }, plain)
unfolding bundle_met
bundle_plain first rest h unskipped none = ap (λ (o : Option ℕ). bundle_step rules o (first ∷ rest) h.skip plain (record h { skip = 0 }) (bundle_met rules (length rest))) none

bundle_clear : (first : ℕ) (rest : Text) (h : Held) → slice_get (chars (first ∷ rest)) 0 ≡ None → bundle_fault rules false (first ∷ rest) h ≡ []
unfolding flags_fault
bundle_clear first rest h none = ap (λ (o : Option ℕ). bundle_step_fault rules false o (first ∷ rest) h.skip (record h { skip = 0 }) (flags_fault rules false (length rest))) none

bundle_refused : (first : ℕ) (rest : Text) (rows : List Row) (pending : Option (Text × List Text)) (character : ℕ) → slice_get (chars (first ∷ rest)) 0 ≡ Some character
    → bundle_fault rules false (first ∷ rest) (hold rows pending) ≡ [] → ⊥
unfolding flags_fault
bundle_refused first rest rows pending character some clear =
    let step = ap (λ (o : Option ℕ). bundle_step_fault rules false o (first ∷ rest) 0 (hold rows pending) (flags_fault rules false (length rest))) some in
    let refused = sym step ∙ clear in
    absurd (cc)

flags_clear : (word flags : Text) (h : Held) → Reads word None (Some flags) → other_fault top None word h ≡ bundle_fault rules false flags h
flags_clear word flags h reads =
    ap (λ (b : Bool). cond b [] (flag_word_fault rules false (long_of word) word h)) reads.not_dashes
    ∙ ap (λ (l : Option (Text × Option Text)). flag_word_fault rules false l word h) reads.long_is
    ∙ ap (λ (o : Option Text). option_map_or (λ flags. bundle_fault rules false flags h) o []) reads.short_is

look_short : (word : Text) (first : ℕ) (rest : Text) → Reads word None (Some (first ∷ rest)) → Look word
look_short word first rest reads = go (slice_get (chars (first ∷ rest)) 0) refl
  where
    go : (o : Option ℕ) → slice_get (chars (first ∷ rest)) 0 ≡ o → Look word
    go (Some character) some = odd (record { refused = λ rows pending clear. bundle_refused first rest rows pending character some (sym (flags_clear word (first ∷ rest) (hold rows pending) reads) ∙ clear) })
    go None none = taken (record {
      plain = λ waiting rows pending.
          ap (λ (b : Bool). cond b (hold rows pending, trailing 1) (long_or_other rules waiting word (long_of word) (hold rows pending))) reads.not_dashes
          ∙ ap (λ (l : Option (Text × Option Text)). long_or_other rules waiting word l (hold rows pending)) reads.long_is
          ∙ ap (λ (o : Option Text). short_or_plain rules waiting word o (hold rows pending)) reads.short_is
          ∙ ap (λ (m : Held × Outcome). after_flag rules waiting word m.0 m.1) (bundle_plain first rest (hold rows pending) refl none);
      clear = λ rows pending. flags_clear word (first ∷ rest) (hold rows pending) reads ∙ bundle_clear first rest (hold rows pending) none;
    })

-- ---- long flags

abbrev is_equals : ℕ → Bool
is_equals byte = byte == 61

abbrev front : Text → Text
front text = before_first is_equals text

abbrev back : Text → Text
back text = after_first is_equals text

-- where there is no `=`, all is the name
all_front : (text : Text) → has_byte 61 text ≡ false → front text ≡ text
all_front [] none = refl
all_front (byte ∷ text) none = go (byte == 61) none (all_front text)
  where
    go : (b : Bool) → (b || has_byte 61 text) ≡ false → (has_byte 61 text ≡ false → front text ≡ text) → take (cond (not b) (1 + position_or_len is_equals text) 0) (byte ∷ text) ≡ byte ∷ text
    go true h next = absurd (cc)
    go false h next =
        let one : 1 + position_or_len is_equals text ≡ suc (position_or_len is_equals text) = omega arith in
        ap (λ k. take k (byte ∷ text)) one ∙ ap (λ (t : Text). byte ∷ t) (next h)

-- else the name, the `=` and the value
parted : (text : Text) → has_byte 61 text ≡ true → text ≡ front text ++ 61 ∷ back text
parted [] some = absurd (cc)
parted (byte ∷ text) some = go (byte == 61) refl some (parted text)
  where
    go : (b : Bool) → (byte == 61) ≡ b → (b || has_byte 61 text) ≡ true → (has_byte 61 text ≡ true → text ≡ front text ++ 61 ∷ back text)
        → byte ∷ text ≡ take (cond (not b) (1 + position_or_len is_equals text) 0) (byte ∷ text) ++ 61 ∷ drop (cond (not b) (1 + position_or_len is_equals text) 0 + 1) (byte ∷ text)
    go true is h next = ap (λ k. k ∷ text) (eqb-true byte 61 is)
    go false is h next =
        let one : 1 + position_or_len is_equals text ≡ suc (position_or_len is_equals text) = omega arith in
        let two : 1 + position_or_len is_equals text + 1 ≡ suc (position_or_len is_equals text + 1) = omega arith in
        ap (λ (t : Text). byte ∷ t) (next h) ∙ ap₂ (λ (i j : ℕ). take i (byte ∷ text) ++ 61 ∷ drop j (byte ∷ text)) (sym one) (sym two)

no_long : (text : Text) → bytes_eq (codes "fuel") text ≡ false → bytes_eq (codes "patience") text ≡ false → arg_by_long rules text ≡ None
no_long text one two =
    ap₂ (λ (a b : Bool). cond (a || false) (Some (built_option Fuel)) (cond (b || false) (Some (built_option Patience)) None)) one two

-- after `--` there is more
named_word : (setting : Setting) (text : Text) → name setting ≡ front text → Look (45 ∷ 45 ∷ text)
named_word setting text is = go (has_byte 61 text) refl
  where
    go : (b : Bool) → has_byte 61 text ≡ b → Look (45 ∷ 45 ∷ text)
    go false none = bare setting (ap (λ (t : Text). 45 ∷ 45 ∷ t) (sym (is ∙ all_front text none)))
    go true some = joint setting (back text) (ap (λ (t : Text). 45 ∷ 45 ∷ t) (parted text some ∙ ap (λ (t : Text). t ++ 61 ∷ back text) (sym is) ∙ sym (append_assoc (name setting) (61 ∷ []) (back text))))

look_long : (first : ℕ) (rest : Text) → Look (45 ∷ 45 ∷ first ∷ rest)
look_long first rest = go (bytes_eq (codes "fuel") (front (first ∷ rest))) (bytes_eq (codes "patience") (front (first ∷ rest))) refl refl
  where
    go : (a b : Bool) → bytes_eq (codes "fuel") (front (first ∷ rest)) ≡ a → bytes_eq (codes "patience") (front (first ∷ rest)) ≡ b → Look (45 ∷ 45 ∷ first ∷ rest)
    go true b one two = named_word Fuel (first ∷ rest) (eq_bytes (codes "fuel") (front (first ∷ rest)) one)
    go false true one two = named_word Patience (first ∷ rest) (eq_bytes (codes "patience") (front (first ∷ rest)) two)
    go false false one two = odd (record {
      refused = λ rows pending clear.
          let step = ap (λ (o : Option Rule). long_fault rules false o (cond (has_byte 61 (first ∷ rest)) (Some (back (first ∷ rest))) None) (hold rows pending)) (no_long (front (first ∷ rest)) one two) in
          let refused = sym step ∙ clear in
          absurd (cc);
    })

-- ---- words

look_two : (rest : Text) → Look (45 ∷ 45 ∷ rest)
look_two [] = dashes refl
look_two (first ∷ rest) = look_long first rest

look_dash : (rest : Text) → Look (45 ∷ rest)
look_dash [] = taken (plain_taken (45 ∷ []) (record { not_dashes = refl; long_is = refl; short_is = refl }))
look_dash (first ∷ rest) = go (first == 45) refl
  where
    go : (b : Bool) → (first == 45) ≡ b → Look (45 ∷ first ∷ rest)
    go true is = subst (λ (k : ℕ). Look (45 ∷ k ∷ rest)) (sym (eqb-true first 45 is)) (look_two rest)
    go false is = look_short (45 ∷ first ∷ rest) first rest (record {
      not_dashes = ap (λ (b : Bool). b && bytes_eq rest []) is;
      long_is = ap (λ (b : Bool). option_and_then long_of_rest (cond b (Some rest) None)) is;
      short_is = ap (λ (b : Bool). cond b None (Some (first ∷ rest))) is;
    })

-- a word that does not begin with `-`
pub undashed_reads : (first : ℕ) (rest : Text) → (first == 45) ≡ false → IsTaken (first ∷ rest)
undashed_reads first rest is = plain_taken (first ∷ rest) (record {
  not_dashes = ap (λ (b : Bool). b && bytes_eq rest (45 ∷ [])) is;
  long_is = ap (λ (b : Bool). option_and_then long_of_rest (option_and_then (strip_byte 45) (cond b (Some rest) None))) is;
  short_is = ap (λ (b : Bool). option_and_then short_of_rest (cond b (Some rest) None)) is;
})

pub empty_taken : IsTaken []
empty_taken = plain_taken [] (record { not_dashes = refl; long_is = refl; short_is = refl })

pub look : (word : Text) → Look word
look [] = taken empty_taken
look (first ∷ rest) = go (first == 45) refl
  where
    go : (b : Bool) → (first == 45) ≡ b → Look (first ∷ rest)
    go true is = subst (λ (k : ℕ). Look (k ∷ rest)) (sym (eqb-true first 45 is)) (look_dash rest)
    go false is = taken (undashed_reads first rest is)
