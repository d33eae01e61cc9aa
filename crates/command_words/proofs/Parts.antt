-- Words that `clap` takes are items.
use Rattle.std.proofs.Common.{◌≡◌, ◌∙◌, ◌≤◌, ℕ, true, false, zero, suc, List, [], ◌∷◌, ◌++◌, length, Option, Some, None, refl, sym, ap, subst, arith, codes, append-nil, append_assoc}
use Rattle.std.specs.List.{flat_map}
use Rattle.clap.specs.Faults.{use_fault}
use Rattle.clap.specs.Kinds.{or_else}
use Rattle.clap.specs.Walk.{Row, Text, Waiting, idle, option, positional, used}
use Rattle.command_words.specs.Words.{Item, Word, spaced, joined, positional as plain_item, ending, flag, given, positionals, spelling}
use Rattle.command_words.specs.declared.options.Setting.{Setting}
use Rattle.command_words.specs.declared.options.Setting.TheVariants.{Fuel, Patience}
use Rattle.command_words.proofs.Looks.{bare, dashes, joint, look, odd, taken}
use Rattle.command_words.proofs.Rows.{Book, book_option, book_positional, book_same, built_option, name, one_value, used_once}
use Rattle.command_words.proofs.Steps.{IsClear, IsTaken, after_joint, after_positional, at, both_clear, final, final_step, goes_bare, goes_dashes, goes_joint, goes_taken, goes_trailing, goes_value, odd_stops, or_else_nil, settled_at, settling, total, total_end, total_step}

-- ---- what is pending

pub settles_option : (setting : Setting) (word : Word) (rows : List Row) → settled_at rows (Some (name setting, word ∷ [])) ≡ used (built_option setting) (word ∷ []) rows
settles_option Fuel word rows = refl
settles_option Patience word rows = refl

pub option_fault_is : (setting : Setting) (word : Word) (rows : List Row) → settling rows (Some (name setting, word ∷ [])) ≡ use_fault false (built_option setting) (word ∷ []) rows
option_fault_is Fuel word rows = refl
option_fault_is Patience word rows = refl

-- an option whose value doesn't come is refused
no_value : (setting : Setting) (rows : List Row) → settling rows (Some (name setting, [])) ≡ [] → ⊥
no_value Fuel rows clear = absurd (cc)
no_value Patience rows clear = absurd (cc)

-- ---- after a `--`

pub trailing_books : (words : List Text) (rows : List Row) (pending : Option (Text × List Text)) (waiting : Waiting) (values : Setting → List Word) (before : List Word)
    → Book (settled_at rows pending) values before → Book (final (at rows pending waiting true) words) values (before ++ words)
trailing_books [] rows pending waiting values before book = book_same _ values values before (before ++ []) (λ setting. refl) (sym (append-nil before)) book
trailing_books (word ∷ words) rows pending waiting values before book =
    let goes = goes_trailing rows pending waiting word in
    let next = trailing_books words (settled_at rows pending) (Some (codes "command", word ∷ [])) positional values (before ++ word ∷ []) (book_positional (settled_at rows pending) values before word book) in
    subst (λ (rs : List Row). Book rs values (before ++ word ∷ words)) (sym (final_step _ _ word _ words goes))
    (book_same _ values values _ _ (λ setting. refl) (append_assoc before (word ∷ []) words) next)

pub trailing_fault : (words : List Text) (rows : List Row) (pending : Option (Text × List Text)) (waiting : Waiting) → total (at rows pending waiting true) words ≡ settling rows pending
trailing_fault [] rows pending waiting = total_end (at rows pending waiting true)
trailing_fault (word ∷ words) rows pending waiting =
    total_step _ _ word _ words (goes_trailing rows pending waiting word)
    ∙ ap (or_else (settling rows pending)) (trailing_fault words (settled_at rows pending) (Some (codes "command", word ∷ [])) positional) ∙ or_else_nil (settling rows pending)

-- ---- items

-- the words from here on, as items
pub record Parts (words : List Text) (rows : List Row) (pending : Option (Text × List Text)) (end : List Row) : Type 0 where
  pub items : List Item
  pub rest : Option (List Word)
  pub spelled : words ≡ flat_map spelling items ++ ending rest
  pub clear : settling rows pending ≡ []
  pub books : (values : Setting → List Word) (before : List Word) → Book (settled_at rows pending) values before
      → Book end (λ setting. values setting ++ given setting items) (before ++ positionals items rest)

abbrev pub Sound : ℕ → Type 0
Sound n = (words : List Text) → length words ≤ n → (rows : List Row) (pending : Option (Text × List Text)) (waiting : Waiting) → IsClear waiting
    → total (at rows pending waiting false) words ≡ [] → Parts words rows pending (final (at rows pending waiting false) words)

module _ (rows : List Row) (pending : Option (Text × List Text)) (waiting : Waiting) (idles : IsClear waiting) where
  parts_end : total (at rows pending waiting false) [] ≡ [] → Parts [] rows pending (final (at rows pending waiting false) [])
  parts_end clear = record {
    items = [];
    rest = None;
    spelled = refl;
    clear = sym (total_end (at rows pending waiting false)) ∙ clear;
    books = λ values before book. book_same _ values _ before _ (λ setting. sym (append-nil (values setting))) (sym (append-nil before)) book;
  }

  parts_dashes : (words : List Text) → total (at rows pending waiting false) (codes "--" ∷ words) ≡ []
      → Parts (codes "--" ∷ words) rows pending (final (at rows pending waiting false) (codes "--" ∷ words))
  parts_dashes words clear =
      let goes = goes_dashes rows pending waiting in
      record {
        items = [];
        rest = Some words;
        spelled = refl;
        clear = sym (trailing_fault words rows pending waiting) ∙ sym (total_step _ _ (codes "--") _ words goes) ∙ clear;
        books = λ values before book.
            subst (λ (rs : List Row). Book rs (λ setting. values setting ++ []) (before ++ words)) (sym (final_step _ _ (codes "--") _ words goes))
            (book_same _ values _ _ _ (λ setting. sym (append-nil (values setting))) refl (trailing_books words rows pending waiting values before book));
      }

  parts_taken : (word : Text) (words : List Text) → IsTaken word → total (at rows pending waiting false) (word ∷ words) ≡ []
      → (total (after_positional rows pending word false) words ≡ [] → Parts words (settled_at rows pending) (Some (codes "command", word ∷ [])) (final (after_positional rows pending word false) words))
      → Parts (word ∷ words) rows pending (final (at rows pending waiting false) (word ∷ words))
  parts_taken word words is clear next =
      let goes = goes_taken rows pending waiting word idles is in
      let clears = both_clear _ _ (sym (total_step _ _ word _ words goes) ∙ clear) in
      let parts = next clears.1 in
      record {
        items = plain_item word ∷ parts.items;
        rest = parts.rest;
        spelled = ap (λ (ws : List Text). word ∷ ws) parts.spelled;
        clear = clears.0;
        books = λ values before book.
            subst (λ (rs : List Row). Book rs (λ setting. values setting ++ given setting parts.items) (before ++ word ∷ positionals parts.items parts.rest))
            (sym (final_step _ _ word _ words goes))
            (book_same _ _ _ _ _ (λ setting. refl) (append_assoc before (word ∷ []) (positionals parts.items parts.rest))
            (parts.books values (before ++ word ∷ []) (book_positional (settled_at rows pending) values before word book)));
      }

  parts_joint : (setting : Setting) (value : Text) (words : List Text) → total (at rows pending waiting false) ((flag setting ++ codes "=" ++ value) ∷ words) ≡ []
      → (total (after_joint rows pending setting value) words ≡ []
      → Parts words (used (built_option setting) (value ∷ []) (settled_at rows pending)) None (final (after_joint rows pending setting value) words))
      → Parts ((flag setting ++ codes "=" ++ value) ∷ words) rows pending (final (at rows pending waiting false) ((flag setting ++ codes "=" ++ value) ∷ words))
  parts_joint setting value words clear next =
      let goes = goes_joint rows pending waiting setting value in
      let clears = both_clear _ _ (sym (total_step _ _ (flag setting ++ codes "=" ++ value) _ words goes) ∙ clear) in
      let faults = both_clear _ _ clears.0 in
      let parts = next clears.1 in
      record {
        items = joined setting value ∷ parts.items;
        rest = parts.rest;
        spelled = ap (λ (ws : List Text). (flag setting ++ codes "=" ++ value) ∷ ws) parts.spelled;
        clear = faults.0;
        books = λ values before book.
            subst (λ (rs : List Row). Book rs (λ other. values other ++ given other (joined setting value ∷ parts.items)) (before ++ positionals parts.items parts.rest))
            (sym (final_step _ _ (flag setting ++ codes "=" ++ value) _ words goes))
            (book_same _ _ _ _ _ (λ other. append_assoc (values other) (one_value setting value other) (given other parts.items)) refl
            (parts.books _ before (book_option (settled_at rows pending) values before setting value (used_once setting value (settled_at rows pending) faults.1) book)));
      }

  -- the walk at the value of an option
  abbrev waits : Setting → Text → List Text → Type 0
  waits setting value words = total (at (settled_at rows pending) (Some (name setting, value ∷ [])) idle false) words ≡ []
      → Parts words (settled_at rows pending) (Some (name setting, value ∷ [])) (final (at (settled_at rows pending) (Some (name setting, value ∷ [])) idle false) words)

  parts_value : (setting : Setting) (value : Text) (words : List Text) → IsTaken value → total (at rows pending waiting false) (flag setting ∷ value ∷ words) ≡ []
      → waits setting value words → Parts (flag setting ∷ value ∷ words) rows pending (final (at rows pending waiting false) (flag setting ∷ value ∷ words))
  parts_value setting value words is clear next =
      let bare_goes = goes_bare rows pending waiting setting in
      let value_goes = goes_value (settled_at rows pending) setting value is in
      let clears = both_clear _ _ (sym (total_step _ _ (flag setting) _ (value ∷ words) bare_goes) ∙ clear) in
      let parts = next (sym (total_step _ _ value _ words value_goes) ∙ clears.1) in
      let once = used_once setting value (settled_at rows pending) (sym (option_fault_is setting value (settled_at rows pending)) ∙ parts.clear) in
      record {
        items = spaced setting value ∷ parts.items;
        rest = parts.rest;
        spelled = ap (λ (ws : List Text). flag setting ∷ value ∷ ws) parts.spelled;
        clear = clears.0;
        books = λ values before book.
            subst (λ (rs : List Row). Book rs (λ other. values other ++ given other (spaced setting value ∷ parts.items)) (before ++ positionals parts.items parts.rest))
            (sym (final_step _ _ (flag setting) _ (value ∷ words) bare_goes ∙ final_step _ _ value _ words value_goes))
            (book_same _ _ _ _ _ (λ other. append_assoc (values other) (one_value setting value other) (given other parts.items)) refl
            (parts.books _ before (subst (λ (rs : List Row). Book rs (λ other. values other ++ one_value setting value other) before) (sym (settles_option setting value (settled_at rows pending)))
            (book_option (settled_at rows pending) values before setting value once book))));
      }

-- no flag, and no end, stands where an option's value is due
after_bare : (rows : List Row) (setting : Setting) (words : List Text) → total (at rows (Some (name setting, [])) (option (name setting)) false) words ≡ []
    → (value : Text) × (rest : List Text) × (words ≡ value ∷ rest) × IsTaken value
after_bare rows setting [] clear = absurd (no_value setting rows (sym (total_end (at rows (Some (name setting, [])) (option (name setting)) false)) ∙ clear))
after_bare rows setting (value ∷ rest) clear = elim (look value) [
  | taken is ↦ (value, rest, refl, is)
  | bare other is ↦ absurd (no_value setting rows
      (both_clear _ _ (sym (total_step _ _ (flag other) _ rest (goes_bare rows (Some (name setting, [])) (option (name setting)) other))
      ∙ subst (λ (w : Text). total (at rows (Some (name setting, [])) (option (name setting)) false) (w ∷ rest) ≡ []) is clear)).0)
  | joint other word is ↦ absurd (no_value setting rows
      (both_clear _ _ (both_clear _ _ (sym (total_step _ _ (flag other ++ codes "=" ++ word) _ rest (goes_joint rows (Some (name setting, [])) (option (name setting)) other word))
      ∙ subst (λ (w : Text). total (at rows (Some (name setting, [])) (option (name setting)) false) (w ∷ rest) ≡ []) is clear)).0).0)
  | dashes is ↦ absurd (no_value setting rows
      (sym (trailing_fault rest rows (Some (name setting, [])) (option (name setting))) ∙ sym (total_step _ _ (codes "--") _ rest (goes_dashes rows (Some (name setting, [])) (option (name setting))))
      ∙ subst (λ (w : Text). total (at rows (Some (name setting, [])) (option (name setting)) false) (w ∷ rest) ≡ []) is clear))
  | odd is ↦ absurd (odd_stops rows (Some (name setting, [])) (option (name setting)) value rest is clear)
]

module _ (rows : List Row) (pending : Option (Text × List Text)) (waiting : Waiting) (idles : IsClear waiting) where
  parts_bare : (setting : Setting) (words : List Text) → total (at rows pending waiting false) (flag setting ∷ words) ≡ []
      → ((value : Text) (rest : List Text) → words ≡ value ∷ rest → waits rows pending waiting idles setting value rest)
      → Parts (flag setting ∷ words) rows pending (final (at rows pending waiting false) (flag setting ∷ words))
  parts_bare setting words clear next =
      let after = after_bare (settled_at rows pending) setting words
      (both_clear _ _ (sym (total_step _ _ (flag setting) _ words (goes_bare rows pending waiting setting)) ∙ clear)).1 in
      subst (λ (ws : List Text). Parts (flag setting ∷ ws) rows pending (final (at rows pending waiting false) (flag setting ∷ ws))) (sym after.2)
      (parts_value rows pending waiting idles setting after.0 after.1 after.3
      (subst (λ (ws : List Text). total (at rows pending waiting false) (flag setting ∷ ws) ≡ []) after.2 clear) (next after.0 after.1 after.2))

pub sound : (n : ℕ) → Sound n
sound n [] short rows pending waiting idles clear = parts_end rows pending waiting idles clear
sound zero (word ∷ words) short rows pending waiting idles clear = absurd (omega arith)
sound (suc n) (word ∷ words) short rows pending waiting idles clear = elim (look word) [
  | taken is ↦ parts_taken rows pending waiting idles word words is clear (λ next. sound n words (omega arith) _ _ positional tt next)
  | bare setting is ↦ subst (λ (w : Text). Parts (w ∷ words) rows pending (final (at rows pending waiting false) (w ∷ words))) (sym is)
      (parts_bare rows pending waiting idles setting words (subst (λ (w : Text). total (at rows pending waiting false) (w ∷ words) ≡ []) is clear)
      (λ value rest split next. sound n rest (let shorter : length words ≡ suc (length rest) = ap length split in omega arith) _ _ idle tt next))
  | joint setting value is ↦ subst (λ (w : Text). Parts (w ∷ words) rows pending (final (at rows pending waiting false) (w ∷ words))) (sym is)
      (parts_joint rows pending waiting idles setting value words (subst (λ (w : Text). total (at rows pending waiting false) (w ∷ words) ≡ []) is clear)
      (λ next. sound n words (omega arith) _ _ idle tt next))
  | dashes is ↦ subst (λ (w : Text). Parts (w ∷ words) rows pending (final (at rows pending waiting false) (w ∷ words))) (sym is)
      (parts_dashes rows pending waiting idles words (subst (λ (w : Text). total (at rows pending waiting false) (w ∷ words) ≡ []) is clear))
  | odd is ↦ absurd (odd_stops rows pending waiting word words is clear)
]
