-- `clap` takes the words of items, and finds their values.
use Rattle.std.proofs.Common.{◌≡◌, ◌∙◌, ◌≤◌, ◌<◌, ◌&&◌, ℕ, Bool, true, false, not, List, [], ◌∷◌, ◌++◌, length, Option, Some, None, refl, sym, ap, ap₂, subst, arith, codes, append-nil, append_assoc, length-append}
use Rattle.std.specs.List.{flat_map, list_all}
use Rattle.std.specs.Prelude.{◌==◌}
use Rattle.std.proofs.lemmas.Bool.{eqb-true}
use Rattle.std.specs.Char.{digit_value}
use Rattle.clap.specs.Kinds.{Kinds, or_else}
use Rattle.clap.specs.Walk.{Row, Text, Waiting, all_of, idle, positional, used}
use Rattle.clap.proofs.WalkLemmas.{both}
use Rattle.command_words.specs.Words.{IsDecimal, Item, Sets, Word, spaced, joined, positional as plain_item, behind, ending, flag, given, is_positional, positional_in, positionals, spelling}
use Rattle.command_words.specs.declared.options.Setting.{Setting}
use Rattle.command_words.specs.declared.options.Setting.TheVariants.{Fuel, Patience}
use Rattle.command_words.proofs.Looks.{empty_taken, undashed_reads}
use Rattle.command_words.proofs.Parts.{option_fault_is, settles_option, trailing_books, trailing_fault}
use Rattle.command_words.proofs.Rows.{Book, book_option, book_positional, book_same, built_option, first_use, name, one_value, several}
use Rattle.command_words.proofs.Steps.{IsClear, IsTaken, at, final, final_step, goes_bare, goes_dashes, goes_joint, goes_taken, goes_value, settled_at, settling, total, total_end, total_step}

-- ---- words that `clap` takes for no flag

pub taken_undashed : (word : Word) → is_positional word ≡ true → IsTaken word
taken_undashed [] undashed = empty_taken
taken_undashed (first ∷ rest) undashed = undashed_reads first rest (go (first == 45) undashed)
  where
    go : (b : Bool) → not b ≡ true → b ≡ false
    go true h = absurd (cc)
    go false h = refl

pub decimal_undashed : (word : Word) (n : ℕ) → IsDecimal word n → is_positional word ≡ true
decimal_undashed [] n decimal = refl
decimal_undashed (first ∷ rest) n decimal = go (first == 45) refl
  where
    go : (b : Bool) → (first == 45) ≡ b → not b ≡ true
    go true is =
        let low : digit_value 45 < 10 = subst (λ (k : ℕ). digit_value k < 10) (eqb-true first 45 is) decimal.0.1.0 in
        absurd (omega arith)
    go false is = refl

sets_undashed : (limit : ℕ) (words : List Word) (value : Option ℕ) → Sets limit words value → list_all is_positional words ≡ true
sets_undashed limit [] None sets = refl
sets_undashed limit [] (Some n) sets = absurd sets
sets_undashed limit (word ∷ []) None sets = absurd sets
sets_undashed limit (word ∷ []) (Some n) sets = ap (λ b. b && true) (decimal_undashed word n sets.0)
sets_undashed limit (one ∷ two ∷ words) None sets = absurd sets
sets_undashed limit (one ∷ two ∷ words) (Some n) sets = absurd sets

pub sets_once : (limit : ℕ) (words : List Word) (value : Option ℕ) → Sets limit words value → length words ≤ 1
sets_once limit [] value sets = omega arith
sets_once limit (word ∷ []) value sets = omega arith
sets_once limit (one ∷ two ∷ words) None sets = absurd sets
sets_once limit (one ∷ two ∷ words) (Some n) sets = absurd sets

-- ---- items whose words `clap` reads as they are meant

abbrev IsFit : Item → Type 0
IsFit (spaced setting value) = IsTaken value
IsFit (joined setting value) = Unit
IsFit (plain_item word) = IsTaken word

abbrev pub AllFit : List Item → Type 0
AllFit [] = Unit
AllFit (item ∷ items) = IsFit item × AllFit items

all_behind : (front back : List Word) → list_all is_positional (front ++ back) ≡ true → list_all is_positional back ≡ true
all_behind [] back all = all
all_behind (word ∷ front) back all = all_behind front back (both _ _ all).1

all_before : (front back : List Word) → list_all is_positional (front ++ back) ≡ true → list_all is_positional front ≡ true
all_before [] back all = refl
all_before (word ∷ front) back all =
    let parts = both _ _ all in
    ap₂ (λ (a b : Bool). a && b) parts.0 (all_before front back parts.1)

own_undashed : (setting : Setting) (value : Word) (more : List Word) → list_all is_positional (one_value setting value setting ++ more) ≡ true → is_positional value ≡ true
own_undashed Fuel value more all = (both _ _ all).0
own_undashed Patience value more all = (both _ _ all).0

all_fit : (items : List Item) → ((setting : Setting) → list_all is_positional (given setting items) ≡ true) → list_all is_positional (flat_map positional_in items) ≡ true → AllFit items
all_fit [] values words = tt
all_fit (spaced setting value ∷ items) values words = (
  taken_undashed value (own_undashed setting value (given setting items) (values setting)),
  all_fit items (λ other. all_behind (one_value setting value other) (given other items) (values other)) words,
)
all_fit (joined setting value ∷ items) values words = (tt, all_fit items (λ other. all_behind (one_value setting value other) (given other items) (values other)) words)
all_fit (plain_item word ∷ items) values words = let parts = both _ _ words in (taken_undashed word parts.0, all_fit items values parts.1)

-- the items of a line
pub line_fits : (items : List Item) (rest : Option (List Word)) (limits : Setting → ℕ) (kept : Setting → Option ℕ) → ((setting : Setting) → Sets (limits setting) (given setting items) (kept setting))
    → list_all is_positional (positionals items rest) ≡ true → AllFit items
line_fits items rest limits kept sets undashed =
    all_fit items (λ setting. sets_undashed (limits setting) (given setting items) (kept setting) (sets setting)) (all_before (flat_map positional_in items) (behind rest) undashed)

-- ---- the walk over them

clear_both : (one two : Kinds) → one ≡ [] → two ≡ [] → or_else one two ≡ []
clear_both one two first second = ap₂ or_else first second

no_value_before : (setting : Setting) (value : Word) (before more : List Word) → length (before ++ (one_value setting value setting ++ more)) ≤ 1 → before ≡ []
no_value_before setting value [] more once = refl
no_value_before Fuel value (word ∷ words) more once = absurd (omega (arith, length-append words (value ∷ more)))
no_value_before Patience value (word ∷ words) more once = absurd (omega (arith, length-append words (value ∷ more)))

-- the words of items, and of what stands behind them
abbrev pub line_words : List Item → Option (List Word) → List Word
line_words items rest = flat_map spelling items ++ ending rest

-- the walk over them finds no fault, and their values
pub record IsRead (rows : List Row) (pending : Option (Text × List Text)) (waiting : Waiting) (items : List Item) (rest : Option (List Word)) (values : Setting → List Word) (before : List Word) : Type 0 where
  pub clear : total (at rows pending waiting false) (line_words items rest) ≡ []
  pub book : Book (final (at rows pending waiting false) (line_words items rest)) (λ setting. values setting ++ given setting items) (before ++ positionals items rest)

pub complete : (items : List Item) (rest : Option (List Word)) → AllFit items → (rows : List Row) (pending : Option (Text × List Text)) (waiting : Waiting) → IsClear waiting
    → settling rows pending ≡ [] → (values : Setting → List Word) (before : List Word) → Book (settled_at rows pending) values before
    → ((setting : Setting) → length (values setting ++ given setting items) ≤ 1) → IsRead rows pending waiting items rest values before
complete [] None fit rows pending waiting idles clear values before book once = record {
  clear = total_end (at rows pending waiting false) ∙ clear;
  book = book_same _ values _ before _ (λ setting. sym (append-nil (values setting))) (sym (append-nil before)) book;
}
complete [] (Some words) fit rows pending waiting idles clear values before book once =
    let goes = goes_dashes rows pending waiting in
    record {
      clear = total_step _ _ (codes "--") _ words goes ∙ trailing_fault words rows pending waiting ∙ clear;
      book = subst (λ (rs : List Row). Book rs (λ setting. values setting ++ []) (before ++ words)) (sym (final_step _ _ (codes "--") _ words goes))
          (book_same _ values _ _ _ (λ setting. sym (append-nil (values setting))) refl (trailing_books words rows pending waiting values before book));
    }
complete (plain_item word ∷ items) rest fit rows pending waiting idles clear values before book once =
    let goes = goes_taken rows pending waiting word idles fit.0 in
    let next = complete items rest fit.1 (settled_at rows pending) (Some (codes "command", word ∷ [])) positional tt refl values (before ++ word ∷ [])
    (book_positional (settled_at rows pending) values before word book) once in
    record {
      clear = total_step _ _ word _ (line_words items rest) goes ∙ clear_both _ _ clear next.clear;
      book = subst (λ (rs : List Row). Book rs (λ setting. values setting ++ given setting items) (before ++ word ∷ positionals items rest))
          (sym (final_step _ _ word _ (line_words items rest) goes))
          (book_same _ _ _ _ _ (λ setting. refl) (append_assoc before (word ∷ []) (positionals items rest)) next.book);
    }
complete (joined setting value ∷ items) rest fit rows pending waiting idles clear values before book once =
    let word = flag setting ++ codes "=" ++ value in
    let goes = goes_joint rows pending waiting setting value in
    let none : all_of (name setting) (settled_at rows pending) ≡ None
    = book.options setting ∙ ap several (no_value_before setting value (values setting) (given setting items) (once setting)) in
    let next = complete items rest fit.1 (used (built_option setting) (value ∷ []) (settled_at rows pending)) None idle tt refl (λ other. values other ++ one_value setting value other) before
    (book_option (settled_at rows pending) values before setting value none book)
    (λ other. subst (λ (l : List Word). length l ≤ 1) (sym (append_assoc (values other) (one_value setting value other) (given other items))) (once other)) in
    record {
      clear = total_step _ _ word _ (line_words items rest) goes ∙ clear_both _ _ (clear_both _ _ clear (first_use setting value (settled_at rows pending) none)) next.clear;
      book = subst (λ (rs : List Row). Book rs (λ other. values other ++ given other (joined setting value ∷ items)) (before ++ positionals items rest))
          (sym (final_step _ _ word _ (line_words items rest) goes))
          (book_same _ _ _ _ _ (λ other. append_assoc (values other) (one_value setting value other) (given other items)) refl next.book);
    }
complete (spaced setting value ∷ items) rest fit rows pending waiting idles clear values before book once =
    let bare_goes = goes_bare rows pending waiting setting in
    let value_goes = goes_value (settled_at rows pending) setting value fit.0 in
    let none : all_of (name setting) (settled_at rows pending) ≡ None
    = book.options setting ∙ ap several (no_value_before setting value (values setting) (given setting items) (once setting)) in
    let next = complete items rest fit.1 (settled_at rows pending) (Some (name setting, value ∷ [])) idle tt
    (option_fault_is setting value (settled_at rows pending) ∙ first_use setting value (settled_at rows pending) none) (λ other. values other ++ one_value setting value other) before
    (subst (λ (rs : List Row). Book rs (λ other. values other ++ one_value setting value other) before) (sym (settles_option setting value (settled_at rows pending)))
    (book_option (settled_at rows pending) values before setting value none book))
    (λ other. subst (λ (l : List Word). length l ≤ 1) (sym (append_assoc (values other) (one_value setting value other) (given other items))) (once other)) in
    record {
      clear = total_step _ _ (flag setting) _ (value ∷ line_words items rest) bare_goes ∙ clear_both _ _ clear (total_step _ _ value _ (line_words items rest) value_goes ∙ next.clear);
      book = subst (λ (rs : List Row). Book rs (λ other. values other ++ given other (spaced setting value ∷ items)) (before ++ positionals items rest))
          (sym (final_step _ _ (flag setting) _ (value ∷ line_words items rest) bare_goes ∙ final_step _ _ value _ (line_words items rest) value_goes))
          (book_same _ _ _ _ _ (λ other. append_assoc (values other) (one_value setting value other) (given other items)) refl next.book);
    }
