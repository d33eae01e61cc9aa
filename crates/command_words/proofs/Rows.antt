-- The rows of `clap`'s matches, by what is read of them.
use Rattle.std.proofs.Common.{◌≡◌, ◌∙◌, ◌≤◌, ◌&&◌, ◌||◌, Bool, cond, true, false, List, [], ◌∷◌, ◌++◌, length, Option, Some, None, refl, sym, ap, subst, arith, codes, append-nil}
use Rattle.std.specs.List.{find}
use Rattle.std.specs.Option.{is_some, option_map, unwrap_or}
use Rattle.std.specs.Prelude.{if◌then◌else◌}
use Rattle.std.specs.Str.{bytes_eq}
use Rattle.std.proofs.lemmas.Slice.Eq.{bytes_eq-Decides}
use Rattle.clap.specs.Faults.{use_fault}
use Rattle.clap.specs.Kinds.{Kinds, or_else}
use Rattle.clap.specs.declared.error.kind.ErrorKind.TheVariants as kind
use Rattle.clap.specs.Simple.{filled, with_index}
use Rattle.clap.specs.Walk.{Row, Rule, Text, all_of, at_row, has_row, more_values, reading_by, used, with_values, without}
use Rattle.clap.specs.declared.builder.value_parser.Reading.{Reading}
use Rattle.clap.specs.declared.parser.matches.ValueSource.{ValueSource}
use Rattle.clap.specs.declared.parser.matches.ValueSource.TheVariants.{CommandLine}
use Rattle.command_words.specs.App.{option_rule, positional_rule}
use Rattle.command_words.specs.Words.{Word, form, is_same}
use Rattle.command_words.specs.declared.options.Setting.{Setting}
use Rattle.command_words.specs.declared.options.Setting.TheVariants.{Fuel, Patience}

-- the rules as `clap` builds them
abbrev pub built_option : Setting → Rule
built_option setting = filled (option_rule setting)

abbrev pub built_positional : Rule
built_positional = with_index 1 (filled positional_rule)

abbrev pub rules : List Rule
rules = built_option Fuel ∷ built_option Patience ∷ built_positional ∷ []

abbrev pub name : Setting → Text
name setting = (form setting).name

-- ---- reading changed rows

pub eq_bytes : (one other : Text) → bytes_eq one other ≡ true → one ≡ other
eq_bytes one other is = grind (arith, bytes_eq-Decides one other)

absent_row : (id : Text) (change : Row → List Row) (missing rows : List Row) → all_of id rows ≡ None → at_row id change missing rows ≡ rows ++ missing
absent_row id change missing [] none = refl
absent_row id change missing (row ∷ rows) none = go (bytes_eq row.id id) none (absent_row id change missing rows)
  where
    go : (b : Bool) → option_map (λ (r : Row). r.values) (cond b (Some row) (find (λ r. bytes_eq r.id id) rows)) ≡ None
        → (all_of id rows ≡ None → at_row id change missing rows ≡ rows ++ missing)
        → cond b (change row ++ rows) (row ∷ at_row id change missing rows) ≡ row ∷ (rows ++ missing)
    go true h next = absurd (cc)
    go false h next = ap (λ rs. row ∷ rs) (next h)

without_absent : (id : Text) (rows : List Row) → all_of id rows ≡ None → without id rows ≡ rows
without_absent id rows none = absent_row id (λ _. []) [] rows none ∙ append-nil rows

stays : (b : Bool) (row : Row) (one other : Option Row) → option_map (λ (r : Row). r.values) one ≡ option_map (λ (r : Row). r.values) other
    → option_map (λ (r : Row). r.values) (cond b (Some row) one) ≡ option_map (λ (r : Row). r.values) (cond b (Some row) other)
stays true row one other same = refl
stays false row one other same = same

module _ (id : Text) (how : Reading) (source : ValueSource) (values : List Text) where
  -- more values of the same id
  more_of : (rows : List Row) → bytes_eq id id ≡ true → all_of id (with_values id how source values rows) ≡ Some (unwrap_or (all_of id rows) [] ++ values)
  more_of [] same = rw same refl
  more_of (row ∷ rows) same = go (bytes_eq row.id id) refl (more_of rows same)
    where
      go : (b : Bool) → bytes_eq row.id id ≡ b → all_of id (with_values id how source values rows) ≡ Some (unwrap_or (all_of id rows) [] ++ values)
          → all_of id (cond b (more_values source values row ++ rows) (row ∷ with_values id how source values rows))
          ≡ Some (unwrap_or (option_map (λ (r : Row). r.values) (cond b (Some row) (find (λ r. bytes_eq r.id id) rows))) [] ++ values)
      go true is next = rw is refl
      go false is next = rw is next

  -- the values of another id stay
  others_stay : (other : Text) (rows : List Row) → bytes_eq id other ≡ false → all_of other (with_values id how source values rows) ≡ all_of other rows
  others_stay other [] apart = rw apart refl
  others_stay other (row ∷ rows) apart = go (bytes_eq row.id id) refl (others_stay other rows apart)
    where
      go : (b : Bool) → bytes_eq row.id id ≡ b → all_of other (with_values id how source values rows) ≡ all_of other rows
          → all_of other (cond b (more_values source values row ++ rows) (row ∷ with_values id how source values rows)) ≡ all_of other (row ∷ rows)
      go true is next = let away : bytes_eq row.id other ≡ false = ap (λ t. bytes_eq t other) (eq_bytes row.id id is) ∙ apart in rw away refl
      go false is next = stays (bytes_eq row.id other) row _ _ next

-- ---- uses of the options and of the positional

pub name_is_same : (setting : Setting) → bytes_eq (name setting) (name setting) ≡ true
name_is_same Fuel = refl
name_is_same Patience = refl

-- whether there are values of an id
has_row_is : (id : Text) (rows : List Row) → has_row id rows ≡ is_some (all_of id rows)
has_row_is id [] = refl
has_row_is id (row ∷ rows) = go (bytes_eq row.id id) (has_row_is id rows)
  where
    go : (b : Bool) → has_row id rows ≡ is_some (all_of id rows)
        → (b || has_row id rows) ≡ is_some (option_map (λ (r : Row). r.values) (cond b (Some row) (find (λ r. bytes_eq r.id id) rows)))
    go true next = refl
    go false next = next

abbrev conflict : Bool → Kinds
conflict present = or_else (if present && true then kind.ArgumentConflict ∷ [] else []) []

fault_by_row : (setting : Setting) (value : Text) (rows : List Row) → use_fault false (built_option setting) (value ∷ []) rows ≡ conflict (has_row (name setting) rows)
fault_by_row setting value rows = refl

-- an option may be used where it wasn't before
pub first_use : (setting : Setting) (value : Text) (rows : List Row) → all_of (name setting) rows ≡ None → use_fault false (built_option setting) (value ∷ []) rows ≡ []
first_use setting value rows none = fault_by_row setting value rows ∙ ap (λ present. conflict present) (has_row_is (name setting) rows ∙ ap (λ (o : Option (List Text)). is_some o) none)

-- and nowhere else
pub used_once : (setting : Setting) (value : Text) (rows : List Row) → use_fault false (built_option setting) (value ∷ []) rows ≡ [] → all_of (name setting) rows ≡ None
used_once setting value rows clear = go (all_of (name setting) rows) (ap (λ present. conflict present) (sym (has_row_is (name setting) rows)) ∙ sym (fault_by_row setting value rows) ∙ clear)
  where
    go : (o : Option (List Text)) → conflict (is_some o) ≡ [] → o ≡ None
    go None h = refl
    go (Some values) h = absurd (cc)

-- ---- what the rows tell

-- values, where there are any
abbrev pub several : List Word → Option (List Word)
several [] = None
several (word ∷ words) = Some (word ∷ words)

-- the values of the options, none of which has two, and the positionals
pub record Book (rows : List Row) (values : Setting → List Word) (words : List Word) : Type 0 where
  pub options : (setting : Setting) → all_of (name setting) rows ≡ several (values setting)
  pub once : (setting : Setting) → length (values setting) ≤ 1
  pub positionals : all_of (codes "command") rows ≡ several words

pub book_same : (rows : List Row) (values others : Setting → List Word) (words more : List Word) → ((setting : Setting) → values setting ≡ others setting) → words ≡ more
    → Book rows values words → Book rows others more
book_same rows values others words more same are book = record {
  options = λ setting. book.options setting ∙ ap several (same setting);
  once = λ setting. subst (λ (l : List Word). length l ≤ 1) (same setting) (book.once setting);
  positionals = book.positionals ∙ ap several are;
}

several_more : (words : List Word) (word : Word) → Some (unwrap_or (several words) [] ++ word ∷ []) ≡ several (words ++ word ∷ [])
several_more [] word = refl
several_more (first ∷ words) word = refl

-- one more positional
pub book_positional : (rows : List Row) (values : Setting → List Word) (words : List Word) (word : Word) → Book rows values words
    → Book (used built_positional (word ∷ []) rows) values (words ++ word ∷ [])
book_positional rows values words word book = record {
  options = λ setting. others setting ∙ book.options setting;
  once = book.once;
  positionals = more_of (codes "command") _ _ (word ∷ []) rows refl ∙ ap (λ o. Some (unwrap_or o [] ++ word ∷ [])) book.positionals ∙ several_more words word;
}
  where
    others : (setting : Setting) → all_of (name setting) (used built_positional (word ∷ []) rows) ≡ all_of (name setting) rows
    others Fuel = others_stay (codes "command") _ _ (word ∷ []) (codes "fuel") rows refl
    others Patience = others_stay (codes "command") _ _ (word ∷ []) (codes "patience") rows refl

-- the value that a use of an option gives to each option
abbrev pub one_value : Setting → Word → Setting → List Word
one_value setting value other = if is_same other setting then value ∷ [] else []

none_given : (values : List Word) → several values ≡ None → values ≡ []
none_given [] h = refl
none_given (value ∷ values) h = absurd (cc)

-- the value of an option that had none
module _ (rows : List Row) (values : Setting → List Word) (words : List Word) (setting : Setting) (value : Word) (none : all_of (name setting) rows ≡ None) (book : Book rows values words) where
  abbrev after : List Row
  after = used (built_option setting) (value ∷ []) rows

  fresh : (id : Text) → all_of id after ≡ all_of id (with_values (name setting) (reading_by (built_option setting)) CommandLine (value ∷ []) rows)
  fresh id = ap (λ (rs : List Row). all_of id (with_values (name setting) (reading_by (built_option setting)) CommandLine (value ∷ []) rs)) (without_absent (name setting) rows none)

  had_none : values setting ≡ []
  had_none = none_given (values setting) (sym (book.options setting) ∙ none)

  own_value : all_of (name setting) after ≡ several (values setting ++ value ∷ [])
  own_value =
      fresh (name setting) ∙ more_of (name setting) _ _ (value ∷ []) rows (name_is_same setting) ∙ ap (λ (o : Option (List Word)). Some (unwrap_or o [] ++ value ∷ [])) none
      ∙ ap (λ (l : List Word). several (l ++ value ∷ [])) (sym had_none)

  other_values : (id : Text) → bytes_eq (name setting) id ≡ false → all_of id after ≡ all_of id rows
  other_values id apart = fresh id ∙ others_stay (name setting) _ _ (value ∷ []) id rows apart

  own_once : length (values setting ++ value ∷ []) ≤ 1
  own_once = subst (λ (l : List Word). length (l ++ value ∷ []) ≤ 1) (sym had_none) (omega arith)

  other_once : (other : Setting) → length (values other ++ []) ≤ 1
  other_once other = subst (λ (l : List Word). length l ≤ 1) (sym (append-nil (values other))) (book.once other)

  other_option : (other : Setting) → bytes_eq (name setting) (name other) ≡ false → all_of (name other) after ≡ several (values other ++ [])
  other_option other apart = other_values (name other) apart ∙ book.options other ∙ ap several (sym (append-nil (values other)))

pub book_option : (rows : List Row) (values : Setting → List Word) (words : List Word) (setting : Setting) (value : Word) → all_of (name setting) rows ≡ None → Book rows values words
    → Book (used (built_option setting) (value ∷ []) rows) (λ other. values other ++ one_value setting value other) words
book_option rows values words Fuel value none book = record {
  options = λ other. elim other as (λ s. all_of (name s) (used (built_option Fuel) (value ∷ []) rows) ≡ several (values s ++ one_value Fuel value s)) [
    | Fuel ↦ own_value rows values words Fuel value none book
    | Patience ↦ other_option rows values words Fuel value none book Patience refl
  ];
  once = λ other. elim other as (λ s. length (values s ++ one_value Fuel value s) ≤ 1) [
    | Fuel ↦ own_once rows values words Fuel value none book
    | Patience ↦ other_once rows values words Fuel value none book Patience
  ];
  positionals = other_values rows values words Fuel value none book (codes "command") refl ∙ book.positionals;
}
book_option rows values words Patience value none book = record {
  options = λ other. elim other as (λ s. all_of (name s) (used (built_option Patience) (value ∷ []) rows) ≡ several (values s ++ one_value Patience value s)) [
    | Fuel ↦ other_option rows values words Patience value none book Fuel refl
    | Patience ↦ own_value rows values words Patience value none book
  ];
  once = λ other. elim other as (λ s. length (values s ++ one_value Patience value s) ≤ 1) [
    | Fuel ↦ other_once rows values words Patience value none book Fuel
    | Patience ↦ own_once rows values words Patience value none book
  ];
  positionals = other_values rows values words Patience value none book (codes "command") refl ∙ book.positionals;
}
