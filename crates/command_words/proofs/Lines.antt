-- The lines of the grammar are the words that `clap` takes and whose values can be read.
use Rattle.std.proofs.Common.{◌≡◌, ◌∙◌, ◌≤◌, ◌&&◌, ◌↔◌, Bool, true, false, List, [], ◌∷◌, length, map, Option, Some, None, Result, Ok, Err, inl, inr, refl, sym, ap, subst, arith, codes, slice_get, Bor}
use Rattle.std.specs.List.{find, list_all}
use Rattle.std.specs.Option.{UnwrapsOrElse, option_map, unwrap_or}
use Rattle.std.specs.Prelude.{◌⊎◌, option_and_then}
use Rattle.std.specs.Str.{bytes_eq}
use Rattle.clap.specs.Faults.{fault_of}
use Rattle.clap.specs.Kinds.{IsAmong}
use Rattle.clap.specs.Simple.{matches_of}
use Rattle.clap.specs.Walk.{Row, Text, all_of, first_of, idle}
use Rattle.clap.specs.declared.error.kind.ErrorKind.{ErrorKind}
use Rattle.clap.specs.declared.error.kind.ErrorKind.TheVariants.{OutOfMemory}
use Rattle.command_words.specs.App.{line_app}
use Rattle.command_words.specs.Reading.{IsReading, listed}
use Rattle.command_words.specs.Words.{Answers, IsLine, Names, Sets, Word, form, given, is_positional, live_words, positionals}
use Rattle.command_words.specs.declared.options.Setting.{Setting}
use Rattle.command_words.specs.declared.options.Setting.TheVariants.{Fuel, Patience}
use Rattle.command_words.specs.declared.settings.Command.{Command}
use Rattle.command_words.specs.declared.settings.Command.TheVariants.{Demo}
use Rattle.command_words.specs.declared.settings.Refusal.{Refusal}
use Rattle.command_words.specs.declared.settings.Refusal.TheVariants.{Usage, NoMemory}
use Rattle.command_words.specs.declared.settings.Settings.{Settings}
use Rattle.command_words.proofs.Parts.{sound}
use Rattle.command_words.proofs.Rows.{Book, name, several}
use Rattle.command_words.proofs.Spelled.{IsRead, complete, decimal_undashed, line_fits, line_words, sets_once}
use Rattle.command_words.proofs.Steps.{fault_is, final, matches_are, start, total}

-- ---- what is read of the rows

first_is : (id : Text) (rows : List Row) → first_of id rows ≡ option_and_then (λ (values : List Text). slice_get values 0) (all_of id rows)
first_is id rows = go (find (λ (r : Row). bytes_eq r.id id) rows)
  where
    go : (o : Option Row) → option_and_then (λ (r : Row). slice_get r.values 0) o ≡ option_and_then (λ (values : List Text). slice_get values 0) (option_map (λ (r : Row). r.values) o)
    go None = refl
    go (Some row) = refl

one_listed : (words : List Word) → length words ≤ 1 → listed (option_and_then (λ (values : List Text). slice_get values 0) (several words)) ≡ words
one_listed [] once = refl
one_listed (word ∷ []) once = refl
one_listed (one ∷ two ∷ words) once = absurd (omega arith)

all_several : (words : List Word) → unwrap_or (several words) [] ≡ words
all_several [] = refl
all_several (word ∷ words) = refl

-- what is read of rows: the values of the options, and the positionals
module _ (rows : List Row) (values : Setting → List Word) (words : List Word) (book : Book rows values words) where
  option_is : (setting : Setting) → listed (first_of (name setting) rows) ≡ values setting
  option_is setting =
      ap listed (first_is (name setting) rows ∙ ap (option_and_then (λ (values : List Text). slice_get values 0)) (book.options setting)) ∙ one_listed (values setting) (book.once setting)

  positionals_are : unwrap_or (all_of (codes "command") rows) [] ≡ words
  positionals_are = ap (λ (o : Option (List Text)). unwrap_or o []) book.positionals ∙ all_several words

-- what the rows of a parse mean
abbrev pub Means : List Row → Settings → Type 0
Means rows settings = IsReading (first_of (codes "fuel") rows) (first_of (codes "patience") rows) (unwrap_or (all_of (codes "command") rows) []) settings

start_book : Book [] (λ setting. []) []
start_book = record { options = λ setting. refl; once = λ setting. omega arith; positionals = refl }

-- ---- a line is taken, and read as it is meant

read_line : (words : List Word) (settings : Settings) (line : IsLine words settings) → IsRead [] None idle line.items line.rest (λ setting. []) []
read_line words settings line =
    complete line.items line.rest (line_fits line.items line.rest (λ setting. (form setting).limit) (λ setting. (form setting).kept settings) line.options line.undashed)
    [] None idle tt refl (λ setting. []) [] start_book (λ setting. sets_once (form setting).limit (given setting line.items) ((form setting).kept settings) (line.options setting))

pub line_taken : (words : List Word) (settings : Settings) → IsLine words settings → fault_of line_app words ≡ []
line_taken words settings line = fault_is words ∙ ap (total start) line.spelled ∙ (read_line words settings line).clear

pub line_means : (words : List Word) (settings : Settings) → IsLine words settings → Means (matches_of line_app words) settings
line_means words settings line =
    let book = (read_line words settings line).book in
    let rows = final start (line_words line.items line.rest) in
    let values = λ (setting : Setting). given setting line.items in
    let places = positionals line.items line.rest in
    subst (λ (rs : List Row). Means rs settings) (sym (matches_are words ∙ ap (final start) line.spelled)) (record {
      fuel = subst (λ (l : List Word). Sets (form Fuel).limit l settings.fuel) (sym (option_is rows values places book Fuel)) (line.options Fuel);
      patience = subst (λ (l : List Word). Sets (form Patience).limit l settings.patience) (sym (option_is rows values places book Patience)) (line.options Patience);
      command = subst (Names settings.command) (sym (positionals_are rows values places book)) line.command;
    })

-- ---- what is taken, and means something, is a line

live_undashed : (live : Bool) → list_all is_positional (live_words live) ≡ true
live_undashed true = refl
live_undashed false = refl

names_undashed : (command : Command) (words : List Word) → Names command words → list_all is_positional words ≡ true
names_undashed (Demo number live) words (decimal, spelled, value, small) =
    ap (list_all is_positional) spelled ∙ ap (λ (b : Bool). b && list_all is_positional (live_words live)) (decimal_undashed decimal number value) ∙ live_undashed live
names_undashed command words named = ap (list_all is_positional) named

pub meant_line : (words : List Word) (settings : Settings) → fault_of line_app words ≡ [] → Means (matches_of line_app words) settings → IsLine words settings
meant_line words settings clear means =
    let parts = sound (length words) words (omega arith) [] None idle tt (sym (fault_is words) ∙ clear) in
    let rows = final start words in
    let values = λ (setting : Setting). given setting parts.items in
    let places = positionals parts.items parts.rest in
    let book : Book rows values places = parts.books (λ setting. []) [] start_book in
    let meant = subst (λ (rs : List Row). Means rs settings) (matches_are words) means in
    let named : Names settings.command places = subst (Names settings.command) (positionals_are rows values places book) meant.command in
    record {
      items = parts.items;
      rest = parts.rest;
      spelled = parts.spelled;
      options = λ setting. elim setting as (λ s. Sets (form s).limit (given s parts.items) ((form s).kept settings)) [
        | Fuel ↦ subst (λ (l : List Word). Sets (form Fuel).limit l settings.fuel) (option_is rows values places book Fuel) meant.fuel
        | Patience ↦ subst (λ (l : List Word). Sets (form Patience).limit l settings.patience) (option_is rows values places book Patience) meant.patience
      ];
      undashed = names_undashed settings.command places named;
      command = named;
    }

-- ---- answers

answers_same : {T : Type 0} (Fits Others : T → Type 0) (result : Result T Refusal) → ((value : T) → Fits value → Others value) → ((value : T) → Others value → Fits value)
    → Answers Fits result → Answers Others result
answers_same Fits Others (Ok value) there back h = there value h
answers_same Fits Others (Err Usage) there back h = λ value fits. h value (back value fits)
answers_same Fits Others (Err NoMemory) there back h = tt

-- the answer where `clap` takes the words
pub answer_of_taken : (words : List Word) (rows : List Row) (fuel_word patience_word : Option Word) (places : List Word) (result : Result Settings Refusal)
    → fault_of line_app words ≡ [] → rows ≡ matches_of line_app words → fuel_word ≡ first_of (codes "fuel") rows → patience_word ≡ first_of (codes "patience") rows
    → places ≡ unwrap_or (all_of (codes "command") rows) [] → Answers (IsReading fuel_word patience_word places) result → Answers (IsLine words) result
answer_of_taken words rows fuel_word patience_word places result clear rows_are fuel_is patience_is places_are h =
    let read : Answers (Means rows) result
    = subst (λ (o : Option Word). Answers (IsReading o (first_of (codes "patience") rows) (unwrap_or (all_of (codes "command") rows) [])) result) fuel_is
    (subst (λ (o : Option Word). Answers (IsReading fuel_word o (unwrap_or (all_of (codes "command") rows) [])) result) patience_is
    (subst (λ (l : List Word). Answers (IsReading fuel_word patience_word l) result) places_are h)) in
    answers_same (Means (matches_of line_app words)) (IsLine words) result (λ settings. meant_line words settings clear) (λ settings. line_means words settings)
    (subst (λ (rs : List Row). Answers (Means rs) result) rows_are read)

-- the values of the positionals, of which there may be none
pub places_are : (found : Option (Bor (List (Bor Word)))) (places : Bor (List (Bor Word))) (all : Option (List Word)) → option_map (λ (s : Bor (List (Bor Word))). map (λ word. word.now) s.now) found ≡ all
    → UnwrapsOrElse found (λ s. s.now ≡ []) places → map (λ word. word.now) places.now ≡ unwrap_or all []
places_are None places all read none = ap (map (λ (word : Bor Word). word.now)) none ∙ ap (λ (o : Option (List Word)). unwrap_or o []) read
places_are (Some some) places all read same = ap (λ (s : Bor (List (Bor Word))). map (λ word. word.now) s.now) same ∙ ap (λ (o : Option (List Word)). unwrap_or o []) read

-- the answer where it refuses them
pub answer_of_refused : (words : List Word) (kind : ErrorKind) (refusal : Refusal) → (refusal ≡ NoMemory) ↔ (kind ≡ OutOfMemory)
    → (kind ≡ OutOfMemory) ⊎ IsAmong kind (fault_of line_app words) → Answers {T = Settings} (IsLine words) (Err refusal)
answer_of_refused words kind NoMemory memory why = tt
answer_of_refused words kind Usage memory (inl out) = λ settings line. let wrong = memory.1 out in absurd (cc)
answer_of_refused words kind Usage memory (inr among) = λ settings line. subst (IsAmong kind) (line_taken words settings line) among
