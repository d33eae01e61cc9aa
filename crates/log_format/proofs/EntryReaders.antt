-- The readers of the fields of an entry, of tags and of entries.
use Rattle.std.proofs.Common.{◌≡◌, ℕ, ◌≤◌, eqb, cond, ◌⊎◌, List, [], ◌∷◌, ◌++◌, Option, Some, None, Result, Ok, Err, refl, sym, ap, subst, ◌∙◌, arith, inl, inr}
use Rattle.std.proofs.lemmas.Bool.{eqb-true}
use Rattle.std.proofs.lemmas.List.{append-nil}
use Rattle.interleavings.specs.declared.event.LogEntry.{LogEntry}
use Rattle.interleavings.specs.declared.event.LogEntry.TheVariants.{Read, Write, Update, Enter}
use Rattle.log_format.specs.declared.entries.Kind.{Kind}
use Rattle.log_format.specs.declared.entries.Kind.TheVariants as kinds
use Rattle.log_format.specs.declared.fault.Fault.{Fault}
use Rattle.log_format.specs.declared.format_error.FormatKind.TheVariants.{BadTag}
use Rattle.log_format.specs.declared.version.Size.TheVariants.{Bits32, Bits64}
use Rattle.log_format.specs.declared.version.Version.{Version}
use Rattle.log_format.specs.declared.version.Version.TheVariants.{One, Two}
use Rattle.log_format.specs.Bundles.{HasUpdates}
use Rattle.log_format.specs.Laws.{IsUnfinished}
use Rattle.log_format.specs.Reading.{◌>>=◌, fault, byte_at, number_at, bound_at, read_at, write_at, enter_at, update_at, fourth_kind, kind_of, known, kind_at, fields_at, entry_at}
use Rattle.log_format.specs.Spelling.{greatest, number_bytes, bound_bytes, entry_bytes}
use Rattle.log_format.proofs.NumberReaders.{IsByte, IsNumber, a_number, byte_reads, byte_unfinished, none_unfinished, number_begins, number_reads}
use Rattle.log_format.proofs.Readers.{chosen, ok_is, Reads, Begins, IsSome, begins_as_number, reads_as, begins_as, IsDone, reads_done, begins_done, Joined, reads_then, begins_then, Judged, reads_judged, unfinished_judged}
use Rattle.log_format.proofs.BoundReaders.{BoundFits, IsBound, a_bound, bound_begins, bound_reads}

-- ---- the fields of an entry

-- each number is one of its size
abbrev pub NumbersFit : Version → ℕ → LogEntry → Type 0
NumbersFit version before (Read bound value) = (value ≤ greatest Bits64) × BoundFits version before bound
NumbersFit version before (Write number) = number ≤ greatest Bits32
NumbersFit version before (Update number old) = (old ≤ greatest Bits64) × (number ≤ greatest Bits32)
NumbersFit version before (Enter turn) = turn ≤ greatest Bits32

-- the kind of an entry
abbrev pub kind_for : LogEntry → Kind
kind_for (Read bound value) = kinds.Read
kind_for (Write number) = kinds.Write
kind_for (Update number old) = kinds.Update
kind_for (Enter turn) = kinds.Enter

-- the bytes of its fields
abbrev fields_bytes : Version → ℕ → LogEntry → List ℕ
fields_bytes version before (Read bound value) = number_bytes version Bits64 value ++ bound_bytes version before bound
fields_bytes version before (Write number) = number_bytes version Bits32 number
fields_bytes version before (Update number old) = number_bytes version Bits64 old ++ number_bytes version Bits32 number
fields_bytes version before (Enter turn) = number_bytes version Bits32 turn

-- the text is the fields of an entry of this kind
abbrev IsFields : Version → ℕ → Kind → LogEntry → List ℕ → Type 0
IsFields version before kind entry text = (kind_for entry ≡ kind) × NumbersFit version before entry × (text ≡ fields_bytes version before entry)

-- a last field, and no more
abbrev LastField : {A : Type 0} → (A → List ℕ → Type 0) → (A → LogEntry) → LogEntry → List ℕ → Type 0
LastField Is made = Joined Is (λ x. IsDone (made x))

-- its text
last_text : {A : Type 0} (Is : A → List ℕ → Type 0) (made : A → LogEntry) (spelled : A → List ℕ) → ((x : A) (text : List ℕ) → Is x text → text ≡ spelled x) → (entry : LogEntry) (text : List ℕ) (j : LastField Is made entry text) → text ≡ spelled j.value
last_text Is made spelled is entry text j = j.whole ∙ ap (λ t. j.one ++ t) j.second.1 ∙ append-nil j.one ∙ is j.value j.one j.first

last_field : {A : Type 0} (Is : A → List ℕ → Type 0) (made : A → LogEntry) (x : A) (text : List ℕ) → Is x text → LastField Is made (made x) text
last_field Is made x text is = record { value = x; one = text; two = []; first = is; second = (refl, refl); whole = sym (append-nil text) }

module _ {A : Type 0} (read : List ℕ → Result (A × List ℕ) Fault) (Is : A → List ℕ → Type 0) (made : A → LogEntry) where
  -- the entry that the last field makes
  abbrev lasting : A × List ℕ → Result (LogEntry × List ℕ) Fault
  lasting x = Ok (made x.0, x.1)

  last_reads : Reads read Is → Reads (λ bytes. read bytes >>= lasting) (LastField Is made)
  last_reads reads = reads_then read lasting Is (λ x. IsDone (made x)) reads (λ x. reads_done (made x))

  last_begins : Reads read Is → (Part : List ℕ → Type 0) → Begins read Is Part → Begins (λ bytes. read bytes >>= lasting) (LastField Is made) Part
  last_begins reads Part begins = begins_then read lasting Is (λ x. IsDone (made x)) reads Part begins (λ x text is. begins_done (made x) Part) (λ x text is. record { value = made x; text = []; is = (refl, refl) })

-- what stands after the value of a read: its bound
abbrev AfterValue : Version → ℕ → ℕ → LogEntry → List ℕ → Type 0
AfterValue version before value = LastField (IsBound version before) (λ bound. Read bound value)

-- what stands after the old value of an update: its number
abbrev AfterOld : Version → ℕ → LogEntry → List ℕ → Type 0
AfterOld version old = LastField (IsNumber version Bits32) (λ number. Update number old)

-- the reader of what stands after the value of a read
abbrev after_value : Version → ℕ → ℕ × List ℕ → Result (LogEntry × List ℕ) Fault
after_value version before value = bound_at version before value.1 >>= λ bound. Ok (Read bound.0 value.0, bound.1)

-- the reader of what stands after the old value of an update
abbrev after_old : Version → ℕ × List ℕ → Result (LogEntry × List ℕ) Fault
after_old version old = number_at version Bits32 old.1 >>= λ number. Ok (Update number.0 old.0, number.1)

module _ (version : Version) (before : ℕ) where
  -- the fields of a read
  abbrev IsReadFields : LogEntry → List ℕ → Type 0
  IsReadFields = Joined (IsNumber version Bits64) (AfterValue version before)

  -- the fields of an update
  abbrev IsUpdateFields : LogEntry → List ℕ → Type 0
  IsUpdateFields = Joined (IsNumber version Bits64) (AfterOld version)

  to_read : (entry : LogEntry) (text : List ℕ) → IsReadFields entry text → IsFields version before kinds.Read entry text
  to_read entry text j =
      let behind = last_text (IsBound version before) (λ bound. Read bound j.value) (bound_bytes version before) (λ bound t is. is.1) entry j.two j.second in
      let all : text ≡ number_bytes version Bits64 j.value ++ bound_bytes version before j.second.value = j.whole ∙ ap (λ t. t ++ j.two) j.first.1 ∙ ap (λ t. number_bytes version Bits64 j.value ++ t) behind in
      subst (λ e. IsFields version before kinds.Read e text) (sym j.second.second.0) (refl, (j.first.0, j.second.first.0), all)

  from_read : (entry : LogEntry) (text : List ℕ) → IsFields version before kinds.Read entry text → IsReadFields entry text
  from_read (Read bound value) text is = record {
    value = value;
    one = number_bytes version Bits64 value;
    two = bound_bytes version before bound;
    first = (is.1.0, refl);
    second = last_field (IsBound version before) (λ bound. Read bound value) bound (bound_bytes version before bound) (is.1.1, refl);
    whole = is.2;
  }
  from_read (Write number) text is = (let no = is.0 in absurd cc)
  from_read (Update number old) text is = (let no = is.0 in absurd cc)
  from_read (Enter turn) text is = (let no = is.0 in absurd cc)

  to_write : (entry : LogEntry) (text : List ℕ) → LastField (IsNumber version Bits32) Write entry text → IsFields version before kinds.Write entry text
  to_write entry text j =
      let all = last_text (IsNumber version Bits32) Write (number_bytes version Bits32) (λ n t is. is.1) entry text j in
      subst (λ e. IsFields version before kinds.Write e text) (sym j.second.0) (refl, j.first.0, all)

  from_write : (entry : LogEntry) (text : List ℕ) → IsFields version before kinds.Write entry text → LastField (IsNumber version Bits32) Write entry text
  from_write (Read bound value) text is = (let no = is.0 in absurd cc)
  from_write (Write number) text is = last_field (IsNumber version Bits32) Write number text (is.1, is.2)
  from_write (Update number old) text is = (let no = is.0 in absurd cc)
  from_write (Enter turn) text is = (let no = is.0 in absurd cc)

  to_enter : (entry : LogEntry) (text : List ℕ) → LastField (IsNumber version Bits32) Enter entry text → IsFields version before kinds.Enter entry text
  to_enter entry text j =
      let all = last_text (IsNumber version Bits32) Enter (number_bytes version Bits32) (λ n t is. is.1) entry text j in
      subst (λ e. IsFields version before kinds.Enter e text) (sym j.second.0) (refl, j.first.0, all)

  from_enter : (entry : LogEntry) (text : List ℕ) → IsFields version before kinds.Enter entry text → LastField (IsNumber version Bits32) Enter entry text
  from_enter (Read bound value) text is = (let no = is.0 in absurd cc)
  from_enter (Write number) text is = (let no = is.0 in absurd cc)
  from_enter (Update number old) text is = (let no = is.0 in absurd cc)
  from_enter (Enter turn) text is = last_field (IsNumber version Bits32) Enter turn text (is.1, is.2)

  to_update : (entry : LogEntry) (text : List ℕ) → IsUpdateFields entry text → IsFields version before kinds.Update entry text
  to_update entry text j =
      let behind = last_text (IsNumber version Bits32) (λ number. Update number j.value) (number_bytes version Bits32) (λ n t is. is.1) entry j.two j.second in
      let all : text ≡ number_bytes version Bits64 j.value ++ number_bytes version Bits32 j.second.value = j.whole ∙ ap (λ t. t ++ j.two) j.first.1 ∙ ap (λ t. number_bytes version Bits64 j.value ++ t) behind in
      subst (λ e. IsFields version before kinds.Update e text) (sym j.second.second.0) (refl, (j.first.0, j.second.first.0), all)

  from_update : (entry : LogEntry) (text : List ℕ) → IsFields version before kinds.Update entry text → IsUpdateFields entry text
  from_update (Read bound value) text is = (let no = is.0 in absurd cc)
  from_update (Write number) text is = (let no = is.0 in absurd cc)
  from_update (Update number old) text is = record {
    value = old;
    one = number_bytes version Bits64 old;
    two = number_bytes version Bits32 number;
    first = (is.1.0, refl);
    second = last_field (IsNumber version Bits32) (λ number. Update number old) number (number_bytes version Bits32 number) (is.1.1, refl);
    whole = is.2;
  }
  from_update (Enter turn) text is = (let no = is.0 in absurd cc)

  fields_reads : (kind : Kind) → Reads (fields_at version before kind) (IsFields version before kind)
  unfolding fields_at read_at write_at enter_at update_at
  fields_reads kinds.Read =
      reads_as (read_at version before) IsReadFields (IsFields version before kinds.Read) to_read from_read
      (reads_then (number_at version Bits64) (after_value version before) (IsNumber version Bits64) (AfterValue version before) (number_reads version Bits64)
      (λ value. last_reads (bound_at version before) (IsBound version before) (λ bound. Read bound value) (bound_reads version before)))
  fields_reads kinds.Write =
      reads_as (write_at version) (LastField (IsNumber version Bits32) Write) (IsFields version before kinds.Write) to_write from_write (last_reads (number_at version Bits32) (IsNumber version Bits32) Write (number_reads version Bits32))
  fields_reads kinds.Enter =
      reads_as (enter_at version) (LastField (IsNumber version Bits32) Enter) (IsFields version before kinds.Enter) to_enter from_enter (last_reads (number_at version Bits32) (IsNumber version Bits32) Enter (number_reads version Bits32))
  fields_reads kinds.Update =
      reads_as (update_at version) IsUpdateFields (IsFields version before kinds.Update) to_update from_update
      (reads_then (number_at version Bits64) (after_old version) (IsNumber version Bits64) (AfterOld version) (number_reads version Bits64)
      (λ old. last_reads (number_at version Bits32) (IsNumber version Bits32) (λ number. Update number old) (number_reads version Bits32)))

  module _ (low : before ≤ greatest Bits32) where
    fields_begin : (kind : Kind) → Begins (fields_at version before kind) (IsFields version before kind) (IsUnfinished version)
    unfolding fields_at read_at write_at enter_at update_at
    fields_begin kinds.Read =
        begins_as (read_at version before) IsReadFields (IsFields version before kinds.Read) to_read (IsUnfinished version)
        (begins_then (number_at version Bits64) (after_value version before) (IsNumber version Bits64) (AfterValue version before) (number_reads version Bits64) (IsUnfinished version) (number_begins version Bits64)
        (λ value text is. last_begins (bound_at version before) (IsBound version before) (λ bound. Read bound value) (bound_reads version before) (IsUnfinished version) (bound_begins version before low))
        (λ value text is. (let a = a_bound version before low in record { value = Read a.value value; text = a.text; is = last_field (IsBound version before) (λ bound. Read bound value) a.value a.text a.is })))
    fields_begin kinds.Write =
        begins_as (write_at version) (LastField (IsNumber version Bits32) Write) (IsFields version before kinds.Write) to_write (IsUnfinished version)
        (last_begins (number_at version Bits32) (IsNumber version Bits32) Write (number_reads version Bits32) (IsUnfinished version) (number_begins version Bits32))
    fields_begin kinds.Enter =
        begins_as (enter_at version) (LastField (IsNumber version Bits32) Enter) (IsFields version before kinds.Enter) to_enter (IsUnfinished version)
        (last_begins (number_at version Bits32) (IsNumber version Bits32) Enter (number_reads version Bits32) (IsUnfinished version) (number_begins version Bits32))
    fields_begin kinds.Update =
        begins_as (update_at version) IsUpdateFields (IsFields version before kinds.Update) to_update (IsUnfinished version)
        (begins_then (number_at version Bits64) (after_old version) (IsNumber version Bits64) (AfterOld version) (number_reads version Bits64) (IsUnfinished version) (number_begins version Bits64)
        (λ old text is. last_begins (number_at version Bits32) (IsNumber version Bits32) (λ number. Update number old) (number_reads version Bits32) (IsUnfinished version) (number_begins version Bits32))
        (λ old text is. (let a = a_number version Bits32 in record { value = Update a.value old; text = a.text; is = last_field (IsNumber version Bits32) (λ number. Update number old) a.value a.text a.is })))

    -- some fields of each kind
    some_fields : (kind : Kind) → IsSome (IsFields version before kind)
    some_fields kinds.Read =
        let a = a_bound version before low in
        record { value = Read a.value 0; text = number_bytes version Bits64 0 ++ bound_bytes version before a.value; is = (refl, (omega arith, a.is.0), refl) }
    some_fields kinds.Write = record { value = Write 0; text = number_bytes version Bits32 0; is = (refl, omega arith, refl) }
    some_fields kinds.Enter = record { value = Enter 0; text = number_bytes version Bits32 0; is = (refl, omega arith, refl) }
    some_fields kinds.Update = record { value = Update 0 0; text = number_bytes version Bits64 0 ++ number_bytes version Bits32 0; is = (refl, (omega arith, omega arith), refl) }

-- ---- tags

-- the tag of a kind
abbrev tag_of : Kind → ℕ
tag_of kinds.Read = 1
tag_of kinds.Write = 2
tag_of kinds.Enter = 3
tag_of kinds.Update = 4

-- the version has entries of this kind
abbrev pub HasKind : Version → Kind → Type 0
HasKind version kinds.Read = Unit {0}
HasKind version kinds.Write = Unit {0}
HasKind version kinds.Enter = Unit {0}
HasKind version kinds.Update = HasUpdates version

-- the text is the tag of a kind that the version has
abbrev IsKind : Version → Kind → List ℕ → Type 0
IsKind version kind text = HasKind version kind × (text ≡ tag_of kind ∷ [])

fourth_takes : (version : Version) (kind : Kind) → fourth_kind version ≡ Some kind → (kind ≡ kinds.Update) × HasUpdates version
fourth_takes One kind e = absurd cc
fourth_takes Two kind e = (let same : kind ≡ kinds.Update = cc in same, tt)

some_is : (x y : Kind) (o : Option Kind) → o ≡ Some x → o ≡ Some y → x ≡ y
some_is x y o e f = cc

-- the kind of a tag that is neither 1 nor 2
abbrev past_two : Version → ℕ → Option Kind
past_two version tag = cond (eqb tag 3) (Some kinds.Enter) (cond (eqb tag 4) (fourth_kind version) None)

-- the kind of a tag that is not 1
abbrev past_one : Version → ℕ → Option Kind
past_one version tag = cond (eqb tag 2) (Some kinds.Write) (past_two version tag)

-- the kind that a tag stands for has this tag
abbrev Tagged : Version → ℕ → Kind → Type 0
Tagged version tag kind = HasKind version kind × (tag ≡ tag_of kind)

kind_takes : (version : Version) (tag : ℕ) (kind : Kind) → kind_of version tag ≡ Some kind → Tagged version tag kind
kind_takes version tag kind e =
    elim (chosen (eqb tag 1) (Some kinds.Read) (past_one version tag) (Some kind) e) [
      | inl one ↦ subst (Tagged version tag) (some_is kinds.Read kind (Some kinds.Read) refl one.1) (tt, eqb-true _ _ one.0)
      | inr others ↦ elim (chosen (eqb tag 2) (Some kinds.Write) (past_two version tag) (Some kind) others.1) [
        | inl two ↦ subst (Tagged version tag) (some_is kinds.Write kind (Some kinds.Write) refl two.1) (tt, eqb-true _ _ two.0)
        | inr others ↦ elim (chosen (eqb tag 3) (Some kinds.Enter) (cond (eqb tag 4) (fourth_kind version) None) (Some kind) others.1) [
          | inl three ↦ subst (Tagged version tag) (some_is kinds.Enter kind (Some kinds.Enter) refl three.1) (tt, eqb-true _ _ three.0)
          | inr others ↦ elim (chosen (eqb tag 4) (fourth_kind version) None (Some kind) others.1) [
            | inl four ↦ (let f = fourth_takes version kind four.1 in subst (Tagged version tag) (sym f.0) (f.1, eqb-true _ _ four.0))
            | inr none ↦ (let no = none.1 in absurd cc)
          ]
        ]
      ]
    ]

kind_again : (version : Version) (kind : Kind) → HasKind version kind → kind_of version (tag_of kind) ≡ Some kind
kind_again version kinds.Read has = refl
kind_again version kinds.Write has = refl
kind_again version kinds.Enter has = refl
kind_again One kinds.Update has = absurd has
kind_again Two kinds.Update has = refl

-- the kind by a tag that was read
abbrev by_tag : Version → ℕ → List ℕ → List ℕ → Result (Kind × List ℕ) Fault
by_tag version tag bytes rest = known (kind_of version tag) bytes rest

known_some : (o : Option Kind) (kind : Kind) → known o [] [] ≡ Ok (kind, []) → o ≡ Some kind
known_some (Some k) kind e = ap (λ (p : Kind × List ℕ). Some p.0) (ok_is (k, []) (kind, []) e)
known_some None kind e = absurd cc

known_verdict : (o : Option Kind) → ((bytes rest : List ℕ) → known o bytes rest ≡ Err (fault BadTag bytes)) ⊎ ((y : Kind) × ((bytes rest : List ℕ) → known o bytes rest ≡ Ok (y, rest)))
known_verdict (Some k) = inr (k, λ bytes rest. refl)
known_verdict None = inl (λ bytes rest. refl)

to_kind : (version : Version) (kind : Kind) (text : List ℕ) → Judged IsByte (by_tag version) kind text → IsKind version kind text
to_kind version kind text j =
    let t = kind_takes version j.value kind (known_some (kind_of version j.value) kind (j.passes [] [])) in
    (t.0, j.is ∙ ap (λ b. b ∷ []) t.1)

from_kind : (version : Version) (kind : Kind) (text : List ℕ) → IsKind version kind text → Judged IsByte (by_tag version) kind text
from_kind version kind text is = record { value = tag_of kind; is = is.1; passes = λ bytes rest. ap (λ o. known o bytes rest) (kind_again version kind is.0) }

kind_reads : (version : Version) → Reads (kind_at version) (IsKind version)
unfolding kind_at
kind_reads version =
    reads_as (kind_at version) (Judged IsByte (by_tag version)) (IsKind version) (to_kind version) (from_kind version) (reads_judged byte_at (by_tag version) IsByte BadTag tt (λ tag. known_verdict (kind_of version tag)) refl byte_reads)

kind_begins : (version : Version) → Begins (kind_at version) (IsKind version) (IsUnfinished version)
unfolding kind_at
kind_begins version =
    begins_as_number (kind_at version) (IsKind version) (IsUnfinished version) (record { value = kinds.Write; text = 2 ∷ []; is = (tt, refl) }) (omega arith)
    (unfinished_judged byte_at (by_tag version) IsByte BadTag tt (λ tag. known_verdict (kind_of version tag)) (IsUnfinished version) (byte_unfinished (IsUnfinished version) (none_unfinished version)))

-- ---- one entry

-- the version has entries of its kind, and its numbers fit
abbrev pub EntryFits : Version → ℕ → LogEntry → Type 0
EntryFits version before entry = HasKind version (kind_for entry) × NumbersFit version before entry

-- the text is the bytes of an entry that fits
abbrev pub IsEntry : Version → ℕ → LogEntry → List ℕ → Type 0
IsEntry version before entry text = EntryFits version before entry × (text ≡ entry_bytes version before entry)

entry_is : (version : Version) (before : ℕ) (entry : LogEntry) → tag_of (kind_for entry) ∷ fields_bytes version before entry ≡ entry_bytes version before entry
entry_is version before (Read bound value) = refl
entry_is version before (Write number) = refl
entry_is version before (Update number old) = refl
entry_is version before (Enter turn) = refl

to_entry : (version : Version) (before : ℕ) (entry : LogEntry) (text : List ℕ) → Joined (IsKind version) (IsFields version before) entry text → IsEntry version before entry text
to_entry version before entry text j = (
  (subst (HasKind version) (sym j.second.0) j.first.0, j.second.1),
  j.whole ∙ ap (λ t. t ++ j.two) j.first.1 ∙ ap (λ t. tag_of j.value ∷ t) j.second.2 ∙ ap (λ k. tag_of k ∷ fields_bytes version before entry) (sym j.second.0) ∙ entry_is version before entry,
)

from_entry : (version : Version) (before : ℕ) (entry : LogEntry) (text : List ℕ) → IsEntry version before entry text → Joined (IsKind version) (IsFields version before) entry text
from_entry version before entry text is = record {
  value = kind_for entry;
  one = tag_of (kind_for entry) ∷ [];
  two = fields_bytes version before entry;
  first = (is.0.0, refl);
  second = (refl, is.0.1, refl);
  whole = is.1 ∙ sym (entry_is version before entry);
}

-- the reader of the fields after a tag
abbrev next_fields : Version → ℕ → Kind × List ℕ → Result (LogEntry × List ℕ) Fault
next_fields version before kind = fields_at version before kind.0 kind.1

pub entry_reads : (version : Version) (before : ℕ) → Reads (entry_at version before) (IsEntry version before)
unfolding entry_at
entry_reads version before =
    reads_as (entry_at version before) (Joined (IsKind version) (IsFields version before)) (IsEntry version before) (to_entry version before) (from_entry version before)
    (reads_then (kind_at version) (next_fields version before) (IsKind version) (IsFields version before) (kind_reads version) (fields_reads version before))

pub entry_begins : (version : Version) (before : ℕ) → before ≤ greatest Bits32 → Begins (entry_at version before) (IsEntry version before) (IsUnfinished version)
unfolding entry_at
entry_begins version before low =
    begins_as (entry_at version before) (Joined (IsKind version) (IsFields version before)) (IsEntry version before) (to_entry version before) (IsUnfinished version)
    (begins_then (kind_at version) (next_fields version before) (IsKind version) (IsFields version before) (kind_reads version) (IsUnfinished version) (kind_begins version)
    (λ kind text is. fields_begin version before low kind) (λ kind text is. some_fields version before low kind))
