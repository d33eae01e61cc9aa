-- The laws of bundles.
use Rattle.std.proofs.Common.{◌≡◌, ℕ, ◌-◌, ◌+◌, ◌<◌, ◌≤◌, cond, eqb, get_or, List, [], ◌++◌, length, take, Result, Ok, Err, refl, sym, ap, subst, ◌∙◌, append_assoc, arith, inl, inr, length-append}
use Rattle.std.specs.Prelude.{IfOk}
use Rattle.std.proofs.lemmas.Bool.{eqb-true, ne_eqb}
use Rattle.std.proofs.lemmas.List.{append-nil, nil_from_length}
use Rattle.std.proofs.Math.Seq.{take-append_seam}
use Rattle.log_format.specs.declared.bundle.Bundle.{Bundle}
use Rattle.log_format.specs.declared.fault.Fault.{Fault}
use Rattle.log_format.specs.declared.fault.ReadError.{ReadError}
use Rattle.log_format.specs.declared.fault.ReadError.TheVariants as inside
use Rattle.log_format.specs.declared.format_error.FormatError.{FormatError}
use Rattle.log_format.specs.declared.format_error.FormatKind.{FormatKind}
use Rattle.log_format.specs.declared.format_error.FormatKind.TheVariants.{Short, Long}
use Rattle.log_format.specs.declared.version.Version.{Version}
use Rattle.log_format.specs.declared.version.Version.TheVariants.{One, Two}
use Rattle.log_format.specs.Answers.{Fails, IsAnswer, IsInside}
use Rattle.log_format.specs.Bundles.{Bundled, bundled, IsBytes, IsInRange}
use Rattle.log_format.specs.Laws.{IsSpelled, IsBegun, IsUnfinished, TellsWrong, SpellingIsRead, ReadIsSpelled, NoSpellingBeginsAnother, CutIsShort, MoreIsLong, NothingWrongBefore, WrongStaysWrong, ShortIsBegun}
use Rattle.log_format.specs.Reading.{◌>>=◌, Refusal, short, fault, magic_at, body_at, bundle_at, placed, reading}
use Rattle.log_format.specs.Spelling.{body_bytes, digit, magic, spelling}
use Rattle.log_format.proofs.Bytes.{IsBytes-after}
use Rattle.log_format.proofs.BodyReaders.{IsBody, a_body, body_begins, body_reads}
use Rattle.log_format.proofs.NumberReaders.{IsMagic, magic_begins, magic_reads, none_unfinished, not_empty}
use Rattle.log_format.proofs.Readers.{chosen, given, failed, ok_is, err_is, ok_fails, moved, IsWrong, Joined, Reads, reads_then}

-- ---- a bundle and the bytes after it

-- the reader of what stands after the magic bytes
abbrev after_magic : Version × List ℕ → Result (Bundled × List ℕ) Fault
after_magic version = body_at version.0 version.1

-- a bundle at the front
abbrev parts_at : List ℕ → Result (Bundled × List ℕ) Fault
parts_at bytes = magic_at bytes >>= after_magic

-- the magic bytes, and what stands after them
abbrev IsParts : Bundled → List ℕ → Type 0
IsParts = Joined IsMagic IsBody

parts_read : Reads parts_at IsParts
parts_read = reads_then magic_at after_magic IsMagic IsBody magic_reads body_reads

-- the end is wanted after it
abbrev ended : Bundled × List ℕ → Result Bundled Fault
ended bundle = cond (eqb (length bundle.1) 0) (Ok bundle.0) (Err (fault Long bundle.1))

three : {A B X : Type 0} (r : Result A Fault) (f : A → Result B Fault) (g : B → Result X Fault) → (r >>= λ x. f x >>= g) ≡ ((r >>= f) >>= g)
three (Ok x) f g = refl
three (Err d) f g = refl

bundle_is : (bytes : List ℕ) → bundle_at bytes ≡ (parts_at bytes >>= ended)
unfolding bundle_at
bundle_is bytes = three (magic_at bytes) after_magic ended

-- ---- what is spelled is read again

is_parts : (version : Version) (bundle : Bundled) → IsInRange version bundle → IsParts bundle (spelling version bundle)
is_parts version bundle fits = record { value = version; one = magic version; two = body_bytes version bundle; first = refl; second = (fits, refl); whole = refl }

parts_again : (version : Version) (bundle : Bundled) (more : List ℕ) → IsInRange version bundle → parts_at (spelling version bundle ++ more) ≡ Ok (bundle, more)
parts_again version bundle more fits = parts_read.again bundle (spelling version bundle) more (is_parts version bundle fits)

bundle_again : (version : Version) (bundle : Bundled) (more : List ℕ) → IsInRange version bundle → bundle_at (spelling version bundle ++ more) ≡ ended (bundle, more)
bundle_again version bundle more fits = bundle_is (spelling version bundle ++ more) ∙ ap (λ (r : Result (Bundled × List ℕ) Fault). r >>= ended) (parts_again version bundle more fits)

parts_whole : (version : Version) (bundle : Bundled) → IsInRange version bundle → parts_at (spelling version bundle) ≡ Ok (bundle, [])
parts_whole version bundle fits = ap parts_at (sym (append-nil (spelling version bundle))) ∙ parts_again version bundle [] fits

bundle_whole : (version : Version) (bundle : Bundled) → IsInRange version bundle → bundle_at (spelling version bundle) ≡ Ok bundle
bundle_whole version bundle fits = ap bundle_at (sym (append-nil (spelling version bundle))) ∙ bundle_again version bundle [] fits

pub spelling_is_read : SpellingIsRead
spelling_is_read version bundle fits = ap (placed (length (spelling version bundle))) (bundle_whole version bundle fits)

-- a refusal at a place
abbrev refused : FormatKind → ℕ → Result Bundled Refusal
refused kind offset = Err (record { kind = kind; offset = offset })

pub more_is_long : MoreIsLong
more_is_long version bundle more fits there =
    let text = spelling version bundle in
    let size : length (text ++ more) - length more ≡ length text = omega (arith, length-append text more) in
    let long : ended (bundle, more) ≡ failed (fault Long more) = ap (λ b. cond b (given bundle) (failed (fault Long more))) (ne_eqb (length more) 0 (λ e. there (nil_from_length more e))) in
    ap (placed (length (text ++ more))) (bundle_again version bundle more fits ∙ long) ∙ ap (refused Long) size

-- ---- what is read is spelled so

-- a whole bundle has nothing after it
ended_whole : (x : Bundled × List ℕ) (bundle : Bundled) → ended x ≡ given bundle → (x.1 ≡ []) × (x.0 ≡ bundle)
ended_whole x bundle e =
    elim (chosen (eqb (length x.1) 0) (given x.0) (failed (fault Long x.1)) (given bundle) e) [
      | inl whole ↦ (nil_from_length x.1 (eqb-true _ _ whole.0), ok_is x.0 bundle whole.1)
      | inr long ↦ absurd (ok_fails bundle (fault Long x.1) (sym long.1))
    ]

-- by what was read
bundle_takes : (bytes : List ℕ) (bundle : Bundled) → IsBytes bytes → (r : Result (Bundled × List ℕ) Fault) → parts_at bytes ≡ r → (r >>= ended) ≡ Ok bundle → IsSpelled bytes bundle
bundle_takes bytes bundle fits (Err d) e is = absurd (ok_fails bundle d (sym is))
bundle_takes bytes bundle fits (Ok x) e is =
    let w = ended_whole x bundle is in
    let t = parts_read.takes bytes x.0 x.1 fits e in
    let j = t.is in
    let text : t.text ≡ spelling j.value x.0 = j.whole ∙ ap (λ o. o ++ j.two) j.first ∙ ap (λ o. magic j.value ++ o) j.second.1 in
    let all : bytes ≡ spelling j.value x.0 = t.whole ∙ ap (λ rest. t.text ++ rest) w.0 ∙ append-nil t.text ∙ text in
    subst (λ b. IsSpelled bytes b) w.1 (j.value, (j.second.0, all))

-- what reads as a bundle is a bundle without a fault
unplaced : (size : ℕ) (r : Result Bundled Fault) (bundle : Bundled) → placed size r ≡ Ok bundle → r ≡ Ok bundle
unplaced size (Ok found) bundle e = (let same : found ≡ bundle = cc in ap (λ (b : Bundled). Ok b) same)
unplaced size (Err wrong) bundle e = absurd cc

pub read_is_spelled : ReadIsSpelled
read_is_spelled bytes bundle fits e = bundle_takes bytes bundle fits (parts_at bytes) refl (sym (bundle_is bytes) ∙ unplaced (length bytes) (bundle_at bytes) bundle e)

-- the digits of the versions differ
one_digit : (one other : Version) → digit one ≡ digit other → one ≡ other
one_digit One One e = refl
one_digit One Two e = absurd (omega (arith, e))
one_digit Two One e = absurd (omega (arith, e))
one_digit Two Two e = refl

pub no_spelling_begins_another : NoSpellingBeginsAnother
no_spelling_begins_another one other first second more fits others e =
    let same : (first, more) ≡ (second, []) = ok_is (first, more) (second, []) (sym (parts_again one first more fits) ∙ ap parts_at e ∙ parts_whole other second others) in
    let whole : magic one ++ (body_bytes one first ++ more) ≡ magic other ++ body_bytes other second = sym (append_assoc (magic one) (body_bytes one first) more) ∙ e in
    (ap (λ (p : Bundled × List ℕ). p.1) same, ap (λ (p : Bundled × List ℕ). p.0) same, one_digit one other (ap (λ (bytes : List ℕ). get_or bytes 6 0) whole))

-- ---- cuts

short_at_its_length : (bytes : List ℕ) → bundle_at bytes ≡ Err short → reading bytes ≡ refused Short (length bytes)
short_at_its_length bytes few =
    let all : length bytes - 0 ≡ length bytes = omega arith in
    ap (placed (length bytes)) few ∙ ap (refused Short) all

none_behind : (rest back : List ℕ) → rest ++ back ≡ [] → back ≡ []
none_behind rest back e = nil_from_length back (omega (arith, ap length e, length-append rest back))

-- by what is read of the front
cut_by : (version : Version) (bundle : Bundled) (front back : List ℕ) → IsInRange version bundle → front ++ back ≡ spelling version bundle → ¬ (back ≡ []) → (r : Result (Bundled × List ℕ) Fault) → parts_at front ≡ r → r ≡ Err short
cut_by version bundle front back fits whole some (Ok x) e =
    let l = parts_read.leaves front x.0 x.1 e in
    let on : parts_at (front ++ back) ≡ given (x.0, x.1 ++ back) = ap parts_at (ap (λ f. f ++ back) l.whole ∙ append_assoc l.used x.1 back) ∙ l.again (x.1 ++ back) in
    let same = ok_is (x.0, x.1 ++ back) (bundle, []) (sym on ∙ ap parts_at whole ∙ parts_whole version bundle fits) in
    absurd (some (none_behind x.1 back (ap (λ (p : Bundled × List ℕ). p.1) same)))
cut_by version bundle front back fits whole some (Err wrong) e =
    elim (parts_read.stops front wrong e) [
      | inl few ↦ ap (λ (w : Fault). failed w) few
      | inr w ↦ absurd (ok_fails (bundle, []) (moved back wrong) (sym (parts_whole version bundle fits) ∙ sym (ap parts_at whole) ∙ w.stays back))
    ]

pub cut_is_short : CutIsShort
cut_is_short version bundle front back fits whole some =
    let few = cut_by version bundle front back fits whole some (parts_at front) refl in
    short_at_its_length front (bundle_is front ∙ ap (λ (r : Result (Bundled × List ℕ) Fault). r >>= ended) few)

-- ---- wrong bytes

refusal_is : (one other : Refusal) (e : refused one.kind one.offset ≡ refused other.kind other.offset) → (one.kind ≡ other.kind) × (one.offset ≡ other.offset)
refusal_is one other e = (let kinds : one.kind ≡ other.kind = cc in let offsets : one.offset ≡ other.offset = cc in (kinds, offsets))

-- a fault of a bundle is one of its parts, or bytes stand after it
data Stopped (bytes : List ℕ) (wrong : Fault) : Type 0 where
  At_end : (few : wrong ≡ short) → Stopped bytes wrong
  At_wrong : (is : IsWrong parts_at bytes wrong) → Stopped bytes wrong
  At_more : (x : Bundled × List ℕ) (is : parts_at bytes ≡ Ok x) (long : fault Long x.1 ≡ wrong) → Stopped bytes wrong

stopped_by : (bytes : List ℕ) (wrong : Fault) (r : Result (Bundled × List ℕ) Fault) → parts_at bytes ≡ r → (r >>= ended) ≡ Err wrong → Stopped bytes wrong
stopped_by bytes wrong (Err d) e is =
    elim (parts_read.stops bytes wrong (e ∙ ap (λ (w : Fault). failed w) (err_is d wrong is))) [
      | inl few ↦ At_end few
      | inr w ↦ At_wrong w
    ]
stopped_by bytes wrong (Ok x) e is =
    elim (chosen (eqb (length x.1) 0) (given x.0) (failed (fault Long x.1)) (failed wrong) is) [
      | inl whole ↦ absurd (ok_fails x.0 wrong whole.1)
      | inr long ↦ At_more x e (err_is (fault Long x.1) wrong long.1)
    ]

stopped : (bytes : List ℕ) (wrong : Fault) → bundle_at bytes ≡ Err wrong → Stopped bytes wrong
stopped bytes wrong e = stopped_by bytes wrong (parts_at bytes) refl (sym (bundle_is bytes) ∙ e)

-- a wrong byte or number stops a part
wrong_part : (bytes : List ℕ) (wrong : Fault) → TellsWrong wrong.kind → Stopped bytes wrong → IsWrong parts_at bytes wrong
wrong_part bytes wrong tells (At_end few) = absurd (subst (λ (w : Fault). TellsWrong w.kind) few tells)
wrong_part bytes wrong tells (At_wrong is) = is
wrong_part bytes wrong tells (At_more x is long) = absurd (subst (λ (w : Fault). TellsWrong w.kind) (sym long) tells)

-- what was refused, by its fault
record Told (bytes : List ℕ) (kind : FormatKind) (offset : ℕ) : Type 0 where
  wrong : Fault
  is : bundle_at bytes ≡ Err wrong
  kinds : wrong.kind ≡ kind
  offsets : length bytes - wrong.left ≡ offset

told_by : (bytes : List ℕ) (kind : FormatKind) (offset : ℕ) (r : Result Bundled Fault) → bundle_at bytes ≡ r → placed (length bytes) r ≡ refused kind offset → Told bytes kind offset
told_by bytes kind offset (Ok bundle) e is = absurd cc
told_by bytes kind offset (Err wrong) e is =
    let same = refusal_is (record { kind = wrong.kind; offset = length bytes - wrong.left }) (record { kind = kind; offset = offset }) is in
    record { wrong = wrong; is = e; kinds = same.0; offsets = same.1 }

told_of : (bytes : List ℕ) (kind : FormatKind) (offset : ℕ) → reading bytes ≡ refused kind offset → Told bytes kind offset
told_of bytes kind offset is = told_by bytes kind offset (bundle_at bytes) refl is

pub nothing_wrong_before : NothingWrongBefore
nothing_wrong_before bytes kind offset tells is =
    let t = told_of bytes kind offset is in
    let w = wrong_part bytes t.wrong (subst TellsWrong (sym t.kinds) tells) (stopped bytes t.wrong t.is) in
    let long : length bytes ≡ length w.front + length w.back = ap length w.whole ∙ length-append w.front w.back in
    let at : offset ≡ length w.front = omega (arith, t.offsets, w.left, long) in
    let before : take offset bytes ≡ w.front = ap (λ n. take n bytes) at ∙ ap (take (length w.front)) w.whole ∙ take-append_seam w.front w.back in
    let few : bundle_at w.front ≡ failed short = bundle_is w.front ∙ ap (λ (r : Result (Bundled × List ℕ) Fault). r >>= ended) w.few in (
      omega (arith, at, long, w.some),
      ap reading before ∙ short_at_its_length w.front few ∙ ap (refused Short) (sym at),
    )

pub wrong_stays_wrong : WrongStaysWrong
wrong_stays_wrong bytes more kind offset tells is =
    let t = told_of bytes kind offset is in
    let w = wrong_part bytes t.wrong (subst TellsWrong (sym t.kinds) tells) (stopped bytes t.wrong t.is) in
    let stays : bundle_at (bytes ++ more) ≡ failed (moved more t.wrong) = bundle_is (bytes ++ more) ∙ ap (λ (r : Result (Bundled × List ℕ) Fault). r >>= ended) (w.stays more) in
    let place : length (bytes ++ more) - (t.wrong.left + length more) ≡ offset = omega (arith, t.offsets, length-append bytes more) in
    ap (placed (length (bytes ++ more))) stays ∙ ap (λ k. refused k (length (bytes ++ more) - (t.wrong.left + length more))) t.kinds ∙ ap (refused kind) place

-- ---- the end of the bytes

-- only the end is told as short
short_part : (bytes : List ℕ) (wrong : Fault) → wrong.kind ≡ Short → Stopped bytes wrong → wrong ≡ short
short_part bytes wrong is (At_end few) = few
short_part bytes wrong is (At_wrong w) = absurd (subst TellsWrong is w.tells)
short_part bytes wrong is (At_more x e long) = (let no : Long ≡ Short = ap (λ (w : Fault). w.kind) long ∙ is in absurd cc)

-- a part of the parts was begun
begun_as : (bytes : List ℕ) (version : Version) (bundle : Bundled) (front part missing : List ℕ) → bytes ≡ front ++ part → IsUnfinished version part → 0 < length missing → IsInRange version bundle → front ++ missing ≡ spelling version bundle → IsBegun bytes
begun_as bytes version bundle front part missing split unfinished some fits whole = record {
  version = version;
  bundle = bundle;
  front = front;
  part = part;
  missing = missing;
  split = split;
  unfinished = unfinished;
  some = not_empty missing some;
  spelled = (fits, whole);
}

-- by what the magic bytes came to
parts_begin : (bytes : List ℕ) → IsBytes bytes → (r : Result (Version × List ℕ) Fault) → magic_at bytes ≡ r → (r >>= after_magic) ≡ Err short → IsBegun bytes
parts_begin bytes fits (Err d) e few =
    let h = magic_begins bytes fits (e ∙ ap (λ (w : Fault). failed w) (err_is d short few)) in
    let body = a_body h.value in
    begun_as bytes h.value body.value h.front h.part (h.missing ++ body.text) h.split (subst (IsUnfinished h.value) (sym h.unfinished) (none_unfinished h.value)) (omega (arith, h.some, length-append h.missing body.text)) body.is.0
    (sym (append_assoc h.front h.missing body.text) ∙ ap (λ t. t ++ body.text) h.is ∙ ap (λ t. magic h.value ++ t) body.is.1)
parts_begin bytes fits (Ok x) e few =
    let t = magic_reads.takes bytes x.0 x.1 fits e in
    let h = body_begins x.0 x.1 (IsBytes-after bytes t.text x.1 t.whole fits) few in
    begun_as bytes x.0 h.value (t.text ++ h.front) h.part h.missing (t.whole ∙ ap (λ r. t.text ++ r) h.split ∙ sym (append_assoc t.text h.front h.part)) h.unfinished h.some h.is.0
    (append_assoc t.text h.front h.missing ∙ ap (λ o. o ++ (h.front ++ h.missing)) t.is ∙ ap (λ o. magic x.0 ++ o) h.is.1)

-- short comes of the parts
short_parts : (r : Result (Bundled × List ℕ) Fault) → (r >>= ended) ≡ Err short → r ≡ Err short
short_parts (Err d) e = ap (λ (w : Fault). failed w) (err_is d short e)
short_parts (Ok x) e =
    elim (chosen (eqb (length x.1) 0) (given x.0) (failed (fault Long x.1)) (failed short) e) [
      | inl whole ↦ absurd (ok_fails x.0 short whole.1)
      | inr long ↦ (let no : Long ≡ Short = ap (λ (w : Fault). w.kind) (err_is (fault Long x.1) short long.1) in absurd cc)
    ]

pub short_is_begun : ShortIsBegun
short_is_begun bytes offset fits is =
    let t = told_of bytes Short offset is in
    let few = short_part bytes t.wrong t.kinds (stopped bytes t.wrong t.is) in
    let at : offset ≡ length bytes = omega (arith, t.offsets, ap (λ (w : Fault). w.left) few) in
    let parts = short_parts (parts_at bytes) (sym (bundle_is bytes) ∙ t.is ∙ ap (λ (w : Fault). failed w) few) in
    (at, parts_begin bytes fits (magic_at bytes) refl parts)

-- ---- for the code that reads

pub answer_is_spelled : (bytes : List ℕ) (answer : Result Bundle FormatError) → IsBytes bytes → IsAnswer answer (reading bytes) → IfOk answer (λ bundle. IsSpelled bytes (bundled bundle))
answer_is_spelled bytes (Ok bundle) fits given = read_is_spelled bytes (bundled bundle) fits given
answer_is_spelled bytes (Err error) fits given = tt

fault_is_inside : (bytes : List ℕ) (wrong : Fault) → Stopped bytes wrong → wrong.left ≤ length bytes
fault_is_inside bytes wrong (At_end few) = omega (arith, ap (λ (w : Fault). w.left) few)
fault_is_inside bytes wrong (At_wrong w) = omega (arith, w.left, ap length w.whole, length-append w.front w.back)
fault_is_inside bytes wrong (At_more x is long) =
    let l = parts_read.leaves bytes x.0 x.1 is in
    omega (arith, ap (λ (w : Fault). w.left) long, ap length l.whole, length-append l.used x.1)

-- a fault stands within the bytes
pub error_is_inside : (bytes : List ℕ) (error : ReadError) → Fails error (bundle_at bytes) → IsInside (length bytes) error
error_is_inside bytes (inside.Fault wrong) e = fault_is_inside bytes wrong (stopped bytes wrong e)
error_is_inside bytes inside.NoMemory e = tt
