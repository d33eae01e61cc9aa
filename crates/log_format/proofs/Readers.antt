-- Readers of parts, what is to be shown of each, and how they are put together.
use Rattle.std.proofs.Common.{◌≡◌, ℕ, ◌+◌, ◌<◌, Bool, true, false, cond, ◌⊎◌, List, [], ◌∷◌, ◌++◌, length, Result, Ok, Err, refl, sym, ap, subst, ◌∙◌, append_assoc, arith, inl, inr, length-append}
use Rattle.log_format.specs.declared.fault.Fault.{Fault}
use Rattle.log_format.specs.declared.format_error.FormatKind.{FormatKind}
use Rattle.log_format.specs.Bundles.{IsBytes}
use Rattle.log_format.specs.Laws.{TellsWrong}
use Rattle.log_format.specs.Reading.{◌>>=◌, short, fault}
use Rattle.log_format.proofs.Bytes.{IsBytes-after}

-- ---- results

-- the value of a part that is not at fault
pub bind_ok : {A B : Type 0} (r : Result A Fault) (f : A → Result B Fault) (y : B) → (r >>= f) ≡ Ok y → (x : A) × (r ≡ Ok x) × (f x ≡ Ok y)
bind_ok (Ok x) f y e = (x, refl, e)
bind_ok (Err d) f y e = absurd cc

-- a test that did not fail
pub guard_ok : {A : Type 0} (b : Bool) (d : Fault) (r : Result A Fault) (y : A) → cond b (Err d) r ≡ Ok y → (b ≡ false) × (r ≡ Ok y)
guard_ok true d r y e = absurd cc
guard_ok false d r y e = (refl, e)

-- a test that passed
pub guard_passed : {A : Type 0} (b : Bool) (d : Fault) (r : Result A Fault) (y : A) → cond b r (Err d) ≡ Ok y → (b ≡ true) × (r ≡ Ok y)
guard_passed true d r y e = (refl, e)
guard_passed false d r y e = absurd cc

-- either side of a test
pub chosen : {A : Type 0} (b : Bool) (x y z : A) → cond b x y ≡ z → ((b ≡ true) × (x ≡ z)) ⊎ ((b ≡ false) × (y ≡ z))
chosen true x y z e = inl (refl, e)
chosen false x y z e = inr (refl, e)

-- a refusal, as what comes of reading
abbrev pub failed : {X : Type 0} → Fault → Result X Fault
failed wrong = Err wrong

-- a value, as what comes of reading
abbrev pub given : {X : Type 0} → X → Result X Fault
given x = Ok x

pub ok_is : {A : Type 0} (x y : A) → given x ≡ given y → x ≡ y
ok_is x y e = cc

pub err_is : {X : Type 0} (d w : Fault) → failed {X = X} d ≡ failed {X = X} w → d ≡ w
err_is d w e = cc

-- a value is no failure
pub ok_fails : {X : Type 0} (x : X) (w : Fault) → given x ≡ failed w → ⊥
ok_fails x w e = cc

-- a wrong byte or number is not the end of the bytes
pub tells_no_short : (wrong : Fault) → TellsWrong wrong.kind → wrong ≡ short → ⊥
tells_no_short wrong tells e = subst (λ (w : Fault). TellsWrong w.kind) e tells

-- ---- what is to be shown of a reader

-- the fault, with so many more bytes after it
abbrev pub moved : List ℕ → Fault → Fault
moved more wrong = record { kind = wrong.kind; left = wrong.left + length more }

-- a byte or a number is wrong: the bytes before its place are only short, and it stays wrong whatever follows
pub record IsWrong {X : Type 0} (read : List ℕ → Result X Fault) (bytes : List ℕ) (wrong : Fault) : Type 0 where
  pub front : List ℕ
  pub back : List ℕ
  pub tells : TellsWrong wrong.kind
  pub whole : bytes ≡ front ++ back
  pub left : wrong.left ≡ length back
  pub some : 0 < length back
  pub few : read front ≡ Err short
  pub stays : (more : List ℕ) → read (bytes ++ more) ≡ Err (moved more wrong)

-- a part was read from the front, and would be whatever follows
pub record Leaves {A : Type 0} (read : List ℕ → Result (A × List ℕ) Fault) (bytes : List ℕ) (x : A) (rest : List ℕ) : Type 0 where
  pub used : List ℕ
  pub whole : bytes ≡ used ++ rest
  pub again : (more : List ℕ) → read (used ++ more) ≡ Ok (x, more)

-- what was read is spelled at the front
pub record Takes {A : Type 0} (Is : A → List ℕ → Type 0) (bytes : List ℕ) (x : A) (rest : List ℕ) : Type 0 where
  pub text : List ℕ
  pub is : Is x text
  pub whole : bytes ≡ text ++ rest

-- what reads a value from the front of the bytes, of which Is says how it is spelled
pub record Reads {A : Type 0} (read : List ℕ → Result (A × List ℕ) Fault) (Is : A → List ℕ → Type 0) : Type 0 where
  pub leaves : (bytes : List ℕ) (x : A) (rest : List ℕ) → read bytes ≡ Ok (x, rest) → Leaves read bytes x rest
  pub stops : (bytes : List ℕ) (wrong : Fault) → read bytes ≡ Err wrong → (wrong ≡ short) ⊎ IsWrong read bytes wrong
  pub again : (x : A) (text rest : List ℕ) → Is x text → read (text ++ rest) ≡ Ok (x, rest)
  pub takes : (bytes : List ℕ) (x : A) (rest : List ℕ) → IsBytes bytes → read bytes ≡ Ok (x, rest) → Takes Is bytes x rest

-- a spelling was begun, and a number after it perhaps
pub record IsBegunAs {A : Type 0} (Is : A → List ℕ → Type 0) (Part : List ℕ → Type 0) (bytes : List ℕ) : Type 0 where
  pub front : List ℕ
  pub part : List ℕ
  pub missing : List ℕ
  pub value : A
  pub split : bytes ≡ front ++ part
  pub unfinished : Part part
  pub is : Is value (front ++ missing)
  pub some : 0 < length missing

-- short comes where a spelling was begun
abbrev pub Begins : {A : Type 0} → (List ℕ → Result (A × List ℕ) Fault) → (A → List ℕ → Type 0) → (List ℕ → Type 0) → Type 0
Begins read Is Part = (bytes : List ℕ) → IsBytes bytes → read bytes ≡ Err short → IsBegunAs Is Part bytes

-- short comes where a number is not whole
abbrev pub Unfinished : {A : Type 0} → (List ℕ → Result (A × List ℕ) Fault) → (List ℕ → Type 0) → Type 0
Unfinished read Part = (bytes : List ℕ) → IsBytes bytes → read bytes ≡ Err short → Part bytes

-- something is spelled so
pub record IsSome {A : Type 0} (Is : A → List ℕ → Type 0) : Type 0 where
  pub value : A
  pub text : List ℕ
  pub is : Is value text

-- a number that is not whole is nothing of a spelling yet
pub begins_as_number : {A : Type 0} (read : List ℕ → Result (A × List ℕ) Fault) (Is : A → List ℕ → Type 0) (Part : List ℕ → Type 0) (a : IsSome Is) → 0 < length a.text → Unfinished read Part → Begins read Is Part
begins_as_number read Is Part a some unfinished bytes fits e = record {
  front = [];
  part = bytes;
  missing = a.text;
  value = a.value;
  split = refl;
  unfinished = unfinished bytes fits e;
  is = a.is;
  some = some;
}

-- the same reader, of another word for how the value is spelled
module _ {A : Type 0} (read : List ℕ → Result (A × List ℕ) Fault) (Is Is' : A → List ℕ → Type 0) (to : (x : A) (text : List ℕ) → Is x text → Is' x text) where
  pub reads_as : ((x : A) (text : List ℕ) → Is' x text → Is x text) → Reads read Is → Reads read Is'
  reads_as back r = record {
    leaves = r.leaves;
    stops = r.stops;
    again = λ x text rest is. r.again x text rest (back x text is);
    takes = λ bytes x rest fits e. (let t = r.takes bytes x rest fits e in record { text = t.text; is = to x t.text t.is; whole = t.whole });
  }

  pub begins_as : (Part : List ℕ → Type 0) → Begins read Is Part → Begins read Is' Part
  begins_as Part b bytes fits e =
      let h = b bytes fits e in
      record {
        front = h.front;
        part = h.part;
        missing = h.missing;
        value = h.value;
        split = h.split;
        unfinished = h.unfinished;
        is = to h.value (h.front ++ h.missing) h.is;
        some = h.some;
      }

-- ---- nothing more is read

-- the value is this one, and takes no byte
abbrev pub IsDone : {A : Type 0} → A → A → List ℕ → Type 0
IsDone v x text = (x ≡ v) × (text ≡ [])

pub reads_done : {A : Type 0} (v : A) → Reads (λ bytes. Ok (v, bytes)) (IsDone v)
reads_done {A = A} v = record {
  leaves = λ bytes x rest e.
      (let same : v ≡ x = ap (λ (p : A × List ℕ). p.0) (ok_is (v, bytes) (x, rest) e) in
      record { used = []; whole = ap (λ (p : A × List ℕ). p.1) (ok_is (v, bytes) (x, rest) e); again = λ more. ap (λ (y : A). given (y, more)) same });
  stops = λ bytes wrong e. absurd (ok_fails (v, bytes) wrong e);
  again = λ x text rest is. ap (λ (t : List ℕ). given (v, t ++ rest)) is.1 ∙ ap (λ (y : A). given (y, rest)) (sym is.0);
  takes = λ bytes x rest fits e.
      record { text = []; is = (sym (ap (λ (p : A × List ℕ). p.0) (ok_is (v, bytes) (x, rest) e)), refl); whole = ap (λ (p : A × List ℕ). p.1) (ok_is (v, bytes) (x, rest) e) };
}

pub begins_done : {A : Type 0} (v : A) (Part : List ℕ → Type 0) → Begins (λ bytes. Ok (v, bytes)) (IsDone v) Part
begins_done v Part bytes fits e = absurd (ok_fails (v, bytes) short e)

-- ---- one part after the other

-- the spelling of a value of two parts, of which the second may go by the first
pub record Joined {A B : Type 0} (IsA : A → List ℕ → Type 0) (IsB : A → B → List ℕ → Type 0) (y : B) (text : List ℕ) : Type 0 where
  pub value : A
  pub one : List ℕ
  pub two : List ℕ
  pub first : IsA value one
  pub second : IsB value y two
  pub whole : text ≡ one ++ two

module _ {A B : Type 0} (read : List ℕ → Result (A × List ℕ) Fault) (next : A × List ℕ → Result (B × List ℕ) Fault) (IsA : A → List ℕ → Type 0) (IsB : A → B → List ℕ → Type 0) (first : Reads read IsA) where
  -- one reader, and then another by what it read
  abbrev both : List ℕ → Result (B × List ℕ) Fault
  both bytes = read bytes >>= next

  -- what comes of the other reader after this
  abbrev then : Result (A × List ℕ) Fault → Result (B × List ℕ) Fault
  then r = r >>= next

  then_leaves : ((v : A) → Reads (λ bytes. next (v, bytes)) (IsB v)) → (bytes : List ℕ) (y : B) (rest : List ℕ) → both bytes ≡ Ok (y, rest) → Leaves both bytes y rest
  then_leaves second bytes y rest e =
      let a = bind_ok (read bytes) next (y, rest) e in
      let l = first.leaves bytes a.0.0 a.0.1 a.1 in
      let m = (second a.0.0).leaves a.0.1 y rest a.2 in
      record {
        used = l.used ++ m.used;
        whole = l.whole ∙ ap (λ r. l.used ++ r) m.whole ∙ sym (append_assoc l.used m.used rest);
        again = λ more. ap both (append_assoc l.used m.used more) ∙ ap then (l.again (m.used ++ more)) ∙ m.again more;
      }

  -- by what the first part came to
  then_stops : ((v : A) → Reads (λ bytes. next (v, bytes)) (IsB v)) → (bytes : List ℕ) (wrong : Fault) (r : Result (A × List ℕ) Fault) → read bytes ≡ r → then r ≡ Err wrong → (wrong ≡ short) ⊎ IsWrong both bytes wrong
  then_stops second bytes wrong (Err d) e fails =
      let same : d ≡ wrong = err_is d wrong fails in
      elim (first.stops bytes wrong (e ∙ ap failed same)) [
        | inl few ↦ inl few
        | inr w ↦ inr (record { front = w.front; back = w.back; tells = w.tells; whole = w.whole; left = w.left; some = w.some; few = ap then w.few; stays = λ more. ap then (w.stays more) })
      ]
  then_stops second bytes wrong (Ok x) e fails =
      let l = first.leaves bytes x.0 x.1 e in
      elim ((second x.0).stops x.1 wrong fails) [
        | inl few ↦ inl few
        | inr w ↦ inr (record {
          front = l.used ++ w.front;
          back = w.back;
          tells = w.tells;
          whole = l.whole ∙ ap (λ rest. l.used ++ rest) w.whole ∙ sym (append_assoc l.used w.front w.back);
          left = w.left;
          some = w.some;
          few = ap then (l.again w.front) ∙ w.few;
          stays = λ more. ap both (ap (λ b. b ++ more) l.whole ∙ append_assoc l.used x.1 more) ∙ ap then (l.again (x.1 ++ more)) ∙ w.stays more;
        })
      ]

  pub reads_then : ((v : A) → Reads (λ bytes. next (v, bytes)) (IsB v)) → Reads both (Joined IsA IsB)
  reads_then second = record {
    leaves = then_leaves second;
    stops = λ bytes wrong fails. then_stops second bytes wrong (read bytes) refl fails;
    again = λ y text rest j.
        ap both (ap (λ t. t ++ rest) j.whole ∙ append_assoc j.one j.two rest) ∙ ap then (first.again j.value j.one (j.two ++ rest) j.first) ∙ (second j.value).again y j.two rest j.second;
    takes = λ bytes y rest fits e.
        (let a = bind_ok (read bytes) next (y, rest) e in
        let t = first.takes bytes a.0.0 a.0.1 fits a.1 in
        let u = (second a.0.0).takes a.0.1 y rest (IsBytes-after bytes t.text a.0.1 t.whole fits) a.2 in
        record {
          text = t.text ++ u.text;
          is = record { value = a.0.0; one = t.text; two = u.text; first = t.is; second = u.is; whole = refl };
          whole = t.whole ∙ ap (λ r. t.text ++ r) u.whole ∙ sym (append_assoc t.text u.text rest);
        });
  }

  module _ (Part : List ℕ → Type 0) (begins : Begins read IsA Part) (begins_next : (v : A) (text : List ℕ) → IsA v text → Begins (λ bytes. next (v, bytes)) (IsB v) Part) (some : (v : A) (text : List ℕ) → IsA v text → IsSome (IsB v)) where
    -- by what the first part came to
    then_begins : (bytes : List ℕ) → IsBytes bytes → (r : Result (A × List ℕ) Fault) → read bytes ≡ r → then r ≡ Err short → IsBegunAs (Joined IsA IsB) Part bytes
    then_begins bytes fits (Err d) e few =
        let h = begins bytes fits (e ∙ ap failed (err_is d short few)) in
        let s = some h.value (h.front ++ h.missing) h.is in
        record {
          front = h.front;
          part = h.part;
          missing = h.missing ++ s.text;
          value = s.value;
          split = h.split;
          unfinished = h.unfinished;
          is = record { value = h.value; one = h.front ++ h.missing; two = s.text; first = h.is; second = s.is; whole = sym (append_assoc h.front h.missing s.text) };
          some = omega (arith, h.some, length-append h.missing s.text);
        }
    then_begins bytes fits (Ok x) e few =
        let t = first.takes bytes x.0 x.1 fits e in
        let h = begins_next x.0 t.text t.is x.1 (IsBytes-after bytes t.text x.1 t.whole fits) few in
        record {
          front = t.text ++ h.front;
          part = h.part;
          missing = h.missing;
          value = h.value;
          split = t.whole ∙ ap (λ r. t.text ++ r) h.split ∙ sym (append_assoc t.text h.front h.part);
          unfinished = h.unfinished;
          is = record { value = x.0; one = t.text; two = h.front ++ h.missing; first = t.is; second = h.is; whole = append_assoc t.text h.front h.missing };
          some = h.some;
        }

    pub begins_then : Begins both (Joined IsA IsB) Part
    begins_then bytes fits few = then_begins bytes fits (read bytes) refl few

-- ---- a judgement of the value, whose fault names the first byte of the part

-- the value stands for this one
pub record Judged {A B : Type 0} (Is : A → List ℕ → Type 0) (judge : A → List ℕ → List ℕ → Result (B × List ℕ) Fault) (y : B) (text : List ℕ) : Type 0 where
  pub value : A
  pub is : Is value text
  pub passes : (bytes rest : List ℕ) → judge value bytes rest ≡ Ok (y, rest)

-- a value is refused, or stands for another
abbrev pub Verdict : {A B : Type 0} → FormatKind → (A → List ℕ → List ℕ → Result (B × List ℕ) Fault) → A → Type 0
Verdict {B = B} kind judge x = ((bytes rest : List ℕ) → judge x bytes rest ≡ Err (fault kind bytes)) ⊎ ((y : B) × ((bytes rest : List ℕ) → judge x bytes rest ≡ Ok (y, rest)))

-- a test, which refuses or keeps
abbrev pub refusing : {A : Type 0} → FormatKind → Bool → A → List ℕ → List ℕ → Result (A × List ℕ) Fault
refusing kind b x bytes rest = cond b (Err (fault kind bytes)) (Ok (x, rest))

pub tested : {A : Type 0} (kind : FormatKind) (b : Bool) (x : A) → ((bytes rest : List ℕ) → refusing kind b x bytes rest ≡ Err (fault kind bytes)) ⊎ ((y : A) × ((bytes rest : List ℕ) → refusing kind b x bytes rest ≡ Ok (y, rest)))
tested kind true x = inl (λ bytes rest. refl)
tested kind false x = inr (x, λ bytes rest. refl)

module _ {A B : Type 0} (read : List ℕ → Result (A × List ℕ) Fault) (judge : A → List ℕ → List ℕ → Result (B × List ℕ) Fault) (Is : A → List ℕ → Type 0) (kind : FormatKind) (tells : TellsWrong kind) (verdict : (x : A) → Verdict kind judge x) where
  -- a reader whose value is judged
  abbrev judging : List ℕ → Result (B × List ℕ) Fault
  judging bytes = read bytes >>= λ x. judge x.0 bytes x.1

  module _ (nothing : read [] ≡ Err short) (reads : Reads read Is) where
    -- something was read
    some_bytes : (bytes : List ℕ) (x : A × List ℕ) → read bytes ≡ Ok x → 0 < length bytes
    some_bytes [] x e = absurd (ok_fails x short (sym e ∙ nothing))
    some_bytes (byte ∷ bytes) x e = omega arith

    judged_leaves : (bytes : List ℕ) (y : B) (rest : List ℕ) → judging bytes ≡ Ok (y, rest) → Leaves judging bytes y rest
    judged_leaves bytes y rest e =
        let a = bind_ok (read bytes) (λ x. judge x.0 bytes x.1) (y, rest) e in
        elim (verdict a.0.0) [
          | inl bad ↦ absurd (ok_fails (y, rest) (fault kind bytes) (sym a.2 ∙ bad bytes a.0.1))
          | inr good ↦ (
              let l = reads.leaves bytes a.0.0 a.0.1 a.1 in
              let same : (good.0, a.0.1) ≡ (y, rest) = ok_is (good.0, a.0.1) (y, rest) (sym (good.1 bytes a.0.1) ∙ a.2) in
              record {
                used = l.used;
                whole = l.whole ∙ ap (λ (p : B × List ℕ). l.used ++ p.1) same;
                again = λ more. ap (λ (r : Result (A × List ℕ) Fault). r >>= λ x. judge x.0 (l.used ++ more) x.1) (l.again more) ∙ good.1 (l.used ++ more) more ∙ ap (λ (p : B × List ℕ). given (p.0, more)) same;
              })
        ]

    -- by what was read
    judged_stops : (bytes : List ℕ) (wrong : Fault) (r : Result (A × List ℕ) Fault) → read bytes ≡ r → (r >>= λ x. judge x.0 bytes x.1) ≡ Err wrong → (wrong ≡ short) ⊎ IsWrong judging bytes wrong
    judged_stops bytes wrong (Err d) e fails =
        let same : d ≡ wrong = err_is d wrong fails in
        elim (reads.stops bytes wrong (e ∙ ap failed same)) [
          | inl few ↦ inl few
          | inr w ↦ inr (record {
            front = w.front;
            back = w.back;
            tells = w.tells;
            whole = w.whole;
            left = w.left;
            some = w.some;
            few = ap (λ (r : Result (A × List ℕ) Fault). r >>= λ x. judge x.0 w.front x.1) w.few;
            stays = λ more. ap (λ (r : Result (A × List ℕ) Fault). r >>= λ x. judge x.0 (bytes ++ more) x.1) (w.stays more);
          })
        ]
    judged_stops bytes wrong (Ok x) e fails =
        elim (verdict x.0) [
          | inl bad ↦ (
              let same : fault kind bytes ≡ wrong = err_is (fault kind bytes) wrong (sym (bad bytes x.1) ∙ fails) in
              let l = reads.leaves bytes x.0 x.1 e in
              let refused : (more : List ℕ) → judging (bytes ++ more) ≡ failed (moved more (fault kind bytes)) = λ more.
              ap (λ (r : Result (A × List ℕ) Fault). r >>= λ x. judge x.0 (bytes ++ more) x.1) (ap read (ap (λ b. b ++ more) l.whole ∙ append_assoc l.used x.1 more) ∙ l.again (x.1 ++ more))
              ∙ bad (bytes ++ more) (x.1 ++ more) ∙ ap (λ n. failed (record { kind = kind; left = n })) (length-append bytes more) in
              inr (record {
                front = [];
                back = bytes;
                tells = subst (λ (w : Fault). TellsWrong w.kind) same tells;
                whole = refl;
                left = sym (ap (λ (w : Fault). w.left) same);
                some = some_bytes bytes x e;
                few = ap (λ (r : Result (A × List ℕ) Fault). r >>= λ x. judge x.0 [] x.1) nothing;
                stays = λ more. refused more ∙ ap (λ (w : Fault). failed (moved more w)) same;
              }))
          | inr good ↦ absurd (ok_fails (good.0, x.1) wrong (sym (good.1 bytes x.1) ∙ fails))
        ]

    pub reads_judged : Reads judging (Judged Is judge)
    reads_judged = record {
      leaves = judged_leaves;
      stops = λ bytes wrong fails. judged_stops bytes wrong (read bytes) refl fails;
      again = λ y text rest j. ap (λ (r : Result (A × List ℕ) Fault). r >>= λ x. judge x.0 (text ++ rest) x.1) (reads.again j.value text rest j.is) ∙ j.passes (text ++ rest) rest;
      takes = λ bytes y rest fits e.
          (let a = bind_ok (read bytes) (λ x. judge x.0 bytes x.1) (y, rest) e in
          let t = reads.takes bytes a.0.0 a.0.1 fits a.1 in
          elim (verdict a.0.0) [
            | inl bad ↦ absurd (ok_fails (y, rest) (fault kind bytes) (sym a.2 ∙ bad bytes a.0.1))
            | inr good ↦ (
                let same : (good.0, a.0.1) ≡ (y, rest) = ok_is (good.0, a.0.1) (y, rest) (sym (good.1 bytes a.0.1) ∙ a.2) in
                record {
                  text = t.text;
                  is = record { value = a.0.0; is = t.is; passes = λ some rest. good.1 some rest ∙ ap (λ (p : B × List ℕ). given (p.0, rest)) same };
                  whole = t.whole ∙ ap (λ (p : B × List ℕ). t.text ++ p.1) same;
                })
          ]);
    }

  -- by what was read
  judged_unfinished : (Part : List ℕ → Type 0) → Unfinished read Part → (bytes : List ℕ) → IsBytes bytes → (r : Result (A × List ℕ) Fault) → read bytes ≡ r → (r >>= λ x. judge x.0 bytes x.1) ≡ Err short → Part bytes
  judged_unfinished Part unfinished bytes fits (Err d) e fails = unfinished bytes fits (e ∙ ap failed (err_is d short fails))
  judged_unfinished Part unfinished bytes fits (Ok x) e fails =
      elim (verdict x.0) [
        | inl bad ↦ absurd (tells_no_short (fault kind bytes) tells (err_is (fault kind bytes) short (sym (bad bytes x.1) ∙ fails)))
        | inr good ↦ absurd (ok_fails (good.0, x.1) short (sym (good.1 bytes x.1) ∙ fails))
      ]

  pub unfinished_judged : (Part : List ℕ → Type 0) → Unfinished read Part → Unfinished judging Part
  unfinished_judged Part unfinished bytes fits fails = judged_unfinished Part unfinished bytes fits (read bytes) refl fails
