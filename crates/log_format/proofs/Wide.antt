-- Numbers in all bytes of their width.
use Rattle.std.proofs.Common.{◌≡◌, ℕ, ◌-◌, ◌≤◌, ◌<◌, ◌⊎◌, false, cond, ltb, List, [], ◌++◌, length, take, drop, replicate, Result, Ok, Err, refl, sym, ap, ◌∙◌, arith, inl, inr}
use Rattle.std.specs.Prelude.{IfOk}
use Rattle.std.specs.Int.{byte_len, from_be_bytes, to_be_bytes}
use Rattle.std.proofs.lemmas.Bool.{ltb-false, le-ltb, ltb-true}
use Rattle.std.proofs.lemmas.List.{take_at, drop_at, take-append-drop, length-append, length-take, length-replicate}
use Rattle.std.proofs.lemmas.Nat.{be_bytes_2, be_bytes_4, be_bytes_8, from_be_bytes-to_be_bytes_2, from_be_bytes-to_be_bytes_4, from_be_bytes-to_be_bytes_8}
use Rattle.log_format.specs.declared.fault.Fault.{Fault}
use Rattle.log_format.specs.declared.fault.ReadError.{ReadError}
use Rattle.log_format.specs.declared.version.Size.{Size}
use Rattle.log_format.specs.declared.version.Size.TheVariants.{Bits16, Bits32, Bits64}
use Rattle.log_format.specs.Answers.{Gives}
use Rattle.log_format.specs.Bundles.{IsBytes}
use Rattle.log_format.specs.Reading.{short, wide_at}
use Rattle.log_format.specs.Spelling.{greatest, width_of}
use Rattle.log_format.proofs.Bytes.{IsBytes-take, IsBytes-zeros}
use Rattle.log_format.proofs.Readers.{chosen, guard_ok, failed, given, ok_is, err_is, ok_fails, IsWrong, Leaves, Takes, Reads}

-- ---- so many bytes, seen as something

-- so many bytes, viewed as a value
abbrev pub piece : {A : Type 0} → ℕ → (List ℕ → A) → List ℕ → Result (A × List ℕ) Fault
piece n view bytes = cond (ltb (length bytes) n) (Err short) (Ok (view (take n bytes), drop n bytes))

module _ {A : Type 0} (n : ℕ) (view : List ℕ → A) where
  -- a piece of this length
  pub piece_again : (text rest : List ℕ) → length text ≡ n → piece n view (text ++ rest) ≡ Ok (view text, rest)
  piece_again text rest long =
      let enough : ltb (length (text ++ rest)) n ≡ false = le-ltb _ _ (omega (arith, length-append text rest)) in
      rw (enough, take_at text rest n long, drop_at text rest n long) refl

  -- what was read is the piece
  pub piece_read : (bytes : List ℕ) (x : A) (rest : List ℕ) → piece n view bytes ≡ Ok (x, rest) → (length (take n bytes) ≡ n) × (view (take n bytes) ≡ x) × (bytes ≡ take n bytes ++ rest)
  piece_read bytes x rest e =
      let g = guard_ok (ltb (length bytes) n) short (given (view (take n bytes), drop n bytes)) (x, rest) e in
      let same = ok_is (view (take n bytes), drop n bytes) (x, rest) g.1 in
      let enough : n ≤ length bytes = ltb-false _ _ g.0 in (
        omega (arith, length-take n bytes),
        ap (λ (p : A × List ℕ). p.0) same,
        sym (take-append-drop n bytes) ∙ ap (λ (p : A × List ℕ). take n bytes ++ p.1) same,
      )

  pub piece_leaves : (bytes : List ℕ) (x : A) (rest : List ℕ) → piece n view bytes ≡ Ok (x, rest) → Leaves (piece n view) bytes x rest
  piece_leaves bytes x rest e =
      let r = piece_read bytes x rest e in
      record { used = take n bytes; whole = r.2; again = λ more. piece_again (take n bytes) more r.0 ∙ ap (λ y. given (y, more)) r.1 }

  -- so few bytes
  pub piece_short : (bytes : List ℕ) (wrong : Fault) → piece n view bytes ≡ Err wrong → (length bytes < n) × (wrong ≡ short)
  piece_short bytes wrong e =
      elim (chosen (ltb (length bytes) n) (failed short) (given (view (take n bytes), drop n bytes)) (failed wrong) e) [
        | inl few ↦ (ltb-true _ _ few.0, sym (err_is short wrong few.1))
        | inr enough ↦ absurd (ok_fails (view (take n bytes), drop n bytes) wrong enough.1)
      ]

-- ---- numbers

-- what std knows of the bytes of a number of this size
record IsWide (size : Size) : Type 0 where
  back : (bytes : List ℕ) → length bytes ≡ byte_len (width_of size) → IsBytes bytes → to_be_bytes (width_of size) (from_be_bytes (width_of size) bytes) ≡ bytes
  again : (n : ℕ) → n ≤ greatest size → from_be_bytes (width_of size) (to_be_bytes (width_of size) n) ≡ n
  below : (bytes : List ℕ) → IsBytes bytes → from_be_bytes (width_of size) bytes ≤ greatest size
  long : (n : ℕ) → length (to_be_bytes (width_of size) n) ≡ byte_len (width_of size)
  some : 0 < byte_len (width_of size)

wide : (size : Size) → IsWide size
wide Bits16 = record {
  back = λ bytes len fits. be_bytes_2 bytes _ len fits refl;
  again = λ n le. from_be_bytes-to_be_bytes_2 n (omega arith);
  below = λ bytes fits. omega (arith, fits 0, fits 1);
  long = λ n. refl;
  some = omega arith;
}
wide Bits32 = record {
  back = λ bytes len fits. be_bytes_4 bytes _ len fits refl;
  again = λ n le. from_be_bytes-to_be_bytes_4 n (omega arith);
  below = λ bytes fits. omega (arith, fits 0, fits 1, fits 2, fits 3);
  long = λ n. refl;
  some = omega arith;
}
wide Bits64 = record {
  back = λ bytes len fits. be_bytes_8 bytes _ len fits refl;
  again = λ n le. from_be_bytes-to_be_bytes_8 n (omega arith);
  below = λ bytes fits. omega (arith, fits 0, fits 1, fits 2, fits 3, fits 4, fits 5, fits 6, fits 7);
  long = λ n. refl;
  some = omega arith;
}

-- how a number is spelled in its width
abbrev pub IsWideNumber : Size → ℕ → List ℕ → Type 0
IsWideNumber size n text = (n ≤ greatest size) × (text ≡ to_be_bytes (width_of size) n)

wide_takes : (size : Size) (bytes : List ℕ) (n : ℕ) (rest : List ℕ) → IsBytes bytes → wide_at size bytes ≡ Ok (n, rest) → Takes (IsWideNumber size) bytes n rest
unfolding wide_at
wide_takes size bytes n rest fits e =
    let w = wide size in
    let len = byte_len (width_of size) in
    let r = piece_read len (from_be_bytes (width_of size)) bytes n rest e in
    let within = IsBytes-take len bytes fits in
    let low : n ≤ greatest size = rw (← r.1) (w.below (take len bytes) within) in
    record { text = take len bytes; is = (low, sym (w.back (take len bytes) r.0 within) ∙ ap (to_be_bytes (width_of size)) r.1); whole = r.2 }

wide_stops : (size : Size) (bytes : List ℕ) (wrong : Fault) → wide_at size bytes ≡ Err wrong → (wrong ≡ short) ⊎ IsWrong (wide_at size) bytes wrong
unfolding wide_at
wide_stops size bytes wrong e = inl (piece_short (byte_len (width_of size)) (from_be_bytes (width_of size)) bytes wrong e).1

wide_leaves : (size : Size) (bytes : List ℕ) (n : ℕ) (rest : List ℕ) → wide_at size bytes ≡ Ok (n, rest) → Leaves (wide_at size) bytes n rest
unfolding wide_at
wide_leaves size = piece_leaves (byte_len (width_of size)) (from_be_bytes (width_of size))

wide_again : (size : Size) (n : ℕ) (text rest : List ℕ) → IsWideNumber size n text → wide_at size (text ++ rest) ≡ Ok (n, rest)
unfolding wide_at
wide_again size n text rest is =
    let w = wide size in
    let view = from_be_bytes (width_of size) in
    piece_again (byte_len (width_of size)) view text rest (ap length is.1 ∙ w.long n) ∙ ap (λ m. given (m, rest)) (ap view is.1 ∙ w.again n is.0)

pub wide_reads : (size : Size) → Reads (wide_at size) (IsWideNumber size)
wide_reads size = record { leaves = wide_leaves size; stops = wide_stops size; again = wide_again size; takes = wide_takes size }

pub wide_of_nothing : (size : Size) → wide_at size [] ≡ Err short
unfolding wide_at
wide_of_nothing Bits16 = refl
wide_of_nothing Bits32 = refl
wide_of_nothing Bits64 = refl

pub wide_is_some : (size : Size) (n : ℕ) → 0 < length (to_be_bytes (width_of size) n)
wide_is_some size n = rw (wide size).long (wide size).some

-- a number that is not whole can be made whole
pub wide_begins : (size : Size) (bytes : List ℕ) → IsBytes bytes → wide_at size bytes ≡ Err short → (n : ℕ) × (missing : List ℕ) × (n ≤ greatest size) × (0 < length missing) × (bytes ++ missing ≡ to_be_bytes (width_of size) n)
unfolding wide_at
wide_begins size bytes fits e =
    let w = wide size in
    let len = byte_len (width_of size) in
    let few = (piece_short len (from_be_bytes (width_of size)) bytes short e).0 in
    let missing = replicate (len - length bytes) 0 in
    let all = bytes ++ missing in
    let long : length all ≡ len = omega (arith, length-append bytes missing, length-replicate {A = ℕ} (len - length bytes) 0) in
    let within = IsBytes-zeros (len - length bytes) bytes fits in
    (from_be_bytes (width_of size) all, missing, w.below all within, omega (arith, length-replicate {A = ℕ} (len - length bytes) 0), sym (w.back all long within))

-- for the code that reads: the number is one of its size
pub wide_fits : {X : Type 0} (size : Size) (bytes : List ℕ) (view : X → ℕ × List ℕ) (result : Result X ReadError) → IsBytes bytes → Gives view result (wide_at size bytes) → IfOk result (λ x. (view x).0 ≤ greatest size)
wide_fits size bytes view (Ok x) fits reads = (wide_takes size bytes (view x).0 (view x).1 fits reads).is.0
wide_fits size bytes view (Err error) fits reads = tt
