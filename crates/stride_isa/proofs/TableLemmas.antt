-- Each kind of instruction stands in the table.
use Rattle.std.proofs.Common.{◌≡◌, ◌≢◌, ℕ, ◌<◌, Bool, true, false, List, [], ◌∷◌, length, find, sym, arith, zero, suc, cond, refl, subst, Option, Some, None, IfNone, IfSome}
use Rattle.std.specs.List.{slice_index_or}
use Rattle.std.specs.Str.{bytes_eq}
use Rattle.std.proofs.lemmas.Slice.Eq.{bytes_eq-Decides}
use Rattle.stride_isa.specs.declared.op.OpKind.{OpKind}
use Rattle.stride_isa.specs.declared.op.OpKind.TheVariants as kinds
use Rattle.stride_isa.specs.Instructions.{spelling, all_kinds, kind_named}

-- a word that no row's name is, is no kind's name
unnamed_each : (word : List ℕ) → ((i : ℕ) (d : OpKind) → i < length all_kinds → spelling (slice_index_or all_kinds i d) ≢ word) → (kind : OpKind) → spelling kind ≢ word
unnamed_each word h kinds.Push = h 0 kinds.Push (omega arith)
unnamed_each word h kinds.Dup = h 1 kinds.Dup (omega arith)
unnamed_each word h kinds.Drop = h 2 kinds.Drop (omega arith)
unnamed_each word h kinds.Swap = h 3 kinds.Swap (omega arith)
unnamed_each word h kinds.Over = h 4 kinds.Over (omega arith)
unnamed_each word h kinds.Add = h 5 kinds.Add (omega arith)
unnamed_each word h kinds.Sub = h 6 kinds.Sub (omega arith)
unnamed_each word h kinds.Mul = h 7 kinds.Mul (omega arith)
unnamed_each word h kinds.Div = h 8 kinds.Div (omega arith)
unnamed_each word h kinds.Rem = h 9 kinds.Rem (omega arith)
unnamed_each word h kinds.And = h 10 kinds.And (omega arith)
unnamed_each word h kinds.Or = h 11 kinds.Or (omega arith)
unnamed_each word h kinds.Xor = h 12 kinds.Xor (omega arith)
unnamed_each word h kinds.Shl = h 13 kinds.Shl (omega arith)
unnamed_each word h kinds.Shr = h 14 kinds.Shr (omega arith)
unnamed_each word h kinds.Eq = h 15 kinds.Eq (omega arith)
unnamed_each word h kinds.Lt = h 16 kinds.Lt (omega arith)
unnamed_each word h kinds.Not = h 17 kinds.Not (omega arith)
unnamed_each word h kinds.Get = h 18 kinds.Get (omega arith)
unnamed_each word h kinds.Set = h 19 kinds.Set (omega arith)
unnamed_each word h kinds.Jump = h 20 kinds.Jump (omega arith)
unnamed_each word h kinds.Jz = h 21 kinds.Jz (omega arith)
unnamed_each word h kinds.Jnz = h 22 kinds.Jnz (omega arith)
unnamed_each word h kinds.Read = h 23 kinds.Read (omega arith)
unnamed_each word h kinds.Write = h 24 kinds.Write (omega arith)
unnamed_each word h kinds.ReadAt = h 25 kinds.ReadAt (omega arith)
unnamed_each word h kinds.WriteAt = h 26 kinds.WriteAt (omega arith)
unnamed_each word h kinds.Xchg = h 27 kinds.Xchg (omega arith)
unnamed_each word h kinds.AddTo = h 28 kinds.AddTo (omega arith)
unnamed_each word h kinds.Cas = h 29 kinds.Cas (omega arith)
unnamed_each word h kinds.Enter = h 30 kinds.Enter (omega arith)
unnamed_each word h kinds.Exit = h 31 kinds.Exit (omega arith)
unnamed_each word h kinds.Print = h 32 kinds.Print (omega arith)
unnamed_each word h kinds.Halt = h 33 kinds.Halt (omega arith)

-- what is found by a word has it as its name
found_named : (word : List ℕ) (kinds : List OpKind) → IfSome (find (λ kind. bytes_eq (spelling kind) word) kinds) (λ kind. spelling kind ≡ word)
found_named word [] = tt
found_named word (k ∷ ks) =
    at (bytes_eq (spelling k) word) refl (found_named word ks) where
      at : (here : Bool) → bytes_eq (spelling k) word ≡ here → IfSome (find (λ kind. bytes_eq (spelling kind) word) ks) (λ kind. spelling kind ≡ word) → IfSome (cond here (Some k) (find (λ kind. bytes_eq (spelling kind) word) ks)) (λ kind. spelling kind ≡ word)
      at true same later = (bytes_eq-Decides (spelling k) word).0 same
      at false other later = later

-- where nothing is found, no row's name is the word
none_named : (word : List ℕ) (kinds : List OpKind) → find (λ kind. bytes_eq (spelling kind) word) kinds ≡ None → (i : ℕ) (d : OpKind) → i < length kinds → spelling (slice_index_or kinds i d) ≢ word
none_named word [] none i d lt = absurd (omega arith)
none_named word (k ∷ ks) none i d lt =
    at (bytes_eq (spelling k) word) refl none (λ e j below. none_named word ks e j d below) i lt where
      at : (here : Bool) → bytes_eq (spelling k) word ≡ here → cond here (Some k) (find (λ kind. bytes_eq (spelling kind) word) ks) ≡ None → (find (λ kind. bytes_eq (spelling kind) word) ks ≡ None → (j : ℕ) → j < length ks → spelling (slice_index_or ks j d) ≢ word) → (i : ℕ) → i < length (k ∷ ks) → spelling (slice_index_or (k ∷ ks) i d) ≢ word
      at true same none later i lt = absurd (cc)
      at false other none later zero lt = λ same. absurd (let e = (bytes_eq-Decides (spelling k) word).1 same in cc)
      at false other none later (suc i) lt = later none i (omega arith)

pub named_found : (word : List ℕ) (result : Option OpKind) → result ≡ kind_named word → IfSome result (λ kind. spelling kind ≡ word)
named_found word result e = subst (λ found. IfSome found (λ kind. spelling kind ≡ word)) (sym e) (found_named word all_kinds)

pub named_none : (word : List ℕ) (result : Option OpKind) → result ≡ kind_named word → IfNone result ((kind : OpKind) → spelling kind ≢ word)
named_none word (Some found) e = tt
named_none word None e = unnamed_each word (none_named word all_kinds (sym e))
