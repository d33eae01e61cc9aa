-- The instructions of a program stand on as many lines of its text.
use Rattle.std.proofs.Common.{◌≡◌, ℕ, ◌+◌, List, [], ◌∷◌, ◌++◌, map, length, Option, Some, None, Ok, refl, ap, sym, ◌∙◌, arith, append-nil, append_assoc}
use Rattle.std.proofs.lemmas.List.{length_push, map-append}
use mathlib.Core.List.{reverse_aux}
use Rattle.stride_isa.specs.Listing.{Listing, push_last}
use Rattle.stride_isa.specs.declared.op.Op.{Op}
use Rattle.assembler.specs.CodeLines.{Ahead, ThreadPlace, ahead}
use Rattle.assembler.specs.Forms.{Form, Blank, VarLine, ArrayLine, MonitorLine, ThreadLine, LabelLine, WholeLine, NamingLine, Malformed}
use Rattle.assembler.specs.Labels.{Labels, labels_at}
use Rattle.assembler.specs.Laws.{CodeHasLines}
use Rattle.assembler.specs.Programs.{LineFault, added, first_fault, forms_in, made, unless_fault}

-- how many instructions each thread has
abbrev counts : List (List Op) → List ℕ
counts threads = map length threads

-- how many lines of instructions each thread has
abbrev line_counts : List ThreadPlace → List ℕ
line_counts places = map (λ place. length place.code) places

-- the counts with more in the last of them, where there is one
abbrev more_in_last : List ℕ → ℕ → List ℕ
more_in_last [] more = []
more_in_last (n ∷ []) more = (n + more) ∷ []
more_in_last (n ∷ m ∷ rest) more = n ∷ more_in_last (m ∷ rest) more

-- the counts after what stands ahead
abbrev after : List ℕ → Ahead → List ℕ
after ns a = more_in_last ns (length a.code) ++ line_counts a.threads

none_more : (ns : List ℕ) → more_in_last ns 0 ≡ ns
none_more [] = refl
none_more (n ∷ []) = let same : n + 0 ≡ n = omega arith in ap (λ k. k ∷ []) same
none_more (n ∷ m ∷ rest) = ap (λ ks. n ∷ ks) (none_more (m ∷ rest))

more_twice : (ns : List ℕ) (more : ℕ) → more_in_last (more_in_last ns 1) more ≡ more_in_last ns (more + 1)
more_twice [] more = refl
more_twice (n ∷ []) more = let same : n + 1 + more ≡ n + (more + 1) = omega arith in ap (λ k. k ∷ []) same
more_twice (n ∷ m ∷ []) more = ap (λ ks. n ∷ ks) (more_twice (m ∷ []) more)
more_twice (n ∷ m ∷ k ∷ rest) more = ap (λ ks. n ∷ ks) (more_twice (m ∷ k ∷ rest) more)

more_in_new : (ns : List ℕ) (more : ℕ) → more_in_last (ns ++ 0 ∷ []) more ≡ ns ++ more ∷ []
more_in_new [] more = let same : 0 + more ≡ more = omega arith in ap (λ k. k ∷ []) same
more_in_new (n ∷ []) more = ap (λ ks. n ∷ ks) (more_in_new [] more)
more_in_new (n ∷ m ∷ rest) more = ap (λ ks. n ∷ ks) (more_in_new (m ∷ rest) more)

counts-push : (threads : List (List Op)) (op : Op) → counts (push_last threads op) ≡ more_in_last (counts threads) 1
counts-push [] op = refl
counts-push (code ∷ []) op = ap (λ k. k ∷ []) (length_push code op)
counts-push (code ∷ next ∷ rest) op = ap (λ ks. length code ∷ ks) (counts-push (next ∷ rest) op)

-- one more instruction
op_ahead : (threads : List (List Op)) (op : Op) (number : ℕ) (a : Ahead) → after (counts (push_last threads op)) a ≡ after (counts threads) (record { code = number ∷ a.code; threads = a.threads })
op_ahead threads op number a =
    let same : length (number ∷ a.code) ≡ length a.code + 1 = omega arith in
    ap (λ ns. more_in_last ns (length a.code) ++ line_counts a.threads) (counts-push threads op)
    ∙ ap (λ ns. ns ++ line_counts a.threads) (more_twice (counts threads) (length a.code))
    ∙ ap (λ k. more_in_last (counts threads) k ++ line_counts a.threads) (sym same)

-- one more thread
thread_ahead : (threads : List (List Op)) (number : ℕ) (a : Ahead) → after (counts (threads ++ [] ∷ [])) a ≡ after (counts threads) (record { code = []; threads = record { begins = number; code = a.code } ∷ a.threads })
thread_ahead threads number a =
    ap (λ ns. more_in_last ns (length a.code) ++ line_counts a.threads) (map-append length threads ([] ∷ []))
    ∙ ap (λ ns. ns ++ line_counts a.threads) (more_in_new (counts threads) (length a.code))
    ∙ append_assoc (counts threads) (length a.code ∷ []) (line_counts a.threads)
    ∙ ap (λ ns. ns ++ length a.code ∷ line_counts a.threads) (sym (none_more (counts threads)))

-- what a line adds to the program is what it puts before the lines after it
line_ahead : (labels : Labels) (p : Listing) (form : Form) (rest : List Form) (number : ℕ) → after (counts (added labels p form).threads) (ahead (number + 1) rest) ≡ after (counts p.threads) (ahead number (form ∷ rest))
line_ahead labels p Blank rest number = refl
line_ahead labels p (VarLine name start) rest number = refl
line_ahead labels p (ArrayLine name size start) rest number = refl
line_ahead labels p (MonitorLine name) rest number = refl
line_ahead labels p ThreadLine rest number = thread_ahead p.threads number (ahead (number + 1) rest)
line_ahead labels p (LabelLine name) rest number = refl
line_ahead labels p (WholeLine op) rest number = op_ahead p.threads _ number (ahead (number + 1) rest)
line_ahead labels p (NamingLine kind name) rest number = op_ahead p.threads _ number (ahead (number + 1) rest)
line_ahead labels p Malformed rest number = refl

all_ahead : (before rest : List Form) (number : ℕ) → counts (made (reverse_aux rest before) []).threads ≡ after (counts (made before rest).threads) (ahead number rest)
all_ahead before [] number = sym (append-nil (more_in_last (counts (made before []).threads) 0) ∙ none_more (counts (made before []).threads))
all_ahead before (form ∷ rest) number =
    all_ahead (form ∷ before) rest (number + 1) ∙ line_ahead (labels_at before (form ∷ rest)) (made before (form ∷ rest)) form rest number

given : (fault : Option LineFault) (q p : Listing) → unless_fault fault q ≡ Ok p → q ≡ p
given None q p e = cc
given (Some fault) q p e = absurd (cc)

pub code_has_lines : CodeHasLines
code_has_lines = λ text p read.
    sym (all_ahead [] (forms_in text) 1)
    ∙ ap (λ (q : Listing). counts q.threads) (given (first_fault [] (forms_in text)) (made (reverse_aux (forms_in text) []) []) p read)
