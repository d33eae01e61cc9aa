-- A program's canonical text, written by hand.
use Rattle.std.specs.Prelude.{◌≡◌, ℕ, List, [], ◌∷◌, ◌++◌, codes, refl}
use Rattle.std.specs.Fmt.{digits}
use Rattle.std.specs.List.{flat_map}
use Rattle.stride_isa.specs.Listing.{Listing}
use Rattle.stride_isa.specs.declared.decl.Shape.TheVariants.{Single, Array}
use Rattle.stride_isa.specs.declared.op.Op.TheVariants as ops
use Rattle.assembler.specs.Canonical.{canonical}

-- two threads, each with a label that a jump names
abbrev two_threads : Listing
two_threads = record {
  decls = record { name = codes "total"; shape = Single; start = 0 } ∷ record { name = codes "slots"; shape = Array 3; start = 12 } ∷ [];
  monitors = codes "gate" ∷ [];
  threads = (ops.Enter 0 ∷ ops.Push 7 ∷ ops.ReadAt 1 ∷ ops.Jz 4 ∷ ops.Exit 0 ∷ ops.Halt ∷ []) ∷ (ops.Get 15 ∷ ops.Write 0 ∷ ops.Xchg 0 ∷ ops.AddTo 0 ∷ ops.Cas 0 ∷ ops.Jump 0 ∷ []) ∷ [];
}

-- lines as a text
abbrev text : List (List ℕ) → List ℕ
text lines = flat_map (λ line. line ++ 10 ∷ []) lines

canonical-two_threads : canonical two_threads ≡ text (codes "var total 0" ∷ codes "array slots 3 12" ∷ codes "monitor gate" ∷ codes "thread" ∷ codes "enter gate" ∷ codes "push 7" ∷ codes "readat slots" ∷ codes "jz L4" ∷ codes "L4:" ∷ codes "exit gate" ∷ codes "halt" ∷ codes "thread" ∷ codes "L0:" ∷ codes "get 15" ∷ codes "write total" ∷ codes "xchg total" ∷ codes "addto total" ∷ codes "cas total" ∷ codes "jump L0" ∷ [])
unfolding digits
canonical-two_threads = refl
