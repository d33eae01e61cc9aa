-- What a player printed.
use Rattle.std.proofs.Common.{◌≡◌, ℕ, ◌∙◌, ◌++◌, List, length, drop, true, sym, ap}
use Rattle.std.proofs.Math.Seq.{drop-append_seam}
use Rattle.stride_isa.specs.Listing.{Listing}
use Rattle.sc_machine.specs.Laws.{SettledPrints}
use Rattle.sc_machine.specs.ThreadStep.{Thread, settled}
use Rattle.sc_machine.specs.Schedule.{settled_lines}
use Rattle.sc_machine.specs.Transcript.{tagged, line_bytes, transcript_bytes}

module _ (prints : SettledPrints) (p : Listing) (fuel t : ℕ) (s : Thread) (out : List ℕ) (is : out ≡ (settled p fuel t s).out) where
  grown : out ≡ s.out ++ line_bytes (settled_lines p fuel t s)
  grown = is ∙ (prints p fuel t s).0

  -- what a thread printed while it settled, with its tag before each line, is what a transcript has of it
  pub settled_tagged : tagged t true (drop (length s.out) out) ≡ transcript_bytes (settled_lines p fuel t s)
  settled_tagged =
      let lines : List ℕ = line_bytes (settled_lines p fuel t s) in
      let more : drop (length s.out) out ≡ lines = ap (drop (length s.out)) grown ∙ drop-append_seam s.out lines in
      (prints p fuel t s).1 (drop (length s.out) out) ((prints p fuel t s).0 ∙ ap (λ xs. s.out ++ xs) (sym more))
