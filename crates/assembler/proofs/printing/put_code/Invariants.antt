use Rattle.std.proofs.Common.{◌≡◌, ◌++◌, drop}
use Rattle.std.specs.List.{flat_map}
use Rattle.assembler.specs.Canonical.{code_lines, line_of}
use Rattle.stride_isa.specs.Listing.{code_of}
use Rattle.assembler.proofs.printing.put_code.Given as goal

-- what was written and the lines that are left are the start and all lines
abbrev pub invariant-loop-at : goal.invariant-loop-at
invariant-loop-at l =
    let code = code_of l.program l.thread in
    l.text.items ++ flat_map line_of (code_lines l.program code l.at (drop l.at code)) ≡ l.fn.text.items ++ flat_map line_of (code_lines l.program code 0 code)
