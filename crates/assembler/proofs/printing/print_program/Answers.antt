use Rattle.std.proofs.Common.{◌≡◌, ◌<◌, ◌∙◌, ℕ, List, ap, length, subst, sym}
use Rattle.assembler.specs.Canonical.{canonical, canonical_limit}
use Rattle.assembler.specs.Programs.{spelled}
use Rattle.assembler.proofs.PrintedLength.{canonical_short}
use Rattle.assembler.proofs.PrintedLines.{three_parts}
use Rattle.assembler.proofs.ReadBack.{canonical_is_read_back}
use Rattle.assembler.proofs.printing.print_program.Goals as goal

pub returns-clause-canonical : goal.returns-clause-canonical
returns-clause-canonical c =
    three_parts c.args.program.now _ _ _ _ c.new-text.ensures.items c.in_ok-put_decls.ensures c.in_ok-put_monitors.ensures c.in_ok-put_threads.ensures

pub returns-clause-short : goal.returns-clause-short
returns-clause-short c =
    let printed : c.put_threads.new.text.items ≡ canonical c.args.program.now =
    three_parts c.args.program.now _ _ _ _ c.new-text.ensures.items c.in_ok-put_decls.ensures c.in_ok-put_monitors.ensures c.in_ok-put_threads.ensures in
    subst (λ (text : List ℕ). length text < canonical_limit) (sym printed) (canonical_short c.args.program.now c.facts.ensures.formed c.facts.ensures.valid)

pub returns-clause-read_back : goal.returns-clause-read_back
returns-clause-read_back c =
    let printed : c.put_threads.new.text.items ≡ canonical c.args.program.now =
    three_parts c.args.program.now _ _ _ _ c.new-text.ensures.items c.in_ok-put_decls.ensures c.in_ok-put_monitors.ensures c.in_ok-put_threads.ensures in
    ap spelled printed ∙ canonical_is_read_back c.args.program.now c.facts.ensures.formed c.facts.ensures.valid
