use Rattle.std.specs.Prelude.{refl}
use Rattle.std.proofs.lemmas.List.{append_assoc, length-map}
use Rattle.stride_cli.proofs.commands.show.put_bundle.Goals as goal

pub returns : goal.returns
returns c =
    rw (c.in_ok-put_text.ensures, c.in_ok-put_logs.ensures, c.in_ok-put_counts.ensures, append_assoc, append_assoc, c.as_slice.ensures, c.as_slice-2.ensures, c.len.ensures.len, length-map) refl
