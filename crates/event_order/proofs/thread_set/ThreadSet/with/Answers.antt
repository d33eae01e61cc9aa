use Rattle.std.proofs.Common.{◌∙◌, sym, inl, inr, w16}
use Rattle.std.proofs.lemmas.Bool.{cases_eq}
use Rattle.std.proofs.lemmas.Nat.Bits.{bit_at_set_same, bit_at_set_other}
use Rattle.event_order.proofs.thread_set.ThreadSet.with.Goals as goal

pub returns : goal.returns
returns c = record {
  here = (c.requires, bit_at_set_same w16 _ _ c.requires);
  kept = λ other has. (
    has.0,
    elim (cases_eq other c.args.thread) [
      | inl same ↦ rw same (bit_at_set_same w16 _ _ c.requires)
      | inr apart ↦ bit_at_set_other w16 _ _ c.requires other apart ∙ has.1
    ],
  );
  only = λ other has apart. (has.0, sym (bit_at_set_other w16 _ _ c.requires other apart) ∙ has.1);
}
