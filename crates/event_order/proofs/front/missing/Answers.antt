use Rattle.std.proofs.Common.{sym, inl, inr, ◌∙◌}
use Rattle.event_order.proofs.front.missing.Goals as goal

pub returns-in-Some-clause-waits : goal.returns-in-Some-clause-waits
returns-in-Some-clause-waits c = λ at is.
    let found = c.in-Some.ensures.waits at is in
    (inl (sym c.needs.ensures ∙ found.0), found.1)

pub returns-in-None-clause-waits : goal.returns-in-None-clause-waits
returns-in-None-clause-waits c = λ at is.
    let found = c.unfilled-in-None.ensures.waits at is in
    (inr (sym c.needs_too.ensures ∙ found.0), found.1)

pub returns-in-Read-clause-waits : goal.returns-in-Read-clause-waits
returns-in-Read-clause-waits c = λ at is.
    let found = c.unfilled-in-Read.ensures.waits at is in
    (inl (sym c.needs-in-Read.ensures ∙ found.0), found.1)
