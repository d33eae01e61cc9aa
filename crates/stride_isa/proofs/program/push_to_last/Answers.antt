use Rattle.std.proofs.Common.{◌-◌, ◌++◌, ◌∷◌, [], ◌∙◌, ap, arith}
use Rattle.std.proofs.Math.Seq.{map-set_same}
use Rattle.std.proofs.lemmas.Result.{MatchResult-from_err}
use Rattle.stride_isa.proofs.KeptLemmas.{push_last_set}
use Rattle.stride_isa.proofs.program.push_to_last.Goals as goal

pub returns-in_err-push-clause-err : goal.returns-in_err-push-clause-err
returns-in_err-push-clause-err c =
    MatchResult-from_err c.from_residual.result _ _ c.from_residual.ensures.0
    (λ _. map-set_same (λ code. code.items) c.args.threads.now.items _ c.push.new.self c.index_mut.result.now
    (c.in_err-push.ensures.items ∙ ap (λ code. code.items) c.index_mut.ensures.value))

pub returns-clause-added : goal.returns-clause-added
returns-clause-added c =
    push_last_set (λ code. code.items) c.args.threads.now.items (c.len-last.result - 1) c.index_mut.result.now c.push.new.self c.args.op
    (omega arith) (c.in_ok-push.ensures.items ∙ ap (λ code. code.items ++ c.args.op ∷ []) c.index_mut.ensures.value)
