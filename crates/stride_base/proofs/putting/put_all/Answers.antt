use Rattle.std.proofs.Common.{arith}
use Rattle.stride_base.proofs.SinkLemmas.{PutSoFar-more, PutSoFar-not_empty}
use Rattle.stride_base.proofs.putting.put_all.Goals as goal

pub loop-rest-preserved : goal.loop-rest-preserved
loop-rest-preserved g c =
    let put = c.in_ok-n.ensures in
    let so_far = c.loop-rest.invariant.0 in (
      PutSoFar-more so_far _ _ _ _ c.split_at.ensures.back put.added put.counted,
      λ empty. absurd (PutSoFar-not_empty so_far (omega (arith, put.some, put.within)) empty),
    )
