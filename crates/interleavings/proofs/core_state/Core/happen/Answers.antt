use Rattle.std.proofs.lemmas.Result.{on_ok_weaker}
use Rattle.interleavings.proofs.Happening.{happened}
use Rattle.interleavings.proofs.core_state.Core.happen.Goals as goal

pub returns-clause-shows : goal.returns-clause-shows
returns-clause-shows c = λ st shows.
    on_ok_weaker c.step_activity.result
    (happened c.args.self.now c.args.step c.word_of-place.result c.index-met.result.now c.new_word.result c.index_mut-activity.result.now c.step_activity.new.activity st c.requires.whole c.requires.who c.requires.inside c.word_of-place.ensures c.index-met.ensures c.index_mut-activity.ensures.value c.new_word.ensures shows)
    c.step_activity.ensures.activity
