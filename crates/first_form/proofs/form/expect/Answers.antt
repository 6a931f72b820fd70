-- A word that differs ends every form that goes on so.
use Rattle.first_form.proofs.Forms.{other_word}
use Rattle.first_form.proofs.form.expect.Goals as goal

pub returns-then-not-goes-clause-unfit : goal.returns-then-not-goes-clause-unfit
returns-then-not-goes-clause-unfit c = λ ts. other_word (λ w. w.now) c.args.words.now c.loop-word.word-index _ c.args.cursor.now c.loop-word.cursor ts c.loop-word-test.true c.loop-word.invariant c.if-not-goes.ensures.other
