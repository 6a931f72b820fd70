-- What is loaded hangs together.
use Rattle.rv_machine.proofs.Loading.{consistent}
use Rattle.rv_machine.proofs.loader.load.Goals as goal

pub invariant_of-result : goal.invariant_of-result
invariant_of-result c = consistent c.in_ok-text.text.items c.as_slice-words.result.now c.in_ok-code.code.items c.next_eight-base.result c.args.image.now.stack c.in_ok-memory.memory.items c.as_slice.result.now c.in_ok-text.ensures.items c.in_ok-code.ensures.value c.in_ok-code.ensures.range (rw c.as_slice-words.ensures c.requires.text) (rw c.as_slice.ensures c.requires.statics) c.requires.stack c.next_eight-base.ensures c.in_ok-memory.ensures
