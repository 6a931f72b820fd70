-- Proof of the law `examples` of src/laws.rt: each clause is a lemma of specs/Laws, or computes.
use Rattle.std.proofs.Common.{refl}
use Rattle.code_form.proofs.laws.examples.Goals as goal
use Rattle.code_form.specs.Laws.Emitted.{sum-emitted}
use Rattle.code_form.specs.Laws.Examples.{terms-selected, slots-assigned, swap-assigned}

pub returns : goal.returns
returns c = record { emitted = sum-emitted; terms = terms-selected; slots = slots-assigned; swaps = swap-assigned; loses_swap = (refl, refl); forgets = refl }
