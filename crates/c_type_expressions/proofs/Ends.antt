-- A call whose result is returned as it is,
-- where what it gives is also told otherwise.
use Rattle.std.proofs.Common.{◌≡◌, ◌∙◌, Result}
use Rattle.std.specs.Result.{IfOk}
use Rattle.std.proofs.lemmas.Result.{IfOk-weaker}
use Rattle.word_ops.specs.declared.memory.Memory.{Memory}

pub same_end : {X : Type 0} → (r : Result X Memory) (x y : X) → x ≡ y → IfOk r (λ z. z ≡ x) → IfOk r (λ z. z ≡ y)
same_end r x y e h = IfOk-weaker r (λ z. z ≡ x) (λ z. z ≡ y) (λ z p. p ∙ e) h
