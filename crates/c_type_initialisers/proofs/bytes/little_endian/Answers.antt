-- `little_endian` of src/bytes.rt: what the check leaves open of its proof.
-- The lowest bytes of a number, the lowest first.
use Rattle.std.proofs.Common.{◌≡◌, ap, ℕ, suc, ◌+◌, ◌-◌, ◌/◌, ◌%◌, ◌<◌, ◌∷◌, append_assoc, arith}
use Rattle.c_typing.specs.Starts.{little_endian}
use Rattle.c_type_initialisers.proofs.bytes.little_endian.Goals as goal

next : (count place n : ℕ) → place < count →
    little_endian (count - place) n ≡ n % 256 ∷ little_endian (count - (place + 1)) (n / 256)
next count place n h =
    let less : count - place ≡ suc (count - (place + 1)) = omega arith in ap (λ k. little_endian k n) less

pub loop-place-preserved : goal.loop-place-preserved
loop-place-preserved c =
    rw (c.in_ok-push.ensures.items, append_assoc) (rw (next c.args.count c.loop-place._place c.loop-place.rest c.loop-place-test.true) at c.loop-place.invariant)
