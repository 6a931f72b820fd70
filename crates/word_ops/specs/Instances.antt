-- What the laws ask can be met: a store whose objects have addresses of their own, and a program whose clock may be longer.
use Rattle.std.specs.Prelude.{◌≡◌, ◌≢◌, ℕ, zero, suc, ◌+◌, ◌-◌, ◌^◌, ◌<◌, ◌==◌, Bool, true, false, [], ◌∷◌, Some, slice_get}
use Rattle.std.proofs.Common.{refl, subst, arith, inl, inr}
use Rattle.std.proofs.lemmas.Option.{none-some, same_Some}
use Rattle.word_ops.specs.declared.operation.Op.TheVariants.{Eq}
use Rattle.word_ops.specs.Operation.{word_of_operation}
use Rattle.word_ops.specs.Store.{Number, Pointer, Part, Region, Store, Shape, shape_at, new_region, unset_cells}
use Rattle.word_ops.specs.Addresses.{IsAddressed, AreApart, AreCellsIn, word_of_value}
use Rattle.word_ops.specs.Run.{Gives, Again, Over, loop, get_byte}
use Rattle.word_ops.specs.Clock.{IsTimed}
use Rattle.word_ops.specs.Examples.{echo, echoed}
use Rattle.word_ops.specs.Laws.Clock.{IsTimed-Gives, IsTimed-then, IsTimed-put_byte, IsTimed-get_byte, IsTimed-loop}
use Rattle.word_ops.specs.Laws.Words.{operation-word}

-- two objects of 8 bytes, 8 bytes apart, of which the second points one past the end of the first
abbrev pub neighbours : Store
neighbours =
    new_region false 64 (unset_cells 8) ∷ new_region false 80 (Part 0 0 8 ∷ Part 1 0 8 ∷ Part 2 0 8 ∷ Part 3 0 8 ∷ unset_cells 4) ∷ []

abbrev first : Shape
first = record { size = 8; live = true; constant = false; address = 64 }

abbrev second : Shape
second = record { size = 8; live = true; constant = false; address = 80 }

neighbours_bounds : (r : ℕ) (z : Shape) → shape_at neighbours r ≡ Some z →
    (0 < z.address) × (z.address + z.size < 2 ^ 32)
neighbours_bounds zero z e =
    subst (λ (z : Shape). (0 < z.address) × (z.address + z.size < 2 ^ 32)) (same_Some _ z e) (omega arith, omega arith)
neighbours_bounds (suc zero) z e =
    subst (λ (z : Shape). (0 < z.address) × (z.address + z.size < 2 ^ 32)) (same_Some _ z e) (omega arith, omega arith)
neighbours_bounds (suc (suc r)) z e = absurd (none-some z e)

neighbours_apart : (r q : ℕ) (y z : Shape) → shape_at neighbours r ≡ Some y → shape_at neighbours q ≡ Some z →
    y.live ≡ true → z.live ≡ true → r ≢ q → AreApart y z
neighbours_apart zero zero y z ey ez ly lz ne = absurd (ne refl)
neighbours_apart zero (suc zero) y z ey ez ly lz ne =
    subst (λ y. AreApart y z) (same_Some first y ey) (subst (AreApart first) (same_Some second z ez) (inl (omega arith)))
neighbours_apart (suc zero) zero y z ey ez ly lz ne =
    subst (λ y. AreApart y z) (same_Some second y ey) (subst (AreApart second) (same_Some first z ez) (inr (omega arith)))
neighbours_apart (suc zero) (suc zero) y z ey ez ly lz ne = absurd (ne refl)
neighbours_apart (suc (suc r)) q y z ey ez ly lz ne = absurd (none-some y ey)
neighbours_apart zero (suc (suc q)) y z ey ez ly lz ne = absurd (none-some z ez)
neighbours_apart (suc zero) (suc (suc q)) y z ey ez ly lz ne = absurd (none-some z ez)

neighbours_pointers : (r : ℕ) (g : Region) → slice_get neighbours r ≡ Some g → AreCellsIn neighbours g.cells
neighbours_pointers zero g e = subst (λ (g : Region). AreCellsIn neighbours g.cells) (same_Some _ g e) tt
neighbours_pointers (suc zero) g e =
    subst (λ (g : Region). AreCellsIn neighbours g.cells) (same_Some _ g e) (omega arith, (omega arith, (omega arith, (omega arith, tt))))
neighbours_pointers (suc (suc r)) g e = absurd (none-some g e)

pub neighbours_addressed : IsAddressed neighbours
neighbours_addressed = record { bounds = neighbours_bounds; apart = neighbours_apart; pointers = neighbours_pointers }

-- so one past the end of the first and the start of the second have different words, as the pointers are not equal
pub different_words : word_of_operation Eq (word_of_value neighbours (Pointer 0 8)) (word_of_value neighbours (Pointer 1 0)) ≡ Some 0
different_words =
    operation-word neighbours Eq (Pointer 0 8) (Pointer 1 0) (Number 0) neighbours_addressed (omega arith) (omega arith) refl

-- the echo of the examples is the same program, further, with a longer clock
echoed_timed : (x : Bool) (b s : ℕ) → IsTimed (echoed x b s)
echoed_timed true b s = IsTimed-Gives s (Over s)
echoed_timed false b s = IsTimed-put_byte b (λ w. Gives s w Again) (IsTimed-Gives s Again)

pub echo_timed : IsTimed echo
echo_timed =
    IsTimed-then (loop (λ s w. get_byte w (λ b w. echoed (b == 2 ^ 32 - 1) b s w)) 0) (λ s w d. Gives s w (Some (Number 300))) (IsTimed-loop (λ s w. get_byte w (λ b w. echoed (b == 2 ^ 32 - 1) b s w)) (λ s. IsTimed-get_byte (λ b w. echoed (b == 2 ^ 32 - 1) b s w) (λ b. echoed_timed (b == 2 ^ 32 - 1) b s)) 0) (λ s d. IsTimed-Gives s (Some (Number 300)))
