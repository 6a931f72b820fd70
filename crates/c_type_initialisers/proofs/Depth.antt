-- One step of the way to the part that an expression initialises.
-- The answers of `descend` cite it.
use Rattle.std.proofs.Common.{◌≡◌, refl, ℕ, zero, suc, Bool, true, false, List, ◌∷◌, Some, None}
use Rattle.c_tree.specs.declared.typed.types.CType.{CType}
use Rattle.c_layout.specs.Tags.{Structs}
use Rattle.c_typing.specs.declared.initialiser.Frame.{Frame}
use Rattle.c_typing.specs.declared.initialiser.Piece.{Piece}
use Rattle.c_typing.specs.Types.{shape}
use Rattle.c_typing.specs.OfInitialisers.{part_by, descend}

-- the expression takes the part as a whole
pub descend-here : (n : ℕ) (structs : Structs) (whole : CType → Bool) (fs : List Frame) (q : Piece) → whole q.ctype ≡ true →
    descend n structs whole fs q ≡ (fs, q)
unfolding descend
descend-here zero structs whole fs q h = refl
descend-here (suc n) structs whole fs q h = rw h refl

-- the part has no parts itself
pub descend-closed : (n : ℕ) (structs : Structs) (whole : CType → Bool) (fs : List Frame) (q : Piece) → whole q.ctype ≡ false →
    part_by structs (shape q.ctype) q.offset 0 ≡ None → descend n structs whole fs q ≡ (fs, q)
unfolding descend
descend-closed zero structs whole fs q h g = refl
descend-closed (suc n) structs whole fs q h g = rw (h, g) refl

-- the first part of the part
pub descend-further : (n : ℕ) (structs : Structs) (whole : CType → Bool) (fs : List Frame) (q p : Piece) → whole q.ctype ≡ false →
    part_by structs (shape q.ctype) q.offset 0 ≡ Some p →
    descend (suc n) structs whole fs q ≡ descend n structs whole (record { ctype = q.ctype; offset = q.offset; passed = 1 } ∷ fs) p
unfolding descend
descend-further n structs whole fs q p h g = rw (h, g) refl

-- as deep as that no type nests
pub descend-no_further : (structs : Structs) (whole : CType → Bool) (fs : List Frame) (q : Piece) → descend 0 structs whole fs q ≡ (fs, q)
unfolding descend
descend-no_further structs whole fs q = refl
