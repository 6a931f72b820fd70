-- Tests that come out the same whatever a part of them says.
-- Each law whose production does not go on ends in one.
use Rattle.std.specs.Prelude.{◌≡◌, Bool, true, false, ◌&&◌, refl}

pub and_false : (b : Bool) → (b && false) ≡ false
and_false true = refl
and_false false = refl
