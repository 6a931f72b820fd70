-- The bytes of arrays.
-- The clauses of `derivations` cite them.
use Rattle.std.specs.Prelude.{ℕ, ◌*◌, nat_lt, Bool, false, Option, Some, None}
use Rattle.c_typing.specs.Types.{most_bytes}

-- so many elements of so many bytes have more bytes than a type may have
abbrev pub have_too_many : Option ℕ → ℕ → Bool
have_too_many (Some k) n = nat_lt most_bytes (k * n)
have_too_many None n = false
