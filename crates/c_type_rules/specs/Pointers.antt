-- What the rows of the table of operators plan
-- where one operand is a pointer.
use Rattle.std.specs.Prelude.{ℕ, Option, Some, None}
use Rattle.std.specs.Option.{option_map}
use Rattle.c_tree.specs.declared.typed.types.CType.{CType}
use Rattle.c_tree.specs.declared.typed.operator.Arithmetic.{Arithmetic}
use Rattle.c_tree.specs.declared.typed.operator.Stride.{Stride}
use Rattle.c_layout.specs.Tags.{Structs}
use Rattle.c_layout.specs.Sizes.{size_of}
use Rattle.c_typing.specs.Types.{in_word}
use Rattle.c_typing.specs.Operands.{target_of}
use Rattle.c_typing.specs.declared.operator.Row.{Row}
use Rattle.c_typing.specs.Operators.{plan, promoted_type, promoted_sign}

-- the size of what a pointer points to, or none where it is incomplete or a function, or there is no such type
abbrev pub size_to : Structs → Option CType → Option ℕ
size_to structs None = None
size_to structs (Some t) = option_map in_word (size_of structs t)

-- how far an integer moves a pointer
abbrev pub stride_of : Structs → (pointer integer : CType) → Option Stride
stride_of structs t u = option_map (λ n. record { element = n; sign = promoted_sign u }) (size_to structs (target_of t))

abbrev pub pointer_left : Arithmetic → (pointer integer : CType) → Row
pointer_left o t u = plan t (promoted_type u) t o

abbrev pub pointer_right : Arithmetic → (integer pointer : CType) → Row
pointer_right o u t = plan (promoted_type u) t t o
