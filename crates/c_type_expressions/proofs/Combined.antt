-- The operators that assignments contain look at the types of their operands alone,
-- so that operands of the same types give the same row.
use Rattle.std.proofs.Common.{◌≡◌, ◌∙◌, refl, ap, sym, subst, Option, Some, None}
use Rattle.c_tree.specs.declared.token.Punct.{Punct}
use Rattle.c_tree.specs.declared.token.Punct.TheVariants as p
use Rattle.c_tree.specs.declared.typed.types.CType.{CType}
use Rattle.c_layout.specs.Tags.{Structs}
use Rattle.c_typing.specs.declared.operand.Operand.{Operand}
use Rattle.c_typing.specs.Operators.{binary, contained}
use Rattle.c_type_expressions.specs.Lvalues.{stand_in_of}
use Rattle.c_type_expressions.specs.Assignments.{IsContained}

-- an operator looks at types alone
abbrev LooksAtTypes : Option Punct → Type 0
LooksAtTypes (Some q) = (structs : Structs) (l r : Operand) → binary structs q l r ≡ binary structs q (stand_in_of l.ctype) (stand_in_of r.ctype)
LooksAtTypes None = Unit {0}

contained_looks : (q : Punct) → LooksAtTypes (contained q)
contained_looks p.StarAssign = λ structs l r. refl
contained_looks p.SlashAssign = λ structs l r. refl
contained_looks p.PercentAssign = λ structs l r. refl
contained_looks p.PlusAssign = λ structs l r. refl
contained_looks p.MinusAssign = λ structs l r. refl
contained_looks p.ShiftLeftAssign = λ structs l r. refl
contained_looks p.ShiftRightAssign = λ structs l r. refl
contained_looks p.AmpersandAssign = λ structs l r. refl
contained_looks p.CaretAssign = λ structs l r. refl
contained_looks p.BarAssign = λ structs l r. refl
contained_looks p.Increment = λ structs l r. refl
contained_looks p.Decrement = λ structs l r. refl
contained_looks _ = tt

looks : (q : Punct) → IsContained q → LooksAtTypes (Some q)
looks q (a, e) = subst LooksAtTypes e (contained_looks a)

-- operands of the same types give the same row
pub combined-alike : (structs : Structs) (q : Punct) → IsContained q → (l r m n : Operand) → l.ctype ≡ m.ctype → r.ctype ≡ n.ctype →
    binary structs q l r ≡ binary structs q m n
combined-alike structs q h l r m n e f =
    looks q h structs l r
    ∙ ap (λ (t : CType). binary structs q (stand_in_of t) (stand_in_of r.ctype)) e
    ∙ ap (λ (t : CType). binary structs q (stand_in_of m.ctype) (stand_in_of t)) f
    ∙ sym (looks q h structs m n)
