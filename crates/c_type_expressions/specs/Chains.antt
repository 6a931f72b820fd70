-- What a chain of `? :` stands for as far as it has been read,
-- and how it grows.
use Rattle.std.specs.Prelude.{Bool, false, ◌&&◌, if◌then◌else◌, [], ◌∷◌, ◌++◌, reverse, Option, Some}
use Rattle.c_tree.specs.declared.typed.types.CType.{CType}
use Rattle.c_tree.specs.declared.typed.expression.Arm.{Arm, roll-Arm}
use Rattle.c_typing.specs.Types.{is_integer, is_pointer}
use Rattle.c_typing.specs.declared.operand.Operand.{Operand}
use Rattle.c_tree.specs.declared.token.Pos.{Pos}
use Rattle.c_typing.specs.Scopes.{Walk, asked, unasked}
use Rattle.c_typing.specs.Operators.{chosen}
use Rattle.c_typing.specs.Operands.{value, valued, tree_of, is_null_constant}
use Rattle.c_typing.specs.Expressions as spec
use Rattle.c_type_expressions.specs.declared.chains.Chain.{Chain}
use Rattle.c_type_expressions.specs.declared.chains.Chain.TheVariants.{End, Choices}

abbrev pub chain_of : Chain → spec.Chain
chain_of (End o) = record { whole = o; arms = []; last = o }
chain_of (Choices c) =
    record { whole = value c.ctype (spec.choose c.ctype (reverse c.arms) c.last); arms = reverse c.arms; last = c.last }

-- a condition and what is chosen where it holds, at this type
abbrev pub arm_at : CType → Operand × Operand → Arm
arm_at t a = roll-Arm (record { condition = tree_of a.0; chosen = spec.chosen_as t a.1 })

-- there is a choice, between integers
abbrev pub gives_integer : Chain → Bool
gives_integer (End o) = false
gives_integer (Choices c) = is_integer c.ctype

-- the chain is one operand, and a null pointer constant
abbrev pub ends_in_null : Chain → Bool
ends_in_null (End o) = is_null_constant o
ends_in_null (Choices c) = false

-- behind a pointer a chain of integers is one operand
abbrev pub settled_behind : CType → Chain → Chain
settled_behind l chain = if is_pointer l && gives_integer chain then End (chain_of chain).whole else chain

-- one more condition, and what is chosen where it holds
abbrev pub longer : CType → Operand × Operand → Chain → Chain
longer t arm (End o) = Choices (record { ctype = t; arms = arm ∷ []; last = o })
longer t arm (Choices c) = Choices (record { ctype = t; arms = c.arms ++ arm ∷ []; last = c.last })

-- a choice, behind its condition
abbrev pub chosen_between : Pos → Option Operand → Option Operand → Option spec.Chain → Walk spec.Chain
chosen_between at k (Some gives) (Some rest) = asked k (λ k. spec.chosen_if at k (valued gives) rest (chosen (valued gives) rest.whole))
chosen_between at k gives rest = unasked
