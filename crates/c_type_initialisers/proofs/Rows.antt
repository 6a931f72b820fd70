-- The address that an expression with steps is, over the plain list of its steps.
-- The answers of `addresses` cite it.
use Rattle.std.proofs.Common.{◌≡◌, refl, ap, ◌∙◌, ℕ, List, [], ◌∷◌, ◌++◌}
use Rattle.std.specs.Prelude.{Option}
use Rattle.std.specs.Option.{option_and_then}
use Rattle.c_tree.specs.declared.typed.types.CType.{CType}
use Rattle.c_tree.specs.declared.typed.expression.TExpr.{TExpr, Row_of-Step, end_of-Step, more_of-Step, items-the_row-Step, items_hidden-the_row-Step-1}
use Rattle.c_tree.specs.declared.typed.expression.TExpr.TheVariants as x
use Rattle.c_tree.specs.declared.typed.expression.Step.{Step}
use Rattle.c_tree.specs.declared.typed.expression.Step.TheVariants as step
use Rattle.c_tree.specs.declared.typed.expression.Step.TheBlock.{hidden-the_row-Step-1}
use Rattle.c_layout.specs.Constants.{constant_of, constant_after}
use Rattle.c_typing.specs.declared.initialiser.Address.{Address}
use Rattle.c_typing.specs.Starts.{address_of, stepped_address, unary_address, binary_address, after_steps, is_null_pointer, is_null_behind}

steps-row : (sizes : ℕ → ℕ) (e : TExpr) (done : List Step) (n : _) (r : Row_of-Step n) (a : Option Address) →
    stepped_address sizes e done r a ≡ after_steps sizes e done (items-the_row-Step n r) a
steps-row sizes e done n end_of-Step a = refl
steps-row sizes e done n (more_of-Step (step.Unary u) rest) a =
    steps-row sizes e (done ++ step.Unary u ∷ []) _ rest (option_and_then (unary_address sizes u) a)
steps-row sizes e done n (more_of-Step (step.Binary f b) rest) a =
    steps-row sizes e (done ++ step.Binary f b ∷ []) _ rest (binary_address sizes f a (address_of sizes b) (constant_after e done) (constant_of b))

pub address-Applied : (sizes : ℕ → ℕ) (t : CType) (a : TExpr) (steps : List Step) →
    address_of sizes (x.Applied t a steps) ≡ after_steps sizes a [] steps (address_of sizes a)
unfolding Rattle.c_tree.specs.declared.typed.expression.Step.TheBlock.hidden-the_row-TExpr-0 denote.Hole.Carrier.hidden
address-Applied sizes t a steps =
    steps-row sizes a [] _ (hidden-the_row-Step-1 steps) (address_of sizes a)
    ∙ ap (λ steps. after_steps sizes a [] steps (address_of sizes a)) (items_hidden-the_row-Step-1 steps)

pub null-Applied : (t : CType) (a : TExpr) (steps : List Step) → is_null_pointer (x.Applied t a steps) ≡ is_null_behind a steps
unfolding Rattle.c_tree.specs.declared.typed.expression.Step.TheBlock.hidden-the_row-TExpr-0 denote.Hole.Carrier.hidden
null-Applied t a steps = ap (is_null_behind a) (items_hidden-the_row-Step-1 steps)
