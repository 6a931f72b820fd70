-- One more left side in front of what has been assigned,
-- with what is done with its object.
use Rattle.std.proofs.Common.{◌≡◌, ◌∙◌, refl, ap, sym, List, [], ◌∷◌, ◌++◌, Option, Some, None}
use Rattle.std.proofs.lemmas.List.{reverse-append}
use Rattle.c_tree.specs.declared.typed.types.CType.{CType}
use Rattle.c_tree.specs.declared.typed.operator.Scalar.{Scalar}
use Rattle.c_tree.specs.declared.typed.operator.Arithmetic.{Arithmetic}
use Rattle.c_tree.specs.declared.typed.operator.Change.{Change}
use Rattle.c_tree.specs.declared.typed.operator.Conversion.{Conversion}
use Rattle.c_tree.specs.declared.typed.expression.TExpr.{TExpr}
use Rattle.c_tree.specs.declared.typed.expression.TExpr.TheVariants as x
use Rattle.c_tree.specs.declared.typed.expression.Target.{Target}
use Rattle.c_tree.specs.declared.typed.expression.Target.TheVariants as target
use Rattle.c_typing.specs.Types.{unqualified}
use Rattle.c_typing.specs.declared.operand.Form.{Form}
use Rattle.c_typing.specs.declared.operand.Form.TheVariants.{Value, Place, Named}
use Rattle.c_typing.specs.declared.operand.Operand.{Operand}
use Rattle.c_typing.specs.Operands.{value, tree_of, conversion_to}
use Rattle.c_typing.specs.Expressions as spec
use Rattle.c_type_expressions.specs.declared.assignments.Assigned.{Assigned}
use Rattle.c_type_expressions.specs.declared.assignments.Assigned.TheVariants.{End, Targets}
use Rattle.c_type_expressions.specs.declared.assignments.Assignment.{Assignment}
use Rattle.c_type_expressions.specs.Assignments.{assigned_of, targets_of, target_by, last_of}
use Rattle.c_type_expressions.specs.Preceded.{preceded_by}

by_form : Form → Change → Operand → Target
by_form f change left = elim f as (λ f. Target) [ Named p n r ↦ target.Variable p change | f ↦ target.Place (tree_of left) change ]

by_form-same : (f : Form) (k : Scalar) (t : CType) (o : Option Arithmetic) (left : Operand) →
    by_form f (record { scalar = k; operator = o; conversion = conversion_to t }) left ≡ spec.target_of_form f k t o left
unfolding by_form
by_form-same Value k t o left = refl
by_form-same Place k t o left = refl
by_form-same (Named p n r) k t o left = refl

pub target-same : (k : Scalar) (v : Conversion) (t : CType) (o : Option Arithmetic) (left : Operand) (first : Target) → v ≡ conversion_to t →
    first ≡ target_by (record { scalar = k; operator = o; conversion = v }) left → first ≡ spec.target_of_form left.form k t o left
unfolding by_form
target-same k v t o left first e f =
    f ∙ ap (λ (u : Conversion). target_by (record { scalar = k; operator = o; conversion = u }) left) e ∙ by_form-same left.form k t o left

last-end : (u : Option CType) (t : CType) (operand : Operand) → last_of u t operand ≡ spec.last_as u t (assigned_of (End operand))
last-end (Some u) t operand = refl
last-end None t operand = refl

last-more : (u : Option CType) (t : CType) (a : Assignment) → spec.last_as u t (assigned_of (Targets a)) ≡ a.last
last-more (Some u) t a = refl
last-more None t a = refl

-- left sides and the value at the right end
abbrev assigned_with : CType → List Target → TExpr → spec.Assigned
assigned_with t targets last = record { whole = value t (x.Assign t targets last); targets = targets; last = last }

-- one left side
pub preceded-end : (u : Option CType) (t : CType) (first : Target) (operand : Operand) (right : Assigned) → right ≡ End operand →
    assigned_of (Targets (record { ctype = t; first = first; others = []; last = last_of u t operand })) ≡ preceded_by t first u (assigned_of right)
preceded-end u t first operand right h =
    ap (λ (l : TExpr). assigned_with t (first ∷ []) l) (last-end u t operand)
    ∙ ap (λ (r : Assigned). preceded_by t first u (assigned_of r)) (sym h)

-- one more left side
pub preceded-more : (u : Option CType) (t : CType) (first : Target) (a : Assignment) (right : Assigned) → right ≡ Targets a →
    assigned_of (Targets (record { ctype = t; first = first; others = a.others ++ a.first ∷ []; last = a.last })) ≡ preceded_by t first u (assigned_of right)
preceded-more u t first a right h =
    ap (λ (ts : List Target). assigned_with t (first ∷ ts) a.last) (reverse-append a.others (a.first ∷ []))
    ∙ ap (λ (l : TExpr). assigned_with t (first ∷ targets_of a) l) (sym (last-more u t a))
    ∙ ap (λ (r : Assigned). preceded_by t first u (assigned_of r)) (sym h)

-- the type of the value and a left side
abbrev side_of : CType → Target → CType × Target
side_of t a = (t, a)

-- the left side with its change
pub left-side : (left : Operand) (k : Scalar) (o : Option Arithmetic) (t : CType) (first : Target) → t ≡ unqualified left.ctype →
    first ≡ spec.target_of_form left.form k t o left → side_of t first ≡ side_of (unqualified left.ctype) (spec.target_of_form left.form k (unqualified left.ctype) o left)
left-side left k o t first e f =
    ap (λ (a : Target). side_of t a) f ∙ ap (λ (s : CType). side_of s (spec.target_of_form left.form k s o left)) e
