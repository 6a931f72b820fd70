-- The code of expressions, form by form: operands from left to right, each effect complete before what follows (C11 6.5).
-- One variable has what `&&`, `||` and `? :` give, for it is read right behind their block.
use Rattle.std.specs.Prelude.{ℕ, List, [], ◌∷◌, Option, Some, None}
use Rattle.word_ops.specs.declared.operation.Op.TheVariants as op
use Rattle.core_lang.specs.declared.act.Atom.{Atom}
use Rattle.core_lang.specs.declared.act.Atom.TheVariants as at
use Rattle.core_lang.specs.declared.act.Core.{Core}
use Rattle.core_lang.specs.declared.act.Core.TheVariants as c
use Rattle.c_tree.specs.declared.typed.expression.TExpr.{TExpr, Row_of-TExpr, end_of-TExpr, more_of-TExpr, Row_of-Step, end_of-Step, more_of-Step, Row_of-Arm, end_of-Arm, more_of-Arm, Row_of-Target, end_of-Target, more_of-Target}
use Rattle.c_tree.specs.declared.typed.expression.TExpr.TheVariants as x
use Rattle.c_tree.specs.declared.typed.expression.Step.TheVariants as step
use Rattle.c_tree.specs.declared.typed.expression.Target.TheVariants as target
use Rattle.lowering_form.specs.declared.place.Place.TheVariants as place
use Rattle.lowering_form.specs.Code.{Code, Valued, Listed, begun, given, with_act, assigned, with_list}
use Rattle.lowering_form.specs.Places.{Scope, place_in}
use Rattle.lowering_form.specs.Operators.{arithmetic_code, changed_code, primary_code, unary_code}

-- ---- joins: what one of several ways gives

-- the block of a join, behind which a temporary has what it gave
abbrev pub joined : (join : ℕ) → Code → (inner : Code) → Valued
joined x k inner = assigned (λ t. c.Move t (at.Var x)) (with_list c.Block k inner)

-- the acts by which a join gives a value and is left
abbrev pub settles : (join : ℕ) → Atom → List Core
settles x v = c.Move x v ∷ c.Break 0 ∷ []

-- the last operand of `&&` and of `||` is their value, as 0 or 1 (C11 6.5.13p3, 6.5.14p3)
abbrev pub settled_by_last : (join : ℕ) → Valued → Code
settled_by_last x v = with_act (c.Operate x op.Ne v.atom (at.Word 0)) v.code

-- an operand of `&&` before the last: where it is 0, that is the value (C11 6.5.13p4)
abbrev pub settled_by_false : (join : ℕ) → Valued → Code
settled_by_false x v = with_act (c.If v.atom [] (settles x (at.Word 0))) v.code

-- an operand of `||` before the last: where it is not 0, the value is 1 (C11 6.5.14p4)
abbrev pub settled_by_true : (join : ℕ) → Valued → Code
settled_by_true x v = with_act (c.If v.atom (settles x (at.Word 1)) []) v.code

-- what `? :` chooses (C11 6.5.15p4)
abbrev pub settled : (join : ℕ) → Valued → Code
settled x v = with_act (c.Move x v.atom) v.code

-- the same where more arms follow, which are left
abbrev pub settled_and_left : (join : ℕ) → Valued → Code
settled_and_left x v = with_act (c.Break 0) (settled x v)

-- ---- calls, input and output

-- a call whose value is used (C11 6.5.2.2)
abbrev pub call_code : (function : ℕ) → Listed → Valued
call_code f vs = assigned (λ t. c.Call (Some t) f vs.atoms) vs.code

-- a call whose value is dropped
abbrev pub dropped_call_code : (function : ℕ) → Listed → Valued
dropped_call_code f vs = given (at.Word 0) (with_act (c.Call None f vs.atoms) vs.code)

-- `putchar` gives the byte that it puts out (C11 7.21.7.8)
abbrev pub put_code : Valued → Valued
put_code v = assigned (λ t. c.Operate t op.Zext8 v.atom (at.Word 0)) (with_act (c.Put v.atom) v.code)

-- `exit` (C11 7.22.4.4)
abbrev pub exit_code : Valued → Valued
exit_code v = given (at.Word 0) (with_act (c.Exit v.atom) v.code)

-- ---- expressions

-- one more value in front of those of a list
abbrev pub listed : Atom → Listed → Listed
listed v vs = record { code = vs.code; atoms = v ∷ vs.atoms }

abbrev mutual
  -- the code of an expression, and its value: a word, the address of an object, or a temporary. Of an lvalue in memory that is
  -- its address (C11 6.5.3.2p3); of a void expression it is the word 0, and used by nothing
  pub value_code : TExpr → Scope → Code → Valued
  value_code (x.Primary t p) sc k = primary_code p sc k
  value_code (x.Applied' t p (more_of-TExpr a end_of-TExpr) n steps) sc k = steps_code steps sc (value_code a sc k)
  value_code (x.All' t n all) sc k = joined sc.level k (every_code all sc (begun k))
  value_code (x.Any' t n all) sc k = joined sc.level k (some_code all sc (begun k))
  value_code (x.Choose' t n arms p (more_of-TExpr a end_of-TExpr)) sc k =
      joined sc.level k (settled sc.level (value_code a sc (arms_code arms sc (begun k))))
  value_code (x.Comma' t n all p (more_of-TExpr a end_of-TExpr)) sc k = value_code a sc (values_code all sc k).code
  value_code (x.Assign' t n targets p (more_of-TExpr a end_of-TExpr)) sc k =
      targets_code targets (value_code a sc) sc k
  value_code (x.Call' t f n all) sc k = call_code f (values_code all sc k)
  value_code (x.DroppedCall' t f n all) sc k = dropped_call_code f (values_code all sc k)
  value_code (x.GetChar t) sc k = assigned (λ t. c.Get t) k
  value_code (x.PutChar' t p (more_of-TExpr a end_of-TExpr)) sc k = put_code (value_code a sc k)
  value_code (x.Exit' t p (more_of-TExpr a end_of-TExpr)) sc k = exit_code (value_code a sc k)

  -- what is done with a value, step by step
  pub steps_code : {n : _} → Row_of-Step n → Scope → Valued → Valued
  steps_code end_of-Step sc v = v
  steps_code (more_of-Step (step.Unary u) rest) sc v = steps_code rest sc (unary_code u v)
  steps_code (more_of-Step (step.Binary o b) rest) sc v =
      let right = value_code b sc v.code in steps_code rest sc (arithmetic_code o v.atom right.atom right.code)

  -- expressions from left to right (C11 6.5.2.2p4, 6.5.17p2)
  pub values_code : {n : _} → Row_of-TExpr n → Scope → Code → Listed
  values_code end_of-TExpr sc k = record { code = k; atoms = [] }
  values_code (more_of-TExpr a rest) sc k =
      let first = value_code a sc k in listed first.atom (values_code rest sc first.code)

  -- the operands of `&&` (C11 6.5.13)
  pub every_code : {n : _} → Row_of-TExpr n → Scope → Code → Code
  every_code end_of-TExpr sc k = k
  every_code (more_of-TExpr a end_of-TExpr) sc k = settled_by_last sc.level (value_code a sc k)
  every_code (more_of-TExpr a (more_of-TExpr b rest)) sc k =
      every_code (more_of-TExpr b rest) sc (settled_by_false sc.level (value_code a sc k))

  -- the operands of `||` (C11 6.5.14)
  pub some_code : {n : _} → Row_of-TExpr n → Scope → Code → Code
  some_code end_of-TExpr sc k = k
  some_code (more_of-TExpr a end_of-TExpr) sc k = settled_by_last sc.level (value_code a sc k)
  some_code (more_of-TExpr a (more_of-TExpr b rest)) sc k =
      some_code (more_of-TExpr b rest) sc (settled_by_true sc.level (value_code a sc k))

  -- the arms of `? :` but the last (C11 6.5.15)
  pub arms_code : {n : _} → Row_of-Arm n → Scope → Code → Code
  arms_code end_of-Arm sc k = k
  arms_code (more_of-Arm e a rest) sc k =
      let condition = value_code e sc k in
      arms_code rest sc (with_list (λ acts. c.If condition.atom acts []) condition.code (settled_and_left sc.level (value_code a sc (begun condition.code))))

  -- assignments: the designators from left to right, then the value, then each object from right to left (C11 6.5.16)
  pub targets_code : {n : _} → Row_of-Target n → (last : Code → Valued) → Scope → Code → Valued
  targets_code end_of-Target last sc k = last k
  targets_code (more_of-Target (target.Variable i h) rest) last sc k =
      changed_code (place_in sc i) h (targets_code rest last sc k)
  targets_code (more_of-Target (target.Place a h) rest) last sc k =
      let address = value_code a sc k in
      changed_code (place.Memory address.atom) h (targets_code rest last sc address.code)
