-- The row of `++` and `--` is that of the operator in them
-- for the value of the lvalue and the number 1.
use Rattle.std.proofs.Common.{◌≡◌, ap, sym, Option, Some}
use Rattle.c_tree.specs.declared.token.Punct.{Punct}
use Rattle.c_typing.specs.Types.{int}
use Rattle.c_typing.specs.Operands.{valued, number}
use Rattle.c_typing.specs.Operators.{contained}
use Rattle.c_typing.specs.Expressions.{contained_row}
use Rattle.c_type_expressions.proofs.Ends.{same_end}
use Rattle.c_type_expressions.proofs.increments.stepped.Goals as goal

pub combined_types-requires : goal.combined_types-requires
combined_types-requires c = (c.args.operator, cc)

pub returns : goal.returns
returns c =
    let l = valued c.args.lvalue.now in
    let r = number int 1 in
    let e : Some c.in-Some.operator ≡ contained c.args.operator = cc in
    same_end c.combined_types.result _ _ (ap (λ (q : Option Punct). contained_row c.args.tags.now q l r) e) (c.combined_types.ensures l r (sym c.in_ok-left.ensures) (sym c.plain.ensures))
