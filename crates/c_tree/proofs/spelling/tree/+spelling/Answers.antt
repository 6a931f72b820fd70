use Rattle.std.proofs.Common.{append_assoc, append-nil, sym}
use Rattle.c_tree.specs.Spelling.Trees.{branch_spelling, branch_spelling-is, declarator_spelling-is, declarator_suffix_spelling, declarator_suffix_spelling-Array, declarator_suffix_spelling-ArrayOf, declarator_suffix_spelling-Empty, declarator_suffix_spelling-Parameters, declarator_suffix_spelling-Void, direct_spelling-Grouped, direct_spelling-Named, direct_spelling-Nothing, enumerator_spelling, enumerator_spelling-Plain, enumerator_spelling-Valued, expr_spelling-Assign, expr_spelling-Binary, expr_spelling-Char, expr_spelling-Comma, expr_spelling-Conditional, expr_spelling-Name, expr_spelling-Number, expr_spelling-Paren, expr_spelling-Postfix, expr_spelling-Prefixed, expr_spelling-SizeofType, expr_spelling-Strings, member_declarator_spelling, member_declarator_spelling-is, member_spelling, member_spelling-is, next_spelling, next_spelling-is, parameter_spelling, parameter_spelling-is, prefix_spelling, prefix_spelling-Cast, prefix_spelling-Operator, prefix_spelling-Sizeof, specifier_spelling, specifier_spelling-Const, specifier_spelling-Enum, specifier_spelling-EnumTag, specifier_spelling-Storage, specifier_spelling-Struct, specifier_spelling-StructTag, specifier_spelling-TypedefName, specifier_spelling-Word, suffix_spelling, suffix_spelling-Arrow, suffix_spelling-Call, suffix_spelling-CallWith, suffix_spelling-Decrement, suffix_spelling-Increment, suffix_spelling-Index, suffix_spelling-Member, type_name_spelling-is}
use Rattle.c_tree.proofs.Appends.{joined_more, told-append}
use Rattle.c_tree.proofs.spelling.tree.+spelling.Goals as goal

pub suffixes-loop-one-preserved : goal.suffixes-loop-one-preserved
suffixes-loop-one-preserved g t c =
    let more = joined_more g.S.Taker.shown suffix_spelling c.args.all.now c.loop-one.one-index c.one-item.result c.loop-one-test.true c.one-item.is in
    rw (more, c.in_ok-suffix.ensures, c.loop-one.invariant) (simp append_assoc)

pub prefixes-loop-one-preserved : goal.prefixes-loop-one-preserved
prefixes-loop-one-preserved g t c =
    let more = joined_more g.S.Taker.shown prefix_spelling c.args.all.now c.loop-one.one-index c.one-item.result c.loop-one-test.true c.one-item.is in
    rw (more, c.in_ok-prefix.ensures, c.loop-one.invariant) (simp append_assoc)

pub specifiers-loop-one-preserved : goal.specifiers-loop-one-preserved
specifiers-loop-one-preserved g t c =
    let more = joined_more g.S.Taker.shown specifier_spelling c.args.all.now c.loop-one.one-index c.one-item.result c.loop-one-test.true c.one-item.is in
    rw (more, c.in_ok-specifier.ensures, c.loop-one.invariant) (simp append_assoc)

pub enumerators-loop-one-preserved : goal.enumerators-loop-one-preserved
enumerators-loop-one-preserved g t c =
    let more = joined_more g.S.Taker.shown enumerator_spelling c.args.all.now c.loop-one.one-index c.one-item.result c.loop-one-test.true c.one-item.is in
    rw (more, c.in_ok-enumerator.ensures, c.loop-one.invariant) (simp append_assoc)

pub declarator_suffixes-loop-one-preserved : goal.declarator_suffixes-loop-one-preserved
declarator_suffixes-loop-one-preserved g t c =
    let more = joined_more g.S.Taker.shown declarator_suffix_spelling c.args.all.now c.loop-one.one-index c.one-item.result c.loop-one-test.true c.one-item.is in
    rw (more, c.in_ok-declarator_suffix.ensures, c.loop-one.invariant) (simp append_assoc)

pub nexts-loop-one-preserved : goal.nexts-loop-one-preserved
nexts-loop-one-preserved g t c =
    let more = joined_more g.S.Taker.shown next_spelling c.args.all.now c.loop-one.one-index c.one-item.result c.loop-one-test.true c.one-item.is in
    rw (more, c.in_ok-expr.ensures, c.in_ok-punct.ensures, c.loop-one.invariant, next_spelling-is c.one-item.result) (simp append_assoc)

pub branches-loop-one-preserved : goal.branches-loop-one-preserved
branches-loop-one-preserved g t c =
    let more = joined_more g.S.Taker.shown branch_spelling c.args.all.now c.loop-one.one-index c.one-item.result c.loop-one-test.true c.one-item.is in
    rw (more, c.in_ok-expr-2.ensures, c.in_ok-punct-2.ensures, c.in_ok-expr.ensures, c.in_ok-punct.ensures, c.loop-one.invariant, branch_spelling-is c.one-item.result) (simp (told-append g.S.Taker.shown, append_assoc))

pub members-loop-one-preserved : goal.members-loop-one-preserved
members-loop-one-preserved g t c =
    let more = joined_more g.S.Taker.shown member_spelling c.args.all.now c.loop-one.one-index c.one-item.result c.loop-one-test.true c.one-item.is in
    rw (more, c.in_ok-punct.ensures, c.in_ok-member_declarators.ensures, c.as_slice-in-loop-one.ensures, c.in_ok-specifiers.ensures, c.as_slice.ensures, c.loop-one.invariant, member_spelling-is c.one-item.result) (simp (told-append g.S.Taker.shown, append_assoc))

pub member_declarators-loop-one-preserved : goal.member_declarators-loop-one-preserved
member_declarators-loop-one-preserved g t c =
    let more = joined_more g.S.Taker.shown member_declarator_spelling c.args.all.now c.loop-one.one-index c.one-item.result c.loop-one-test.true c.one-item.is in
    rw (more, c.in_ok-declarator.ensures, c.in_ok-comma_at.ensures, c.loop-one.invariant, member_declarator_spelling-is c.one-item.result) (simp (told-append g.S.Taker.shown, append_assoc))

pub parameters-loop-one-preserved : goal.parameters-loop-one-preserved
parameters-loop-one-preserved g t c =
    let more = joined_more g.S.Taker.shown parameter_spelling c.args.all.now c.loop-one.one-index c.one-item.result c.loop-one-test.true c.one-item.is in
    rw (more, c.in_ok-declarator.ensures, c.in_ok-specifiers.ensures, c.as_slice.ensures, c.in_ok-comma_at.ensures, c.loop-one.invariant, parameter_spelling-is c.one-item.result) (simp (told-append g.S.Taker.shown, append_assoc))

pub type_name-returns : goal.type_name-returns
type_name-returns g t c = rw (type_name_spelling-is c.args.tree.now, c.in_ok-declarator.ensures, c.in_ok-specifiers.ensures, c.as_slice.ensures) (simp (told-append g.S.Taker.shown, append_assoc))

pub declarator-returns : goal.declarator-returns
declarator-returns g t c = rw (declarator_spelling-is c.args.tree.now, c.in_ok-declarator_suffixes.ensures, c.as_slice-2.ensures, c.in_ok-direct.ensures, c.in_ok-pointers.ensures, c.as_slice.ensures) (simp (told-append g.S.Taker.shown, append_assoc))

pub expr-returns-in_ok-identifier-in-Name : goal.expr-returns-in_ok-identifier-in-Name
expr-returns-in_ok-identifier-in-Name g t c = rw (c.in-Name.is, expr_spelling-Name, c.in_ok-identifier-in-Name.ensures)

pub expr-returns-in_ok-take-in-Number : goal.expr-returns-in_ok-take-in-Number
expr-returns-in_ok-take-in-Number g t c = rw (c.in-Number.is, expr_spelling-Number, c.in_ok-take-in-Number.ensures)

pub expr-returns-in_ok-take-in-Char : goal.expr-returns-in_ok-take-in-Char
expr-returns-in_ok-take-in-Char g t c = rw (c.in-Char.is, expr_spelling-Char, c.in_ok-take-in-Char.ensures)

pub expr-returns-in_ok-literals-in-Strings : goal.expr-returns-in_ok-literals-in-Strings
expr-returns-in_ok-literals-in-Strings g t c = rw (c.in-Strings.is, expr_spelling-Strings, c.in_ok-literals-in-Strings.ensures, c.as_slice.ensures)

pub expr-returns-in_ok-punct-in-Paren-2 : goal.expr-returns-in_ok-punct-in-Paren-2
expr-returns-in_ok-punct-in-Paren-2 g t c = rw (c.in-Paren.is, expr_spelling-Paren, c.in_ok-punct-in-Paren-2.ensures, c.in_ok-expr-in-Paren.ensures, c.get.ensures, c.in_ok-punct-in-Paren.ensures) (simp (told-append g.S.Taker.shown, append_assoc))

pub expr-returns-in_ok-suffixes-in-Postfix : goal.expr-returns-in_ok-suffixes-in-Postfix
expr-returns-in_ok-suffixes-in-Postfix g t c = rw (c.in-Postfix.is, expr_spelling-Postfix, c.in_ok-suffixes-in-Postfix.ensures, c.as_slice-in-Postfix.ensures, c.in_ok-expr-in-Postfix.ensures, c.get-in-Postfix.ensures) (simp (told-append g.S.Taker.shown, append_assoc))

pub expr-returns-in_ok-punct-in-SizeofType-2 : goal.expr-returns-in_ok-punct-in-SizeofType-2
expr-returns-in_ok-punct-in-SizeofType-2 g t c = rw (c.in-SizeofType.is, expr_spelling-SizeofType, c.in_ok-punct-in-SizeofType-2.ensures, c.in_ok-type_name-in-SizeofType.ensures, c.get-in-SizeofType.ensures, c.in_ok-punct-in-SizeofType.ensures, c.in_ok-keyword-in-SizeofType.ensures) (simp (told-append g.S.Taker.shown, append_assoc))

pub expr-returns-in_ok-expr-in-Prefixed : goal.expr-returns-in_ok-expr-in-Prefixed
expr-returns-in_ok-expr-in-Prefixed g t c = rw (c.in-Prefixed.is, expr_spelling-Prefixed, c.in_ok-expr-in-Prefixed.ensures, c.get-in-Prefixed.ensures, c.in_ok-prefixes-in-Prefixed.ensures, c.as_slice-in-Prefixed.ensures) (simp (told-append g.S.Taker.shown, append_assoc))

pub expr-returns-in_ok-nexts-in-Binary : goal.expr-returns-in_ok-nexts-in-Binary
expr-returns-in_ok-nexts-in-Binary g t c = rw (c.in-Binary.is, expr_spelling-Binary, c.in_ok-nexts-in-Binary.ensures, c.as_slice-in-Binary.ensures, c.in_ok-expr-in-Binary.ensures, c.get-in-Binary.ensures) (simp (told-append g.S.Taker.shown, append_assoc))

pub expr-returns-in_ok-branches-in-Conditional : goal.expr-returns-in_ok-branches-in-Conditional
expr-returns-in_ok-branches-in-Conditional g t c = rw (c.in-Conditional.is, expr_spelling-Conditional, c.in_ok-branches-in-Conditional.ensures, c.as_slice-in-Conditional.ensures, c.in_ok-expr-in-Conditional.ensures, c.get-in-Conditional.ensures) (simp (told-append g.S.Taker.shown, append_assoc))

pub expr-returns-in_ok-nexts-in-Assign : goal.expr-returns-in_ok-nexts-in-Assign
expr-returns-in_ok-nexts-in-Assign g t c = rw (c.in-Assign.is, expr_spelling-Assign, c.in_ok-nexts-in-Assign.ensures, c.as_slice-in-Assign.ensures, c.in_ok-expr-in-Assign.ensures, c.get-in-Assign.ensures) (simp (told-append g.S.Taker.shown, append_assoc))

pub expr-returns-in_ok-nexts-in-Comma : goal.expr-returns-in_ok-nexts-in-Comma
expr-returns-in_ok-nexts-in-Comma g t c = rw (c.in-Comma.is, expr_spelling-Comma, c.in_ok-nexts-in-Comma.ensures, c.as_slice-in-Comma.ensures, c.in_ok-expr-in-Comma.ensures, c.get-in-Comma.ensures) (simp (told-append g.S.Taker.shown, append_assoc))

pub suffix-returns-in_ok-punct-in-Index-2 : goal.suffix-returns-in_ok-punct-in-Index-2
suffix-returns-in_ok-punct-in-Index-2 g t c = rw (c.in-Index.is, suffix_spelling-Index, c.in_ok-punct-in-Index-2.ensures, c.in_ok-expr-in-Index.ensures, c.in_ok-punct-in-Index.ensures) (simp (told-append g.S.Taker.shown, append_assoc))

pub suffix-returns-in_ok-punct-in-Call-2 : goal.suffix-returns-in_ok-punct-in-Call-2
suffix-returns-in_ok-punct-in-Call-2 g t c = rw (c.in-Call.is, suffix_spelling-Call, c.in_ok-punct-in-Call-2.ensures, c.in_ok-punct-in-Call.ensures) (simp (told-append g.S.Taker.shown, append_assoc))

pub suffix-returns-in_ok-punct-in-CallWith-2 : goal.suffix-returns-in_ok-punct-in-CallWith-2
suffix-returns-in_ok-punct-in-CallWith-2 g t c = rw (c.in-CallWith.is, suffix_spelling-CallWith, c.in_ok-punct-in-CallWith-2.ensures, c.in_ok-nexts-in-CallWith.ensures, c.as_slice.ensures, c.in_ok-expr-in-CallWith.ensures, c.in_ok-punct-in-CallWith.ensures) (simp (told-append g.S.Taker.shown, append_assoc))

pub suffix-returns-in_ok-identifier-in-Member : goal.suffix-returns-in_ok-identifier-in-Member
suffix-returns-in_ok-identifier-in-Member g t c = rw (c.in-Member.is, suffix_spelling-Member, c.in_ok-identifier-in-Member.ensures, c.in_ok-punct-in-Member.ensures) (simp append_assoc)

pub suffix-returns-in_ok-identifier-in-Arrow : goal.suffix-returns-in_ok-identifier-in-Arrow
suffix-returns-in_ok-identifier-in-Arrow g t c = rw (c.in-Arrow.is, suffix_spelling-Arrow, c.in_ok-identifier-in-Arrow.ensures, c.in_ok-punct-in-Arrow.ensures) (simp append_assoc)

pub suffix-returns-in_ok-punct-in-Increment : goal.suffix-returns-in_ok-punct-in-Increment
suffix-returns-in_ok-punct-in-Increment g t c = rw (c.in-Increment.is, suffix_spelling-Increment, c.in_ok-punct-in-Increment.ensures)

pub suffix-returns-in_ok-punct-in-Decrement : goal.suffix-returns-in_ok-punct-in-Decrement
suffix-returns-in_ok-punct-in-Decrement g t c = rw (c.in-Decrement.is, suffix_spelling-Decrement, c.in_ok-punct-in-Decrement.ensures)

pub prefix-returns-in_ok-punct-in-Operator : goal.prefix-returns-in_ok-punct-in-Operator
prefix-returns-in_ok-punct-in-Operator g t c = rw (c.in-Operator.is, prefix_spelling-Operator, c.in_ok-punct-in-Operator.ensures)

pub prefix-returns-in_ok-keyword-in-Sizeof : goal.prefix-returns-in_ok-keyword-in-Sizeof
prefix-returns-in_ok-keyword-in-Sizeof g t c = rw (c.in-Sizeof.is, prefix_spelling-Sizeof, c.in_ok-keyword-in-Sizeof.ensures)

pub prefix-returns-in_ok-punct-in-Cast-2 : goal.prefix-returns-in_ok-punct-in-Cast-2
prefix-returns-in_ok-punct-in-Cast-2 g t c = rw (c.in-Cast.is, prefix_spelling-Cast, c.in_ok-punct-in-Cast-2.ensures, c.in_ok-type_name-in-Cast.ensures, c.in_ok-punct-in-Cast.ensures) (simp (told-append g.S.Taker.shown, append_assoc))

pub specifier-returns-in_ok-keyword-in-Storage : goal.specifier-returns-in_ok-keyword-in-Storage
specifier-returns-in_ok-keyword-in-Storage g t c = rw (c.in-Storage.is, specifier_spelling-Storage, c.in_ok-keyword-in-Storage.ensures, c.storage_word.ensures)

pub specifier-returns-in_ok-keyword-in-Const : goal.specifier-returns-in_ok-keyword-in-Const
specifier-returns-in_ok-keyword-in-Const g t c = rw (c.in-Const.is, specifier_spelling-Const, c.in_ok-keyword-in-Const.ensures)

pub specifier-returns-in_ok-keyword-in-Word : goal.specifier-returns-in_ok-keyword-in-Word
specifier-returns-in_ok-keyword-in-Word g t c = rw (c.in-Word.is, specifier_spelling-Word, c.in_ok-keyword-in-Word.ensures, c.type_word.ensures)

pub specifier-returns-in_ok-identifier-in-StructTag : goal.specifier-returns-in_ok-identifier-in-StructTag
specifier-returns-in_ok-identifier-in-StructTag g t c = rw (c.in-StructTag.is, specifier_spelling-StructTag, c.in_ok-identifier-in-StructTag.ensures, c.in_ok-keyword-in-StructTag.ensures) (simp append_assoc)

pub specifier-returns-in_ok-punct-in-Struct-2 : goal.specifier-returns-in_ok-punct-in-Struct-2
specifier-returns-in_ok-punct-in-Struct-2 g t c = rw (c.in-Struct.is, specifier_spelling-Struct, c.in_ok-punct-in-Struct-2.ensures, c.in_ok-members-in-Struct.ensures, c.as_slice.ensures, c.in_ok-punct-in-Struct.ensures, c.in_ok-name_at-in-Struct.ensures, c.in_ok-keyword-in-Struct.ensures) (simp (told-append g.S.Taker.shown, append_assoc))

pub specifier-returns-in_ok-identifier-in-EnumTag : goal.specifier-returns-in_ok-identifier-in-EnumTag
specifier-returns-in_ok-identifier-in-EnumTag g t c = rw (c.in-EnumTag.is, specifier_spelling-EnumTag, c.in_ok-identifier-in-EnumTag.ensures, c.in_ok-keyword-in-EnumTag.ensures) (simp append_assoc)

pub specifier-returns-in_ok-punct-in-Enum-2 : goal.specifier-returns-in_ok-punct-in-Enum-2
specifier-returns-in_ok-punct-in-Enum-2 g t c = rw (c.in-Enum.is, specifier_spelling-Enum, c.in_ok-punct-in-Enum-2.ensures, c.in_ok-comma_at-in-Enum.ensures, c.in_ok-enumerators-in-Enum.ensures, c.as_slice-in-Enum.ensures, c.in_ok-punct-in-Enum.ensures, c.in_ok-name_at-in-Enum.ensures, c.in_ok-keyword-in-Enum.ensures) (simp (told-append g.S.Taker.shown, append_assoc))

pub specifier-returns-in_ok-identifier-in-TypedefName : goal.specifier-returns-in_ok-identifier-in-TypedefName
specifier-returns-in_ok-identifier-in-TypedefName g t c = rw (c.in-TypedefName.is, specifier_spelling-TypedefName, c.in_ok-identifier-in-TypedefName.ensures)

pub enumerator-returns-in_ok-identifier-in-Plain : goal.enumerator-returns-in_ok-identifier-in-Plain
enumerator-returns-in_ok-identifier-in-Plain g t c = rw (c.in-Plain.is, enumerator_spelling-Plain, c.in_ok-identifier-in-Plain.ensures, c.in_ok-comma_at-in-Plain.ensures) (simp (told-append g.S.Taker.shown, append_assoc))

pub enumerator-returns-in_ok-expr-in-Valued : goal.enumerator-returns-in_ok-expr-in-Valued
enumerator-returns-in_ok-expr-in-Valued g t c = rw (c.in-Valued.is, enumerator_spelling-Valued, c.in_ok-expr-in-Valued.ensures, c.in_ok-punct-in-Valued.ensures, c.in_ok-identifier-in-Valued.ensures, c.in_ok-comma_at-in-Valued.ensures) (simp (told-append g.S.Taker.shown, append_assoc))

pub direct-returns-in_ok-identifier-in-Named : goal.direct-returns-in_ok-identifier-in-Named
direct-returns-in_ok-identifier-in-Named g t c = rw (c.in-Named.is, direct_spelling-Named, c.in_ok-identifier-in-Named.ensures)

pub direct-returns-in_ok-punct-in-Grouped-2 : goal.direct-returns-in_ok-punct-in-Grouped-2
direct-returns-in_ok-punct-in-Grouped-2 g t c = rw (c.in-Grouped.is, direct_spelling-Grouped, c.in_ok-punct-in-Grouped-2.ensures, c.in_ok-declarator-in-Grouped.ensures, c.get.ensures, c.in_ok-punct-in-Grouped.ensures) (simp (told-append g.S.Taker.shown, append_assoc))

pub direct-returns-in-Nothing : goal.direct-returns-in-Nothing
direct-returns-in-Nothing g t c = rw (c.in-Nothing.is, direct_spelling-Nothing) (sym (append-nil _))

pub declarator_suffix-returns-in_ok-punct-in-Array-2 : goal.declarator_suffix-returns-in_ok-punct-in-Array-2
declarator_suffix-returns-in_ok-punct-in-Array-2 g t c = rw (c.in-Array.is, declarator_suffix_spelling-Array, c.in_ok-punct-in-Array-2.ensures, c.in_ok-punct-in-Array.ensures) (simp (told-append g.S.Taker.shown, append_assoc))

pub declarator_suffix-returns-in_ok-punct-in-ArrayOf-2 : goal.declarator_suffix-returns-in_ok-punct-in-ArrayOf-2
declarator_suffix-returns-in_ok-punct-in-ArrayOf-2 g t c = rw (c.in-ArrayOf.is, declarator_suffix_spelling-ArrayOf, c.in_ok-punct-in-ArrayOf-2.ensures, c.in_ok-expr-in-ArrayOf.ensures, c.in_ok-punct-in-ArrayOf.ensures) (simp (told-append g.S.Taker.shown, append_assoc))

pub declarator_suffix-returns-in_ok-punct-in-Empty-2 : goal.declarator_suffix-returns-in_ok-punct-in-Empty-2
declarator_suffix-returns-in_ok-punct-in-Empty-2 g t c = rw (c.in-Empty.is, declarator_suffix_spelling-Empty, c.in_ok-punct-in-Empty-2.ensures, c.in_ok-punct-in-Empty.ensures) (simp (told-append g.S.Taker.shown, append_assoc))

pub declarator_suffix-returns-in_ok-punct-in-Void-2 : goal.declarator_suffix-returns-in_ok-punct-in-Void-2
declarator_suffix-returns-in_ok-punct-in-Void-2 g t c = rw (c.in-Void.is, declarator_suffix_spelling-Void, c.in_ok-punct-in-Void-2.ensures, c.in_ok-keyword-in-Void.ensures, c.in_ok-punct-in-Void.ensures) (simp (told-append g.S.Taker.shown, append_assoc))

pub declarator_suffix-returns-in_ok-punct-in-Parameters-2 : goal.declarator_suffix-returns-in_ok-punct-in-Parameters-2
declarator_suffix-returns-in_ok-punct-in-Parameters-2 g t c = rw (c.in-Parameters.is, declarator_suffix_spelling-Parameters, c.in_ok-punct-in-Parameters-2.ensures, c.in_ok-parameters-in-Parameters.ensures, c.as_slice.ensures, c.in_ok-punct-in-Parameters.ensures) (simp (told-append g.S.Taker.shown, append_assoc))
