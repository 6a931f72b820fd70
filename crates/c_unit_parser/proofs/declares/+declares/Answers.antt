-- The walk over trees puts behind the names what the levels of the grammar declare.
-- One goal for each kind of tree, and two for each list.
use Rattle.std.proofs.Common.{false, [], ◌∷◌, refl, arith}
use Rattle.std.proofs.lemmas.Grind.{common_steps}
use Rattle.std.proofs.lemmas.Result.{on_ok_weaker}
use Rattle.c_tree.specs.Levels.Trees as level
use Rattle.c_unit_parser.proofs.Puts.{puts_nothing, puts_as, puts_then, puts_itself, no_row, one_more, no_names}
use Rattle.c_unit_parser.proofs.declares.+declares.Goals as goal

pub suffixes-loop-one-init : goal.suffixes-loop-one-init
suffixes-loop-one-init t c = no_row level.suffix_level _

pub suffixes-loop-one-preserved : goal.suffixes-loop-one-preserved
suffixes-loop-one-preserved t c = one_more level.suffix_level c.args.all.now c.loop-one.one-index c.one-item.result c.loop-one-test.true c.one-item.is c.loop-one.invariant c.in_ok-suffix.ensures

pub prefixes-loop-one-init : goal.prefixes-loop-one-init
prefixes-loop-one-init t c = no_row level.prefix_level _

pub prefixes-loop-one-preserved : goal.prefixes-loop-one-preserved
prefixes-loop-one-preserved t c = one_more level.prefix_level c.args.all.now c.loop-one.one-index c.one-item.result c.loop-one-test.true c.one-item.is c.loop-one.invariant c.in_ok-prefix.ensures

pub nexts-loop-one-init : goal.nexts-loop-one-init
nexts-loop-one-init t c = no_row level.next_level _

pub nexts-loop-one-preserved : goal.nexts-loop-one-preserved
nexts-loop-one-preserved t c = one_more level.next_level c.args.all.now c.loop-one.one-index c.one-item.result c.loop-one-test.true c.one-item.is c.loop-one.invariant (puts_as (level.next_level c.one-item.result) (λ at. rw level.next_level-is refl) c.in_ok-expr.ensures)

pub branches-loop-one-init : goal.branches-loop-one-init
branches-loop-one-init t c = no_row level.branch_level _

pub branches-loop-one-preserved : goal.branches-loop-one-preserved
branches-loop-one-preserved t c = one_more level.branch_level c.args.all.now c.loop-one.one-index c.one-item.result c.loop-one-test.true c.one-item.is c.loop-one.invariant (puts_as (level.branch_level c.one-item.result) (λ at. rw level.branch_level-is refl) (puts_then c.in_ok-expr.ensures c.in_ok-expr-2.ensures))

pub specifiers-loop-one-init : goal.specifiers-loop-one-init
specifiers-loop-one-init t c = no_row level.specifier_level _

pub specifiers-loop-one-preserved : goal.specifiers-loop-one-preserved
specifiers-loop-one-preserved t c = one_more level.specifier_level c.args.all.now c.loop-one.one-index c.one-item.result c.loop-one-test.true c.one-item.is c.loop-one.invariant c.in_ok-specifier.ensures

pub members-loop-one-init : goal.members-loop-one-init
members-loop-one-init t c = no_row level.member_level _

pub members-loop-one-preserved : goal.members-loop-one-preserved
members-loop-one-preserved t c = one_more level.member_level c.args.all.now c.loop-one.one-index c.one-item.result c.loop-one-test.true c.one-item.is c.loop-one.invariant (puts_as (level.member_level c.one-item.result) (λ at. rw (level.member_level-is, c.as_slice.ensures, c.as_slice-in-loop-one.ensures) refl) (puts_then c.in_ok-specifiers.ensures c.in_ok-member_declarators.ensures))

pub member_declarators-loop-one-init : goal.member_declarators-loop-one-init
member_declarators-loop-one-init t c = no_row level.member_declarator_level _

pub member_declarators-loop-one-preserved : goal.member_declarators-loop-one-preserved
member_declarators-loop-one-preserved t c = one_more level.member_declarator_level c.args.all.now c.loop-one.one-index c.one-item.result c.loop-one-test.true c.one-item.is c.loop-one.invariant (puts_as (level.member_declarator_level c.one-item.result) (λ at. rw level.member_declarator_level-is refl) c.in_ok-declarator.ensures)

pub enumerators-loop-one-init : goal.enumerators-loop-one-init
enumerators-loop-one-init t c = no_row level.enumerator_level _

pub enumerators-loop-one-preserved : goal.enumerators-loop-one-preserved
enumerators-loop-one-preserved t c = one_more level.enumerator_level c.args.all.now c.loop-one.one-index c.one-item.result c.loop-one-test.true c.one-item.is c.loop-one.invariant c.in_ok-enumerator.ensures

pub declarator_suffixes-loop-one-init : goal.declarator_suffixes-loop-one-init
declarator_suffixes-loop-one-init t c = no_row level.declarator_suffix_level _

pub declarator_suffixes-loop-one-preserved : goal.declarator_suffixes-loop-one-preserved
declarator_suffixes-loop-one-preserved t c = one_more level.declarator_suffix_level c.args.all.now c.loop-one.one-index c.one-item.result c.loop-one-test.true c.one-item.is c.loop-one.invariant c.in_ok-declarator_suffix.ensures

pub expr-returns-in-Paren : goal.expr-returns-in-Paren
expr-returns-in-Paren t c = on_ok_weaker c.expr.result (λ last. puts_as (level.expr_level c.args.tree.now) (λ at. rw (c.in-Paren.is, level.expr_level-Paren, c.get.ensures) refl) last) c.expr.ensures

pub expr-returns-in_ok-expr-in-Postfix : goal.expr-returns-in_ok-expr-in-Postfix
expr-returns-in_ok-expr-in-Postfix t c = on_ok_weaker c.suffixes.result (λ last. puts_as (level.expr_level c.args.tree.now) (λ at. rw (c.in-Postfix.is, level.expr_level-Postfix, c.get-in-Postfix.ensures, c.as_slice.ensures) refl) (puts_then c.in_ok-expr-in-Postfix.ensures last)) c.suffixes.ensures

pub expr-returns-in-SizeofType : goal.expr-returns-in-SizeofType
expr-returns-in-SizeofType t c = on_ok_weaker c.type_name.result (λ last. puts_as (level.expr_level c.args.tree.now) (λ at. rw (c.in-SizeofType.is, level.expr_level-SizeofType, c.get-in-SizeofType.ensures) refl) last) c.type_name.ensures

pub expr-returns-in_ok-prefixes-in-Prefixed : goal.expr-returns-in_ok-prefixes-in-Prefixed
expr-returns-in_ok-prefixes-in-Prefixed t c = on_ok_weaker c.expr-in-Prefixed.result (λ last. puts_as (level.expr_level c.args.tree.now) (λ at. rw (c.in-Prefixed.is, level.expr_level-Prefixed, c.get-in-Prefixed.ensures, c.as_slice-in-Prefixed.ensures) refl) (puts_then c.in_ok-prefixes-in-Prefixed.ensures last)) c.expr-in-Prefixed.ensures

pub expr-returns-in_ok-expr-in-Conditional : goal.expr-returns-in_ok-expr-in-Conditional
expr-returns-in_ok-expr-in-Conditional t c = on_ok_weaker c.branches.result (λ last. puts_as (level.expr_level c.args.tree.now) (λ at. rw (c.in-Conditional.is, level.expr_level-Conditional, c.get-in-Conditional.ensures, c.as_slice-in-Conditional.ensures) refl) (puts_then c.in_ok-expr-in-Conditional.ensures last)) c.branches.ensures

pub expr-returns-in_ok-expr-in-Binary : goal.expr-returns-in_ok-expr-in-Binary
expr-returns-in_ok-expr-in-Binary t c = on_ok_weaker c.nexts.result (λ last. puts_as (level.expr_level c.args.tree.now) (λ at. grind (arith, common_steps, level.expr_level-Binary, level.expr_level-Assign, level.expr_level-Comma)) (puts_then c.in_ok-expr-in-Binary.ensures last)) c.nexts.ensures

pub expr-returns-in-Name : goal.expr-returns-in-Name
expr-returns-in-Name t c = puts_nothing (level.expr_level c.args.tree.now) _ (λ at. grind (arith, common_steps, level.expr_level-Name, level.expr_level-Number, level.expr_level-Char, level.expr_level-Strings))

pub expr-returns-in-Name-2 : goal.expr-returns-in-Name-2
expr-returns-in-Name-2 t c = puts_nothing (level.expr_level c.args.tree.now) _ (λ at. grind (arith, common_steps, level.expr_level-Name, level.expr_level-Number, level.expr_level-Char, level.expr_level-Strings))

pub expr-returns-in-Name-3 : goal.expr-returns-in-Name-3
expr-returns-in-Name-3 t c = puts_nothing (level.expr_level c.args.tree.now) _ (λ at. grind (arith, common_steps, level.expr_level-Name, level.expr_level-Number, level.expr_level-Char, level.expr_level-Strings))

pub expr-returns-in-Name-4 : goal.expr-returns-in-Name-4
expr-returns-in-Name-4 t c = puts_nothing (level.expr_level c.args.tree.now) _ (λ at. grind (arith, common_steps, level.expr_level-Name, level.expr_level-Number, level.expr_level-Char, level.expr_level-Strings))

pub suffix-returns-in-Index : goal.suffix-returns-in-Index
suffix-returns-in-Index t c = on_ok_weaker c.expr.result (λ last. puts_as (level.suffix_level c.args.tree.now) (λ at. rw (c.in-Index.is, level.suffix_level-Index) refl) last) c.expr.ensures

pub suffix-returns-in_ok-expr-in-CallWith : goal.suffix-returns-in_ok-expr-in-CallWith
suffix-returns-in_ok-expr-in-CallWith t c = on_ok_weaker c.nexts.result (λ last. puts_as (level.suffix_level c.args.tree.now) (λ at. rw (c.in-CallWith.is, level.suffix_level-CallWith, c.as_slice.ensures) refl) (puts_then c.in_ok-expr-in-CallWith.ensures last)) c.nexts.ensures

pub suffix-returns-in-Call : goal.suffix-returns-in-Call
suffix-returns-in-Call t c = puts_nothing (level.suffix_level c.args.tree.now) _ (λ at. grind (arith, common_steps, level.suffix_level-Call, level.suffix_level-Member, level.suffix_level-Arrow, level.suffix_level-Increment, level.suffix_level-Decrement))

pub suffix-returns-in-Call-2 : goal.suffix-returns-in-Call-2
suffix-returns-in-Call-2 t c = puts_nothing (level.suffix_level c.args.tree.now) _ (λ at. grind (arith, common_steps, level.suffix_level-Call, level.suffix_level-Member, level.suffix_level-Arrow, level.suffix_level-Increment, level.suffix_level-Decrement))

pub suffix-returns-in-Call-3 : goal.suffix-returns-in-Call-3
suffix-returns-in-Call-3 t c = puts_nothing (level.suffix_level c.args.tree.now) _ (λ at. grind (arith, common_steps, level.suffix_level-Call, level.suffix_level-Member, level.suffix_level-Arrow, level.suffix_level-Increment, level.suffix_level-Decrement))

pub suffix-returns-in-Call-4 : goal.suffix-returns-in-Call-4
suffix-returns-in-Call-4 t c = puts_nothing (level.suffix_level c.args.tree.now) _ (λ at. grind (arith, common_steps, level.suffix_level-Call, level.suffix_level-Member, level.suffix_level-Arrow, level.suffix_level-Increment, level.suffix_level-Decrement))

pub suffix-returns-in-Call-5 : goal.suffix-returns-in-Call-5
suffix-returns-in-Call-5 t c = puts_nothing (level.suffix_level c.args.tree.now) _ (λ at. grind (arith, common_steps, level.suffix_level-Call, level.suffix_level-Member, level.suffix_level-Arrow, level.suffix_level-Increment, level.suffix_level-Decrement))

pub prefix-returns-in-Cast : goal.prefix-returns-in-Cast
prefix-returns-in-Cast t c = on_ok_weaker c.type_name.result (λ last. puts_as (level.prefix_level c.args.tree.now) (λ at. rw (c.in-Cast.is, level.prefix_level-Cast) refl) last) c.type_name.ensures

pub prefix-returns-in-Operator : goal.prefix-returns-in-Operator
prefix-returns-in-Operator t c = puts_nothing (level.prefix_level c.args.tree.now) _ (λ at. grind (arith, common_steps, level.prefix_level-Operator, level.prefix_level-Sizeof))

pub prefix-returns-in-Operator-2 : goal.prefix-returns-in-Operator-2
prefix-returns-in-Operator-2 t c = puts_nothing (level.prefix_level c.args.tree.now) _ (λ at. grind (arith, common_steps, level.prefix_level-Operator, level.prefix_level-Sizeof))

pub type_name-returns : goal.type_name-returns
type_name-returns t c = on_ok_weaker c.declarator.result (λ last. puts_as (level.type_name_level c.args.tree.now) (λ at. rw (level.type_name_level-is, c.as_slice.ensures) refl) (puts_then c.in_ok-specifiers.ensures last)) c.declarator.ensures

pub specifier-returns-in-Struct : goal.specifier-returns-in-Struct
specifier-returns-in-Struct t c = on_ok_weaker c.members.result (λ last. puts_as (level.specifier_level c.args.tree.now) (λ at. rw (c.in-Struct.is, level.specifier_level-Struct, c.as_slice.ensures) refl) last) c.members.ensures

pub specifier-returns-in-Enum : goal.specifier-returns-in-Enum
specifier-returns-in-Enum t c = on_ok_weaker c.enumerators.result (λ last. puts_as (level.specifier_level c.args.tree.now) (λ at. rw (c.in-Enum.is, level.specifier_level-Enum, c.as_slice-in-Enum.ensures) refl) last) c.enumerators.ensures

pub specifier-returns-in-Storage : goal.specifier-returns-in-Storage
specifier-returns-in-Storage t c = puts_nothing (level.specifier_level c.args.tree.now) _ (λ at. grind (arith, common_steps, level.specifier_level-Storage, level.specifier_level-Const, level.specifier_level-Word, level.specifier_level-StructTag, level.specifier_level-EnumTag, level.specifier_level-TypedefName))

pub specifier-returns-in-Storage-2 : goal.specifier-returns-in-Storage-2
specifier-returns-in-Storage-2 t c = puts_nothing (level.specifier_level c.args.tree.now) _ (λ at. grind (arith, common_steps, level.specifier_level-Storage, level.specifier_level-Const, level.specifier_level-Word, level.specifier_level-StructTag, level.specifier_level-EnumTag, level.specifier_level-TypedefName))

pub specifier-returns-in-Storage-3 : goal.specifier-returns-in-Storage-3
specifier-returns-in-Storage-3 t c = puts_nothing (level.specifier_level c.args.tree.now) _ (λ at. grind (arith, common_steps, level.specifier_level-Storage, level.specifier_level-Const, level.specifier_level-Word, level.specifier_level-StructTag, level.specifier_level-EnumTag, level.specifier_level-TypedefName))

pub specifier-returns-in-Storage-4 : goal.specifier-returns-in-Storage-4
specifier-returns-in-Storage-4 t c = puts_nothing (level.specifier_level c.args.tree.now) _ (λ at. grind (arith, common_steps, level.specifier_level-Storage, level.specifier_level-Const, level.specifier_level-Word, level.specifier_level-StructTag, level.specifier_level-EnumTag, level.specifier_level-TypedefName))

pub specifier-returns-in-Storage-5 : goal.specifier-returns-in-Storage-5
specifier-returns-in-Storage-5 t c = puts_nothing (level.specifier_level c.args.tree.now) _ (λ at. grind (arith, common_steps, level.specifier_level-Storage, level.specifier_level-Const, level.specifier_level-Word, level.specifier_level-StructTag, level.specifier_level-EnumTag, level.specifier_level-TypedefName))

pub specifier-returns-in-Storage-6 : goal.specifier-returns-in-Storage-6
specifier-returns-in-Storage-6 t c = puts_nothing (level.specifier_level c.args.tree.now) _ (λ at. grind (arith, common_steps, level.specifier_level-Storage, level.specifier_level-Const, level.specifier_level-Word, level.specifier_level-StructTag, level.specifier_level-EnumTag, level.specifier_level-TypedefName))

pub declarator-returns : goal.declarator-returns
declarator-returns t c = on_ok_weaker c.declarator_suffixes.result (λ last. puts_as (level.declarator_level c.args.tree.now) (λ at. rw (level.declarator_level-is, c.as_slice.ensures) refl) (puts_then c.in_ok-direct.ensures last)) c.declarator_suffixes.ensures

pub direct-returns-in-Grouped : goal.direct-returns-in-Grouped
direct-returns-in-Grouped t c = on_ok_weaker c.declarator.result (λ last. puts_as (level.direct_level c.args.tree.now) (λ at. rw (c.in-Grouped.is, level.direct_level-Grouped, c.get.ensures) refl) last) c.declarator.ensures

pub direct-returns-in-Nothing : goal.direct-returns-in-Nothing
direct-returns-in-Nothing t c = puts_nothing (level.direct_level c.args.tree.now) _ (λ at. grind (arith, common_steps, level.direct_level-Nothing, level.direct_level-Named))

pub direct-returns-in-Nothing-2 : goal.direct-returns-in-Nothing-2
direct-returns-in-Nothing-2 t c = puts_nothing (level.direct_level c.args.tree.now) _ (λ at. grind (arith, common_steps, level.direct_level-Nothing, level.direct_level-Named))

pub declarator_suffix-returns-in-ArrayOf : goal.declarator_suffix-returns-in-ArrayOf
declarator_suffix-returns-in-ArrayOf t c = on_ok_weaker c.expr.result (λ last. puts_as (level.declarator_suffix_level c.args.tree.now) (λ at. rw (c.in-ArrayOf.is, level.declarator_suffix_level-ArrayOf) refl) last) c.expr.ensures

pub declarator_suffix-returns-in-Array : goal.declarator_suffix-returns-in-Array
declarator_suffix-returns-in-Array t c = puts_nothing (level.declarator_suffix_level c.args.tree.now) _ (λ at. grind (arith, common_steps, level.declarator_suffix_level-Array, level.declarator_suffix_level-Empty, level.declarator_suffix_level-Void, level.declarator_suffix_level-Parameters))

pub declarator_suffix-returns-in-Array-2 : goal.declarator_suffix-returns-in-Array-2
declarator_suffix-returns-in-Array-2 t c = puts_nothing (level.declarator_suffix_level c.args.tree.now) _ (λ at. grind (arith, common_steps, level.declarator_suffix_level-Array, level.declarator_suffix_level-Empty, level.declarator_suffix_level-Void, level.declarator_suffix_level-Parameters))

pub declarator_suffix-returns-in-Array-3 : goal.declarator_suffix-returns-in-Array-3
declarator_suffix-returns-in-Array-3 t c = puts_nothing (level.declarator_suffix_level c.args.tree.now) _ (λ at. grind (arith, common_steps, level.declarator_suffix_level-Array, level.declarator_suffix_level-Empty, level.declarator_suffix_level-Void, level.declarator_suffix_level-Parameters))

pub declarator_suffix-returns-in-Array-4 : goal.declarator_suffix-returns-in-Array-4
declarator_suffix-returns-in-Array-4 t c = puts_nothing (level.declarator_suffix_level c.args.tree.now) _ (λ at. grind (arith, common_steps, level.declarator_suffix_level-Array, level.declarator_suffix_level-Empty, level.declarator_suffix_level-Void, level.declarator_suffix_level-Parameters))

pub enumerator-returns-in-Plain : goal.enumerator-returns-in-Plain
enumerator-returns-in-Plain t c = on_ok_weaker c.declare.result (λ behind. puts_itself (level.enumerator_level c.args.tree.now) ((c.in-Plain.id.text, false) ∷ []) (λ at. rw (c.in-Plain.is, level.enumerator_level-Plain) refl) (no_names c.args.names.now) behind) c.declare.ensures

pub enumerator-returns-in_ok-expr-in-Valued : goal.enumerator-returns-in_ok-expr-in-Valued
enumerator-returns-in_ok-expr-in-Valued t c = on_ok_weaker c.declare-in-Valued.result (λ behind. puts_itself (level.enumerator_level c.args.tree.now) ((c.in-Valued.id.text, false) ∷ []) (λ at. rw (c.in-Valued.is, level.enumerator_level-Valued) refl) c.in_ok-expr-in-Valued.ensures behind) c.declare-in-Valued.ensures
