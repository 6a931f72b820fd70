-- Lists of operators, of parts and of members, as one walk each.
-- The clauses of `operators`, `prefixes`, `sequences` and `types` cite them.
use Rattle.std.specs.Prelude.{Bool, true, false, List, [], ◌∷◌, ◌++◌, Option, Some, None, map, reverse}
use Rattle.std.specs.Option.{option_map}
use Rattle.c_tree.specs.declared.token.Pos.{Pos}
use Rattle.c_tree.specs.declared.declarator.Pointer.{Pointer}
use Rattle.c_tree.specs.declared.typed.expression.TExpr.{TExpr}
use Rattle.c_tree.specs.declared.typed.expression.TExpr.TheVariants as x
use Rattle.c_typing.specs.declared.operand.Operand.{Operand}
use Rattle.c_typing.specs.declared.declarator.Part.{Part}
use Rattle.c_typing.specs.Types.{int}
use Rattle.c_typing.specs.Operands.{tree_of, value, dropping}
use Rattle.c_typing.specs.Scopes.{Walk, give, offer, ◌>>=◌, asked}
use Rattle.c_typing.specs.Expressions as rows
use Rattle.c_typing.specs.Expressions.{truth_row}
use Rattle.c_typing.specs.Declarators.{Expressed, count_row, array_part}
use Rattle.c_typing.specs.Parts.{Prefixing, Prefixed, Operating, Branching}
use Rattle.c_typing.specs.OfTrees.{each, prefix_walk, prefixes_row, chain_row, chain_end, assigns_row, assigned_end, comma_of, pointing}
use Rattle.c_type_trees.specs.declared.sequences.Choice.{Choice}
use Rattle.c_type_trees.specs.declared.sequences.LeftSide.{LeftSide}

-- ---- prefixes

abbrev pub prefixes_walk : List Prefixed → Walk (List (Option Prefixing))
prefixes_walk run = each (map prefix_walk run)

abbrev pub prefixed_row : List Prefixed → Expressed → Walk Operand
prefixed_row run operand = prefixes_walk run >>= λ qs. operand.typed >>= λ o. asked qs (λ qs. prefixes_row qs o)

-- ---- operators of one level

-- the operands of `||` or `&&`
abbrev pub logical_tree : (is_or : Bool) → List TExpr → TExpr
logical_tree true all = x.Any int all
logical_tree false all = x.All int all

abbrev pub logical_of : (is_or : Bool) → List TExpr → Operand
logical_of is_or all = value int (logical_tree is_or all)

abbrev pub with_truth : Option (List TExpr) → Option Operand → Option (List TExpr)
with_truth (Some all) (Some t) = Some (all ++ tree_of t ∷ [])
with_truth _ _ = None

abbrev pub first_truth : Pos → Option Operand → Walk (List TExpr)
first_truth at o = asked o (truth_row at) >>= λ t. offer (with_truth (Some []) t)

-- ---- `? :`

-- choices that were passed, the last of which is made first
abbrev pub chosen_by : List Choice → Option rows.Chain → Walk rows.Chain
chosen_by [] rest = offer rest
chosen_by (c ∷ cs) rest = chosen_by cs rest >>= rows.conditional_row c.question c.condition c.gives

abbrev pub whole_chain : Option rows.Chain → Walk Operand
whole_chain c = asked c (λ c. give c.whole)

abbrev pub choices_row : List Choice → Option Operand → Walk Operand
choices_row cs last = chosen_by cs (option_map chain_end last) >>= whole_chain

abbrev pub conditional_row : List Branching → Option Operand → Walk Operand
conditional_row rest first = chain_row rest first >>= whole_chain

-- ---- assignments

abbrev pub assigned_by : List LeftSide → Option rows.Assigned → Walk rows.Assigned
assigned_by [] right = offer right
assigned_by (l ∷ ls) right = assigned_by ls right >>= rows.assign_row l.operator l.operand

abbrev pub whole_assigned : Option rows.Assigned → Walk Operand
whole_assigned a = asked a (λ a. give a.whole)

abbrev pub left_sides_row : List LeftSide → Option Operand → Walk Operand
left_sides_row ls last = assigned_by ls (option_map assigned_end last) >>= whole_assigned

abbrev pub assignment_row : List Operating → Option Operand → Walk Operand
assignment_row rest first = assigns_row rest first >>= whole_assigned

-- ---- `,`

abbrev pub with_dropped : Option (List TExpr) → Option Operand → Option (List TExpr)
with_dropped (Some ds) (Some o) = Some (ds ++ tree_of (dropping o) ∷ [])
with_dropped _ _ = None

abbrev pub comma_if_both : Option (List TExpr) → Option Operand → Option Operand
comma_if_both (Some ds) (Some o) = Some (comma_of ds o)
comma_if_both _ _ = None

-- ---- declarators

abbrev pub parts_if_both : List Pointer → (inner outer : Option (List Part)) → Option (List Part)
parts_if_both ps (Some inner) (Some outer) = Some (pointing ps ++ (reverse outer ++ inner))
parts_if_both ps _ _ = None

abbrev pub sized_row : (bracket first : Pos) → Option Operand → Walk Part
sized_row bracket first o = asked o (count_row bracket first) >>= λ n. give (array_part n)
