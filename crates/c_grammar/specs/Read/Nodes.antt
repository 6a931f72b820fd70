-- Nodes with a list, where the list has a part; and what a tree is, as far as the grammar asks.
use Rattle.std.specs.Prelude.{Bool, true, false, not, ◌&&◌, ◌||◌, List, [], ◌∷◌}
use Rattle.c_tree.specs.declared.expression.Level.{Level}
use Rattle.c_tree.specs.declared.expression.Expr.{Expr, out-Expr}
use Rattle.c_tree.specs.declared.expression.Expr.TheVariants as expr
use Rattle.c_tree.specs.declared.expression.Prefix.{Prefix, out-Prefix}
use Rattle.c_tree.specs.declared.expression.Suffix.{Suffix}
use Rattle.c_tree.specs.declared.expression.Next.{Next}
use Rattle.c_tree.specs.declared.expression.Branch.{Branch}
use Rattle.c_tree.specs.declared.specifier.Specifier.{Specifier, out-Specifier}
use Rattle.c_tree.specs.declared.declarator.Declarator.{Declarator, out-Declarator}
use Rattle.c_tree.specs.declared.declarator.Direct.{out-Direct}
use Rattle.c_tree.specs.declared.declarator.DeclaratorSuffix.TheOpen.{Direct-F, Expr-F, Prefix-F, Specifier-F}
use Rattle.c_tree.specs.Layers.{DirectLayer, ExprLayer, PrefixLayer, SpecifierLayer}
use Rattle.c_tree.specs.Levels.Facts.{PrefixKind, Tight, kind_of_mark, filled}
use Rattle.c_tree.specs.Levels.OfTrees.{is_typedef}

-- ---- expressions

abbrev pub with_suffixes : Expr → List Suffix → Expr
with_suffixes a [] = a
with_suffixes a (x ∷ xs) = expr.Postfix a (x ∷ xs)

abbrev pub with_run : List Prefix → Expr → Expr
with_run [] a = a
with_run (x ∷ xs) a = expr.Prefixed (x ∷ xs) a

abbrev pub with_operands : Level → Expr → List Next → Expr
with_operands level a [] = a
with_operands level a (n ∷ ns) = expr.Binary level a (n ∷ ns)

abbrev pub with_branches : Expr → List Branch → Expr
with_branches a [] = a
with_branches a (b ∷ bs) = expr.Conditional a (b ∷ bs)

abbrev pub with_targets : Expr → List Next → Expr
with_targets a [] = a
with_targets a (n ∷ ns) = expr.Assign a (n ∷ ns)

abbrev pub with_commas : Expr → List Next → Expr
with_commas a [] = a
with_commas a (n ∷ ns) = expr.Comma a (n ∷ ns)

abbrev pub is_cast_layer : PrefixLayer → Bool
is_cast_layer (Prefix-F.Cast from type to) = true
is_cast_layer _ = false

unfoldable pub is_cast : Prefix → Bool
is_cast x = is_cast_layer (out-Prefix x)

abbrev pub begins_cast : List Prefix → Bool
begins_cast [] = false
begins_cast (x ∷ xs) = is_cast x

abbrev pub is_unary_layer : ExprLayer → Bool
is_unary_layer (Expr-F.Prefixed run operand) = not (begins_cast run)
is_unary_layer (Expr-F.Binary level first rest) = false
is_unary_layer (Expr-F.Conditional first rest) = false
is_unary_layer (Expr-F.Assign first rest) = false
is_unary_layer (Expr-F.Comma first rest) = false
is_unary_layer _ = true

-- what may stand before an assignment's operator: a unary expression (C11 6.5.16)
unfoldable pub is_unary : Expr → Bool
is_unary x = is_unary_layer (out-Expr x)

abbrev pub is_tight : PrefixKind → Bool
is_tight Tight = true
is_tight _ = false

abbrev pub is_tight_layer : PrefixLayer → Bool
is_tight_layer (Prefix-F.Operator m) = is_tight (kind_of_mark m.punct)
is_tight_layer (Prefix-F.Sizeof at) = true
is_tight_layer (Prefix-F.Cast from type to) = false

-- `++`, `--` or `sizeof`, behind which no `(` type name `)` may stand
unfoldable pub ties : Prefix → Bool
ties x = is_tight_layer (out-Prefix x)

-- ---- specifiers

abbrev pub is_type_layer : SpecifierLayer → Bool
is_type_layer (Specifier-F.Storage storage at) = false
is_type_layer (Specifier-F.Const at) = false
is_type_layer _ = true

-- a type word, a struct, an enum or a typedef name
unfoldable pub is_type : Specifier → Bool
is_type x = is_type_layer (out-Specifier x)

abbrev pub is_typedef_layer : SpecifierLayer → Bool
is_typedef_layer (Specifier-F.Storage storage at) = is_typedef storage
is_typedef_layer _ = false

unfoldable pub is_typedef_word : Specifier → Bool
is_typedef_word x = is_typedef_layer (out-Specifier x)

-- one of them names a type
abbrev pub name_type : List Specifier → Bool
name_type [] = false
name_type (x ∷ xs) = is_type x || name_type xs

-- `typedef` is among them
abbrev pub have_typedef : List Specifier → Bool
have_typedef [] = false
have_typedef (x ∷ xs) = is_typedef_word x || have_typedef xs

-- ---- declarators

abbrev pub is_nothing_layer : DirectLayer → Bool
is_nothing_layer Direct-F.Nothing = true
is_nothing_layer _ = false

-- it has no token
unfoldable pub is_nothing : Declarator → Bool
is_nothing d = not (filled (out-Declarator d).pointers) && (is_nothing_layer (out-Direct (out-Declarator d).direct) && not (filled (out-Declarator d).suffixes))
