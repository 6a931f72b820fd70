-- The production of a tree that is of one, by its kind of node.
use Rattle.std.specs.Prelude.{◌≡◌, ℕ, ◌+◌, ◌≤◌, ◌<◌, Bool, true, false, ◌&&◌, if◌then◌else◌, nat_le, List, [], ◌∷◌, map, refl}
use Rattle.std.proofs.Common.{ap, sym, ◌∙◌, arith}
use denote.Hole.Carrier.{out}
use Rattle.c_tree.specs.declared.token.Punct.{Punct}
use Rattle.c_tree.specs.declared.token.Punct.TheVariants as p
use Rattle.c_tree.specs.declared.expression.Level.{Level}
use Rattle.c_tree.specs.declared.expression.Level.TheVariants as level
use Rattle.c_tree.specs.declared.expression.Expr.{Expr}
use Rattle.c_tree.specs.declared.expression.Prefix.{Prefix, out-Prefix}
use Rattle.c_tree.specs.Levels.Names.{Names, in_row}
use Rattle.c_tree.specs.Levels.Productions.{primary, postfix, prefixed, unary, cast, product, or, conditional, assignment, comma, none, of_level, below}
use Rattle.c_tree.specs.Levels.Facts.{where_good, PrefixKind, Wrong, Loose, Tight, Typed, kind_of_mark, runs_on, begins_typed, filled}
use Rattle.c_tree.specs.Levels.Trees.{expr_level, prefix_level}
use Rattle.c_grammar.specs.Laws.Told.{expr_level-Name, expr_level-Number, expr_level-Char, expr_level-Strings, expr_level-Paren, expr_level-Postfix, expr_level-SizeofType, expr_level-Prefixed, expr_level-Binary, expr_level-Conditional, expr_level-Assign, expr_level-Comma, prefix_level-Operator, prefix_level-Sizeof, prefix_level-Cast}
use Rattle.c_grammar.specs.Read.Nodes.{is_cast, begins_cast}
use Rattle.c_grammar.specs.Laws.Cases.{ExprShape, PrefixShape, prefix_shape}

-- the production of a node of this kind
abbrev pub shape_number : {x : Expr} → ExprShape x → ℕ
shape_number (ExprShape.a_postfix operand suffixes) = postfix
shape_number (ExprShape.a_sizeof_type at from type to) = prefixed
shape_number (ExprShape.a_prefixed run operand) = if begins_cast run then cast else unary
shape_number (ExprShape.a_binary level first rest) = of_level level
shape_number (ExprShape.a_conditional first rest) = conditional
shape_number (ExprShape.a_assign first rest) = assignment
shape_number (ExprShape.a_comma first rest) = comma
shape_number _ = primary

-- ---- a run that is as the grammar has it begins with a cast where its first kind is that of one

mark_is_no_type : (op : Punct) → begins_typed (kind_of_mark op ∷ []) ≡ false
mark_is_no_type p.Ampersand = refl
mark_is_no_type _ = refl

first_kind : (kind : PrefixKind) (more : List PrefixKind) → begins_typed (kind ∷ more) ≡ begins_typed (kind ∷ [])
first_kind Wrong more = refl
first_kind Loose more = refl
first_kind Tight more = refl
first_kind Typed more = refl

cast_kind : (b : Bool) (more : List PrefixKind) → runs_on false ((if b then Typed else Wrong) ∷ more) ≡ true → begins_typed ((if b then Typed else Wrong) ∷ more) ≡ true
cast_kind true more h = refl
cast_kind false more h = absurd cc

first_is_cast : {x : Prefix} → PrefixShape x → (names : Names) (more : List PrefixKind) → runs_on false ((prefix_level x names).0 ∷ more) ≡ true → begins_typed ((prefix_level x names).0 ∷ more) ≡ is_cast x
unfolding is_cast out-Prefix out
first_is_cast (PrefixShape.a_operator m) names more h = rw (prefix_level-Operator m) (first_kind (kind_of_mark m.punct) more ∙ mark_is_no_type m.punct)
first_is_cast (PrefixShape.a_sizeof at) names more h = rw (prefix_level-Sizeof at) refl
first_is_cast (PrefixShape.a_cast from type to) names more h = rw (prefix_level-Cast from type to) (cast_kind _ more (rw (prefix_level-Cast from type to) at h))

pub begins_alike : (run : List Prefix) (names : Names) → runs_on false (in_row (map prefix_level run) names).0 ≡ true → begins_typed (in_row (map prefix_level run) names).0 ≡ begins_cast run
begins_alike [] names h = refl
begins_alike (x ∷ xs) names h = first_is_cast (prefix_shape x) names _ h

-- ---- the number of a tree

by_good : (b : Bool) (n m : ℕ) → m ≡ where_good b n → m < none → m ≡ n
by_good true n m e h = e
by_good false n m e h = absurd (omega arith)

prefixed_by : (f u r : Bool) (t c : Bool) (q : Bool) (m : ℕ) → m ≡ where_good (f && (u && q)) (if t then cast else unary) → m < none → (u ≡ true → t ≡ c) → m ≡ (if c then cast else unary)
prefixed_by true true r t c true m e h same = e ∙ ap (λ b. if b then cast else unary) (same refl)
prefixed_by true true r t c false m e h same = absurd (omega arith)
prefixed_by true false r t c q m e h same = absurd (omega arith)
prefixed_by false u r t c q m e h same = absurd (omega arith)

pub level_number : {x : Expr} (s : ExprShape x) (names : Names) → (expr_level x names).0 < none → (expr_level x names).0 ≡ shape_number s
level_number (ExprShape.a_name id) names h = by_good _ primary _ (ap (λ f. (f names).0) (expr_level-Name id)) h
level_number (ExprShape.a_number value kind at) names h = ap (λ f. (f names).0) (expr_level-Number value kind at)
level_number (ExprShape.a_char value at) names h = ap (λ f. (f names).0) (expr_level-Char value at)
level_number (ExprShape.a_strings all) names h = by_good _ primary _ (ap (λ f. (f names).0) (expr_level-Strings all)) h
level_number (ExprShape.a_paren from inner to) names h = by_good _ primary _ (ap (λ f. (f names).0) (expr_level-Paren from inner to)) h
level_number (ExprShape.a_postfix operand suffixes) names h = by_good _ postfix _ (ap (λ f. (f names).0) (expr_level-Postfix operand suffixes)) h
level_number (ExprShape.a_sizeof_type at from type to) names h = by_good _ prefixed _ (ap (λ f. (f names).0) (expr_level-SizeofType at from type to)) h
level_number (ExprShape.a_prefixed run operand) names h =
    let kinds : List PrefixKind = (in_row (map prefix_level run) names).0 in
    prefixed_by (filled kinds) (runs_on false kinds) true (begins_typed kinds) (begins_cast run) _ _ (ap (λ f. (f names).0) (expr_level-Prefixed run operand)) h (begins_alike run names)
level_number (ExprShape.a_binary lv first rest) names h = by_good _ (of_level lv) _ (ap (λ f. (f names).0) (expr_level-Binary lv first rest)) h
level_number (ExprShape.a_conditional first rest) names h = by_good _ conditional _ (ap (λ f. (f names).0) (expr_level-Conditional first rest)) h
level_number (ExprShape.a_assign first rest) names h = by_good _ assignment _ (ap (λ f. (f names).0) (expr_level-Assign first rest)) h
level_number (ExprShape.a_comma first rest) names h = by_good _ comma _ (ap (λ f. (f names).0) (expr_level-Comma first rest)) h

-- a tree within a production has the number of its node within it
pub number_within : {x : Expr} (s : ExprShape x) (names : Names) (within : ℕ) → (expr_level x names).0 ≤ within → within < none → shape_number s ≤ within
number_within {x} s names within h low = let e = level_number s names (omega arith) in omega arith

-- and where its number is lower it is of a tighter production
pub tighter : {x : Expr} (s : ExprShape x) (names : Names) (within : ℕ) → (expr_level x names).0 < none → shape_number s ≤ within → (expr_level x names).0 ≤ within
tighter s names within low h = let e = level_number s names low in omega arith

-- ---- the levels of operators

pub level_low : (lv : Level) → (product ≤ of_level lv) × (of_level lv ≤ or)
level_low level.Or = omega arith
level_low level.And = omega arith
level_low level.BitOr = omega arith
level_low level.BitXor = omega arith
level_low level.BitAnd = omega arith
level_low level.Equality = omega arith
level_low level.Relation = omega arith
level_low level.Shift = omega arith
level_low level.Sum = omega arith
level_low level.Product = omega arith

pub below_level : (lv : Level) → of_level lv ≡ below lv + 1
below_level level.Or = omega arith
below_level level.And = omega arith
below_level level.BitOr = omega arith
below_level level.BitXor = omega arith
below_level level.BitAnd = omega arith
below_level level.Equality = omega arith
below_level level.Relation = omega arith
below_level level.Shift = omega arith
below_level level.Sum = omega arith
below_level level.Product = omega arith

abbrev level_at : ℕ → Level
level_at n = if nat_le n 5 then level.Product else (if nat_le n 6 then level.Sum else (if nat_le n 7 then level.Shift else (if nat_le n 8 then level.Relation else (if nat_le n 9 then level.Equality
    else (if nat_le n 10 then level.BitAnd else (if nat_le n 11 then level.BitXor else (if nat_le n 12 then level.BitOr else (if nat_le n 13 then level.And else level.Or))))))))

level_back : (lv : Level) → level_at (of_level lv) ≡ lv
level_back level.Or = refl
level_back level.And = refl
level_back level.BitOr = refl
level_back level.BitXor = refl
level_back level.BitAnd = refl
level_back level.Equality = refl
level_back level.Relation = refl
level_back level.Shift = refl
level_back level.Sum = refl
level_back level.Product = refl

pub same_level : (a b : Level) → of_level a ≡ of_level b → a ≡ b
same_level a b h = sym (level_back a) ∙ ap level_at h ∙ level_back b
