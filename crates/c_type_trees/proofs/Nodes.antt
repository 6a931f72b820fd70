-- What single nodes come to, of which a part was walked.
-- The answers of functions without a loop cite these lemmas, and those of `Arms`.
use Rattle.std.specs.Prelude.{◌≡◌, ℕ, Bool, false, ◌&&◌, not, is_some, List, [], ◌∷◌, ◌++◌, Option, Some, None, Result, IfOk, map, reverse, refl}
use Rattle.std.specs.Option.{option_map}
use Rattle.std.proofs.Common.{ap, sym, ◌∙◌, subst, append-nil}
use Rattle.word_ops.specs.declared.memory.Memory.{Memory}
use Rattle.c_tree.specs.declared.token.Pos.{Pos}
use Rattle.c_tree.specs.declared.expression.Expr.{Expr}
use Rattle.c_tree.specs.declared.expression.Identifier.{Identifier}
use Rattle.c_tree.specs.declared.expression.Level.{Level}
use Rattle.c_tree.specs.declared.expression.Level.TheVariants as level
use Rattle.c_tree.specs.declared.expression.Next.{Next}
use Rattle.c_tree.specs.declared.declarator.Pointer.{Pointer}
use Rattle.c_tree.specs.declared.specifier.Specifier.{Specifier}
use Rattle.c_tree.specs.declared.typed.types.CType.{CType}
use Rattle.c_typing.specs.declared.operand.Operand.{Operand}
use Rattle.c_typing.specs.declared.declarator.Basis.{Basis}
use Rattle.c_typing.specs.declared.declarator.Part.{Part}
use Rattle.c_typing.specs.declared.declarator.Parameter.{Parameter}
use Rattle.c_typing.specs.Scopes.{Said, Walk, give, offer, ◌>>=◌, asked, both_asked}
use Rattle.c_typing.specs.Expressions as rows
use Rattle.c_typing.specs.Declarators.{function_part, is_register, TypeNamed, Enumerated, Members, enum_row, struct_row, struct_begun, members_row, tag_place, Declaring, Suffixed, Specified, Parts, Specifying, with_type, specifiers_row, first_token}
use Rattle.c_typing.specs.Parts.{Prefixing, Casting, Operating}
use Rattle.c_typing.specs.OfTrees.{level_row, binaries_row, suffixes_parts, pointing, parameter_basis, parameter_type, parameter_named}
use Rattle.c_typing.specs.Trees.{expr_typing, specifier_typing}
use Rattle.c_type_walk.specs.declared.around.Around.{Around}
use Rattle.c_type_walk.specs.declared.found.Found.{Found}
use Rattle.c_type_walk.specs.Walks.{Gave, Walks, fixed}
use Rattle.c_type_declarators.specs.Enumerations.{enum_begun}
use Rattle.c_type_declarators.specs.Parameters.{parameter_given}
use Rattle.c_type_expressions.specs.Told.{WalksAs}
use Rattle.c_type_trees.specs.Calls.{operands, more_arguments, all_arguments}
use Rattle.c_type_trees.specs.Lists.{all_in_row}
use Rattle.c_type_trees.specs.Sequences.{parts_if_both}
use Rattle.c_type_trees.specs.Specifying.{named_row, with_named}
use Rattle.c_type_trees.proofs.After.{Same, after, after_same, step, done, tail_as, answered, answered_as}
use Rattle.c_type_trees.proofs.Loops.{gathered_first}
use Rattle.c_type_trees.proofs.Steps.{arguments_turn}
use Rattle.c_type_trees.proofs.Turns.{enumeration_left, enum_step, parts_last, parameter_last}
use Rattle.c_type_trees.proofs.Arms.{then_walk, same_walk, structured}

-- what is offered is given
pub offered : {A : Type 0} (o : Option A) (c : Around) (f : Found) → Gave (offer o (fixed c) f.state) f f o
offered o c f = record { is = refl; faults = sym (append-nil f.faults); state = refl }

-- ---- expressions

pub arguments_begun : {B : Type 0} (f : B → List rows.Argument) (first : Expr) (rest : List Next) (before : List rows.Argument) (v : Option Operand) (c : Around) (old mid new : Found) (r : Result (Option B) Memory)
    → Gave ((expr_typing first).typed (fixed c) old.state) old mid v → before ≡ ((expr_typing first).first, v) ∷ []
    → WalksAs f (more_arguments before rest) c mid r new → WalksAs f (all_arguments first rest) c old r new
arguments_begun f first rest before v c old mid new r g e w =
    tail_as f (all_arguments first rest) (more_arguments before rest) c old mid new r
    (sym (after_same _ _ c old (gathered_first (all_arguments first rest)))
    ∙ arguments_turn (expr_typing first) (operands rest) [] v c old mid g
    ∙ ap (λ done. after (more_arguments done rest) c mid) (sym e)) w

cast_last : (from : Pos) (t : Option CType) → Same (asked t (λ t. give (Casting from t))) (offer (option_map (Casting from) t))
cast_last from None = record { at = λ c s. refl }
cast_last from (Some t) = record { at = λ c s. refl }

pub cast_walked : (type : TypeNamed) (from : Pos) (t : Option CType) (q : Option Prefixing) (c : Around) (old new : Found)
    → Gave (type.typed from (fixed c) old.state) old new t → q ≡ option_map (Casting from) t
    → Gave ((type.typed from >>= λ t. asked t (λ t. give (Casting from t))) (fixed c) old.state) old new q
cast_walked type from t q c old new g e =
    done (type.typed from >>= λ t. asked t (λ t. give (Casting from t))) c old new q
    (step (type.typed from) (λ t. asked t (λ t. give (Casting from t))) c old new t g ∙ after_same _ _ c new (cast_last from t) ∙ ap (λ o. after (offer o) c new) (sym e))

-- operators of all levels but two are read from left to right
pub level_plain : (l : Level) (first : Option Operand) (rest : List Operating) → (l ≡ level.Or → ⊥) → (l ≡ level.And → ⊥) → level_row l first rest ≡ binaries_row rest first
level_plain level.Or first rest or and = absurd (or refl)
level_plain level.And first rest or and = absurd (and refl)
level_plain level.BitOr first rest or and = refl
level_plain level.BitXor first rest or and = refl
level_plain level.BitAnd first rest or and = refl
level_plain level.Equality first rest or and = refl
level_plain level.Relation first rest or and = refl
level_plain level.Shift first rest or and = refl
level_plain level.Sum first rest or and = refl
level_plain level.Product first rest or and = refl

-- ---- specifiers

-- a type that is named, behind the specifiers before it
pub named_walked : {B : Type 0} (parts : B → Parts) (alone : Bool) (p : Parts) (q : Specifying) (t : Option CType) (r : Result (Option B) Memory) (c : Around) (old new : Found)
    → Gave (named_row alone q (fixed c) old.state) old new t → IfOk r (λ q. option_map parts q ≡ Some (with_type p t))
    → WalksAs parts (with_named alone p q) c old r new
named_walked parts alone p q t r c old new g h =
    answered_as parts (with_named alone p q) c old new (Some (with_type p t)) r h (step (named_row alone q) (λ t. give (with_type p t)) c old new t g)

-- what is given, by the form that is kept of it
pub gave_some : {A B : Type 0} (f : B → A) (said : Said A) (old new : Found) (o : Option B) (b : B) → o ≡ Some b → Gave said old new (option_map f o) → Gave said old new (Some (f b))
gave_some {B = B} f said old new o b is g = subst (λ (p : Option B). Gave said old new (option_map f p)) is g

pub gave_none : {A B : Type 0} (f : B → A) (said : Said A) (old new : Found) (o : Option B) → o ≡ None → Gave said old new (option_map f o) → Gave said old new None
gave_none {B = B} f said old new o is g = subst (λ (p : Option B). Gave said old new (option_map f p)) is g

-- a structure whose tag is lent
pub structured_by : (at : Pos) (tag lent : Option Identifier) (place : Pos) (ws : List (Walk Members)) (c : Around) (old mid mid2 new : Found) (n : Option ℕ) (ms : Option Members) (r : Result (Option CType) Memory)
    → lent ≡ tag → place ≡ tag_place tag at → Gave (struct_begun lent (fixed c) old.state) old mid n → Gave (all_in_row ws (fixed c) mid.state) mid mid2 ms
    → Walks (both_asked n ms (members_row place)) c mid2 r new → Walks (struct_row at tag ws) c old r new
structured_by at tag lent place ws c old mid mid2 new n ms r same is g h w =
    structured at tag ws c old mid mid2 new n ms r
    (subst (λ (t : Option Identifier). Gave (struct_begun t (fixed c) old.state) old mid n) same g) h
    (subst (λ (p : Pos). Walks (both_asked n ms (members_row p)) c mid2 r new) is w)

-- an enumeration whose enumerators begin here
pub enum_opened : (tag : Option Identifier) (es : List Enumerated) (lent : Option Identifier) (given : Option ℕ) (number : ℕ) (c : Around) (old new : Found)
    → lent ≡ tag → given ≡ Some number → Gave (enum_begun lent (fixed c) old.state) old new given
    → after (enum_row tag es) c old ≡ after (enumeration_left tag number (Some 0) es) c new
enum_opened tag es lent given number c old new same is g =
    let begun : Gave (enum_begun tag (fixed c) old.state) old new (Some number) =
    subst (λ (o : Option ℕ). Gave (enum_begun tag (fixed c) old.state) old new o) is (subst (λ (t : Option Identifier). Gave (enum_begun t (fixed c) old.state) old new given) same g) in
    after_same _ _ c old (enum_step tag es) ∙ step (enum_begun tag) (λ n. asked n (λ n. enumeration_left tag n (Some 0) es)) c old new (Some number) begun

pub enum_none : (tag : Option Identifier) (es : List Enumerated) (lent : Option Identifier) (given : Option ℕ) (c : Around) (old new : Found)
    → lent ≡ tag → given ≡ None → Gave (enum_begun lent (fixed c) old.state) old new given → Gave (enum_row tag es (fixed c) old.state) old new None
enum_none tag es lent given c old new same is g =
    let begun : Gave (enum_begun tag (fixed c) old.state) old new None =
    subst (λ (o : Option ℕ). Gave (enum_begun tag (fixed c) old.state) old new o) is (subst (λ (t : Option Identifier). Gave (enum_begun t (fixed c) old.state) old new given) same g) in
    done (enum_row tag es) c old new None
    (after_same _ _ c old (enum_step tag es) ∙ step (enum_begun tag) (λ n. asked n (λ n. enumeration_left tag n (Some 0) es)) c old new None begun)

-- ---- declarators

pub listing_walked : (w : Walk (List Parameter)) (all : Option (List Parameter)) (v : Option Part) (c : Around) (old new : Found)
    → Gave (w (fixed c) old.state) old new all → v ≡ Some (function_part all)
    → Gave ((w >>= λ ps. give (function_part ps)) (fixed c) old.state) old new v
listing_walked w all v c old new g e =
    done (w >>= λ ps. give (function_part ps)) c old new v
    (step w (λ ps. give (function_part ps)) c old new all g ∙ ap (λ o. after (offer o) c new) (sym e))

pub derived : (inner : Declaring) (ss : List Suffixed) (ps : List Pointer) (defining b d : Bool) (i o : Option (List Part)) (r : Result (Option (List Part)) Memory) (c : Around) (old mid new : Found)
    → b ≡ (is_some inner.makes && defining) → d ≡ (not (is_some inner.makes) && defining)
    → Gave (inner.parts b (fixed c) old.state) old mid i → Gave (suffixes_parts d ss (fixed c) mid.state) mid new o
    → IfOk r (λ v. v ≡ parts_if_both ps i o)
    → Walks (inner.parts (is_some inner.makes && defining) >>= λ inside. suffixes_parts (not (is_some inner.makes) && defining) ss >>= λ ss.
    both_asked inside ss (λ inside ss. give (pointing ps ++ (reverse ss ++ inside)))) c old r new
derived inner ss ps defining b d i o r c old mid new eb ed g h e =
    let last : Option (List Part) → Option (List Part) → Walk (List Part) = λ inside ss. both_asked inside ss (λ inside ss. give (pointing ps ++ (reverse ss ++ inside))) in
    answered (inner.parts (is_some inner.makes && defining) >>= λ inside. suffixes_parts (not (is_some inner.makes) && defining) ss >>= last inside) c old new (parts_if_both ps i o) r e
    (step (inner.parts (is_some inner.makes && defining)) (λ inside. suffixes_parts (not (is_some inner.makes) && defining) ss >>= last inside) c old mid i
    (subst (λ (k : Bool). Gave (inner.parts k (fixed c) old.state) old mid i) eb g)
    ∙ step (suffixes_parts (not (is_some inner.makes) && defining) ss) (last i) c mid new o
    (subst (λ (k : Bool). Gave (suffixes_parts k ss (fixed c) mid.state) mid new o) ed h)
    ∙ after_same _ _ c new (parts_last ps i o))

-- what follows the specifiers of a parameter
abbrev registered : (d : Declaring) (at : Pos) (n : ℕ) → Option Basis → Option CType → Walk Parameter
registered d at n b t = both_asked b t (λ b t. parameter_named d.name n (is_register b.storage) t >>= λ t. asked t (λ t.
    give (record { name = d.name; first = at; ctype = t; in_register = is_register b.storage })))

pub parameter_walked : (ss : List Specified) (d : Declaring) (n : ℕ) (b u : Option Basis) (t : Option CType) (r : Result (Option Parameter) Memory) (c : Around) (old m1 m2 m3 new : Found)
    → Gave (specifiers_row false ss (fixed c) old.state) old m1 b
    → Gave (asked b (parameter_basis (first_token ss)) (fixed c) m1.state) m1 m2 u
    → Gave (parameter_type d (first_token ss) u (fixed c) m2.state) m2 m3 t
    → Walks (both_asked (option_map (λ b. is_register b.storage) u) t (parameter_given d.name (first_token ss) n)) c m3 r new
    → Walks (specifiers_row false ss >>= λ b. asked b (parameter_basis (first_token ss)) >>= λ b. parameter_type d (first_token ss) b >>= registered d (first_token ss) n b) c old r new
parameter_walked ss d n b u t r c old m1 m2 m3 new g h k w =
    then_walk (specifiers_row false ss) (λ b. asked b (parameter_basis (first_token ss)) >>= λ b. parameter_type d (first_token ss) b >>= registered d (first_token ss) n b) c old m1 new b r g
    (then_walk (asked b (parameter_basis (first_token ss))) (λ b. parameter_type d (first_token ss) b >>= registered d (first_token ss) n b) c m1 m2 new u r h
    (then_walk (parameter_type d (first_token ss) u) (registered d (first_token ss) n u) c m2 m3 new t r k
    (same_walk _ _ c m3 new r (parameter_last d.name (first_token ss) n u t) w)))

pub parameter_read : (specs lent : List Specifier) (d : Declaring) (n : ℕ) (at : Pos) (name : Option Identifier) (reg : Option Bool) (b u : Option Basis) (t : Option CType) (r : Result (Option Parameter) Memory) (c : Around) (old m1 m2 m3 new : Found)
    → lent ≡ specs → at ≡ first_token (map specifier_typing specs) → name ≡ d.name → reg ≡ option_map (λ b. is_register b.storage) u
    → Gave (specifiers_row false (map specifier_typing lent) (fixed c) old.state) old m1 b
    → Gave (asked b (parameter_basis at) (fixed c) m1.state) m1 m2 u
    → Gave (parameter_type d at u (fixed c) m2.state) m2 m3 t
    → Walks (both_asked reg t (parameter_given name at n)) c m3 r new
    → Walks (specifiers_row false (map specifier_typing specs) >>= λ b. asked b (parameter_basis (first_token (map specifier_typing specs))) >>= λ b.
    parameter_type d (first_token (map specifier_typing specs)) b >>= registered d (first_token (map specifier_typing specs)) n b) c old r new
parameter_read specs lent d n at name reg b u t r c old m1 m2 m3 new el ea en er g h k w =
    parameter_walked (map specifier_typing specs) d n b u t r c old m1 m2 m3 new
    (subst (λ (ss : List Specifier). Gave (specifiers_row false (map specifier_typing ss) (fixed c) old.state) old m1 b) el g)
    (subst (λ (p : Pos). Gave (asked b (parameter_basis p) (fixed c) m1.state) m1 m2 u) ea h)
    (subst (λ (p : Pos). Gave (parameter_type d p u (fixed c) m2.state) m2 m3 t) ea k)
    (subst (λ (p : Pos). Walks (both_asked (option_map (λ b. is_register b.storage) u) t (parameter_given d.name p n)) c m3 r new) ea
    (subst (λ (m : Option Identifier). Walks (both_asked (option_map (λ b. is_register b.storage) u) t (parameter_given m at n)) c m3 r new) en
    (subst (λ (q : Option Bool). Walks (both_asked q t (parameter_given name at n)) c m3 r new) er w)))
