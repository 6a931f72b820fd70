-- Each kind of node, from what the walks of its parts gave.
-- The answers of functions without a loop cite these lemmas, and those of `Nodes`.
use Rattle.std.specs.Prelude.{◌≡◌, ℕ, Bool, false, List, [], ◌∷◌, Option, Some, None, Result, map, length, slice_get, refl}
use Rattle.std.specs.Option.{option_map}
use Rattle.std.proofs.Common.{ap, sym, ◌∙◌, subst, arith}
use Rattle.word_ops.specs.declared.memory.Memory.{Memory}
use Rattle.c_tree.specs.declared.token.Pos.{Pos}
use Rattle.c_tree.specs.declared.expression.Identifier.{Identifier}
use Rattle.c_tree.specs.declared.expression.Next.{Next, out-Next}
use Rattle.c_tree.specs.declared.expression.Suffix.{Suffix}
use Rattle.c_tree.specs.declared.typed.types.CType.{CType}
use Rattle.c_tree.specs.declared.typed.expression.TExpr.{TExpr}
use Rattle.c_typing.specs.declared.operand.Operand.{Operand}
use Rattle.c_typing.specs.declared.declarator.Basis.{Basis}
use Rattle.c_typing.specs.declared.declarator.Part.{Part}
use Rattle.c_typing.specs.Types.{shape}
use Rattle.c_typing.specs.Scopes.{Walk, offer, ◌>>=◌, asked, both_asked}
use Rattle.c_typing.specs.Expressions as rows
use Rattle.c_typing.specs.Declarators.{Expressed, Declaring, Members, basis_type, declared_type, derive, name_place, struct_row, struct_begun, members_row, tag_place, one_member, member_named, complete_parameter, adjusted, valued_enumerator, nowhere}
use Rattle.c_typing.specs.Parts.{Suffixing, Indexing, Calling, Membering, Arrowing, Changing}
use Rattle.c_typing.specs.Trees.{next_typing, next_typing-is, suffix_typing}
use Rattle.c_typing.specs.OfTrees.{truths_row, logical_row, arguments, suffixes_row, postfix_row, parameter_type}
use Rattle.c_type_walk.specs.declared.around.Around.{Around}
use Rattle.c_type_walk.specs.declared.found.Found.{Found}
use Rattle.c_type_walk.specs.Walks.{Gave, Walks, fixed}
use Rattle.c_type_declarators.specs.Enumerations.{enumerator_with}
use Rattle.c_type_trees.specs.Calls.{called, arguments_of, call_place, call_first}
use Rattle.c_type_trees.specs.Lists.{all_in_row}
use Rattle.c_type_trees.specs.Sequences.{logical_tree, logical_of, first_truth}
use Rattle.c_type_trees.proofs.After.{Same, same_refl, same_sym, bind_assoc, after, after_same, step, done, tail}
use Rattle.c_type_trees.proofs.Firsts.{first_is, none_is}
use Rattle.c_type_trees.proofs.Steps.{logical_begin}
use Rattle.c_type_trees.proofs.Turns.{logical_rest, struct_step}

none_left : {A : Type 0} (xs : List A) → length xs ≡ 0 → xs ≡ []
none_left [] h = refl
none_left (x ∷ xs) h = absurd (omega arith)

-- one walk is done, and the rest is that of a call
pub then_walk : {A B : Type 0} (w : Walk A) (f : Option A → Walk B) (c : Around) (old mid new : Found) (a : Option A) (r : Result (Option B) Memory)
    → Gave (w (fixed c) old.state) old mid a → Walks (f a) c mid r new → Walks (w >>= f) c old r new
then_walk w f c old mid new a r g h = tail (w >>= f) (f a) c old mid new r (step w f c old mid a g) h

-- a walk that comes to the same
pub same_walk : {A : Type 0} (w v : Walk A) (c : Around) (old new : Found) (r : Result (Option A) Memory)
    → Same w v → Walks v c old r new → Walks w c old r new
same_walk w v c old new r same h = tail w v c old old new r (after_same w v c old same) h

-- ---- an operand and its suffixes

postfix_plain_same : (e : Expressed) (callee : Option Identifier) (qs : List Suffixing) → called callee qs ≡ None
    → Same (postfix_row e callee qs) (e.typed >>= suffixes_row qs)
postfix_plain_same e None qs h = same_refl _
postfix_plain_same e (Some id) [] h = same_refl _
postfix_plain_same e (Some id) (Indexing at i ∷ qs) h = same_refl _
postfix_plain_same e (Some id) (Calling at es ∷ qs) h = cc
postfix_plain_same e (Some id) (Membering at name ∷ qs) h = same_refl _
postfix_plain_same e (Some id) (Arrowing at name ∷ qs) h = same_refl _
postfix_plain_same e (Some id) (Changing m ∷ qs) h = same_refl _

pub postfix_plain : (e : Expressed) (callee : Option Identifier) (qs : List Suffixing) (c : Around) (old mid new : Found) (o : Option Operand) (r : Result (Option Operand) Memory)
    → called callee qs ≡ None → Gave (e.typed (fixed c) old.state) old mid o → Walks (suffixes_row qs o) c mid r new
    → Walks (postfix_row e callee qs) c old r new
postfix_plain e callee qs c old mid new o r h g w =
    same_walk _ _ c old new r (postfix_plain_same e callee qs h) (then_walk e.typed (suffixes_row qs) c old mid new o r g w)

postfix_called_same : (e : Expressed) (callee : Option Identifier) (qs : List Suffixing) (id : Identifier) → called callee qs ≡ Some id
    → Same (postfix_row e callee qs) (call_first id qs)
postfix_called_same e callee [] id h = cc
postfix_called_same e callee (Indexing at i ∷ qs) id h = cc
postfix_called_same e None (Calling at es ∷ qs) id h = cc
postfix_called_same e (Some x) (Calling at es ∷ qs) id h =
    let same : x ≡ id = cc in
    subst (λ (y : Identifier). Same (postfix_row e (Some x) (Calling at es ∷ qs)) (call_first y (Calling at es ∷ qs))) same
    (same_sym _ _ (bind_assoc (arguments es) (λ args. asked args (rows.call_row x at)) (suffixes_row qs)))
postfix_called_same e callee (Membering at name ∷ qs) id h = cc
postfix_called_same e callee (Arrowing at name ∷ qs) id h = cc
postfix_called_same e callee (Changing m ∷ qs) id h = cc

pub postfix_called : (e : Expressed) (callee : Option Identifier) (qs : List Suffixing) (id : Identifier) (c : Around) (old new : Found) (r : Result (Option Operand) Memory)
    → called callee qs ≡ Some id → Walks (call_first id qs) c old r new → Walks (postfix_row e callee qs) c old r new
postfix_called e callee qs id c old new r h w = same_walk _ _ c old new r (postfix_called_same e callee qs id h) w

pub called_first : (id : Identifier) (q : Suffixing) (qs : List Suffixing) (c : Around) (old mid mid2 new : Found) (args : Option (List rows.Argument)) (o : Option Operand) (r : Result (Option Operand) Memory)
    → Gave (arguments_of q (fixed c) old.state) old mid args
    → Gave (asked args (rows.call_row id (call_place q)) (fixed c) mid.state) mid mid2 o
    → Walks (suffixes_row qs o) c mid2 r new → Walks (call_first id (q ∷ qs)) c old r new
called_first id q qs c old mid mid2 new args o r g h w =
    same_walk _ _ c old new r (bind_assoc (arguments_of q) (λ args. asked args (rows.call_row id (call_place q))) (suffixes_row qs))
    (then_walk (arguments_of q) (λ args. asked args (rows.call_row id (call_place q)) >>= suffixes_row qs) c old mid new args r g
    (then_walk (asked args (rows.call_row id (call_place q))) (suffixes_row qs) c mid mid2 new o r h w))

-- ---- types

pub declared : (d : Declaring) (defining : Bool) (at : Pos) (t : Option CType) (c : Around) (old mid new : Found) (ds : Option (List Part)) (r : Result (Option CType) Memory)
    → Gave (d.parts defining (fixed c) old.state) old mid ds → Walks (both_asked ds t (derive (name_place d.name at))) c mid r new
    → Walks (declared_type d defining at t) c old r new
declared d defining at t c old mid new ds r g w =
    then_walk (d.parts defining) (λ ds. both_asked ds t (derive (name_place d.name at))) c old mid new ds r g w

pub membered : (b : Option Basis) (d : Declaring) (c : Around) (old mid new : Found) (t : Option CType) (r : Result (Option Members) Memory)
    → Gave (declared_type d false nowhere (option_map basis_type b) (fixed c) old.state) old mid t
    → Walks (member_named d.name t) c mid r new → Walks (one_member b d) c old r new
membered b d c old mid new t r g w =
    then_walk (declared_type d false nowhere (option_map basis_type b)) (member_named d.name) c old mid new t r g w

pub structured : (at : Pos) (tag : Option Identifier) (ws : List (Walk Members)) (c : Around) (old mid mid2 new : Found) (n : Option ℕ) (ms : Option Members) (r : Result (Option CType) Memory)
    → Gave (struct_begun tag (fixed c) old.state) old mid n → Gave (all_in_row ws (fixed c) mid.state) mid mid2 ms
    → Walks (both_asked n ms (members_row (tag_place tag at))) c mid2 r new → Walks (struct_row at tag ws) c old r new
structured at tag ws c old mid mid2 new n ms r g h w =
    same_walk _ _ c old new r (struct_step at tag ws)
    (then_walk (struct_begun tag) (λ n. all_in_row ws >>= λ ms. both_asked n ms (members_row (tag_place tag at))) c old mid new n r g
    (then_walk (all_in_row ws) (λ ms. both_asked n ms (members_row (tag_place tag at))) c mid mid2 new ms r h w))

enumerator_same : (id : Identifier) (e : Expressed) → Same (valued_enumerator id e) (e.typed >>= enumerator_with id e.first)
enumerator_same id e = same_refl (valued_enumerator id e)

pub enumerated : (id : Identifier) (e : Expressed) (c : Around) (old mid new : Found) (o : Option Operand) (r : Result (Option ℕ) Memory)
    → Gave (e.typed (fixed c) old.state) old mid o → Walks (enumerator_with id e.first o) c mid r new → Walks (valued_enumerator id e) c old r new
enumerated id e c old mid new o r g w =
    same_walk _ _ c old new r (enumerator_same id e) (then_walk e.typed (enumerator_with id e.first) c old mid new o r g w)

-- ---- parameters

pub parameter_typed : (d : Declaring) (at : Pos) (b : Option Basis) (c : Around) (old mid new : Found) (t : Option CType) (r : Result (Option CType) Memory)
    → Gave (declared_type d false at (option_map basis_type b) (fixed c) old.state) old mid t
    → Walks (asked t (λ t. complete_parameter (name_place d.name at) (adjusted (shape t) t))) c mid r new → Walks (parameter_type d at b) c old r new
parameter_typed d at b c old mid new t r g w =
    then_walk (declared_type d false at (option_map basis_type b)) (λ t. asked t (λ t. complete_parameter (name_place d.name at) (adjusted (shape t) t))) c old mid new t r g w

-- ---- `||` and `&&`

pub logical_walked : (is_or : Bool) (rest : List Next) (x : Next) (first : Option Operand) (done : Option (List TExpr)) (all : Option (List TExpr)) (c : Around) (old mid new : Found)
    → Some x ≡ slice_get rest 0 → Gave (first_truth (out-Next x).operator.place first (fixed c) old.state) old mid done
    → Gave (truths_row (map next_typing rest) done (fixed c) mid.state) mid new all
    → after (logical_row (logical_tree is_or) first (map next_typing rest)) c old ≡ after (offer (option_map (logical_of is_or) all)) c new
logical_walked is_or rest x first truths all c old mid new h g w =
    let split = first_is rest x h in
    let walk : Option (List TExpr) → List Next → Walk Operand = λ d ns. logical_rest is_or (map next_typing ns) d in
    let begin : after (logical_row (logical_tree is_or) first (map next_typing (x ∷ split.0))) c old ≡ after (walk truths (x ∷ split.0)) c mid =
    logical_begin is_or first (next_typing x) (map next_typing split.0) truths c old mid (rw (next_typing-is x) g) in
    let begun : after (logical_row (logical_tree is_or) first (map next_typing rest)) c old ≡ after (walk truths rest) c mid =
    subst (λ (ns : List Next). after (logical_row (logical_tree is_or) first (map next_typing ns)) c old ≡ after (walk truths ns) c mid) (sym split.1) begin in
    begun ∙ step (truths_row (map next_typing rest) truths) (λ all. offer (option_map (logical_of is_or) all)) c mid new all w

-- no operator stands behind the first operand
pub logical_alone : (is_or : Bool) (rest : List Next) (first : Option Operand) (c : Around) (old : Found)
    → None ≡ slice_get rest 0 → Gave (logical_row (logical_tree is_or) first (map next_typing rest) (fixed c) old.state) old old first
logical_alone is_or rest first c old h =
    done (logical_row (logical_tree is_or) first (map next_typing rest)) c old old first
    (ap (λ ns. after (logical_row (logical_tree is_or) first (map next_typing ns)) c old) (none_is rest h))

-- ---- calls

pub no_call : (id : Identifier) (all : List Suffix) (c : Around) (old : Found) → length all ≡ 0
    → Gave (call_first id (map suffix_typing all) (fixed c) old.state) old old None
no_call id all c old h =
    done (call_first id (map suffix_typing all)) c old old None (ap (λ qs. after (call_first id (map suffix_typing qs)) c old) (none_left all h))
