-- One turn of each loop of the walk over a list of trees, from what its calls gave.
-- The answers of loops cite these lemmas, each that of its function.
use Rattle.c_tree.specs.declared.expression.Identifier.{Identifier}
use Rattle.std.specs.Prelude.{◌≡◌, ℕ, ◌+◌, ◌%◌, ◌^◌, ◌<◌, Bool, false, List, [], ◌∷◌, ◌++◌, Option, Some, map, length, drop}
use Rattle.std.specs.Option.{option_map}
use Rattle.std.proofs.Common.{sym, ◌∙◌, ap, get_or}
use Rattle.c_tree.specs.declared.token.Pos.{Pos}
use Rattle.c_tree.specs.declared.expression.Branch.{Branch, out-Branch}
use Rattle.c_tree.specs.declared.expression.Next.{Next, out-Next}
use Rattle.c_tree.specs.declared.expression.Prefix.{Prefix}
use Rattle.c_tree.specs.declared.expression.Suffix.{Suffix}
use Rattle.c_tree.specs.declared.specifier.Enumerator.{Enumerator}
use Rattle.c_tree.specs.declared.specifier.Member.{Member}
use Rattle.c_tree.specs.declared.specifier.MemberDeclarator.{MemberDeclarator}
use Rattle.c_tree.specs.declared.specifier.Specifier.{Specifier}
use Rattle.c_tree.specs.declared.declarator.DeclaratorSuffix.{DeclaratorSuffix}
use Rattle.c_tree.specs.declared.declarator.Parameter as tree
use Rattle.c_tree.specs.declared.typed.types.CType.{CType}
use Rattle.c_tree.specs.declared.typed.expression.TExpr.{TExpr}
use Rattle.c_typing.specs.declared.operand.Operand.{Operand}
use Rattle.c_typing.specs.declared.declarator.Basis.{Basis}
use Rattle.c_typing.specs.declared.declarator.Part.{Part}
use Rattle.c_typing.specs.declared.declarator.Parameter.{Parameter}
use Rattle.c_typing.specs.Scopes.{Said, ◌>>=◌, asked, both_asked, in_row}
use Rattle.c_typing.specs.Expressions as rows
use Rattle.c_typing.specs.Expressions.{truth_row}
use Rattle.c_typing.specs.Declarators.{Members, Parts, with_specifier, read_specifiers, basis_of, one_member}
use Rattle.c_typing.specs.Parts.{Prefixing}
use Rattle.c_typing.specs.OfTrees.{suffix_row, suffixes_row, binaries_row, truths_row, chain_row, assigns_row, suffixes_parts, parameters_row}
use Rattle.c_typing.specs.Trees.{expr_typing, suffix_typing, prefix_typing, next_typing, next_typing-is, branch_typing, branch_typing-is, specifier_typing, member_typing, member_declarator_typing, enumerator_typing, declarator_suffix_typing, parameter_typing}
use Rattle.c_type_walk.specs.declared.around.Around.{Around}
use Rattle.c_type_walk.specs.declared.found.Found.{Found}
use Rattle.c_type_walk.specs.Walks.{Gave, fixed}
use Rattle.c_type_trees.specs.declared.sequences.Choice.{Choice}
use Rattle.c_type_trees.specs.declared.sequences.LeftSide.{LeftSide}
use Rattle.c_type_trees.specs.Calls.{more_arguments}
use Rattle.c_type_trees.specs.Lists.{one_more, both_joined}
use Rattle.c_type_trees.specs.Sequences.{prefixes_walk, with_truth, with_dropped}
use Rattle.c_type_trees.proofs.After.{after}
use Rattle.c_type_trees.proofs.Kept.{left_at, turned}
use Rattle.c_type_trees.proofs.Loops.{gathered, kept, members_kept}
use Rattle.c_type_trees.proofs.Steps.{suffixes_turn, more_arguments_turn, prefixes_turn, binaries_turn, truths_turn, conditional_turn, assignment_turn, comma_turn, specifiers_turn, members_turn, enumeration_turn, suffixes_parts_turn, parameters_turn}
use Rattle.c_type_trees.proofs.Turns.{chosen, choice_of, assigned, left_side_of, comma_left, enumeration_left}

-- ---- what stands behind an operator

operand_is : (n : Next) → expr_typing (out-Next n).operand ≡ (next_typing n).operand
operand_is n = sym (ap (λ m. m.operand) (next_typing-is n))

operator_is : (n : Next) → (out-Next n).operator ≡ (next_typing n).operator
operator_is n = sym (ap (λ m. m.operator) (next_typing-is n))

next_gave : (n : Next) (c : Around) (old new : Found) (v : Option Operand)
    → Gave ((expr_typing (out-Next n).operand).typed (fixed c) old.state) old new v
    → Gave ((next_typing n).operand.typed (fixed c) old.state) old new v
next_gave n c old new v g = rw (← (operand_is n)) g

-- ---- expressions

pub suffixes_round : (all : List Suffix) (i : ℕ) (x : Suffix) (o v : Option Operand) (whole : Said Operand) (c : Around) (old new : Found)
    → i < length all → x ≡ get_or all i x → whole ≡ after (suffixes_row (map suffix_typing (drop i all)) o) c old
    → Gave (suffix_row (suffix_typing x) o (fixed c) old.state) old new v
    → whole ≡ after (suffixes_row (map suffix_typing (drop (i + 1) all)) v) c new
suffixes_round all i x o v whole c old new h is before g =
    turned suffix_typing all i x (λ qs. suffixes_row qs o) (suffixes_row (map suffix_typing (drop (i + 1) all)) v) whole c old new h is before
    (suffixes_turn (suffix_typing x) (map suffix_typing (drop (i + 1) all)) o v c old new g)

pub more_arguments_round : (rest : List Next) (i : ℕ) (x : Next) (done more : List rows.Argument) (at : Pos) (v : Option Operand) (whole : Said (List rows.Argument)) (c : Around) (old new : Found)
    → i < length rest → x ≡ get_or rest i x → whole ≡ after (more_arguments done (drop i rest)) c old
    → Gave ((expr_typing (out-Next x).operand).typed (fixed c) old.state) old new v
    → at ≡ (expr_typing (out-Next x).operand).first → more ≡ done ++ (at, v) ∷ []
    → whole ≡ after (more_arguments more (drop (i + 1) rest)) c new
more_arguments_round rest i x done more at v whole c old new h is before g first pushed =
    before ∙ ap (λ ns. after (more_arguments done ns) c old) (left_at rest i x h is)
    ∙ more_arguments_turn x (drop (i + 1) rest) done v c old new (next_gave x c old new v g)
    ∙ ap (λ all. after (more_arguments all (drop (i + 1) rest)) c new)
    (ap (λ p. done ++ (p, v) ∷ []) (sym (first ∙ ap (λ e. e.first) (operand_is x))) ∙ sym pushed)

pub prefixes_round : (run : List Prefix) (i : ℕ) (x : Prefix) (done more : List (Option Prefixing)) (v : Option Prefixing) (whole : Said (List (Option Prefixing))) (c : Around) (old new : Found)
    → i < length run → x ≡ get_or run i x → whole ≡ after (prefixes_walk (map prefix_typing (drop i run)) >>= gathered done) c old
    → Gave ((prefix_typing x).walk (fixed c) old.state) old new v → more ≡ done ++ v ∷ []
    → whole ≡ after (prefixes_walk (map prefix_typing (drop (i + 1) run)) >>= gathered more) c new
prefixes_round run i x done more v whole c old new h is before g pushed =
    turned prefix_typing run i x (λ ps. prefixes_walk ps >>= gathered done) (prefixes_walk (map prefix_typing (drop (i + 1) run)) >>= gathered (done ++ v ∷ [])) whole c old new h is before
    (prefixes_turn (prefix_typing x) (map prefix_typing (drop (i + 1) run)) done v c old new g)
    ∙ ap (λ all. after (prefixes_walk (map prefix_typing (drop (i + 1) run)) >>= gathered all) c new) (sym pushed)

pub binaries_round : (rest : List Next) (i : ℕ) (x : Next) (l r v : Option Operand) (whole : Said Operand) (c : Around) (old mid new : Found)
    → i < length rest → x ≡ get_or rest i x → whole ≡ after (binaries_row (map next_typing (drop i rest)) l) c old
    → Gave ((expr_typing (out-Next x).operand).typed (fixed c) old.state) old mid r
    → Gave (both_asked l r (rows.binary_row (out-Next x).operator) (fixed c) mid.state) mid new v
    → whole ≡ after (binaries_row (map next_typing (drop (i + 1) rest)) v) c new
binaries_round rest i x l r v whole c old mid new h is before g made =
    turned next_typing rest i x (λ ns. binaries_row ns l) (binaries_row (map next_typing (drop (i + 1) rest)) v) whole c old new h is before
    (binaries_turn (next_typing x) (map next_typing (drop (i + 1) rest)) l r v c old mid new (next_gave x c old mid r g) (rw (← (operator_is x)) made))

pub truths_round : (rest : List Next) (i : ℕ) (x : Next) (done more : Option (List TExpr)) (r t : Option Operand) (whole : Said (List TExpr)) (c : Around) (old mid new : Found)
    → i < length rest → x ≡ get_or rest i x → whole ≡ after (truths_row (map next_typing (drop i rest)) done) c old
    → Gave ((expr_typing (out-Next x).operand).typed (fixed c) old.state) old mid r
    → Gave (asked r (truth_row (out-Next x).operator.place) (fixed c) mid.state) mid new t → more ≡ with_truth done t
    → whole ≡ after (truths_row (map next_typing (drop (i + 1) rest)) more) c new
truths_round rest i x done more r t whole c old mid new h is before g made joined =
    turned next_typing rest i x (λ ns. truths_row ns done) (truths_row (map next_typing (drop (i + 1) rest)) (with_truth done t)) whole c old new h is before
    (truths_turn (next_typing x) (map next_typing (drop (i + 1) rest)) done r t c old mid new (next_gave x c old mid r g) (rw (← (operator_is x)) made))
    ∙ ap (λ all. after (truths_row (map next_typing (drop (i + 1) rest)) all) c new) (sym joined)

-- a branch and what was read of it
choice_at : (x : Branch) (o g : Option Operand) → choice_of (branch_typing x) o g ≡ record { question = (out-Branch x).question; condition = o; gives = g }
choice_at x o g = ap (λ b. choice_of b o g) (branch_typing-is x)

pub conditional_round : (rest : List Branch) (i : ℕ) (x : Branch) (o g n : Option Operand) (done more : List Choice) (whole : Said Operand) (c : Around) (old mid new : Found)
    → i < length rest → x ≡ get_or rest i x → whole ≡ after (chain_row (map branch_typing (drop i rest)) o >>= chosen done) c old
    → Gave ((expr_typing (out-Branch x).gives).typed (fixed c) old.state) old mid g
    → Gave ((expr_typing (out-Branch x).operand).typed (fixed c) mid.state) mid new n
    → more ≡ done ++ record { question = (out-Branch x).question; condition = o; gives = g } ∷ []
    → whole ≡ after (chain_row (map branch_typing (drop (i + 1) rest)) n >>= chosen more) c new
conditional_round rest i x o g n done more whole c old mid new h is before gives operand pushed =
    turned branch_typing rest i x (λ bs. chain_row bs o >>= chosen done) (chain_row (map branch_typing (drop (i + 1) rest)) n >>= chosen (done ++ choice_of (branch_typing x) o g ∷ [])) whole c old new h is before
    (conditional_turn (branch_typing x) (map branch_typing (drop (i + 1) rest)) o g n done c old mid new (rw (branch_typing-is x) gives) (rw (branch_typing-is x) operand))
    ∙ ap (λ all. after (chain_row (map branch_typing (drop (i + 1) rest)) n >>= chosen all) c new) (ap (λ y. done ++ y ∷ []) (choice_at x o g) ∙ sym pushed)

left_side_at : (x : Next) (o : Option Operand) → left_side_of (next_typing x) o ≡ record { operand = o; operator = (out-Next x).operator }
left_side_at x o = ap (λ n. left_side_of n o) (next_typing-is x)

pub assignment_round : (rest : List Next) (i : ℕ) (x : Next) (o r : Option Operand) (done more : List LeftSide) (whole : Said Operand) (c : Around) (old new : Found)
    → i < length rest → x ≡ get_or rest i x → whole ≡ after (assigns_row (map next_typing (drop i rest)) o >>= assigned done) c old
    → Gave ((expr_typing (out-Next x).operand).typed (fixed c) old.state) old new r
    → more ≡ done ++ record { operand = o; operator = (out-Next x).operator } ∷ []
    → whole ≡ after (assigns_row (map next_typing (drop (i + 1) rest)) r >>= assigned more) c new
assignment_round rest i x o r done more whole c old new h is before g pushed =
    turned next_typing rest i x (λ ns. assigns_row ns o >>= assigned done) (assigns_row (map next_typing (drop (i + 1) rest)) r >>= assigned (done ++ left_side_of (next_typing x) o ∷ [])) whole c old new h is before
    (assignment_turn (next_typing x) (map next_typing (drop (i + 1) rest)) o r done c old new (next_gave x c old new r g))
    ∙ ap (λ all. after (assigns_row (map next_typing (drop (i + 1) rest)) r >>= assigned all) c new) (ap (λ y. done ++ y ∷ []) (left_side_at x o) ∙ sym pushed)

pub comma_round : (rest : List Next) (i : ℕ) (x : Next) (d e : Option (List TExpr)) (o v : Option Operand) (whole : Said Operand) (c : Around) (old new : Found)
    → i < length rest → x ≡ get_or rest i x → whole ≡ after (comma_left d (map next_typing (drop i rest)) o) c old
    → e ≡ with_dropped d o → Gave ((expr_typing (out-Next x).operand).typed (fixed c) old.state) old new v
    → whole ≡ after (comma_left e (map next_typing (drop (i + 1) rest)) v) c new
comma_round rest i x d e o v whole c old new h is before dropped g =
    turned next_typing rest i x (λ ns. comma_left d ns o) (comma_left (with_dropped d o) (map next_typing (drop (i + 1) rest)) v) whole c old new h is before
    (comma_turn (next_typing x) (map next_typing (drop (i + 1) rest)) d o v c old new (next_gave x c old new v g))
    ∙ ap (λ all. after (comma_left all (map next_typing (drop (i + 1) rest)) v) c new) (sym dropped)

-- ---- specifiers

pub specifiers_round : (alone : Bool) (list : List Specifier) (i : ℕ) (x : Specifier) (r q : Parts) (at : Pos) (whole : Said Basis) (c : Around) (old new : Found)
    → i < length list → x ≡ get_or list i x → whole ≡ after (read_specifiers alone r (map specifier_typing (drop i list)) >>= λ r. asked r (basis_of at)) c old
    → Gave (with_specifier alone r (specifier_typing x).specifying (fixed c) old.state) old new (Some q)
    → whole ≡ after (read_specifiers alone q (map specifier_typing (drop (i + 1) list)) >>= λ r. asked r (basis_of at)) c new
specifiers_round alone list i x r q at whole c old new h is before g =
    turned specifier_typing list i x (λ ss. read_specifiers alone r ss >>= λ r. asked r (basis_of at)) (read_specifiers alone q (map specifier_typing (drop (i + 1) list)) >>= λ r. asked r (basis_of at)) whole c old new h is before
    (specifiers_turn alone r q (specifier_typing x) (map specifier_typing (drop (i + 1) list)) at c old new g)

pub members_round : (list : List Member) (i : ℕ) (x : Member) (done more v : Option Members) (whole : Said Members) (c : Around) (old new : Found)
    → i < length list → x ≡ get_or list i x → whole ≡ after (in_row (map member_typing (drop i list)) >>= members_kept done) c old
    → Gave (member_typing x (fixed c) old.state) old new v → more ≡ both_joined done v
    → whole ≡ after (in_row (map member_typing (drop (i + 1) list)) >>= members_kept more) c new
members_round list i x done more v whole c old new h is before g joined =
    turned member_typing list i x (λ ws. in_row ws >>= members_kept done) (in_row (map member_typing (drop (i + 1) list)) >>= members_kept (both_joined done v)) whole c old new h is before
    (members_turn (member_typing x) (map member_typing (drop (i + 1) list)) done v c old new g)
    ∙ ap (λ all. after (in_row (map member_typing (drop (i + 1) list)) >>= members_kept all) c new) (sym joined)

pub member_declarators_round : (b : Option Basis) (list : List MemberDeclarator) (i : ℕ) (x : MemberDeclarator) (done more v : Option Members) (whole : Said Members) (c : Around) (old new : Found)
    → i < length list → x ≡ get_or list i x → whole ≡ after (in_row (map (one_member b) (map member_declarator_typing (drop i list))) >>= members_kept done) c old
    → Gave (one_member b (member_declarator_typing x) (fixed c) old.state) old new v → more ≡ both_joined done v
    → whole ≡ after (in_row (map (one_member b) (map member_declarator_typing (drop (i + 1) list))) >>= members_kept more) c new
member_declarators_round b list i x done more v whole c old new h is before g joined =
    turned member_declarator_typing list i x (λ ds. in_row (map (one_member b) ds) >>= members_kept done) (in_row (map (one_member b) (map member_declarator_typing (drop (i + 1) list))) >>= members_kept (both_joined done v)) whole c old new h is before
    (members_turn (one_member b (member_declarator_typing x)) (map (one_member b) (map member_declarator_typing (drop (i + 1) list))) done v c old new g)
    ∙ ap (λ all. after (in_row (map (one_member b) (map member_declarator_typing (drop (i + 1) list))) >>= members_kept all) c new) (sym joined)

pub enumeration_round : (tag : Option Identifier) (number : ℕ) (list : List Enumerator) (i : ℕ) (x : Enumerator) (n m v : Option ℕ) (whole : Said CType) (c : Around) (old new : Found)
    → i < length list → x ≡ get_or list i x → whole ≡ after (enumeration_left tag number n (map enumerator_typing (drop i list))) c old
    → Gave ((enumerator_typing x).value n (fixed c) old.state) old new v → m ≡ option_map (λ n. (n + 1) % (2 ^ 32)) v
    → whole ≡ after (enumeration_left tag number m (map enumerator_typing (drop (i + 1) list))) c new
enumeration_round tag number list i x n m v whole c old new h is before g following =
    turned enumerator_typing list i x (enumeration_left tag number n) (enumeration_left tag number (option_map (λ n. (n + 1) % (2 ^ 32)) v) (map enumerator_typing (drop (i + 1) list))) whole c old new h is before
    (enumeration_turn tag number n v (enumerator_typing x) (map enumerator_typing (drop (i + 1) list)) c old new g)
    ∙ ap (λ k. after (enumeration_left tag number k (map enumerator_typing (drop (i + 1) list))) c new) (sym following)

-- ---- declarators

pub suffixes_parts_round : (defining : Bool) (list : List DeclaratorSuffix) (i : ℕ) (x : DeclaratorSuffix) (done more : Option (List Part)) (v : Option Part) (whole : Said (List Part)) (c : Around) (old new : Found)
    → i < length list → x ≡ get_or list i x → whole ≡ after (suffixes_parts defining (map declarator_suffix_typing (drop i list)) >>= kept done) c old
    → Gave ((declarator_suffix_typing x).part defining (fixed c) old.state) old new v → more ≡ one_more done v
    → whole ≡ after (suffixes_parts false (map declarator_suffix_typing (drop (i + 1) list)) >>= kept more) c new
suffixes_parts_round defining list i x done more v whole c old new h is before g joined =
    turned declarator_suffix_typing list i x (λ ss. suffixes_parts defining ss >>= kept done) (suffixes_parts false (map declarator_suffix_typing (drop (i + 1) list)) >>= kept (one_more done v)) whole c old new h is before
    (suffixes_parts_turn defining (declarator_suffix_typing x) (map declarator_suffix_typing (drop (i + 1) list)) done v c old new g)
    ∙ ap (λ all. after (suffixes_parts false (map declarator_suffix_typing (drop (i + 1) list)) >>= kept all) c new) (sym joined)

pub parameters_round : (list : List tree.Parameter) (i : ℕ) (x : tree.Parameter) (n m : ℕ) (done more : Option (List Parameter)) (v : Option Parameter) (whole : Said (List Parameter)) (c : Around) (old new : Found)
    → i < length list → x ≡ get_or list i x → whole ≡ after (parameters_row n (map parameter_typing (drop i list)) >>= kept done) c old
    → Gave (parameter_typing x n (fixed c) old.state) old new v → more ≡ one_more done v → m ≡ n + 1
    → whole ≡ after (parameters_row m (map parameter_typing (drop (i + 1) list)) >>= kept more) c new
parameters_round list i x n m done more v whole c old new h is before g joined following =
    turned parameter_typing list i x (λ qs. parameters_row n qs >>= kept done) (parameters_row (n + 1) (map parameter_typing (drop (i + 1) list)) >>= kept (one_more done v)) whole c old new h is before
    (parameters_turn n (parameter_typing x) (map parameter_typing (drop (i + 1) list)) done v c old new g)
    ∙ ap (λ all. after (parameters_row (n + 1) (map parameter_typing (drop (i + 1) list)) >>= kept all) c new) (sym joined)
    ∙ ap (λ k. after (parameters_row k (map parameter_typing (drop (i + 1) list)) >>= kept more) c new) (sym following)
