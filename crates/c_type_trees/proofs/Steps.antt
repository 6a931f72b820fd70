-- Each function of the walk, call by call: how it begins, one turn of its loop, and how it ends.
-- `Rounds`, `Arms` and `Nodes` cite these lemmas, which speak of single walks and of no list of trees.
use Rattle.c_tree.specs.declared.expression.Identifier.{Identifier}
use Rattle.std.specs.Prelude.{◌≡◌, ℕ, ◌+◌, ◌%◌, ◌^◌, Bool, false, List, [], ◌∷◌, ◌++◌, Option, Some, None}
use Rattle.std.specs.Option.{option_map}
use Rattle.std.proofs.Common.{◌∙◌}
use Rattle.c_tree.specs.declared.token.Pos.{Pos}
use Rattle.c_tree.specs.declared.typed.expression.TExpr.{TExpr}
use Rattle.c_typing.specs.declared.operand.Operand.{Operand}
use Rattle.c_typing.specs.declared.declarator.Part.{Part}
use Rattle.c_typing.specs.declared.declarator.Parameter.{Parameter}
use Rattle.c_typing.specs.Scopes.{Walk, offer, ◌>>=◌, asked, both_asked, in_row}
use Rattle.c_typing.specs.Expressions.{truth_row}
use Rattle.c_typing.specs.Expressions as rows
use Rattle.c_typing.specs.Declarators.{enum_ended, Expressed, Enumerated, Members, Specified, Suffixed, Parts, with_specifier, read_specifiers, basis_of, enumerators_row}
use Rattle.c_typing.specs.Parts.{Prefixing, Prefixed, Suffixing, Operating, Branching, Listed}
use Rattle.c_typing.specs.OfTrees.{arguments, suffix_row, suffixes_row, binaries_row, truths_row, logical_row, chain_row, assigns_row, suffixes_parts, parameters_row}
use Rattle.c_type_walk.specs.declared.around.Around.{Around}
use Rattle.c_type_walk.specs.declared.found.Found.{Found}
use Rattle.c_type_walk.specs.Walks.{Gave, fixed}
use Rattle.c_type_trees.specs.declared.sequences.Choice.{Choice}
use Rattle.c_type_trees.specs.declared.sequences.LeftSide.{LeftSide}
use Rattle.c_tree.specs.declared.expression.Next.{Next}
use Rattle.c_typing.specs.Trees.{next_typing}
use Rattle.c_type_trees.specs.Calls.{operands, more_arguments}
use Rattle.c_type_trees.specs.Lists.{one_more, both_joined}
use Rattle.c_type_trees.specs.Sequences.{logical_tree, with_truth, first_truth, conditional_row, assignment_row, with_dropped, prefixes_walk}
use Rattle.c_type_trees.proofs.After.{after, after_same, step, bind_assoc}
use Rattle.c_type_trees.proofs.Loops.{gathered, gather_step, kept, keep_step, members_kept, members_step}
use Rattle.c_type_trees.proofs.Turns.{truths_step, logical_rest, logical_step, chosen, choice_of, chain_step, chain_first, assigned, left_side_of, assigns_step, assigns_first, comma_left, comma_step, enumeration_left}

-- ---- expressions

pub suffixes_turn : (q : Suffixing) (qs : List Suffixing) (o v : Option Operand) (c : Around) (old new : Found)
    → Gave (suffix_row q o (fixed c) old.state) old new v → after (suffixes_row (q ∷ qs) o) c old ≡ after (suffixes_row qs v) c new
suffixes_turn q qs o v c old new g = step (suffix_row q o) (suffixes_row qs) c old new v g

pub arguments_turn : (e : Expressed) (es : List Expressed) (done : List rows.Argument) (v : Option Operand) (c : Around) (old new : Found)
    → Gave (e.typed (fixed c) old.state) old new v
    → after (arguments (e ∷ es) >>= gathered done) c old ≡ after (arguments es >>= gathered (done ++ (e.first, v) ∷ [])) c new
arguments_turn e es done v c old new g =
    after_same _ _ c old (gather_step e.typed (arguments es) (λ o. (e.first, o)) done)
    ∙ step e.typed (λ o. arguments es >>= gathered (done ++ (e.first, o) ∷ [])) c old new v g

pub more_arguments_turn : (n : Next) (ns : List Next) (done : List rows.Argument) (v : Option Operand) (c : Around) (old new : Found)
    → Gave ((next_typing n).operand.typed (fixed c) old.state) old new v
    → after (more_arguments done (n ∷ ns)) c old ≡ after (more_arguments (done ++ ((next_typing n).operand.first, v) ∷ []) ns) c new
more_arguments_turn n ns done v c old new g = arguments_turn (next_typing n).operand (operands ns) done v c old new g

pub prefixes_turn : (p : Prefixed) (ps : List Prefixed) (done : List (Option Prefixing)) (v : Option Prefixing) (c : Around) (old new : Found)
    → Gave (p.walk (fixed c) old.state) old new v
    → after (prefixes_walk (p ∷ ps) >>= gathered done) c old ≡ after (prefixes_walk ps >>= gathered (done ++ v ∷ [])) c new
prefixes_turn p ps done v c old new g =
    after_same _ _ c old (gather_step p.walk (prefixes_walk ps) (λ a. a) done)
    ∙ step p.walk (λ a. prefixes_walk ps >>= gathered (done ++ a ∷ [])) c old new v g

pub binaries_turn : (n : Operating) (ns : List Operating) (l r v : Option Operand) (c : Around) (old mid new : Found)
    → Gave (n.operand.typed (fixed c) old.state) old mid r
    → Gave (both_asked l r (rows.binary_row n.operator) (fixed c) mid.state) mid new v
    → after (binaries_row (n ∷ ns) l) c old ≡ after (binaries_row ns v) c new
binaries_turn n ns l r v c old mid new g h =
    step n.operand.typed (λ r. both_asked l r (rows.binary_row n.operator) >>= binaries_row ns) c old mid r g
    ∙ step (both_asked l r (rows.binary_row n.operator)) (binaries_row ns) c mid new v h

pub truths_turn : (n : Operating) (ns : List Operating) (done : Option (List TExpr)) (r t : Option Operand) (c : Around) (old mid new : Found)
    → Gave (n.operand.typed (fixed c) old.state) old mid r
    → Gave (asked r (truth_row n.operator.place) (fixed c) mid.state) mid new t
    → after (truths_row (n ∷ ns) done) c old ≡ after (truths_row ns (with_truth done t)) c new
truths_turn n ns done r t c old mid new g h =
    after_same _ _ c old (truths_step n ns done)
    ∙ step n.operand.typed (λ r. asked r (truth_row n.operator.place) >>= λ t. truths_row ns (with_truth done t)) c old mid r g
    ∙ step (asked r (truth_row n.operator.place)) (λ t. truths_row ns (with_truth done t)) c mid new t h

pub logical_begin : (is_or : Bool) (first : Option Operand) (n : Operating) (ns : List Operating) (done : Option (List TExpr)) (c : Around) (old new : Found)
    → Gave (first_truth n.operator.place first (fixed c) old.state) old new done
    → after (logical_row (logical_tree is_or) first (n ∷ ns)) c old ≡ after (logical_rest is_or (n ∷ ns) done) c new
logical_begin is_or first n ns done c old new g =
    after_same _ _ c old (logical_step is_or first n ns)
    ∙ step (first_truth n.operator.place first) (logical_rest is_or (n ∷ ns)) c old new done g

pub conditional_begin : (bs : List Branching) (v : Option Operand) (c : Around) (old : Found)
    → after (conditional_row bs v) c old ≡ after (chain_row bs v >>= chosen []) c old
conditional_begin bs v c old = after_same _ _ c old (chain_first bs v)

pub conditional_turn : (b : Branching) (bs : List Branching) (o g n : Option Operand) (cs : List Choice) (c : Around) (old mid new : Found)
    → Gave (b.gives.typed (fixed c) old.state) old mid g
    → Gave (b.operand.typed (fixed c) mid.state) mid new n
    → after (chain_row (b ∷ bs) o >>= chosen cs) c old ≡ after (chain_row bs n >>= chosen (cs ++ choice_of b o g ∷ [])) c new
conditional_turn b bs o g n cs c old mid new x y =
    after_same _ _ c old (chain_step b bs o cs)
    ∙ step b.gives.typed (λ g. b.operand.typed >>= λ next. chain_row bs next >>= chosen (cs ++ choice_of b o g ∷ [])) c old mid g x
    ∙ step b.operand.typed (λ next. chain_row bs next >>= chosen (cs ++ choice_of b o g ∷ [])) c mid new n y

pub assignment_begin : (ns : List Operating) (v : Option Operand) (c : Around) (old : Found)
    → after (assignment_row ns v) c old ≡ after (assigns_row ns v >>= assigned []) c old
assignment_begin ns v c old = after_same _ _ c old (assigns_first ns v)

pub assignment_turn : (n : Operating) (ns : List Operating) (o r : Option Operand) (ls : List LeftSide) (c : Around) (old new : Found)
    → Gave (n.operand.typed (fixed c) old.state) old new r
    → after (assigns_row (n ∷ ns) o >>= assigned ls) c old ≡ after (assigns_row ns r >>= assigned (ls ++ left_side_of n o ∷ [])) c new
assignment_turn n ns o r ls c old new g =
    after_same _ _ c old (assigns_step n ns o ls)
    ∙ step n.operand.typed (λ r. assigns_row ns r >>= assigned (ls ++ left_side_of n o ∷ [])) c old new r g

pub comma_turn : (n : Operating) (ns : List Operating) (d : Option (List TExpr)) (o v : Option Operand) (c : Around) (old new : Found)
    → Gave (n.operand.typed (fixed c) old.state) old new v
    → after (comma_left d (n ∷ ns) o) c old ≡ after (comma_left (with_dropped d o) ns v) c new
comma_turn n ns d o v c old new g =
    after_same _ _ c old (comma_step n ns d o) ∙ step n.operand.typed (comma_left (with_dropped d o) ns) c old new v g

-- ---- specifiers

pub specifiers_turn : (alone : Bool) (r q : Parts) (s : Specified) (ss : List Specified) (at : Pos) (c : Around) (old new : Found)
    → Gave (with_specifier alone r s.specifying (fixed c) old.state) old new (Some q)
    → after (read_specifiers alone r (s ∷ ss) >>= λ r. asked r (basis_of at)) c old
    ≡ after (read_specifiers alone q ss >>= λ r. asked r (basis_of at)) c new
specifiers_turn alone r q s ss at c old new g =
    after_same _ _ c old (bind_assoc (with_specifier alone r s.specifying) (λ q. asked q (λ q. read_specifiers alone q ss)) (λ r. asked r (basis_of at)))
    ∙ step (with_specifier alone r s.specifying) (λ q. asked q (λ q. read_specifiers alone q ss) >>= λ r. asked r (basis_of at)) c old new (Some q) g

pub specifiers_stop : (alone : Bool) (r : Parts) (s : Specified) (ss : List Specified) (at : Pos) (c : Around) (old new : Found)
    → Gave (with_specifier alone r s.specifying (fixed c) old.state) old new None
    → after (read_specifiers alone r (s ∷ ss) >>= λ r. asked r (basis_of at)) c old ≡ after (offer None) c new
specifiers_stop alone r s ss at c old new g =
    after_same _ _ c old (bind_assoc (with_specifier alone r s.specifying) (λ q. asked q (λ q. read_specifiers alone q ss)) (λ r. asked r (basis_of at)))
    ∙ step (with_specifier alone r s.specifying) (λ q. asked q (λ q. read_specifiers alone q ss) >>= λ r. asked r (basis_of at)) c old new None g

pub members_turn : (w : Walk Members) (ws : List (Walk Members)) (done v : Option Members) (c : Around) (old new : Found)
    → Gave (w (fixed c) old.state) old new v
    → after (in_row (w ∷ ws) >>= members_kept done) c old ≡ after (in_row ws >>= members_kept (both_joined done v)) c new
members_turn w ws done v c old new g =
    after_same _ _ c old (members_step w ws done) ∙ step w (λ a. in_row ws >>= members_kept (both_joined done a)) c old new v g

pub enumeration_turn : (tag : Option Identifier) (number : ℕ) (next v : Option ℕ) (e : Enumerated) (es : List Enumerated) (c : Around) (old new : Found)
    → Gave (e.value next (fixed c) old.state) old new v
    → after (enumeration_left tag number next (e ∷ es)) c old ≡ after (enumeration_left tag number (option_map (λ n. (n + 1) % (2 ^ 32)) v) es) c new
enumeration_turn tag number next v e es c old new g =
    after_same _ _ c old (bind_assoc (e.value next) (λ n. enumerators_row (option_map (λ n. (n + 1) % (2 ^ 32)) n) es) (λ u. enum_ended tag number))
    ∙ step (e.value next) (λ n. enumeration_left tag number (option_map (λ n. (n + 1) % (2 ^ 32)) n) es) c old new v g

-- ---- declarators

pub suffixes_parts_turn : (defining : Bool) (s : Suffixed) (ss : List Suffixed) (done : Option (List Part)) (v : Option Part) (c : Around) (old new : Found)
    → Gave (s.part defining (fixed c) old.state) old new v
    → after (suffixes_parts defining (s ∷ ss) >>= kept done) c old ≡ after (suffixes_parts false ss >>= kept (one_more done v)) c new
suffixes_parts_turn defining s ss done v c old new g =
    after_same _ _ c old (keep_step (s.part defining) (suffixes_parts false ss) done)
    ∙ step (s.part defining) (λ a. suffixes_parts false ss >>= kept (one_more done a)) c old new v g

pub parameters_turn : (n : ℕ) (q : Listed) (qs : List Listed) (done : Option (List Parameter)) (v : Option Parameter) (c : Around) (old new : Found)
    → Gave (q n (fixed c) old.state) old new v
    → after (parameters_row n (q ∷ qs) >>= kept done) c old ≡ after (parameters_row (n + 1) qs >>= kept (one_more done v)) c new
parameters_turn n q qs done v c old new g =
    after_same _ _ c old (keep_step (q n) (parameters_row (n + 1) qs) done)
    ∙ step (q n) (λ a. parameters_row (n + 1) qs >>= kept (one_more done a)) c old new v g
