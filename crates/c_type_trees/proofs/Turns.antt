-- One turn of each loop over operators, specifiers and enumerators, and what is left behind it.
-- Of walks alone: equations between what is left before and behind a turn.
use Rattle.std.specs.Prelude.{◌≡◌, ℕ, Bool, List, [], ◌∷◌, ◌++◌, Option, Some, None, reverse, refl}
use Rattle.std.specs.Option.{option_map}
use Rattle.std.proofs.Common.{ap, append-nil}
use Rattle.c_tree.specs.declared.token.Pos.{Pos}
use Rattle.c_tree.specs.declared.expression.Identifier.{Identifier}
use Rattle.c_tree.specs.declared.declarator.Pointer.{Pointer}
use Rattle.c_tree.specs.declared.typed.types.CType.{CType}
use Rattle.c_tree.specs.declared.typed.expression.TExpr.{TExpr}
use Rattle.c_typing.specs.declared.operand.Operand.{Operand}
use Rattle.c_typing.specs.declared.declarator.Part.{Part}
use Rattle.c_typing.specs.declared.declarator.Basis.{Basis}
use Rattle.c_typing.specs.Types.{int}
use Rattle.c_typing.specs.Operands.{tree_of, value, dropping}
use Rattle.c_typing.specs.Scopes.{Walk, give, offer, unasked, ◌>>=◌, asked, both_asked, in_row}
use Rattle.c_typing.specs.Expressions as rows
use Rattle.c_typing.specs.Expressions.{truth_row}
use Rattle.c_typing.specs.Declarators.{Enumerated, Members, is_register, struct_row, struct_begun, members_row, tag_place, all_members, enum_row, enum_ended, enumerators_row}
use Rattle.c_typing.specs.Parts.{Prefixing, Operating, Branching}
use Rattle.c_typing.specs.OfTrees.{prefix_row, prefixes_row, truths_row, logical_row, chain_row, assigns_row, commas_row, pointing, parameter_named}
use Rattle.c_type_declarators.specs.Enumerations.{enum_begun}
use Rattle.c_type_declarators.specs.Parameters.{parameter_given}
use Rattle.c_type_trees.specs.declared.sequences.Choice.{Choice}
use Rattle.c_type_trees.specs.declared.sequences.LeftSide.{LeftSide}
use Rattle.c_type_trees.specs.Lists.{all_in_row}
use Rattle.c_type_trees.specs.Sequences.{logical_tree, logical_of, with_truth, first_truth, chosen_by, whole_chain, choices_row, conditional_row, assigned_by, whole_assigned, left_sides_row, assignment_row, with_dropped, comma_if_both, parts_if_both}
use Rattle.c_type_trees.proofs.After.{Same, same_refl, same_then, same_sym, bind_assoc, bind_right, bind_left, bind_offer, offer_bind}

-- ---- prefixes

-- the last prefix comes first
pub prefixes_back : (qs : List (Option Prefixing)) (q : Option Prefixing) (o : Option Operand)
    → Same (prefixes_row (qs ++ q ∷ []) o) (both_asked q o prefix_row >>= prefixes_row qs)
prefixes_back [] q o =
    same_then _ _ _ (offer_bind o (λ v. both_asked q v prefix_row)) (same_sym _ _ (bind_offer (both_asked q o prefix_row)))
prefixes_back (x ∷ qs) q o =
    same_then _ _ _ (bind_left (prefixes_row (qs ++ q ∷ []) o) (both_asked q o prefix_row >>= prefixes_row qs) (λ v. both_asked x v prefix_row) (prefixes_back qs q o))
    (bind_assoc (both_asked q o prefix_row) (prefixes_row qs) (λ v. both_asked x v prefix_row))

-- ---- `||` and `&&`

truth_equal : (done : Option (List TExpr)) (t : Option Operand)
    → elim done as (λ d. Option (List TExpr)) [ None ↦ None | Some all ↦ option_map (λ t. all ++ tree_of t ∷ []) t ] ≡ with_truth done t
truth_equal None None = refl
truth_equal None (Some t) = refl
truth_equal (Some all) None = refl
truth_equal (Some all) (Some t) = refl

pub truths_step : (n : Operating) (ns : List Operating) (done : Option (List TExpr))
    → Same (truths_row (n ∷ ns) done)
    (n.operand.typed >>= λ r. asked r (truth_row n.operator.place) >>= λ t. truths_row ns (with_truth done t))
truths_step n ns done =
    bind_right n.operand.typed _ _ (λ r. bind_right (asked r (truth_row n.operator.place)) _ _ (λ t. record { at = λ c s. ap (λ d. truths_row ns d c s) (truth_equal done t) }))

truth_first : (t : Option Operand) → option_map (λ t. tree_of t ∷ []) t ≡ with_truth (Some []) t
truth_first None = refl
truth_first (Some t) = refl

logical_last : (is_or : Bool) (all : Option (List TExpr))
    → Same (asked all (λ all. give (value int (logical_tree is_or all)))) (offer (option_map (logical_of is_or) all))
logical_last is_or None = record { at = λ c s. refl }
logical_last is_or (Some all) = record { at = λ c s. refl }

abbrev pub logical_rest : (is_or : Bool) → List Operating → Option (List TExpr) → Walk Operand
logical_rest is_or ns done = truths_row ns done >>= λ all. offer (option_map (logical_of is_or) all)

pub logical_step : (is_or : Bool) (first : Option Operand) (n : Operating) (ns : List Operating)
    → Same (logical_row (logical_tree is_or) first (n ∷ ns)) (first_truth n.operator.place first >>= logical_rest is_or (n ∷ ns))
logical_step is_or first n ns =
    same_then _ _ _
    (bind_right (asked first (truth_row n.operator.place)) _ (λ t. offer (with_truth (Some []) t) >>= logical_rest is_or (n ∷ ns)) (λ t.
    same_then _ _ _ (bind_right (truths_row (n ∷ ns) (option_map (λ t. tree_of t ∷ []) t)) _ _ (logical_last is_or))
    (record { at = λ c s. ap (λ d. logical_rest is_or (n ∷ ns) d c s) (truth_first t) })))
    (same_sym _ _ (bind_assoc (asked first (truth_row n.operator.place)) (λ t. offer (with_truth (Some []) t)) (logical_rest is_or (n ∷ ns))))

-- ---- `? :`

abbrev pub chosen : List Choice → Option rows.Chain → Walk Operand
chosen cs r = chosen_by cs r >>= whole_chain

-- the last choice is made first
pub chosen_back : (cs : List Choice) (c : Choice) (r : Option rows.Chain)
    → Same (chosen_by (cs ++ c ∷ []) r) (rows.conditional_row c.question c.condition c.gives r >>= chosen_by cs)
chosen_back [] c r =
    same_then _ _ _ (offer_bind r (rows.conditional_row c.question c.condition c.gives)) (same_sym _ _ (bind_offer (rows.conditional_row c.question c.condition c.gives r)))
chosen_back (x ∷ cs) c r =
    same_then _ _ _ (bind_left (chosen_by (cs ++ c ∷ []) r) (rows.conditional_row c.question c.condition c.gives r >>= chosen_by cs) (rows.conditional_row x.question x.condition x.gives) (chosen_back cs c r))
    (bind_assoc (rows.conditional_row c.question c.condition c.gives r) (chosen_by cs) (rows.conditional_row x.question x.condition x.gives))

pub chosen_next : (cs : List Choice) (c : Choice) (r : Option rows.Chain)
    → Same (chosen (cs ++ c ∷ []) r) (rows.conditional_row c.question c.condition c.gives r >>= chosen cs)
chosen_next cs c r =
    same_then _ _ _ (bind_left (chosen_by (cs ++ c ∷ []) r) (rows.conditional_row c.question c.condition c.gives r >>= chosen_by cs) whole_chain (chosen_back cs c r))
    (bind_assoc (rows.conditional_row c.question c.condition c.gives r) (chosen_by cs) whole_chain)

abbrev pub choice_of : Branching → (condition gives : Option Operand) → Choice
choice_of b o g = record { question = b.question; condition = o; gives = g }

pub chain_step : (b : Branching) (bs : List Branching) (o : Option Operand) (cs : List Choice)
    → Same (chain_row (b ∷ bs) o >>= chosen cs)
    (b.gives.typed >>= λ g. b.operand.typed >>= λ next. chain_row bs next >>= chosen (cs ++ choice_of b o g ∷ []))
chain_step b bs o cs =
    same_then _ _ _ (bind_assoc b.gives.typed (λ g. b.operand.typed >>= λ next. chain_row bs next >>= λ rest. rows.conditional_row b.question o g rest) (chosen cs))
    (bind_right b.gives.typed _ _ (λ g. same_then _ _ _ (bind_assoc b.operand.typed (λ next. chain_row bs next >>= λ rest. rows.conditional_row b.question o g rest) (chosen cs))
    (bind_right b.operand.typed _ _ (λ next. same_then _ _ _ (bind_assoc (chain_row bs next) (λ rest. rows.conditional_row b.question o g rest) (chosen cs))
    (bind_right (chain_row bs next) _ _ (λ rest. same_sym _ _ (chosen_next cs (choice_of b o g) rest)))))))

pub chain_last : (o : Option Operand) (cs : List Choice) → Same (chain_row [] o >>= chosen cs) (choices_row cs o)
chain_last o cs = record { at = λ c s. refl }

pub chosen_end : (r : Option rows.Chain) → Same (chosen [] r) (offer (option_map (λ c. c.whole) r))
chosen_end None = record { at = λ c s. refl }
chosen_end (Some r) = record { at = λ c s. refl }

pub chain_first : (bs : List Branching) (o : Option Operand) → Same (conditional_row bs o) (chain_row bs o >>= chosen [])
chain_first bs o = bind_right (chain_row bs o) whole_chain (chosen []) (λ r. record { at = λ c s. refl })

-- ---- assignments

abbrev pub assigned : List LeftSide → Option rows.Assigned → Walk Operand
assigned ls r = assigned_by ls r >>= whole_assigned

-- the last left side is assigned to first
pub assigned_back : (ls : List LeftSide) (l : LeftSide) (r : Option rows.Assigned)
    → Same (assigned_by (ls ++ l ∷ []) r) (rows.assign_row l.operator l.operand r >>= assigned_by ls)
assigned_back [] l r =
    same_then _ _ _ (offer_bind r (rows.assign_row l.operator l.operand)) (same_sym _ _ (bind_offer (rows.assign_row l.operator l.operand r)))
assigned_back (x ∷ ls) l r =
    same_then _ _ _ (bind_left (assigned_by (ls ++ l ∷ []) r) (rows.assign_row l.operator l.operand r >>= assigned_by ls) (rows.assign_row x.operator x.operand) (assigned_back ls l r))
    (bind_assoc (rows.assign_row l.operator l.operand r) (assigned_by ls) (rows.assign_row x.operator x.operand))

pub assigned_next : (ls : List LeftSide) (l : LeftSide) (r : Option rows.Assigned)
    → Same (assigned (ls ++ l ∷ []) r) (rows.assign_row l.operator l.operand r >>= assigned ls)
assigned_next ls l r =
    same_then _ _ _ (bind_left (assigned_by (ls ++ l ∷ []) r) (rows.assign_row l.operator l.operand r >>= assigned_by ls) whole_assigned (assigned_back ls l r))
    (bind_assoc (rows.assign_row l.operator l.operand r) (assigned_by ls) whole_assigned)

abbrev pub left_side_of : Operating → Option Operand → LeftSide
left_side_of n o = record { operand = o; operator = n.operator }

pub assigns_step : (n : Operating) (ns : List Operating) (o : Option Operand) (ls : List LeftSide)
    → Same (assigns_row (n ∷ ns) o >>= assigned ls) (n.operand.typed >>= λ r. assigns_row ns r >>= assigned (ls ++ left_side_of n o ∷ []))
assigns_step n ns o ls =
    same_then _ _ _ (bind_assoc n.operand.typed (λ r. assigns_row ns r >>= λ right. rows.assign_row n.operator o right) (assigned ls))
    (bind_right n.operand.typed _ _ (λ r. same_then _ _ _ (bind_assoc (assigns_row ns r) (λ right. rows.assign_row n.operator o right) (assigned ls))
    (bind_right (assigns_row ns r) _ _ (λ right. same_sym _ _ (assigned_next ls (left_side_of n o) right)))))

pub assigns_last : (o : Option Operand) (ls : List LeftSide) → Same (assigns_row [] o >>= assigned ls) (left_sides_row ls o)
assigns_last o ls = record { at = λ c s. refl }

pub assigned_whole : (r : Option rows.Assigned) → Same (assigned [] r) (offer (option_map (λ a. a.whole) r))
assigned_whole None = record { at = λ c s. refl }
assigned_whole (Some r) = record { at = λ c s. refl }

pub assigns_first : (ns : List Operating) (o : Option Operand) → Same (assignment_row ns o) (assigns_row ns o >>= assigned [])
assigns_first ns o = bind_right (assigns_row ns o) whole_assigned (assigned []) (λ r. record { at = λ c s. refl })

-- ---- `,`

-- what is found stays, and nothing is given
abbrev pub silenced : Walk Operand → Walk Operand
silenced w = w >>= λ v. unasked

-- the operands that are left, behind those that are dropped; nothing is given behind a fault
abbrev pub comma_left : Option (List TExpr) → List Operating → Option Operand → Walk Operand
comma_left (Some ds) ns o = commas_row ns ds o
comma_left None ns o = silenced (commas_row ns [] o)

silenced_twice : (w : Walk Operand) → Same (silenced (silenced w)) (silenced w)
silenced_twice w = record { at = λ c s. rw append-nil refl }

silenced_later : (w : Walk Operand) (f : Option Operand → Walk Operand) → Same (silenced (w >>= f)) (w >>= λ r. silenced (f r))
silenced_later w f = bind_assoc w f (λ v. unasked)

comma_dropped : (ns : List Operating) (ds es : List TExpr) (o : Option Operand)
    → Same (silenced (commas_row ns ds o)) (silenced (commas_row ns es o))
comma_dropped [] ds es o = record { at = λ c s. refl }
comma_dropped (n ∷ ns) ds es (Some o) =
    same_then _ _ _ (silenced_later n.operand.typed (commas_row ns (ds ++ tree_of (dropping o) ∷ [])))
    (same_then _ _ _ (bind_right n.operand.typed (λ r. silenced (commas_row ns (ds ++ tree_of (dropping o) ∷ []) r)) (λ r. silenced (commas_row ns (es ++ tree_of (dropping o) ∷ []) r)) (λ r. comma_dropped ns (ds ++ tree_of (dropping o) ∷ []) (es ++ tree_of (dropping o) ∷ []) r))
    (same_sym _ _ (silenced_later n.operand.typed (commas_row ns (es ++ tree_of (dropping o) ∷ [])))))
comma_dropped (n ∷ ns) ds es None =
    bind_left (n.operand.typed >>= λ r. silenced (commas_row ns ds r)) (n.operand.typed >>= λ r. silenced (commas_row ns es r)) (λ v. unasked)
    (bind_right n.operand.typed (λ r. silenced (commas_row ns ds r)) (λ r. silenced (commas_row ns es r)) (λ r. comma_dropped ns ds es r))

pub comma_step : (n : Operating) (ns : List Operating) (d : Option (List TExpr)) (o : Option Operand)
    → Same (comma_left d (n ∷ ns) o) (n.operand.typed >>= comma_left (with_dropped d o) ns)
comma_step n ns (Some ds) (Some o) = same_refl _
comma_step n ns (Some ds) None =
    bind_right n.operand.typed (λ r. silenced (commas_row ns ds r)) (λ r. silenced (commas_row ns [] r)) (λ r. comma_dropped ns ds [] r)
comma_step n ns None (Some o) =
    same_then _ _ _ (silenced_later n.operand.typed (commas_row ns (tree_of (dropping o) ∷ [])))
    (bind_right n.operand.typed (λ r. silenced (commas_row ns (tree_of (dropping o) ∷ []) r)) (λ r. silenced (commas_row ns [] r)) (λ r. comma_dropped ns (tree_of (dropping o) ∷ []) [] r))
comma_step n ns None None =
    same_then _ _ _ (silenced_later n.operand.typed (λ r. silenced (commas_row ns [] r)))
    (bind_right n.operand.typed (λ r. silenced (silenced (commas_row ns [] r))) (λ r. silenced (commas_row ns [] r)) (λ r. silenced_twice (commas_row ns [] r)))

pub comma_last : (d : Option (List TExpr)) (o : Option Operand) → Same (comma_left d [] o) (offer (comma_if_both d o))
comma_last (Some ds) (Some o) = record { at = λ c s. refl }
comma_last (Some ds) None = record { at = λ c s. refl }
comma_last None (Some o) = record { at = λ c s. refl }
comma_last None None = record { at = λ c s. refl }

-- ---- structures and enumerations

struct_last : (at : Pos) (n : Option ℕ) (ms : Option (List Members))
    → Same (both_asked n ms (λ n ms. members_row at n (all_members ms))) (both_asked n (option_map all_members ms) (members_row at))
struct_last at None None = same_refl _
struct_last at None (Some ms) = same_refl _
struct_last at (Some n) None = same_refl _
struct_last at (Some n) (Some ms) = same_refl _

pub struct_step : (at : Pos) (tag : Option Identifier) (ws : List (Walk Members))
    → Same (struct_row at tag ws) (struct_begun tag >>= λ n. all_in_row ws >>= λ ms. both_asked n ms (members_row (tag_place tag at)))
struct_step at tag ws =
    bind_right (struct_begun tag) _ _ (λ n. same_then _ _ _ (bind_right (in_row ws) _ (λ ms. both_asked n (option_map all_members ms) (members_row (tag_place tag at))) (struct_last (tag_place tag at) n))
    (same_sym _ _ (bind_assoc (in_row ws) (λ ms. offer (option_map all_members ms)) (λ ms. both_asked n ms (members_row (tag_place tag at))))))

-- the enumerators that are left, and the type behind them
abbrev pub enumeration_left : Option Identifier → ℕ → Option ℕ → List Enumerated → Walk CType
enumeration_left tag number next es = enumerators_row next es >>= λ u. enum_ended tag number

pub enum_step : (tag : Option Identifier) (es : List Enumerated)
    → Same (enum_row tag es) (enum_begun tag >>= λ n. asked n (λ n. enumeration_left tag n (Some 0) es))
enum_step None es = record { at = λ c s. refl }
enum_step (Some tag) es = record { at = λ c s. simp append-nil }

-- ---- declarators

pub parts_last : (ps : List Pointer) (inner outer : Option (List Part))
    → Same (both_asked inner outer (λ inner ss. give (pointing ps ++ (reverse ss ++ inner)))) (offer (parts_if_both ps inner outer))
parts_last ps None None = record { at = λ c s. refl }
parts_last ps None (Some ss) = record { at = λ c s. refl }
parts_last ps (Some inner) None = record { at = λ c s. refl }
parts_last ps (Some inner) (Some ss) = record { at = λ c s. refl }

pub parameter_last : (name : Option Identifier) (first : Pos) (n : ℕ) (b : Option Basis) (t : Option CType)
    → Same (both_asked b t (λ b t. parameter_named name n (is_register b.storage) t >>= λ t. asked t (λ t.
    give (record { name = name; first = first; ctype = t; in_register = is_register b.storage }))))
    (both_asked (option_map (λ b. is_register b.storage) b) t (parameter_given name first n))
parameter_last name first n None None = same_refl _
parameter_last name first n None (Some t) = same_refl _
parameter_last name first n (Some b) None = same_refl _
parameter_last name first n (Some b) (Some t) = same_refl _
