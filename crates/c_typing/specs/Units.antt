-- The faults of a unit and its typed tree (C11 6.9): one walk over the unit tells both.
use Rattle.std.specs.Prelude.{ℕ, ◌+◌, true, false, ◌||◌, not, if◌then◌else◌, List, [], ◌∷◌, ◌++◌, Option, Some, None, length, map, is_none, unwrap_or}
use Rattle.std.specs.List.{list_any}
use Rattle.std.specs.Option.{option_map}
use Rattle.std.specs.Str.{bytes_eq}
use Rattle.c_tree.specs.declared.token.Pos.{Pos}
use Rattle.c_tree.specs.declared.expression.Identifier.{Identifier}
use Rattle.c_tree.specs.declared.refusal.FaultKind.TheVariants as kind
use Rattle.c_tree.specs.declared.unit.Definition.{Definition}
use Rattle.c_tree.specs.declared.unit.External.{External}
use Rattle.c_tree.specs.declared.unit.External.TheVariants as external
use Rattle.c_tree.specs.declared.unit.Unit as tree
use Rattle.c_tree.specs.declared.typed.types.CType.{CType}
use Rattle.c_tree.specs.declared.typed.statement.TStmt.{TStmt}
use Rattle.c_tree.specs.declared.typed.statement.TStmt.TheVariants as t
use Rattle.c_tree.specs.declared.typed.statement.Objects.{Objects}
use Rattle.c_tree.specs.declared.typed.unit.Object.{Object}
use Rattle.c_tree.specs.declared.typed.unit.StaticObject.{StaticObject}
use Rattle.c_tree.specs.declared.typed.unit.TFunction.{TFunction}
use Rattle.c_tree.specs.declared.typed.unit.Typed.{Typed}
use Rattle.c_tree.specs.Spelling.Units.{definition_spelling}
use Rattle.c_typing.specs.Faults.{Fault, first_of}
use Rattle.c_typing.specs.Types.{void, Shape, FunctionOf, shape, is_struct}
use Rattle.c_typing.specs.Conversions.{scalar_of}
use Rattle.c_typing.specs.Scopes.{Name, Unknown, Around, State, Said, Walk, no_scope, give, unasked, ◌>>=◌, asked, both_asked, beside, fault_if, unless, here, change, in_definition, latest, declaring, own_meaning, number_in}
use Rattle.c_typing.specs.Declarators.{Parameter, Part, Listing, Declaring, Specified, Basis, basis_type, derive, name_place, first_token, specifiers_row}
use Rattle.c_typing.specs.Expressions.{is_library}
use Rattle.c_typing.specs.Trees.{specifier_typing, declarator_typing}
use Rattle.c_typing.specs.Declarations.{Made, allows_untyped_linked, is_defined, FunctionNames, Declared, declared_of, object_of, static_object, linked, linked_faults, main, is_typedef, name_of, declaration_row, defined_objects}
use Rattle.c_typing.specs.OfStatements.{Blocked, is_addressed, function_names, count_items, items_row, owning}
use Rattle.c_typing.specs.Statements.{block_typing}

-- ---- function definitions (6.9.1)

-- the parameters of the function that the last derivation makes
abbrev pub parameters_of : List Part → List Parameter
parameters_of [] = []
parameters_of (Listing ps ∷ []) = ps
parameters_of (d ∷ ds) = parameters_of ds

-- the type of its value
abbrev pub result_of_shape : Shape → CType
result_of_shape (FunctionOf ps u) = u
result_of_shape s = void

-- the derivations of the declarator, and the type of the function
abbrev pub header : Pos → Option Basis → Declaring → Walk (List Part × CType)
header at b d =
    d.parts true >>= λ ds. both_asked ds (option_map basis_type b) (derive at) >>= λ u. both_asked ds u (λ ds u. give (ds, u))

-- parameters of structure types have no typed tree yet
abbrev pub readied : List Parameter → State → State
readied [] s = s
readied (q ∷ qs) s =
    readied qs (record s { unready = s.unready ++ fault_if (is_struct q.ctype) kind.StructValue (name_place q.name q.first) })

-- no object of a function is declared yet but its parameters
abbrev pub begun : (parameters : ℕ) → State → State
begun n s = record s { declared = n; own = []; addressed = [] }

-- none is left behind its block
abbrev pub ended : State → State
ended s = record s { declared = 0; own = []; addressed = [] }

abbrev pub parameter_objects : State → ℕ → List Parameter → List Object
parameter_objects s n [] = []
parameter_objects s n (q ∷ qs) = object_of s.structs (is_addressed s n) q.ctype ∷ parameter_objects s (n + 1) qs

-- the items of the block, and the objects that it declares
abbrev pub owned_row : Blocked → Walk (Objects × Made)
owned_row items c s = owning (count_items (function_names s) items) (items_row items) c s

-- the block, and the parameters as objects, once all is known of them
abbrev pub body_row : List Parameter → CType → Blocked → Walk (TStmt × List Object)
body_row ps u items c s =
    (owned_row items >>= λ r. asked r (λ r. here (λ c s. give (t.Block r.0 r.1, parameter_objects s 0 ps))))
    (record c { own_from = 0; inner_from = length ps; may_break = false; may_continue = false; result = u }) s

abbrev pub function_made : (tokens : ℕ) → CType → (TStmt × List Object) → TFunction
function_made tokens u body = record { result = u; scalar = scalar_of u; parameters = body.1; body = body.0; tokens = tokens }

-- the block in the scope that its parameters begin; the function's own name stands outside of it
abbrev pub defined_as : (tokens : ℕ) → Blocked → Identifier → (List Part × CType) → Walk TFunction
defined_as tokens items id h = here (λ c s.
    let ps = parameters_of h.0 in let u = result_of_shape (shape h.1) in
    beside (linked_faults c s id true h.1)
    (change (readied ps) (linked id.text true h.1 (change (begun (length ps))
    (in_definition (body_row ps u items) >>= λ r. change ended (asked r (λ r. give (function_made tokens u r))))))))

-- where the header has a fault the body is not asked: what stands in it stands behind that fault
abbrev pub untyped_definition : {A : Type 0} → Identifier → Walk A
untyped_definition id = here (λ c s.
    beside (fault_if (not (allows_untyped_linked (own_meaning c s id.text))
    || (is_defined (latest s.linked id.text) || is_library id.text)) kind.Redeclared id.place)
    (declaring id.text Unknown unasked))

abbrev pub defined_if : (tokens : ℕ) → Blocked → Option Identifier → Option (List Part × CType) → Walk TFunction
defined_if tokens items (Some id) (Some h) = defined_as tokens items id h
defined_if tokens items (Some id) None = untyped_definition id
defined_if tokens items None h = unasked

-- what the parts of a definition are: the statements of its body, and how many tokens it has
pub record Defined : Type 0 where
  pub specifiers : List Specified
  pub declaring : Declaring
  pub body : Blocked
  pub tokens : ℕ

abbrev pub defined_of : Definition → Defined
defined_of d = record {
  specifiers = map specifier_typing d.specifiers;
  declaring = declarator_typing d.declarator;
  body = block_typing d.body;
  tokens = length (definition_spelling d);
}

-- a definition has no storage word but `extern` and `static` (6.9.1p4)
abbrev pub defining_basis : Pos → Basis → Walk Basis
defining_basis at b = unless (is_typedef b.storage) kind.BadSpecifier at (give b)

-- no parameter list has been read yet
abbrev pub unlisted : State → State
unlisted s = record s { listed = no_scope }

abbrev pub definition_row : Defined → Walk TFunction
definition_row d =
    specifiers_row false d.specifiers >>= λ b. asked b (defining_basis (first_token d.specifiers)) >>= λ b.
    change unlisted (header (name_place d.declaring.name (first_token d.specifiers)) b d.declaring) >>=
    defined_if d.tokens d.body d.declaring.name

-- ---- units

-- what the parts of a unit are
pub data Outer : Type 0 where
  Declares : Declared → Outer
  Defines : Defined → Outer

-- a unit: its declarations and definitions, and the place at its end
pub record Source : Type 0 where
  pub items : List Outer
  pub end : Pos

abbrev pub outer_of : External → Outer
outer_of (external.Declaration d) = Declares (declared_of d)
outer_of (external.Definition d) = Defines (defined_of d)

abbrev pub source_of : tree.Unit → Source
source_of u = record { items = map outer_of u.items; end = u.end }

abbrev pub outer_row : Outer → Walk (List TFunction)
outer_row (Declares d) = declaration_row d >>= λ made. asked made (λ made. give [])
outer_row (Defines d) = definition_row d >>= λ f. asked f (λ f. give (f ∷ []))

abbrev pub outers_row : List Outer → Walk (List TFunction)
outers_row [] = give []
outers_row (o ∷ os) = outer_row o >>= λ a. outers_row os >>= λ rest. both_asked a rest (λ a rest. give (a ++ rest))

-- the functions that a unit defines, by their names, in order
abbrev pub defined_functions : List Outer → List Name
defined_functions [] = []
defined_functions (Declares d ∷ os) = defined_functions os
defined_functions (Defines d ∷ os) = name_of d.declaring.name ∷ defined_functions os

-- the file-level objects that it defines, each once, by their names, in order
abbrev pub with_new : List Name → List Name → List Name
with_new all [] = all
with_new all (n ∷ ns) = with_new (if list_any (bytes_eq n) all then all else all ++ n ∷ []) ns

abbrev pub file_objects : FunctionNames → List Name → List Outer → List Name
file_objects names all [] = all
file_objects names all (Declares d ∷ os) = let r = defined_objects names d in file_objects r.1 (with_new all r.0) os
file_objects names all (Defines d ∷ os) = file_objects names all os

abbrev pub no_function : FunctionNames
no_function name = false

-- what is fixed at file level, where no function has a value
abbrev pub around_file : (functions objects : List Name) → (result : CType) → Around
around_file functions objects result = record {
  functions = functions;
  objects = objects;
  at_file_level = true;
  names_from = 0;
  tags_from = 0;
  own_from = 0;
  inner_from = 0;
  numbers_from = 0;
  may_break = false;
  may_continue = false;
  result = result;
}

abbrev pub around_unit : Source → Around
around_unit u = around_file (defined_functions u.items) (file_objects no_function [] u.items) void

-- nothing is declared yet
abbrev pub nothing_found : State
nothing_found = record {
  names = [];
  tags = [];
  outer = no_scope;
  listed = no_scope;
  structs = [];
  fixed = [];
  enums = 0;
  linked = [];
  starts = [];
  statics = [];
  declared = 0;
  own = [];
  addressed = [];
  unready = [];
}

abbrev pub unit_said : Source → Said (List TFunction)
unit_said u = outers_row u.items (around_unit u) nothing_found

-- all faults of a unit: those of its parts, and that it does not define `main` (5.1.2.2.1)
abbrev pub all_faults : Source → List Fault
all_faults u = (unit_said u).faults ++ fault_if (is_none (number_in 0 (around_unit u).functions main)) kind.NoMain u.end

-- the faults among which the first is told: what this profile has no typed tree for yet counts where nothing else is wrong
abbrev pub or_unready : List Fault → List Fault → List Fault
or_unready [] unready = unready
or_unready (f ∷ fs) unready = f ∷ fs

abbrev pub faults_in : Source → List Fault
faults_in u = or_unready (all_faults u) (unit_said u).state.unready

-- a file-level object with the type that all its declarations tell
abbrev pub file_object : State → Name → StaticObject
file_object s name =
    static_object s.structs (unwrap_or (option_map (λ l. l.ctype) (latest s.linked name)) void) (unwrap_or (latest s.starts name) [])

abbrev pub typed_unit : Around → State → List TFunction → Typed
typed_unit c s fs = record {
  objects = map (file_object s) c.objects ++ s.statics;
  functions = fs;
  main = unwrap_or (number_in 0 c.functions main) 0;
}

abbrev pub typed_in : Source → Option Typed
typed_in u = option_map (typed_unit (around_unit u) (unit_said u).state) (unit_said u).given

abbrev pub first_in : Source → Option Fault
first_in u = first_of None (faults_in u)

-- ---- of a tree

-- the faults of a unit
abbrev pub faults_of : tree.Unit → List Fault
faults_of u = faults_in (source_of u)

-- the fault that is told of a unit: the first by place, and at one place by kind
abbrev pub first_fault : tree.Unit → Option Fault
first_fault u = first_in (source_of u)

-- the typed tree of a unit
abbrev pub typed_of : tree.Unit → Option Typed
typed_of u = typed_in (source_of u)
