-- The file-level objects of a unit, item by item.
-- The answer of `file_objects` cites these lemmas.
use Rattle.std.proofs.Common.{◌≡◌, ◌∙◌, ap, sym, ℕ, ◌+◌, ◌<◌, List, [], ◌∷◌, None, length, get_or, drop, map}
use Rattle.c_tree.specs.declared.declaration.Declaration.{Declaration}
use Rattle.c_tree.specs.declared.unit.Definition.{Definition}
use Rattle.c_tree.specs.declared.unit.External.{External}
use Rattle.c_tree.specs.declared.unit.External.TheVariants as external
use Rattle.c_typing.specs.Scopes.{Name}
use Rattle.c_typing.specs.Declarations.{FunctionNames, declared_of, defined_objects}
use Rattle.c_typing.specs.Units as spec
use Rattle.c_type_declarations.specs.Counting.{names_in}
use Rattle.c_type_declarations.proofs.InTurn.{first_left}

-- where nothing is visible
pub begun : (list : List External) (names : FunctionNames) (all : List Name) → names ≡ names_in None → all ≡ [] →
    spec.file_objects names all (map spec.outer_of list) ≡ spec.file_objects spec.no_function [] (map spec.outer_of list)
begun list names all e g =
    ap (λ (x : FunctionNames). spec.file_objects x all (map spec.outer_of list)) e
    ∙ ap (λ (x : List Name). spec.file_objects spec.no_function x (map spec.outer_of list)) g

-- behind a declaration
pub declared : (list : List External) (i : ℕ) (x : External) (d : Declaration) (names next : FunctionNames) (all more total : List Name) →
    i < length list → x ≡ get_or list i x → x ≡ external.Declaration d →
    next ≡ (defined_objects names (declared_of d)).1 → more ≡ spec.with_new all (defined_objects names (declared_of d)).0 →
    spec.file_objects names all (map spec.outer_of (drop i list)) ≡ total →
    spec.file_objects next more (map spec.outer_of (drop (i + 1) list)) ≡ total
declared list i x d names next all more total below is variant e f h =
    let rest = map spec.outer_of (drop (i + 1) list) in
    let r = defined_objects names (declared_of d) in
    ap (λ (n : FunctionNames). spec.file_objects n more rest) e
    ∙ ap (λ (m : List Name). spec.file_objects r.1 m rest) f
    ∙ sym (ap (λ (y : External). spec.file_objects names all (spec.outer_of y ∷ rest)) variant)
    ∙ sym (ap (λ (l : List External). spec.file_objects names all (map spec.outer_of l)) (first_left list i x below is))
    ∙ h

-- behind a definition
pub defined : (list : List External) (i : ℕ) (x : External) (d : Definition) (names next : FunctionNames) (all more total : List Name) →
    i < length list → x ≡ get_or list i x → x ≡ external.Definition d → next ≡ names → more ≡ all →
    spec.file_objects names all (map spec.outer_of (drop i list)) ≡ total →
    spec.file_objects next more (map spec.outer_of (drop (i + 1) list)) ≡ total
defined list i x d names next all more total below is variant e f h =
    let rest = map spec.outer_of (drop (i + 1) list) in
    ap (λ (n : FunctionNames). spec.file_objects n more rest) e
    ∙ ap (λ (m : List Name). spec.file_objects names m rest) f
    ∙ sym (ap (λ (y : External). spec.file_objects names all (spec.outer_of y ∷ rest)) variant)
    ∙ sym (ap (λ (l : List External). spec.file_objects names all (map spec.outer_of l)) (first_left list i x below is))
    ∙ h
