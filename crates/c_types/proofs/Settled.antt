-- What a unit comes to once all of it has been walked.
-- The answer of `check` cites these lemmas.
use Rattle.std.proofs.Common.{◌≡◌, ◌∙◌, refl, ap, sym, subst, ℕ, Bool, false, true, not, List, [], ◌++◌, Option, Some, None, is_none, is_some, unwrap_or, map}
use Rattle.std.specs.Option.{option_map}
use Rattle.c_tree.specs.declared.refusal.FaultKind.TheVariants as kind
use Rattle.c_tree.specs.declared.typed.types.CType.{CType}
use Rattle.c_tree.specs.declared.typed.unit.TFunction.{TFunction}
use Rattle.c_tree.specs.declared.typed.unit.Typed.{Typed}
use Rattle.c_tree.specs.declared.unit.Unit as tree
use Rattle.c_tree.specs.declared.unit.External.{External}
use Rattle.c_tree.specs.Levelled.{IsUnit}
use Rattle.c_typing.specs.declared.fault.Fault.{Fault}
use Rattle.c_typing.specs.Faults.{first_of}
use Rattle.c_typing.specs.declared.scope.State.{State}
use Rattle.c_typing.specs.Types.{void}
use Rattle.c_typing.specs.Scopes.{Name, Said, fault_if, number_in}
use Rattle.c_typing.specs.Scopes as scopes
use Rattle.c_typing.specs.Declarations.{main}
use Rattle.c_typing.specs.Units as spec
use Rattle.c_typing_laws.specs.Laws.{unfaulted_units_are_typed}
use Rattle.c_type_walk.specs.Walks.{Gave}
use Rattle.c_type_walk.specs.declared.found.Found.{Found}
use Rattle.c_types.specs.Definitions.{typed_of_parts}

-- what is fixed at file level
pub around_is : (u : tree.Unit) (fs os : List Name) (v : CType) → fs ≡ spec.defined_functions (map spec.outer_of u.items) →
    os ≡ spec.file_objects spec.no_function [] (map spec.outer_of u.items) → v ≡ void → spec.around_file fs os v ≡ spec.around_unit (spec.source_of u)
around_is u fs os v e f g =
    let items = map spec.outer_of u.items in
    ap (λ (x : List Name). spec.around_file x os v) e
    ∙ ap (λ (x : List Name). spec.around_file (spec.defined_functions items) x v) f
    ∙ ap (λ (x : CType). spec.around_file (spec.defined_functions items) (spec.file_objects spec.no_function [] items) x) g

-- a unit that was walked from the beginning
pub record Walked (u : tree.Unit) (end : Found) (made : Option (List TFunction)) : Type 0 where
  pub given : made ≡ (spec.unit_said (spec.source_of u)).given
  pub faults : end.faults ≡ (spec.unit_said (spec.source_of u)).faults
  pub state : end.state ≡ (spec.unit_said (spec.source_of u)).state

pub walked : (u : tree.Unit) (c : scopes.Around) (start end : Found) (made : Option (List TFunction)) →
    c ≡ spec.around_unit (spec.source_of u) → start.faults ≡ [] → start.state ≡ spec.nothing_found →
    Gave (spec.outers_row (map spec.outer_of u.items) c start.state) start end made → Walked u end made
walked u c start end made e f h g =
    let row = spec.outers_row (map spec.outer_of u.items) in
    let around = spec.around_unit (spec.source_of u) in
    let same : row c start.state ≡ spec.unit_said (spec.source_of u) =
    ap (λ (x : scopes.Around). row x start.state) e ∙ ap (λ (s : State). row around s) h in
    record {
      given = g.is ∙ ap (λ (x : Said (List TFunction)). x.given) same;
      faults = g.faults ∙ ap (λ (fs : List Fault). fs ++ (row c start.state).faults) f ∙ ap (λ (x : Said (List TFunction)). x.faults) same;
      state = g.state ∙ ap (λ (x : Said (List TFunction)). x.state) same;
    }

absent_is : (m : Option ℕ) (b : Bool) → is_some m ≡ not b → b ≡ is_none m
absent_is None true e = refl
absent_is None false e = absurd (cc e)
absent_is (Some n) true e = absurd (cc e)
absent_is (Some n) false e = refl

-- the faults of the unit, with that of a missing `main`
pub all_told : (u : tree.Unit) (end told : Found) (made : Option (List TFunction)) (fs : List Name) (m : Option ℕ) (absent : Bool) → Walked u end made →
    fs ≡ spec.defined_functions (map spec.outer_of u.items) → m ≡ number_in 0 fs main → is_some m ≡ not absent →
    told.faults ≡ end.faults ++ fault_if absent kind.NoMain u.end → told.state ≡ end.state →
    spec.or_unready told.faults told.state.unready ≡ spec.faults_in (spec.source_of u)
all_told u end told made fs m absent w ef em ea e f =
    let said = spec.unit_said (spec.source_of u) in
    let missing : Bool → List Fault = λ b. fault_if b kind.NoMain u.end in
    let faults : told.faults ≡ spec.all_faults (spec.source_of u) =
    e ∙ ap (λ (all : List Fault). all ++ missing absent) w.faults ∙ ap (λ (b : Bool). said.faults ++ missing b) (absent_is m absent ea)
    ∙ ap (λ (n : Option ℕ). said.faults ++ missing (is_none n)) em
    ∙ ap (λ (x : List Name). said.faults ++ missing (is_none (number_in 0 x main))) ef in
    ap (λ (all : List Fault). spec.or_unready all told.state.unready) faults
    ∙ ap (λ (s : State). spec.or_unready (spec.all_faults (spec.source_of u)) s.unready) (f ∙ w.state)

-- a unit of which no fault is told has been given its functions
pub is_given : (u : tree.Unit) (end : Found) (made : Option (List TFunction)) → IsUnit u → Walked u end made → spec.first_fault u ≡ None → made ≡ None → ⊥
is_given u end made good w clean e =
    let said = spec.unit_said (spec.source_of u) in
    let none : said.given ≡ None = sym w.given ∙ e in
    let typed : spec.typed_of u ≡ None = ap (option_map (spec.typed_unit (spec.around_unit (spec.source_of u)) said.state)) none in
    let some : is_some (spec.typed_of u) ≡ true = unfaulted_units_are_typed u good clean in
    let wrong : false ≡ true = sym (ap (λ (o : Option Typed). is_some o) typed) ∙ some in
    absurd (cc wrong)

-- a unit at whose end all faults are told
pub record Settled (u : tree.Unit) (fs os : List Name) (end told : Found) (made : Option (List TFunction)) : Type 0 where
  pub functions : fs ≡ spec.defined_functions (map spec.outer_of u.items)
  pub objects : os ≡ spec.file_objects spec.no_function [] (map spec.outer_of u.items)
  pub walk : Walked u end made
  pub first : spec.first_fault u ≡ first_of None (spec.or_unready told.faults told.state.unready)

pub settled : (u : tree.Unit) (items : List External) (fs os : List Name) (v : CType) (c : scopes.Around) (start end told : Found) (made : Option (List TFunction)) (m : Option ℕ) (absent : Bool) →
    items ≡ u.items → fs ≡ spec.defined_functions (map spec.outer_of items) → os ≡ spec.file_objects spec.no_function [] (map spec.outer_of items) → v ≡ void →
    c ≡ spec.around_file fs os v → start.faults ≡ [] → start.state ≡ spec.nothing_found → Gave (spec.outers_row (map spec.outer_of items) c start.state) start end made →
    m ≡ number_in 0 fs main → is_some m ≡ not absent → told.faults ≡ end.faults ++ fault_if absent kind.NoMain u.end → told.state ≡ end.state →
    Settled u fs os end told made
settled u items fs os v c start end told made m absent e ef eo ev ec sf ss g em ea tf ts =
    let functions : fs ≡ spec.defined_functions (map spec.outer_of u.items) = ef ∙ ap (λ (l : List External). spec.defined_functions (map spec.outer_of l)) e in
    let objects : os ≡ spec.file_objects spec.no_function [] (map spec.outer_of u.items) =
    eo ∙ ap (λ (l : List External). spec.file_objects spec.no_function [] (map spec.outer_of l)) e in
    let given : Gave (spec.outers_row (map spec.outer_of u.items) c start.state) start end made =
    subst (λ (l : List External). Gave (spec.outers_row (map spec.outer_of l) c start.state) start end made) e g in
    let walk : Walked u end made = walked u c start end made (ec ∙ around_is u fs os v functions objects ev) sf ss given in
    record {
      functions = functions;
      objects = objects;
      walk = walk;
      first = sym (ap (first_of None) (all_told u end told made fs m absent walk functions em ea tf ts));
    }

-- the typed tree of a unit, of what was found at its end
pub typed_as : (u : tree.Unit) (fs os : List Name) (end told : Found) (made : List TFunction) (m : Option ℕ) (number : ℕ) (typed : Typed) → Walked u end (Some made) →
    fs ≡ spec.defined_functions (map spec.outer_of u.items) → os ≡ spec.file_objects spec.no_function [] (map spec.outer_of u.items) → told.state ≡ end.state →
    m ≡ number_in 0 fs main → number ≡ unwrap_or m 0 → typed ≡ typed_of_parts told.state os made number → spec.typed_of u ≡ Some typed
typed_as u fs os end told made m number typed w ef eo ts em en e =
    let said = spec.unit_said (spec.source_of u) in
    let around = spec.around_unit (spec.source_of u) in
    let of_main : Option ℕ → Option Typed = λ n. Some (typed_of_parts told.state os made (unwrap_or n 0)) in
    ap (option_map (spec.typed_unit around said.state)) (sym w.given)
    ∙ ap (λ (s : State). Some (spec.typed_unit around s made)) (sym (ts ∙ w.state))
    ∙ ap (λ (x : List Name). Some (typed_of_parts told.state x made (unwrap_or (number_in 0 around.functions main) 0))) (sym eo)
    ∙ ap (λ (x : List Name). of_main (number_in 0 x main)) (sym ef)
    ∙ ap of_main (sym em)
    ∙ ap (λ (n : ℕ). Some (typed_of_parts told.state os made n)) (sym en)
    ∙ ap (λ (t : Typed). Some t) (sym e)
