-- What is true of every unit that typing gives.
use Rattle.std.proofs.Common.{◌≡◌, refl, subst, ℕ, zero, suc, ◌<◌, ◌≤◌, Bool, true, false, List, [], ◌∷◌, ◌++◌, Option, Some, None, length, slice_get, arith}
use Rattle.std.proofs.lemmas.Option.{none-some, same_Some}
use Rattle.std.specs.Prelude.{is_none, unwrap_or}
use Rattle.std.specs.List.{AllByRecursion}
use Rattle.std.specs.Option.{option_map}
use Rattle.c_tree.specs.declared.token.Pos.{Pos}
use Rattle.c_tree.specs.declared.refusal.FaultKind.{FaultKind}
use Rattle.c_tree.specs.declared.refusal.FaultKind.TheVariants as kind
use Rattle.c_tree.specs.declared.unit.Unit as tree
use Rattle.c_tree.specs.declared.typed.unit.TFunction.{TFunction}
use Rattle.c_tree.specs.declared.typed.unit.Typed.{Typed}
use Rattle.c_tree.specs.declared.typed.types.CType.{CType}
use Rattle.c_tree.specs.TypedKinds.{IsSize}
use Rattle.c_tree.specs.TypedUnits.{IsObject}
use Rattle.c_layout.specs.Tags.{Structs, are_aligned}
use Rattle.c_layout.specs.Sizes.{size_of}
use Rattle.typed_form.specs.Statements.{Throughout}
use Rattle.typed_form.specs.Units.{in_body}
use Rattle.c_typing.specs.declared.fault.Fault.{Fault}
use Rattle.c_typing.specs.Faults.{fault}
use Rattle.c_typing.specs.Scopes.{fault_if, number_in}
use Rattle.c_typing.specs.Types.{in_word}
use Rattle.c_typing.specs.Declarations.{object_of, main}
use Rattle.c_typing.specs.Units.{source_of, defined_functions, unit_said, around_unit, nothing_found, all_faults, typed_unit, typed_of}
use Rattle.c_unit_laws.specs.Walks.{IfAny}
use Rattle.c_unit_laws.specs.Placed.{IsPlaced}
use Rattle.c_unit_laws.specs.Objects as objects
use Rattle.c_unit_laws.specs.Units.{IsWhole, functions_whole, functions_counted, below}

-- in each function every jump has what it leaves, and the labels of each switch differ
abbrev pub JumpsAndLabelsFit : Type 0
JumpsAndLabelsFit = (u : tree.Unit) (made : Typed) → typed_of u ≡ Some made
    → (i : ℕ) (f : TFunction) → slice_get made.functions i ≡ Some f → Throughout IsPlaced (in_body f) f.body

-- each function has tokens
abbrev pub FunctionsHaveTokens : Type 0
FunctionsHaveTokens = (u : tree.Unit) (made : Typed) → typed_of u ≡ Some made
    → (i : ℕ) (f : TFunction) → slice_get made.functions i ≡ Some f → 1 ≤ f.tokens

-- where no fault is told, main is one of the functions
abbrev pub MainIsThere : Type 0
MainIsThere = (u : tree.Unit) (made : Typed) → all_faults (source_of u) ≡ [] → typed_of u ≡ Some made → made.main < length made.functions

-- an object of a type of 1 to 2^24 bytes has the alignment of its type, and where it is of scalar type the bytes of its width
abbrev pub ObjectsFit : Type 0
ObjectsFit = (structs : Structs) (addressed : Bool) (t : CType) → are_aligned structs ≡ true → IsSize (in_word (unwrap_or (size_of structs t) 0)) → IsObject (object_of structs addressed t)

pub objects_fit : ObjectsFit
objects_fit = objects.objects_fit

-- ---- one of the functions

one_of : (fs : List TFunction) → AllByRecursion IsWhole fs → (i : ℕ) (f : TFunction) → slice_get fs i ≡ Some f → IsWhole f
one_of [] h i f e = absurd (none-some f e)
one_of (g ∷ fs) h zero f e = subst IsWhole (same_Some g f e) h.0
one_of (g ∷ fs) h (suc i) f e = one_of fs h.1 i f e

of_given : (u : tree.Unit) (given : Option (List TFunction)) → IfAny (AllByRecursion IsWhole) given → (made : Typed)
    → option_map (typed_unit (around_unit (source_of u)) (unit_said (source_of u)).state) given ≡ Some made → AllByRecursion IsWhole made.functions
of_given u (Some fs) h made e =
    subst (λ (m : Typed). AllByRecursion IsWhole m.functions) (same_Some (typed_unit (around_unit (source_of u)) (unit_said (source_of u)).state fs) made e) h
of_given u None h made e = absurd (none-some made e)

all_whole : (u : tree.Unit) (made : Typed) → typed_of u ≡ Some made → AllByRecursion IsWhole made.functions
all_whole u made e = of_given u (unit_said (source_of u)).given (functions_whole u.items (around_unit (source_of u)) nothing_found) made e

pub jumps_and_labels_fit : JumpsAndLabelsFit
jumps_and_labels_fit u made e i f g = (one_of made.functions (all_whole u made e) i f g).body.within (in_body f) refl refl

pub functions_have_tokens : FunctionsHaveTokens
functions_have_tokens u made e i f g = (one_of made.functions (all_whole u made e) i f g).tokens

-- ---- main

none_second : (a b : List Fault) → a ++ b ≡ [] → b ≡ []
none_second [] b h = h
none_second (f ∷ a) b h = absurd (let e : f ∷ (a ++ b) ≡ [] = h in cc)

not_told : (b : Bool) (k : FaultKind) (p : Pos) → fault_if b k p ≡ [] → b ≡ false
not_told true k p h = absurd (let e : fault k p ∷ [] ≡ [] = h in cc)
not_told false k p h = refl

there : (o : Option ℕ) (n : ℕ) → is_none o ≡ false → ((m : ℕ) → o ≡ Some m → m < n) → unwrap_or o 0 < n
there (Some m) n h p = p m refl
there None n h p = absurd (let e : true ≡ false = h in cc)

main_of : (u : tree.Unit) (given : Option (List TFunction)) → IfAny (λ (fs : List TFunction). length fs ≡ length (defined_functions (source_of u).items)) given
    → is_none (number_in 0 (around_unit (source_of u)).functions main) ≡ false → (made : Typed)
    → option_map (typed_unit (around_unit (source_of u)) (unit_said (source_of u)).state) given ≡ Some made → made.main < length made.functions
main_of u (Some fs) h g made e =
    subst (λ (m : Typed). m.main < length m.functions) (same_Some (typed_unit (around_unit (source_of u)) (unit_said (source_of u)).state fs) made e)
    (there (number_in 0 (around_unit (source_of u)).functions main) (length fs) g
    (λ m i. let b = below 0 (defined_functions (source_of u).items) main m i in omega (arith, b, h)))
main_of u None h g made e = absurd (none-some made e)

pub main_is_there : MainIsThere
main_is_there u made clean e =
    main_of u (unit_said (source_of u)).given (functions_counted (source_of u).items (around_unit (source_of u)) nothing_found)
    (not_told (is_none (number_in 0 (around_unit (source_of u)).functions main)) kind.NoMain u.end (none_second (unit_said (source_of u)).faults _ clean)) made e
