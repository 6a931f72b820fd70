-- Names are found: where an environment has what names stand for, each name of an expression that hangs together leads to an
-- object. So such an expression is undefined by its operators alone.
-- No contract cites this file: it holds proofs.
use Rattle.std.proofs.Common.{◌≡◌, sym, ap, ◌∙◌, ℕ, ◌+◌, ◌<◌, List, length, arith, length-append}
use Rattle.std.proofs.lemmas.Bool.Decides.{nat_tests}
use Rattle.std.proofs.lemmas.List.{length-map}
use Rattle.std.proofs.lemmas.Option.{slice_get_within}
use Rattle.std.specs.Prelude.{map, nat_lt, true, Some, slice_get}
use Rattle.std.specs.Option.{option_map}
use Rattle.word_ops.specs.Choice.{only_if}
use Rattle.word_ops.specs.Store.{Pointer, in_a_row}
use Rattle.word_ops.specs.Laws.Lists.{slice_get-there, length-in_a_row}
use Rattle.c_tree.specs.declared.typed.unit.Object.{Object}
use Rattle.c_tree.specs.TypedKinds.{Kept, Names}
use Rattle.c_tree.specs.TypedUnits.{kept_as, with_declared}
use Rattle.c_meaning.specs.Environment.{Environment, automatic_place, static_place, with_objects}

-- the environment has as many objects as the names speak of
pub record HasNames (c : Names) (env : Environment) : Type 0 where
  pub statics : env.statics ≡ c.statics
  pub objects : length env.objects ≡ length c.objects

-- an automatic object is found
pub automatic-found : (c : Names) (env : Environment) (i : ℕ) (h : Kept) → HasNames c env → slice_get c.objects i ≡ Some h →
    (r : ℕ) × (automatic_place env i ≡ Some (Pointer r 0))
automatic-found c env i h n e =
    let lt : i < length env.objects = omega (arith, n.objects, slice_get_within c.objects i h e) in
    let f = slice_get-there env.objects i lt in
    (f.0, ap (λ o. option_map (λ r. Pointer r 0) o) f.1)

-- a static object is found
pub static-found : (c : Names) (env : Environment) (i : ℕ) → HasNames c env → i < c.statics →
    static_place env i ≡ Some (Pointer i 0)
static-found c env i n lt =
    let below : nat_lt i env.statics ≡ true = grind (arith, nat_tests, lt, n.statics) in
    ap (λ b. only_if b (Pointer i 0)) below

-- a block has the names that it declares
pub block-names : (c : Names) (env : Environment) (os : List Object) (first : ℕ) → HasNames c env →
    HasNames (with_declared c os) (with_objects env first (length os))
block-names c env os first n = record {
  statics = n.statics;
  objects = length-append env.objects (in_a_row first (length os)) ∙ ap (λ k. k + length (in_a_row first (length os))) n.objects ∙ ap (λ k. length c.objects + k) (length-in_a_row first (length os) ∙ sym (length-map os kept_as)) ∙ sym (length-append c.objects (map kept_as os));
}
