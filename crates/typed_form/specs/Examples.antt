-- Examples, each computed from the definitions: a unit that hangs together, what would not, and what functions come to in acts.
-- No contract but those of `src/examples.rt` cites this file: it holds proofs.
use Rattle.std.proofs.Common.{◌≡◌, refl, subst, ℕ, zero, suc, List, [], ◌∷◌, arith, inr}
use Rattle.std.proofs.lemmas.Option.{none-some, same_Some}
use Rattle.std.specs.Prelude.{true, false, Some, None, slice_get}
use Rattle.word_ops.specs.declared.operation.Width.TheVariants as width
use Rattle.c_tree.specs.declared.typed.types.Base.TheVariants as base
use Rattle.c_tree.specs.declared.typed.types.CType.{CType}
use Rattle.c_tree.specs.declared.typed.operator.Scalar.TheVariants as scalar
use Rattle.c_tree.specs.declared.typed.operator.Primary.TheVariants as primary
use Rattle.c_tree.specs.declared.typed.expression.TExpr.{TExpr}
use Rattle.c_tree.specs.declared.typed.expression.TExpr.TheVariants as x
use Rattle.c_tree.specs.declared.typed.statement.TStmt.{TStmt}
use Rattle.c_tree.specs.declared.typed.statement.TStmt.TheVariants as s
use Rattle.c_tree.specs.declared.typed.statement.Part.{Part}
use Rattle.c_tree.specs.declared.typed.statement.Label.{Label}
use Rattle.c_tree.specs.declared.typed.statement.Label.TheVariants as label
use Rattle.c_tree.specs.declared.typed.statement.Initial.TheVariants as initial
use Rattle.c_tree.specs.declared.typed.unit.Object.{Object}
use Rattle.c_tree.specs.declared.typed.unit.StaticPart.{StaticPart}
use Rattle.c_tree.specs.declared.typed.unit.StaticPart.TheVariants as part
use Rattle.c_tree.specs.declared.typed.unit.StaticObject.{StaticObject}
use Rattle.c_tree.specs.declared.typed.unit.TFunction.{TFunction}
use Rattle.c_tree.specs.declared.typed.unit.Typed.{Typed}
use Rattle.c_tree.specs.TypedKinds.{word}
use Rattle.c_tree.specs.TypedUnits.{IsFunction, IsObject, LieIn}
use Rattle.typed_form.specs.Weights.{acts, jumps, weight_of, weight_of_function}
use Rattle.typed_form.specs.Statements.{AreDifferent, PiecesLie}
use Rattle.typed_form.specs.Units.{PartsLie, IsCounted, IsFunctionForm, HangsTogether}

-- what a computed example opens: how a tree keeps the lists in it
unfoldable pub computed : Type 0
unfolding denote.Hole.Carrier.hidden Rattle.c_tree.specs.declared.typed.expression.Step.TheBlock.hidden-the_row-TExpr-0 Rattle.c_tree.specs.declared.typed.expression.Step.TheBlock.hidden-the_row-TExpr-2 Rattle.c_tree.specs.declared.typed.statement.TStmt.TheBlock.hidden-the_row-TStmt-0 Rattle.c_tree.specs.declared.typed.statement.TStmt.TheBlock.hidden-the_row-TStmt-2 Rattle.c_tree.specs.declared.typed.statement.TStmt.TheBlock.hidden-the_row-Branch-1 Rattle.c_tree.specs.declared.typed.statement.TStmt.TheBlock.hidden-the_row-Part-3
computed = Unit {0}

-- ---- a unit

abbrev int : CType
int = record { base = base.Int; constant = false; derived = [] }

abbrev number : ℕ → TExpr
number n = x.Primary int (primary.Number n)

abbrev part_of : List Label → List TStmt → Part
part_of ls body = record { labels = ls; body = body }

abbrev block : List TStmt → TStmt
block all = s.Block (record { first = 0; list = [] }) all

-- switch(1){case 1:break;case 2:default:return 1;}
abbrev switches : TStmt
switches = s.Switch (number 1) (record { first = 0; list = [] })
    (part_of (label.Case 1 ∷ []) (s.Break ∷ []) ∷ part_of (label.Case 2 ∷ label.Default ∷ []) (s.Return (Some (number 1)) ∷ []) ∷ [])

-- int main(void){switch(1){case 1:break;case 2:default:return 1;}return 0;}
abbrev pub main_function : TFunction
main_function = record {
  result = int;
  scalar = Some (scalar.Integer width.Word);
  parameters = [];
  body = block (switches ∷ s.Return (Some (number 0)) ∷ []);
  tokens = 29;
}

-- struct{char a;char *p;}s={'a',(char*)&s+8};
abbrev pair_object : Object
pair_object = record {
  ctype = record { base = base.Struct 0; constant = false; derived = [] };
  scalar = None;
  size = 8;
  alignment = 4;
  constant = false;
  addressed = true;
}

abbrev pair_parts : List StaticPart
pair_parts = part.Bytes 0 (97 ∷ []) ∷ part.Address 4 0 8 ∷ []

abbrev pair : StaticObject
pair = record { object = pair_object; parts = pair_parts }

abbrev pub small : Typed
small = record { objects = pair ∷ []; functions = main_function ∷ []; main = 0 }

-- ---- it hangs together

main_is_function : IsFunction small main_function
unfolding computed
main_is_function =
    (tt, ((tt, tt), ((word, (omega arith, refl), tt, (tt, tt), ((refl, tt), (((omega arith, refl), tt), tt))), ((omega arith, refl), tt))))

functions_are : (i : ℕ) (f : TFunction) → slice_get small.functions i ≡ Some f → IsFunction small f
functions_are zero f e = subst (IsFunction small) (same_Some main_function f e) main_is_function
functions_are (suc i) f e = absurd (none-some f e)

pair_is : IsObject pair_object × LieIn small 8 pair_parts
pair_is = (((omega arith, omega arith), inr (inr refl)), (omega arith, ((omega arith, refl, pair, refl, omega arith), tt)))

objects_are : (i : ℕ) (o : StaticObject) → slice_get small.objects i ≡ Some o → IsObject o.object × LieIn small o.object.size o.parts
objects_are zero o e = subst (λ o. IsObject o.object × LieIn small o.object.size o.parts) (same_Some pair o e) pair_is
objects_are (suc i) o e = absurd (none-some o e)

main_form : IsFunctionForm main_function
unfolding computed
main_form = record {
  body = (
    record { labels = tt; words = tt; pieces = tt },
    (
      (
        record { labels = (refl, (refl, (refl, tt))); words = (omega arith, (omega arith, tt)); pieces = tt },
        ((record { labels = tt; words = tt; pieces = tt }, tt), ((record { labels = tt; words = tt; pieces = tt }, tt), tt)),
      ),
      (record { labels = tt; words = tt; pieces = tt }, tt),
    ),
  );
  counted = record { tokens = omega arith; by_acts = omega arith; by_jumps = omega arith };
}

functions_fit : (i : ℕ) (f : TFunction) → slice_get small.functions i ≡ Some f → IsFunctionForm f
functions_fit zero f e = subst IsFunctionForm (same_Some main_function f e) main_form
functions_fit (suc i) f e = absurd (none-some f e)

pair_lies : PartsLie 0 8 pair_parts
pair_lies = (omega arith, (omega arith, tt), (omega arith, omega arith))

objects_lie : (i : ℕ) (o : StaticObject) → slice_get small.objects i ≡ Some o → PartsLie 0 o.object.size o.parts
objects_lie zero o e = subst (λ o. PartsLie 0 o.object.size o.parts) (same_Some pair o e) pair_lies
objects_lie (suc i) o e = absurd (none-some o e)

pub small_hangs_together : HangsTogether small
small_hangs_together = record {
  unit = record { functions = functions_are; main = (refl, refl); objects = objects_are };
  functions = functions_fit;
  objects = objects_lie;
}

-- ---- what does not hang together

-- two parts of a static object with a byte in common
abbrev pub overlapping : List StaticPart
overlapping = part.Bytes 0 (1 ∷ 2 ∷ []) ∷ part.Bytes 1 (3 ∷ []) ∷ []

pub parts_apart : PartsLie 0 8 overlapping → ⊥
parts_apart h = let e = h.2.0 in omega (arith, e)

-- a part that goes past the end
pub parts_inside : PartsLie 0 8 (part.Address 6 0 0 ∷ []) → ⊥
parts_inside h = let e = h.1 in omega (arith, e)

-- a byte of 300
pub bytes_are_small : PartsLie 0 8 (part.Bytes 0 (300 ∷ []) ∷ []) → ⊥
bytes_are_small h = let e = h.1.0 in omega (arith, e)

-- a string that is longer than its array
pub strings_fit : PiecesLie 0 2 (initial.Bytes 0 (97 ∷ 98 ∷ 99 ∷ []) ∷ []) → ⊥
strings_fit h = let e = h.2 in omega (arith, e)

-- one label twice
pub labels_differ : AreDifferent (label.Case 1 ∷ label.Default ∷ label.Case 1 ∷ []) → ⊥
labels_differ h = let e : true ≡ false = h.0 in cc

-- a function without tokens
abbrev pub of_no_tokens : TFunction
of_no_tokens = record main_function { tokens = 0 }

pub functions_have_tokens : IsCounted of_no_tokens → ⊥
functions_have_tokens h = let e = h.tokens in omega (arith, e)

-- ---- what acts come to

-- 1 && 0: a block with a choice, in which the join is given 0 and left, and a comparison; its value is moved
abbrev pub both : TExpr
both = x.All int (number 1 ∷ number 0 ∷ [])

pub both_in_acts : weight_of acts both ≡ 6
unfolding computed
both_in_acts = refl

pub both_in_jumps : weight_of jumps both ≡ 4
unfolding computed
both_in_jumps = refl

-- the function above, of 29 tokens
pub main_in_acts : weight_of_function acts main_function ≡ 17
unfolding computed
main_in_acts = refl
