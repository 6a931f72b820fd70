-- Proof that the code of statements and functions stands behind what was there: clause by clause.
use Rattle.std.proofs.Common.{◌≡◌, refl, sym, ap, ◌∙◌, ℕ, zero, suc, ◌+◌, ◌≤◌, if◌then◌else◌, Bool, true, false, List, [], ◌∷◌, ◌++◌, length, append_assoc, append-nil, arith, Some, None, Option}
use Rattle.word_ops.specs.declared.operation.Op.TheVariants as op
use Rattle.core_lang.specs.declared.act.Atom.{Atom}
use Rattle.core_lang.specs.declared.act.Atom.TheVariants as at
use Rattle.core_lang.specs.declared.act.Core.{Core}
use Rattle.core_lang.specs.declared.act.Core.TheVariants as c
use Rattle.c_tree.specs.declared.typed.operator.Scalar.{Scalar}
use Rattle.c_tree.specs.declared.typed.expression.TExpr.{TExpr}
use Rattle.c_tree.specs.declared.typed.statement.TStmt.{TStmt, Row_of-TStmt, end_of-TStmt, more_of-TStmt, Row_of-Branch, end_of-Branch, more_of-Branch, Row_of-Part, end_of-Part, more_of-Part}
use Rattle.c_tree.specs.declared.typed.statement.TStmt.TheVariants as s
use Rattle.c_tree.specs.declared.typed.statement.Label.{Label}
use Rattle.c_tree.specs.declared.typed.statement.Label.TheVariants as label
use Rattle.c_tree.specs.declared.typed.statement.Initial.{Initial}
use Rattle.c_tree.specs.declared.typed.statement.Initial.TheVariants as initial
use Rattle.c_tree.specs.declared.typed.statement.Initialiser.{Initialiser}
use Rattle.c_tree.specs.declared.typed.statement.Initialiser.TheVariants as initialiser
use Rattle.c_tree.specs.declared.typed.unit.Object.{Object}
use Rattle.c_tree.specs.declared.typed.unit.TFunction.{TFunction}
use Rattle.c_tree.specs.TypedKinds.{is_variable}
use Rattle.c_tree.specs.TypedUnits.{kept_as}
use Rattle.lowering_form.specs.declared.place.Place.{Place}
use Rattle.lowering_form.specs.declared.place.Place.TheVariants as place
use Rattle.lowering_form.specs.Code.{Code, Valued, begun, with_act, assigned}
use Rattle.lowering_form.specs.Places.{Scope, place_in, write_code, offset_code}
use Rattle.lowering_form.specs.Expressions.{value_code}
use Rattle.lowering_form.specs.Objects.{Body, Declared, with_code, inside, closed, variable_declared, local_declared, declared, all_declared, Chunk, unit_at, unit_code, bytes_code, piece_code, pieces_code, aggregate_code, pieces_at, initial_code}
use Rattle.lowering_form.specs.Statements.{in_block, in_loop, in_parts, with_switch, evaluated, evaluated_if_any, left_unless, tested, tested_if_any, loop_body, looped, returned, chosen_by, left_by, default_part, label_code, labels_code, dispatch_code, found_code, part_code, switched, statement_code, statements_code, if_code, branches_code, parts_code}
use Rattle.lowering_form.specs.Functions.{argument_code, parameters_code, outermost, no_acts, body_code}
use Rattle.lowering_form.specs.Added.{Adds, IsBehind, GoesOn}
use Rattle.lowering_form.specs.Laws.Added.{offset-adds, write-adds, value-adds}

-- ---- code

pub behind_none : (k : Code) → IsBehind k k
behind_none k = record { added = []; acts = sym (append-nil k.acts); later = omega arith }

pub behind_then : {k l m : Code} → IsBehind k l → IsBehind l m → IsBehind k m
behind_then {k} {l} {m} p q =
    record {
      added = p.added ++ q.added;
      acts = q.acts ∙ ap (λ xs. xs ++ q.added) p.acts ∙ append_assoc k.acts p.added q.added;
      later = omega (arith, p.later, q.later);
    }

pub behind_adds : {w : ℕ} {k l : Code} → Adds w k l → IsBehind k l
behind_adds {w} {k} {l} p = record { added = p.added; acts = p.acts; later = p.later }

pub behind_act : (a : Core) (k : Code) → IsBehind k (with_act a k)
behind_act a k = record { added = a ∷ []; acts = refl; later = omega arith }

pub behind_assigned : (act : ℕ → Core) (k : Code) → IsBehind k (assigned act k).code
behind_assigned act k = record { added = act k.next ∷ []; acts = refl; later = omega arith }

-- ---- functions under construction

pub on_none : (b : Body) → GoesOn b b
on_none b =
    record { code = behind_none b.code; added = []; locals = sym (append-nil b.locals); kept = omega arith; words = omega arith }

pub on_then : {b d e : Body} → GoesOn b d → GoesOn d e → GoesOn b e
on_then {b} {d} {e} p q =
    record {
      code = behind_then p.code q.code;
      added = p.added ++ q.added;
      locals = q.locals ∙ ap (λ xs. xs ++ q.added) p.locals ∙ append_assoc b.locals p.added q.added;
      kept = omega (arith, p.kept, q.kept);
      words = omega (arith, p.words, q.words);
    }

-- code alone
pub on_code : (b : Body) (l : Code) → IsBehind b.code l → GoesOn b (with_code l b)
on_code b l p = record { code = p; added = []; locals = sym (append-nil b.locals); kept = omega arith; words = omega arith }

-- an act with a list in it, which was begun behind code
pub on_closed : (act : List Core → Core) (k : Code) (b d : Body) → GoesOn (with_code (begun k) b) d →
    GoesOn (with_code k b) (closed act k d)
on_closed act k b d p =
    record {
      code = record { added = act d.code.acts ∷ []; acts = refl; later = p.code.later };
      added = p.added;
      locals = p.locals;
      kept = p.kept;
      words = p.words;
    }

-- ---- objects

declared_by-on : (is : Bool) (n size : ℕ) (sc : Scope) (b : Body) →
    GoesOn b (if is then variable_declared n sc b else local_declared size sc b).body
declared_by-on true n size sc b =
    record { code = behind_none b.code; added = []; locals = sym (append-nil b.locals); kept = omega arith; words = omega arith }
declared_by-on false n size sc b =
    record { code = behind_act (c.Enter (length b.locals)) b.code; added = size ∷ []; locals = refl; kept = omega arith; words = omega arith }

declared-on : (n : ℕ) (o : Object) (sc : Scope) (b : Body) → GoesOn b (declared n o sc b).body
declared-on n o sc b = declared_by-on (is_variable (kept_as o)) n o.size sc b

all_declared-on : (n : ℕ) (os : List Object) (sc : Scope) (b : Body) → GoesOn b (all_declared n os sc b).body
all_declared-on n [] sc b = on_none b
all_declared-on n (o ∷ os) sc b =
    let one = declared n o sc b in on_then (declared-on n o sc b) (all_declared-on (suc n) os one.scope one.body)

unit-behind : (p : Atom) (n : ℕ) (u : Chunk) (k : Code) → IsBehind k (unit_code p n u k)
unit-behind p n u k =
    let address = offset_code p n k in
    behind_then (behind_adds (offset-adds p n k)) (behind_act (c.Store u.width address.atom (at.Word u.number)) address.code)

bytes-behind : (p : Atom) (n taken : ℕ) (bytes : List ℕ) (k : Code) → IsBehind k (bytes_code p n taken bytes k)
bytes-behind p n taken [] k = behind_none k
bytes-behind p n (suc taken) (a ∷ rest) k = bytes-behind p (suc n) taken rest k
bytes-behind p n zero (a ∷ rest) k =
    behind_then (unit-behind p n (unit_at n a rest) k) (bytes-behind p (suc n) (unit_at n a rest).behind rest (unit_code p n (unit_at n a rest) k))

piece-behind : (i : Initial) (p : Atom) (sc : Scope) (k : Code) → IsBehind k (piece_code i p sc k)
piece-behind (initial.Value n j e) p sc k =
    let v = value_code e sc k in let address = offset_code p n v.code in
    behind_then (behind_adds (value-adds e sc k)) (behind_then (behind_adds (offset-adds p n v.code)) (behind_adds (write-adds (place.Memory address.atom) j v.atom address.code)))
piece-behind (initial.Bytes n bytes) p sc k = bytes-behind p n 0 bytes k

pieces-behind : (is : List Initial) (p : Atom) (sc : Scope) (k : Code) → IsBehind k (pieces_code is p sc k)
pieces-behind [] p sc k = behind_none k
pieces-behind (i ∷ is) p sc k = behind_then (piece-behind i p sc k) (pieces-behind is p sc (piece_code i p sc k))

aggregate-on : (is : List Initial) (l : ℕ) (sc : Scope) (b : Body) → GoesOn b (aggregate_code is l sc b)
aggregate-on is l sc b =
    record {
      code = behind_then (behind_act (c.Fill l) b.code) (pieces-behind is (at.Local l) sc (with_act (c.Fill l) b.code));
      added = [];
      locals = sym (append-nil b.locals);
      kept = omega arith;
      words = omega arith;
    }

pieces-on : (is : List Initial) (p : Place) (sc : Scope) (b : Body) → GoesOn b (pieces_at is p sc b)
pieces-on is (place.Memory (at.Local l)) sc b = aggregate-on is l sc b
pieces-on is (place.Memory (at.Var x)) sc b = on_none b
pieces-on is (place.Memory (at.Word n)) sc b = on_none b
pieces-on is (place.Memory (at.Global x)) sc b = on_none b
pieces-on is (place.Variable x) sc b = on_none b

initial-on : (v : Initialiser) (p : Place) (sc : Scope) (b : Body) → GoesOn b (initial_code v p sc b)
initial-on (initialiser.Scalar j e) p sc b =
    let v = value_code e sc b.code in
    on_code b (write_code p j v.atom v.code) (behind_then (behind_adds (value-adds e sc b.code)) (behind_adds (write-adds p j v.atom v.code)))
initial-on (initialiser.Aggregate is) p sc b = pieces-on is p sc b

-- ---- parts of statements

evaluated-on : (e : TExpr) (sc : Scope) (b : Body) → GoesOn b (evaluated e sc b)
evaluated-on e sc b = on_code b (value_code e sc b.code).code (behind_adds (value-adds e sc b.code))

evaluated_if_any-on : (e : Option TExpr) (sc : Scope) (b : Body) → GoesOn b (evaluated_if_any e sc b)
evaluated_if_any-on None sc b = on_none b
evaluated_if_any-on (Some e) sc b = evaluated-on e sc b

tested-on : (e : TExpr) (sc : Scope) (b : Body) → GoesOn b (tested e sc b)
tested-on e sc b =
    let v = value_code e sc b.code in
    on_code b (left_unless v) (behind_then (behind_adds (value-adds e sc b.code)) (behind_act (c.If v.atom [] (c.Break 0 ∷ [])) v.code))

tested_if_any-on : (e : Option TExpr) (sc : Scope) (b : Body) → GoesOn b (tested_if_any e sc b)
tested_if_any-on None sc b = on_none b
tested_if_any-on (Some e) sc b = tested-on e sc b

-- what makes code goes on from wherever it begins
abbrev Makes : (Body → Body) → Type 0
Makes make = (b : Body) → GoesOn b (make b)

loop_body-on : (make : Body → Body) → Makes make → Makes (loop_body make)
loop_body-on make h b = on_closed c.Block b.code b (make (inside b)) (h (inside b))

looped-on : (make : Body → Body) → Makes make → Makes (looped make)
looped-on make h b = on_closed c.Loop b.code b (make (inside b)) (h (inside b))

returned-behind : (e : Option TExpr) (sc : Scope) (k : Code) → IsBehind k (returned e sc k)
returned-behind None sc k = behind_act (c.Return None) k
returned-behind (Some e) sc k =
    let v = value_code e sc k in
    behind_then (behind_adds (value-adds e sc k)) (behind_act (c.Return (Some v.atom)) v.code)

chosen_by-on : (v : Valued) (first second : Body → Body) → Makes first → Makes second → (b : Body) → IsBehind b.code v.code →
    GoesOn b (chosen_by v first second b)
chosen_by-on v first second h i b p =
    let begins = with_code (begun v.code) b in let yes = first begins in
    let inner : GoesOn begins yes = h begins in
    let other : GoesOn (inside yes) (second (inside yes)) = i (inside yes) in
    on_then (on_code b v.code p)
    (record {
      code = record { added = c.If v.atom yes.code.acts (second (inside yes)).code.acts ∷ []; acts = refl; later = omega (arith, inner.code.later, other.code.later) };
      added = inner.added ++ other.added;
      locals = other.locals ∙ ap (λ xs. xs ++ other.added) inner.locals ∙ append_assoc b.locals inner.added other.added;
      kept = omega (arith, inner.kept, other.kept);
      words = omega (arith, inner.words, other.words);
    })

left_by-on : (v : Valued) (first : Body → Body) → Makes first → (b : Body) → IsBehind b.code v.code → GoesOn b (left_by v first b)
left_by-on v first h b p =
    let begins = with_code (begun v.code) b in let yes = first begins in
    on_then (on_code b v.code p)
    (on_closed (λ acts. c.If v.atom acts []) v.code b (with_code (with_act (c.Break 0) yes.code) yes) (on_then (h begins) (on_code yes (with_act (c.Break 0) yes.code) (behind_act (c.Break 0) yes.code))))

label-behind : (x : ℕ) (v : Atom) (i : ℕ) (l : Label) (k : Code) → IsBehind k (label_code x v i l k)
label-behind x v i label.Default k = behind_none k
label-behind x v i (label.Case n) k =
    let equal = assigned (λ t. c.Operate t op.Eq v (at.Word n)) k in
    behind_then (behind_assigned (λ t. c.Operate t op.Eq v (at.Word n)) k) (behind_act (c.If equal.atom (c.Move x (at.Word i) ∷ []) []) equal.code)

labels-behind : (x : ℕ) (v : Atom) (i : ℕ) (ls : List Label) (k : Code) → IsBehind k (labels_code x v i ls k)
labels-behind x v i [] k = behind_none k
labels-behind x v i (l ∷ ls) k = behind_then (label-behind x v i l k) (labels-behind x v i ls (label_code x v i l k))

dispatch-behind : (x : ℕ) (v : Atom) (i : ℕ) {n : _} (parts : Row_of-Part n) (k : Code) → IsBehind k (dispatch_code x v i parts k)
dispatch-behind x v i end_of-Part k = behind_none k
dispatch-behind x v i (more_of-Part labels m body rest) k =
    behind_then (dispatch-behind x v (suc i) rest k) (labels-behind x v i labels (dispatch_code x v (suc i) rest k))

found-behind : (x : ℕ) (v : Atom) {n : _} (parts : Row_of-Part n) (k : Code) → IsBehind k (found_code x v parts k)
found-behind x v parts k =
    let first = with_act (c.Move x (at.Word (default_part parts))) k in
    behind_then (behind_act (c.Move x (at.Word (default_part parts))) k) (dispatch-behind x v 0 parts first)

part-on : (x i : ℕ) (make : Body → Body) → Makes make → Makes (part_code x i make)
part-on x i make h b =
    let passed = assigned (λ t. c.Operate t op.Ltu (at.Word i) (at.Var x)) b.code in
    let begins = with_code (begun passed.code) b in
    on_then (on_code b passed.code (behind_assigned (λ t. c.Operate t op.Ltu (at.Word i) (at.Var x)) b.code)) (on_closed (λ acts. c.If passed.atom [] acts) passed.code b (make begins) (h begins))

switched-on : (x : ℕ) (find : Code → Code) → ((k : Code) → IsBehind k (find k)) → (parts : Scope → Body → Body) → ((sc : Scope) → Makes (parts sc)) → (d : Declared) →
    GoesOn d.body (switched x find parts d)
switched-on x find h parts i d =
    let k = find d.body.code in let begins = with_code (begun k) d.body in
    on_then (on_code d.body k (h d.body.code)) (on_closed c.Block k d.body (parts (in_parts d.scope) begins) (i (in_parts d.scope) begins))

-- ---- statements

mutual
  pub statement-on : (a : TStmt) (sc : Scope) (b : Body) → GoesOn b (statement_code a sc b)
  statement-on (s.Evaluate e) sc b = evaluated-on e sc b
  statement-on (s.Initialise i v) sc b = initial-on v (place_in sc i) sc b
  statement-on (s.Block' objects n all) sc b =
      let inner = all_declared objects.first objects.list sc b in
      on_then (all_declared-on objects.first objects.list sc b) (statements-on all inner.scope inner.body)
  statement-on (s.If' n branches p (more_of-TStmt last end_of-TStmt)) sc b =
      if-on branches (statement_code last) (λ sc b. statement-on last sc b) sc b
  statement-on (s.While' e p (more_of-TStmt a end_of-TStmt)) sc b =
      let make = statement_code a (in_loop sc) in
      looped-on (λ b. loop_body make (tested e sc b)) (λ b. on_then (tested-on e sc b) (loop_body-on make (λ b. statement-on a (in_loop sc) b) (tested e sc b))) b
  statement-on (s.Do' p (more_of-TStmt a end_of-TStmt) e) sc b =
      let make = statement_code a (in_loop sc) in
      looped-on (λ b. tested e sc (loop_body make b)) (λ b. on_then (loop_body-on make (λ b. statement-on a (in_loop sc) b) b) (tested-on e sc (loop_body make b))) b
  statement-on (s.For' e f p (more_of-TStmt a end_of-TStmt)) sc b =
      let make = statement_code a (in_loop sc) in
      looped-on (λ b. evaluated_if_any f sc (loop_body make (tested_if_any e sc b))) (λ b. on_then (on_then (tested_if_any-on e sc b) (loop_body-on make (λ b. statement-on a (in_loop sc) b) (tested_if_any e sc b))) (evaluated_if_any-on f sc (loop_body make (tested_if_any e sc b)))) b
  statement-on (s.Switch' e objects n parts) sc b =
      let v = value_code e sc b.code in let inner = with_code v.code b in
      let d = all_declared objects.first objects.list (with_switch sc) inner in
      on_then (on_then (on_code b v.code (behind_adds (value-adds e sc b.code))) (all_declared-on objects.first objects.list (with_switch sc) inner)) (switched-on sc.level (found_code sc.level v.atom parts) (found-behind sc.level v.atom parts) (parts_code parts sc.level 0) (λ sc' b. parts-on parts sc.level 0 sc' b) d)
  statement-on s.Break sc b = on_code b (with_act (c.Break sc.breaks) b.code) (behind_act (c.Break sc.breaks) b.code)
  statement-on s.Continue sc b = on_code b (with_act (c.Break sc.continues) b.code) (behind_act (c.Break sc.continues) b.code)
  statement-on (s.Return e) sc b = on_code b (returned e sc b.code) (returned-behind e sc b.code)

  statements-on : {n : _} (all : Row_of-TStmt n) (sc : Scope) (b : Body) → GoesOn b (statements_code all sc b)
  statements-on end_of-TStmt sc b = on_none b
  statements-on (more_of-TStmt a rest) sc b = on_then (statement-on a sc b) (statements-on rest sc (statement_code a sc b))

  if-on : {n : _} (branches : Row_of-Branch n) (last : Scope → Body → Body) → ((sc : Scope) → Makes (last sc)) → (sc : Scope) (b : Body) →
      GoesOn b (if_code branches last sc b)
  if-on end_of-Branch last h sc b = on_closed c.Block b.code b (last (in_block sc) (inside b)) (h (in_block sc) (inside b))
  if-on (more_of-Branch e a end_of-Branch) last h sc b =
      chosen_by-on (value_code e sc b.code) (statement_code a sc) (last sc) (λ b. statement-on a sc b) (h sc) b (behind_adds (value-adds e sc b.code))
  if-on (more_of-Branch e a (more_of-Branch f d rest)) last h sc b =
      let v = value_code e sc (begun b.code) in
      let first = left_by v (statement_code a (in_block sc)) (inside b) in
      let tested = branches_code (more_of-Branch f d rest) (in_block sc) first in
      on_closed c.Block b.code b (last (in_block sc) tested) (on_then (on_then (left_by-on v (statement_code a (in_block sc)) (λ b. statement-on a (in_block sc) b) (inside b) (behind_adds (value-adds e sc (begun b.code)))) (branches-on (more_of-Branch f d rest) (in_block sc) first)) (h (in_block sc) tested))

  branches-on : {n : _} (branches : Row_of-Branch n) (sc : Scope) (b : Body) → GoesOn b (branches_code branches sc b)
  branches-on end_of-Branch sc b = on_none b
  branches-on (more_of-Branch e a rest) sc b =
      on_then (left_by-on (value_code e sc b.code) (statement_code a sc) (λ b. statement-on a sc b) b (behind_adds (value-adds e sc b.code))) (branches-on rest sc (left_by (value_code e sc b.code) (statement_code a sc) b))

  parts-on : {n : _} (parts : Row_of-Part n) (x i : ℕ) (sc : Scope) (b : Body) → GoesOn b (parts_code parts x i sc b)
  parts-on end_of-Part x i sc b = on_none b
  parts-on (more_of-Part labels m body rest) x i sc b =
      on_then (part-on x i (statements_code body sc) (λ b. statements-on body sc b) b) (parts-on rest x (suc i) sc (part_code x i (statements_code body sc) b))

-- ---- functions

argument-behind : (n : ℕ) (p : Place) (j : Option Scalar) (k : Code) → IsBehind k (argument_code n p j k)
argument-behind n (place.Memory p) (Some j) k = behind_adds (write-adds (place.Memory p) j (at.Var n) k)
argument-behind n (place.Memory p) None k = behind_none k
argument-behind n (place.Variable x) j k = behind_none k

parameters-on : (n : ℕ) (os : List Object) (sc : Scope) (b : Body) → GoesOn b (parameters_code n os sc b).body
parameters-on n [] sc b = on_none b
parameters-on n (o ∷ os) sc b =
    let one = declared n o sc b in
    let k = argument_code n (place_in one.scope n) o.scalar one.body.code in
    on_then (on_then (declared-on n o sc b) (on_code one.body k (argument-behind n (place_in one.scope n) o.scalar one.body.code))) (parameters-on (suc n) os one.scope (with_code k one.body))

pub body-on : (f : TFunction) → GoesOn (no_acts f) (body_code f)
body-on f =
    let d = parameters_code 0 f.parameters (outermost f) (no_acts f) in
    on_then (parameters-on 0 f.parameters (outermost f) (no_acts f)) (statement-on f.body d.scope d.body)
