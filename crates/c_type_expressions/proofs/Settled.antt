-- A chain of integers behind a pointer gives way as a whole,
-- or does not go together with it.
use Rattle.std.proofs.Common.{◌≡◌, ◌∙◌, refl, ap, sym, subst, Bool, true, false, ◌&&◌, if◌then◌else◌, List, [], ◌∷◌, reverse, Option, Some, None}
use Rattle.std.proofs.lemmas.List.{reverse-append}
use Rattle.std.proofs.Math.Bool.{and-false}
use Rattle.c_tree.specs.declared.token.Pos.{Pos}
use Rattle.c_tree.specs.declared.typed.types.Base.{Base}
use Rattle.c_tree.specs.declared.typed.types.Base.TheVariants as base
use Rattle.c_tree.specs.declared.typed.types.CType.{CType}
use Rattle.c_typing.specs.Types.{Shape, Basic, PointerTo, ArrayOf, FunctionOf, shape, basic, is_integer_base, is_void_base, is_pointer_shape, is_integer, is_void, is_pointer, void}
use Rattle.c_typing.specs.declared.operand.Operand.{Operand}
use Rattle.c_typing.specs.Operands.{value, target_of, target_of_shape, is_null_constant}
use Rattle.c_typing.specs.Operators.{common_type, chosen, chosen_by, chosen_pointers}
use Rattle.c_typing.specs.Scopes as scopes
use Rattle.c_typing.specs.Expressions as spec
use Rattle.c_type_expressions.specs.declared.chains.Chain.{Chain}
use Rattle.c_type_expressions.specs.declared.chains.Chain.TheVariants.{End, Choices}
use Rattle.c_type_expressions.specs.declared.chains.Choices.{Choices as Choices'}
use Rattle.c_type_expressions.specs.Chains.{chain_of, gives_integer, ends_in_null, settled_behind, longer}
use Rattle.c_type_expressions.proofs.Values.{chosen-not_null}

-- ---- integer types and pointers

and_true : (b : Bool) → (b && true) ≡ b
and_true true = refl
and_true false = refl

no_void : (b : Base) → is_integer_base b ≡ true → is_void_base b ≡ false
no_void base.Void e = cc
no_void b e = refl

pub integer-no_pointer : (s : Shape) → basic is_integer_base s ≡ true → is_pointer_shape s ≡ false
integer-no_pointer (Basic b) e = refl
integer-no_pointer (PointerTo c t) e = cc
integer-no_pointer (ArrayOf n t) e = refl
integer-no_pointer (FunctionOf ps t) e = refl

integer-no_void : (s : Shape) → basic is_integer_base s ≡ true → basic is_void_base s ≡ false
integer-no_void (Basic b) e = no_void b e
integer-no_void (PointerTo c t) e = refl
integer-no_void (ArrayOf n t) e = refl
integer-no_void (FunctionOf ps t) e = refl

integer-no_target : (s : Shape) → basic is_integer_base s ≡ true → target_of_shape s ≡ None
integer-no_target (Basic b) e = refl
integer-no_target (PointerTo c t) e = cc
integer-no_target (ArrayOf n t) e = refl
integer-no_target (FunctionOf ps t) e = refl

pointer-no_integer : (s : Shape) → is_pointer_shape s ≡ true → basic is_integer_base s ≡ false
pointer-no_integer (Basic b) e = cc
pointer-no_integer (PointerTo c t) e = refl
pointer-no_integer (ArrayOf n t) e = refl
pointer-no_integer (FunctionOf ps t) e = refl

pointer-no_void : (s : Shape) → is_pointer_shape s ≡ true → basic is_void_base s ≡ false
pointer-no_void (Basic b) e = cc
pointer-no_void (PointerTo c t) e = refl
pointer-no_void (ArrayOf n t) e = refl
pointer-no_void (FunctionOf ps t) e = refl

-- ---- what is chosen, by the tests that it makes

by_tests : (il iu vl vu pl pu m n : Bool) → (l u : CType) → (tl tu : Option CType) → Option CType
by_tests il iu vl vu pl pu m n l u tl tu =
    if il && iu then Some (common_type l u)
    else (if vl && vu then Some void
    else (if pl && n then Some l
    else (if m && pu then Some u
    else chosen_pointers tl tu)))

no_pointers : (tl : Option CType) → chosen_pointers tl None ≡ None
no_pointers (Some t) = refl
no_pointers None = refl

-- a pointer and an integer: the integer is a null pointer constant
pointer_tests : (m n : Bool) (l u : CType) (tl : Option CType) →
    by_tests false true false false true false m n l u tl None ≡ (if n then Some l else None)
unfolding by_tests
pointer_tests m true l u tl = refl
pointer_tests true false l u tl = no_pointers tl
pointer_tests false false l u tl = no_pointers tl

pub pointer_and_integer-chosen : (l u : CType) (m n : Bool) → is_pointer l ≡ true → is_integer u ≡ true →
    chosen_by l m u n ≡ (if n then Some l else None)
unfolding by_tests
pointer_and_integer-chosen l u m n p i =
    ap (λ (b : Bool). by_tests b (is_integer u) (is_void l) (is_void u) (is_pointer l) (is_pointer u) m n l u (target_of l) (target_of u)) (pointer-no_integer (shape l) p)
    ∙ ap (λ (b : Bool). by_tests false b (is_void l) (is_void u) (is_pointer l) (is_pointer u) m n l u (target_of l) (target_of u)) i
    ∙ ap (λ (b : Bool). by_tests false true b (is_void u) (is_pointer l) (is_pointer u) m n l u (target_of l) (target_of u)) (pointer-no_void (shape l) p)
    ∙ ap (λ (b : Bool). by_tests false true false b (is_pointer l) (is_pointer u) m n l u (target_of l) (target_of u)) (integer-no_void (shape u) i)
    ∙ ap (λ (b : Bool). by_tests false true false false b (is_pointer u) m n l u (target_of l) (target_of u)) p
    ∙ ap (λ (b : Bool). by_tests false true false false true b m n l u (target_of l) (target_of u)) (integer-no_pointer (shape u) i)
    ∙ ap (λ (t : Option CType). by_tests false true false false true false m n l u (target_of l) t) (integer-no_target (shape u) i)
    ∙ pointer_tests m n l u (target_of l)

-- what is no pointer, where anything is chosen
abbrev NoPointer : Option CType → Type 0
NoPointer (Some t) = is_pointer t ≡ false
NoPointer None = Unit {0}

integer_tests : (il vl m n : Bool) (l u : CType) (tl : Option CType) → NoPointer (by_tests il true vl false false false m n l u tl None)
unfolding by_tests
integer_tests true vl m n l u tl = refl
integer_tests false true true n l u tl = subst NoPointer (sym (no_pointers tl)) tt
integer_tests false true false n l u tl = subst NoPointer (sym (no_pointers tl)) tt
integer_tests false false true n l u tl = subst NoPointer (sym (no_pointers tl)) tt
integer_tests false false false n l u tl = subst NoPointer (sym (no_pointers tl)) tt

integer_and_other : (l u : CType) (m n : Bool) → is_pointer l ≡ false → is_integer u ≡ true → NoPointer (chosen_by l m u n)
unfolding by_tests
integer_and_other l u m n p i =
    let e : chosen_by l m u n ≡ by_tests (is_integer l) true (is_void l) false false false m n l u (target_of l) None =
    ap (λ (b : Bool). by_tests (is_integer l) b (is_void l) (is_void u) (is_pointer l) (is_pointer u) m n l u (target_of l) (target_of u)) i
    ∙ ap (λ (b : Bool). by_tests (is_integer l) true (is_void l) b (is_pointer l) (is_pointer u) m n l u (target_of l) (target_of u)) (integer-no_void (shape u) i)
    ∙ ap (λ (b : Bool). by_tests (is_integer l) true (is_void l) false b (is_pointer u) m n l u (target_of l) (target_of u)) p
    ∙ ap (λ (b : Bool). by_tests (is_integer l) true (is_void l) false false b m n l u (target_of l) (target_of u)) (integer-no_pointer (shape u) i)
    ∙ ap (λ (t : Option CType). by_tests (is_integer l) true (is_void l) false false false m n l u (target_of l) t) (integer-no_target (shape u) i) in
    subst NoPointer (sym e) (integer_tests (is_integer l) (is_void l) m n l u (target_of l))

-- ---- chains

settled_if-integer : (a : Bool) (w : Operand) (rest : Chain) (b : Bool) → (a && gives_integer rest) ≡ b →
    (a && gives_integer (if b then End w else rest)) ≡ false
settled_if-integer a w rest true e = and-false a
settled_if-integer a w rest false e = e

pub settled-integer : (l : CType) (rest : Chain) → (is_pointer l && gives_integer (settled_behind l rest)) ≡ false
settled-integer l rest = settled_if-integer (is_pointer l) (chain_of rest).whole rest (is_pointer l && gives_integer rest) refl

if-same : {A : Type 0} (b : Bool) (x : A) → (if b then x else x) ≡ x
if-same true x = refl
if-same false x = refl

-- where the tree is not wanted a pointer does not stand before a null pointer constant
no_null : (i : Bool) (t l u : CType) (m n : Bool) → is_integer u ≡ i → (is_pointer l && i) ≡ false → (i ≡ false → n ≡ false) →
    chosen_by l m u n ≡ Some t → (is_pointer t && n) ≡ false
no_null true t l u m n i h z e = ap (λ (b : Bool). b && n) (subst NoPointer e (integer_and_other l u m n (sym (and_true (is_pointer l)) ∙ h) i))
no_null false t l u m n i h z e = ap (λ (b : Bool). is_pointer t && b) (z refl) ∙ and-false (is_pointer t)

pub lengthened-settled : (t : CType) (k g : Operand) (rest : Chain) → (is_pointer g.ctype && gives_integer rest) ≡ false →
    chosen g (chain_of rest).whole ≡ Some t → chain_of (longer t (k, g) rest) ≡ spec.lengthened t k g (chain_of rest)
lengthened-settled t k g (End o) h e =
    sym (if-same (is_pointer t && is_null_constant o) (chain_of (longer t (k, g) (End o))))
lengthened-settled t k g (Choices c) h e =
    let w = (chain_of (Choices c)).whole in
    let n : (is_pointer t && is_null_constant w) ≡ false =
    no_null (is_integer c.ctype) t g.ctype c.ctype (is_null_constant g) (is_null_constant w) refl h (chosen-not_null c.ctype (reverse c.arms) c.last) e in
    ap (λ (arms : List (Operand × Operand)). record { whole = value t (spec.choose t arms c.last); arms = arms; last = c.last }) (reverse-append c.arms ((k, g) ∷ []))
    ∙ ap (λ (b : Bool). if b then the_whole else the_arms) (sym n)
  where
    the_whole : spec.Chain
    the_whole = record { whole = value t (spec.choose t ((k, g) ∷ []) (chain_of (Choices c)).whole); arms = (k, g) ∷ []; last = (chain_of (Choices c)).whole }

    the_arms : spec.Chain
    the_arms = record { whole = value t (spec.choose t ((k, g) ∷ reverse c.arms) c.last); arms = (k, g) ∷ reverse c.arms; last = c.last }

-- ---- what is asked of a settled chain is what is asked of the chain

abbrev given_way : CType → (condition gives whole : Operand) → spec.Chain
given_way t k g w = record { whole = value t (spec.choose t ((k, g) ∷ []) w); arms = (k, g) ∷ []; last = w }

gives_way : (t : CType) (k g : Operand) (rest : spec.Chain) → is_pointer t ≡ true → is_null_constant rest.whole ≡ true →
    spec.lengthened t k g rest ≡ given_way t k g rest.whole
gives_way t k g rest p n =
    let kept : spec.Chain = record { whole = value t (spec.choose t ((k, g) ∷ rest.arms) rest.last); arms = (k, g) ∷ rest.arms; last = rest.last } in
    ap (λ (b : Bool). if b && is_null_constant rest.whole then given_way t k g rest.whole else kept) p
    ∙ ap (λ (b : Bool). if b then given_way t k g rest.whole else kept) n

first_holds : (a b : Bool) → (a && b) ≡ true → a ≡ true
first_holds true b e = refl
first_holds false b e = e

second_holds : (a b : Bool) → (a && b) ≡ true → b ≡ true
second_holds true b e = e
second_holds false b e = cc

asks_alike : (at : Pos) (k g : Operand) (one other : spec.Chain) → one.whole ≡ other.whole → is_pointer g.ctype ≡ true → (n : Bool) → is_null_constant other.whole ≡ n →
    spec.chosen_if at k g one (if n then Some g.ctype else None) ≡ spec.chosen_if at k g other (if n then Some g.ctype else None)
asks_alike at k g one other w p true n =
    ap (λ (c : spec.Chain). scopes.give c)
    (gives_way g.ctype k g one p (ap is_null_constant w ∙ n) ∙ ap (given_way g.ctype k g) w ∙ sym (gives_way g.ctype k g other p n))
asks_alike at k g one other w p false n = refl

settled_if-chosen : (at : Pos) (k g : Operand) (rest : Chain) (b : Bool) → (is_pointer g.ctype && gives_integer rest) ≡ b →
    spec.chosen_if at k g (chain_of (if b then End (chain_of rest).whole else rest)) (chosen g (chain_of (if b then End (chain_of rest).whole else rest)).whole)
    ≡ spec.chosen_if at k g (chain_of rest) (chosen g (chain_of rest).whole)
settled_if-chosen at k g rest false e = refl
settled_if-chosen at k g (End o) true e = refl
settled_if-chosen at k g (Choices c) true e =
    let p : is_pointer g.ctype ≡ true = first_holds (is_pointer g.ctype) (is_integer c.ctype) e in
    let w = (chain_of (Choices c)).whole in
    let o : chosen g w ≡ (if is_null_constant w then Some g.ctype else None) =
    pointer_and_integer-chosen g.ctype c.ctype (is_null_constant g) (is_null_constant w) p (second_holds (is_pointer g.ctype) (is_integer c.ctype) e) in
    ap (λ (r : Option CType). spec.chosen_if at k g (chain_of (End w)) r) o
    ∙ asks_alike at k g (chain_of (End w)) (chain_of (Choices c)) refl p (is_null_constant w) refl
    ∙ ap (λ (r : Option CType). spec.chosen_if at k g (chain_of (Choices c)) r) (sym o)

pub settled-chosen : (at : Pos) (k g : Operand) (rest : Chain) →
    spec.chosen_if at k g (chain_of (settled_behind g.ctype rest)) (chosen g (chain_of (settled_behind g.ctype rest)).whole)
    ≡ spec.chosen_if at k g (chain_of rest) (chosen g (chain_of rest).whole)
settled-chosen at k g rest = settled_if-chosen at k g rest (is_pointer g.ctype && gives_integer rest) refl

-- ---- whether a chain is a null pointer constant matters behind a pointer alone

null_if_integer : (i : Bool) (g : Operand) (c : Choices') → is_integer c.ctype ≡ i → (is_pointer g.ctype && i) ≡ false →
    chosen_by g.ctype (is_null_constant g) c.ctype false ≡ chosen g (chain_of (Choices c)).whole
unfolding by_tests
null_if_integer false g c i h =
    ap (λ (n : Bool). chosen_by g.ctype (is_null_constant g) c.ctype n) (sym (chosen-not_null c.ctype (reverse c.arms) c.last i))
null_if_integer true g c i h =
    let p : is_pointer g.ctype ≡ false = sym (and_true (is_pointer g.ctype)) ∙ h in
    let m = is_null_constant g in
    let n = is_null_constant (chain_of (Choices c)).whole in
    let l = g.ctype in
    let u = c.ctype in
    ap (λ (b : Bool). by_tests (is_integer l) (is_integer u) (is_void l) (is_void u) b (is_pointer u) m false l u (target_of l) (target_of u)) p
    ∙ ap (λ (b : Bool). by_tests (is_integer l) (is_integer u) (is_void l) (is_void u) b (is_pointer u) m n l u (target_of l) (target_of u)) (sym p)

pub chosen-null : (g : Operand) (rest : Chain) → (is_pointer g.ctype && gives_integer rest) ≡ false →
    chosen_by g.ctype (is_null_constant g) (chain_of rest).whole.ctype (ends_in_null rest) ≡ chosen g (chain_of rest).whole
chosen-null g (End o) h = refl
chosen-null g (Choices c) h = null_if_integer (is_integer c.ctype) g c refl h
