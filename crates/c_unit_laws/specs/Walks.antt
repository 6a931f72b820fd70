-- What a walk gives, where it gives anything, by whether `break` and `continue` may stand there.
use Rattle.std.specs.Prelude.{◌≡◌, Bool, true, false, if◌then◌else◌, List, Option, Some, None, length}
use Rattle.c_tree.specs.declared.token.Pos.{Pos}
use Rattle.c_tree.specs.declared.refusal.FaultKind.{FaultKind}
use Rattle.c_typing.specs.declared.fault.Fault.{Fault}
use Rattle.c_typing.specs.declared.scope.Meaning.{Meaning}
use Rattle.c_typing.specs.declared.scope.State.{State}
use Rattle.c_typing.specs.Scopes.{Name, Around, Walk, give, unasked, tell, ◌>>=◌, asked, both_asked, beside, unless, here, change, scoped, declaring}

-- this holds of what is given
abbrev pub IfAny : {A : Type 0} → (A → Type 0) → Option A → Type 0
IfAny P (Some a) = P a
IfAny P None = Unit {0}

-- it holds of what a walk gives where `break` and `continue` may stand so
pub record Does {A : Type 0} (P : A → Type 0) (b k : Bool) (w : Walk A) : Type 0 where
  pub run : (c : Around) (s : State) → c.may_break ≡ b → c.may_continue ≡ k → IfAny P (w c s).given

abbrev pub Anything : {A : Type 0} → A → Type 0
Anything a = Unit {0}

any_is : {A : Type 0} (o : Option A) → IfAny Anything o
any_is (Some a) = tt
any_is None = tt

pub anything : {A : Type 0} {b k : Bool} (w : Walk A) → Does Anything b k w
anything w = record { run = λ c s e f. any_is (w c s).given }

pub gives : {A : Type 0} {P : A → Type 0} {b k : Bool} (a : A) → P a → Does P b k (give a)
gives a p = record { run = λ c s e f. p }

pub silent : {A : Type 0} {P : A → Type 0} {b k : Bool} → Does P b k (unasked {A = A})
silent = record { run = λ c s e f. tt }

pub tells : {A : Type 0} {P : A → Type 0} {b k : Bool} (f : FaultKind) (p : Pos) → Does P b k (tell {A = A} f p)
tells f p = record { run = λ c s e g. tt }

pub follows : {A B : Type 0} {P : A → Type 0} {Q : B → Type 0} {b k : Bool} {w : Walk A} (f : Option A → Walk B) → Does P b k w → ((o : Option A) → IfAny P o → Does Q b k (f o)) → Does Q b k (w >>= f)
follows {A} {B} {P} {Q} {b} {k} {w} f p q = record { run = λ c s e g. (q (w c s).given (p.run c s e g)).run c (w c s).state e g }

pub asks : {A B : Type 0} {P : A → Type 0} {Q : B → Type 0} {b k : Bool} {f : A → Walk B} (o : Option A) → IfAny P o → ((a : A) → P a → Does Q b k (f a)) → Does Q b k (asked o f)
asks (Some a) g q = q a g
asks None g q = silent

pub both : {A B C : Type 0} {P : A → Type 0} {R : B → Type 0} {Q : C → Type 0} {b k : Bool} {f : A → B → Walk C} (o : Option A) (p : Option B) → IfAny P o → IfAny R p
    → ((x : A) (y : B) → P x → R y → Does Q b k (f x y)) → Does Q b k (both_asked o p f)
both (Some x) (Some y) g h q = q x y g h
both (Some x) None g h q = silent
both None p g h q = silent

-- one walk, and another one that asks what it gives
pub chain : {A B : Type 0} {P : A → Type 0} {Q : B → Type 0} {b k : Bool} {w : Walk A} {f : A → Walk B} → Does P b k w → ((a : A) → P a → Does Q b k (f a)) → Does Q b k (w >>= λ o. asked o f)
chain {A} {B} {P} {Q} {b} {k} {w} {f} p q = follows (λ o. asked o f) p (λ o g. asks o g q)

-- two walks, of which neither asks what the other one gives
pub pair : {A B C : Type 0} {P : A → Type 0} {R : B → Type 0} {Q : C → Type 0} {b k : Bool} {w : Walk A} {v : Walk B} {f : A → B → Walk C} → Does P b k w → Does R b k v
    → ((x : A) (y : B) → P x → R y → Does Q b k (f x y)) → Does Q b k (w >>= λ x. v >>= λ y. both_asked x y f)
pair {A} {B} {C} {P} {R} {Q} {b} {k} {w} {v} {f} p r q =
    follows (λ x. v >>= λ y. both_asked x y f) p (λ x g. follows (λ y. both_asked x y f) r (λ y h. both x y g h q))

pub besides : {A : Type 0} {P : A → Type 0} {b k : Bool} {w : Walk A} (fs : List Fault) → Does P b k w → Does P b k (beside fs w)
besides fs p = record { run = λ c s e g. p.run c s e g }

pub passes : {A : Type 0} {P : A → Type 0} {b k : Bool} {w : Walk A} (x : Bool) (f : FaultKind) (p : Pos) → Does P b k w → Does P b k (unless x f p w)
passes true f p q = tells f p
passes false f p q = q

pub either : {A : Type 0} {P : A → Type 0} {b k : Bool} {v w : Walk A} (x : Bool) → Does P b k v → Does P b k w → Does P b k (if x then v else w)
either true p q = p
either false p q = q

pub sees : {A : Type 0} {P : A → Type 0} {b k : Bool} (f : Around → State → Walk A) → ((c : Around) (s : State) → Does P b k (f c s)) → Does P b k (here f)
sees f q = record { run = λ c s e g. (q c s).run c s e g }

pub changes : {A : Type 0} {P : A → Type 0} {b k : Bool} {w : Walk A} (g : State → State) → Does P b k w → Does P b k (change g w)
changes g p = record { run = λ c s e f. p.run c (g s) e f }

pub declares : {A : Type 0} {P : A → Type 0} {b k : Bool} {w : Walk A} (name : Name) (m : Meaning) → Does P b k w → Does P b k (declaring name m w)
declares name m p = changes _ p

pub scopes : {A : Type 0} {P : A → Type 0} {b k : Bool} {w : Walk A} → Does P b k w → Does P b k (scoped w)
scopes p = record { run = λ c s e f. p.run (record c { names_from = length s.names; tags_from = length s.tags }) s e f }
