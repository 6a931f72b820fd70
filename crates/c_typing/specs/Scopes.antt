-- What is visible at a place of a source, what a walk over it has found so far, and what it says of a construct: its faults, and
-- what it is, where no fault other than NoBody stands in it (C11 6.2.1 to 6.2.4).
use Rattle.std.specs.Prelude.{ℕ, ◌+◌, Bool, false, if◌then◌else◌, List, [], ◌∷◌, ◌++◌, Option, Some, None, find, reverse, length, take, drop}
use Rattle.std.specs.Option.{option_map}
use Rattle.std.specs.Str.{bytes_eq}
use Rattle.c_tree.specs.declared.token.Pos.{Pos}
use Rattle.c_tree.specs.declared.refusal.FaultKind.{FaultKind}
use Rattle.c_tree.specs.declared.typed.types.CType.{CType}
use Rattle.c_typing.specs.Faults.{Fault, fault}
pub use Rattle.c_typing.specs.declared.scope.Meaning.{Meaning}
pub use Rattle.c_typing.specs.declared.scope.Meaning.TheVariants.{TypedefOf, EnumeratorOf, Automatic, Static, Linked, Unknown}
pub use Rattle.c_typing.specs.declared.scope.Tag.{Tag}
pub use Rattle.c_typing.specs.declared.scope.Tag.TheVariants.{StructTag, EnumTag}
pub use Rattle.c_typing.specs.declared.scope.Local.{Local}
pub use Rattle.c_typing.specs.declared.scope.Linkage.{Linkage}
pub use Rattle.c_typing.specs.declared.scope.Scope.{Scope}
pub use Rattle.c_typing.specs.declared.scope.State.{State}

-- the text of a name
abbrev pub Name : Type 0
Name = List ℕ

-- what is fixed around a construct
pub record Around : Type 0 where
  -- the functions and the file-level objects that the unit defines, in the order of their definitions
  pub functions : List Name
  pub objects : List Name
  -- at file level, and not in a function
  pub at_file_level : Bool
  -- how many of the ordinary identifiers and tags stand before the present scope
  pub names_from : ℕ
  pub tags_from : ℕ
  -- the place of the first object of the present block, and that of the first object of a block in it
  pub own_from : ℕ
  pub inner_from : ℕ
  -- the number in the function of the first object of the present block
  pub numbers_from : ℕ
  -- whether `break` and `continue` may stand here (6.8.6.2p1, 6.8.6.3p1)
  pub may_break : Bool
  pub may_continue : Bool
  -- the type of the value of the function
  pub result : CType

-- ---- walks

pub record Said (A : Type 0) : Type 0 where
  pub faults : List Fault
  pub given : Option A
  pub state : State

abbrev pub Walk : Type 0 → Type 0
Walk A = Around → State → Said A

-- this, and nothing is wrong
abbrev pub give : {A : Type 0} → A → Walk A
give a c s = record { faults = []; given = Some a; state = s }

-- nothing is said
abbrev pub unasked : {A : Type 0} → Walk A
unasked c s = record { faults = []; given = None; state = s }

-- a fault
abbrev pub tell : {A : Type 0} → FaultKind → Pos → Walk A
tell k p c s = record { faults = fault k p ∷ []; given = None; state = s }

-- what is given, or nothing
abbrev pub offer : {A : Type 0} → Option A → Walk A
offer o c s = record { faults = []; given = o; state = s }

-- one and then another, which is told what the first gave
infixl 20 ◌>>=◌
abbrev pub ◌>>=◌ : {A B : Type 0} → Walk A → (Option A → Walk B) → Walk B
◌>>=◌ w f c s =
    let first = w c s in let second = f first.given c first.state in
    record { faults = first.faults ++ second.faults; given = second.given; state = second.state }

-- a row, which asks nothing of what has a fault in it
abbrev pub asked : {A B : Type 0} → Option A → (A → Walk B) → Walk B
asked (Some a) f = f a
asked None f = unasked

abbrev pub both_asked : {A B C : Type 0} → Option A → Option B → (A → B → Walk C) → Walk C
both_asked (Some a) (Some b) f = f a b
both_asked _ _ f = unasked

-- a fault beside what is given all the same
abbrev pub beside : {A : Type 0} → List Fault → Walk A → Walk A
beside fs w c s = let said = w c s in record { faults = fs ++ said.faults; given = said.given; state = said.state }

abbrev pub fault_if : Bool → FaultKind → Pos → List Fault
fault_if b k p = if b then fault k p ∷ [] else []

-- where a test holds there is a fault; else the walk goes on
abbrev pub unless : {A : Type 0} → Bool → FaultKind → Pos → Walk A → Walk A
unless b k p w = if b then tell k p else w

-- what is fixed here, and what has been found so far
abbrev pub here : {A : Type 0} → (Around → State → Walk A) → Walk A
here f c s = f c s c s

-- what has no typed tree yet, where a test holds
abbrev pub unready_if : {A : Type 0} → Bool → FaultKind → Pos → Walk A → Walk A
unready_if b k p w c s = w c (record s { unready = s.unready ++ fault_if b k p })

-- a change of what has been found
abbrev pub change : {A : Type 0} → (State → State) → Walk A → Walk A
change f w c s = w c (f s)

-- walks in a row; what they give, where each gives something
abbrev pub joined : {A : Type 0} → Option A → Option (List A) → Option (List A)
joined (Some a) (Some rest) = Some (a ∷ rest)
joined _ _ = None

abbrev pub in_row : {A : Type 0} → List (Walk A) → Walk (List A)
in_row [] = give []
in_row (w ∷ ws) = w >>= λ a. in_row ws >>= λ rest. offer (joined a rest)

-- a scope: what is declared in it ends with it (6.2.1p4)
abbrev pub closed : State → State → State
closed old s = record s { names = take (length old.names) s.names; tags = take (length old.tags) s.tags }

abbrev pub scoped : {A : Type 0} → Walk A → Walk A
scoped w c s =
    let said = w (record c { names_from = length s.names; tags_from = length s.tags }) s in
    record { faults = said.faults; given = said.given; state = closed s said.state }

-- the scope of the parameters and of the outermost block of a function definition: it begins with the parameter list beside the name,
-- is left at the end of that list, and is entered again with the block, so that what stands between them is at file scope (6.2.1p4)
abbrev pub no_scope : Scope
no_scope = record { names = []; tags = [] }

abbrev pub entered : State → State
entered s = record s { names = s.listed.names; tags = s.listed.tags; outer = record { names = s.names; tags = s.tags }; listed = no_scope }

abbrev pub left : State → State
left s = record s { names = s.outer.names; tags = s.outer.tags; outer = no_scope; listed = record { names = s.names; tags = s.tags } }

abbrev pub in_definition : {A : Type 0} → Walk A → Walk A
in_definition w c s =
    let said = w (record c { at_file_level = false; names_from = 0; tags_from = 0 }) (entered s) in
    record { faults = said.faults; given = said.given; state = left said.state }

-- ---- names

-- what stands for a name: the last pair of it counts
abbrev pub latest : {V : Type 0} → List (Name × V) → Name → Option V
latest pairs name = option_map (λ pair. pair.1) (find (λ pair. bytes_eq pair.0 name) (reverse pairs))

-- what is visible, the oldest first: what file scope has declared, and what the scopes in it have
abbrev pub visible_names : State → List (Name × Meaning)
visible_names s = s.outer.names ++ s.names

abbrev pub visible_tags : State → List (Name × Tag)
visible_tags s = s.outer.tags ++ s.tags

-- what a name and a tag stand for here (6.2.1p2, 6.2.3)
abbrev pub meaning_of : State → Name → Option Meaning
meaning_of s name = latest (visible_names s) name

abbrev pub tag_of : State → Name → Option Tag
tag_of s name = latest (visible_tags s) name

-- the place of a name in a list
abbrev pub number_in : ℕ → List Name → Name → Option ℕ
number_in n [] name = None
number_in n (x ∷ xs) name = if bytes_eq x name then Some n else number_in (n + 1) xs name

abbrev pub declaring : {A : Type 0} → Name → Meaning → Walk A → Walk A
declaring name meaning = change (λ s. record s { names = s.names ++ (name, meaning) ∷ [] })

abbrev pub tagging : {A : Type 0} → Name → Tag → Walk A → Walk A
tagging name tag = change (λ s. record s { tags = s.tags ++ (name, tag) ∷ [] })

-- what the present scope has declared by a name
abbrev pub own_meaning : Around → State → Name → Option Meaning
own_meaning c s name = latest (drop c.names_from s.names) name

abbrev pub own_tag : Around → State → Name → Option Tag
own_tag c s name = latest (drop c.tags_from s.tags) name
