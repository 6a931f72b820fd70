-- The walk of the graphs of a program (a notion of this project, after the meaning of SSA form): values instead of words, the
-- store of C, and the outside of a run. One step is one item of a block or one end.
use Rattle.std.specs.Prelude.{ℕ, zero, suc, ◌+◌, ◌*◌, ◌/◌, ◌%◌, ◌==◌, nat_le, nat_lt, if◌then◌else◌, false, List, [], ◌∷◌, ◌++◌, length, map, Option, Some, None, slice_get, unwrap_or}
use Rattle.std.specs.Option.{option_map, option_and_then}
use Rattle.word_ops.specs.declared.operation.Width.{Width}
use Rattle.word_ops.specs.declared.operation.Width.TheVariants.{U8, U16, Word}
use Rattle.word_ops.specs.Choice.{when}
use Rattle.word_ops.specs.Store.{Value, Number, Pointer, Cell, Unset, Byte, Part, Store as Objects, shape_at, new_region, unset_cells, end_regions, number_of}
use Rattle.word_ops.specs.Access.{narrowed_to, decode, cells_at, write}
use Rattle.word_ops.specs.Values.{value_of_operation}
use Rattle.word_ops.specs.Addresses.{word_of_value}
use Rattle.word_ops.specs.Run.{Outside, Deep, Run, Gives, Ends, Undefined, then_do, given, branch, tick, put_byte, get_byte, exit_with, end_of_main}
use Rattle.term_form.specs.declared.term.Term.{Term}
use Rattle.term_form.specs.declared.term.Root.{Root}
use Rattle.term_form.specs.declared.term.Root.TheVariants.{Global, Local, Param, Got, Called}
use Rattle.term_form.specs.declared.term.Node.{Node}
use Rattle.term_form.specs.declared.term.Node.TheVariants as nodes
use Rattle.term_form.specs.declared.listing.StoreWidth.{StoreWidth}
use Rattle.term_form.specs.declared.listing.StoreWidth.TheVariants as stored
use Rattle.term_form.specs.declared.graph.Graph.{Graph}
use Rattle.term_form.specs.declared.graph.Block.{Block}
use Rattle.term_form.specs.declared.graph.Definition.{Definition}
use Rattle.term_form.specs.declared.graph.Item.{Item}
use Rattle.term_form.specs.declared.graph.Item.TheVariants.{Define, Store, Call, Get, Put, Exit}
use Rattle.term_form.specs.declared.graph.Ending.{Ending}
use Rattle.term_form.specs.declared.graph.Ending.TheVariants.{Jump, Branch, Return, Stop}
use Rattle.term_form.specs.declared.graph.EdgeArgument.{EdgeArgument}

-- ---- states

-- the graphs of a program's functions, in the order of their numbers
abbrev pub Program : Type 0
Program = List Graph

-- the values of terms by their numbers; what a number that names no term has here is never read
abbrev pub Values : Type 0
Values = ℕ → Value

abbrev pub with_value : Values → ℕ → Value → Values
with_value u t v = λ x. if x == t then v else u x

-- the addresses of local objects: told by the numbers of the functions that are active, the innermost first, and the number
-- of the object
abbrev pub Layout : Type 0
Layout = List ℕ → ℕ → ℕ

-- a call that goes on: the function, its arguments, its local objects (so many regions from `first` on), the present block and
-- what is left of its items, and the values of its terms
pub record Activation : Type 0 where
  pub function : ℕ
  pub arguments : List Value
  pub first : ℕ
  pub objects : ℕ
  pub block : ℕ
  pub rest : List Item
  pub values : Values

-- an activation that waits for the end of the call that it made, and the term of that call's value
pub record Caller : Type 0 where
  pub activation : Activation
  pub called : Option Term

-- a moment of a walk: the innermost activation, those that wait, the innermost first, the store, and how many calls may still
-- be nested
pub record Walk : Type 0 where
  pub top : Activation
  pub below : List Caller
  pub store : Objects
  pub depth : ℕ

abbrev pub set_value : Walk → Term → Value → Walk
set_value s t v = record s { top = record s.top { values = with_value s.top.values t.0 v } }

-- the walk goes on
abbrev pub going : Walk → Outside → Run Walk (Unit {0})
going s w = Gives s w tt

-- ---- values of terms

-- the first place of the object of a region
abbrev pub object_at : Objects → ℕ → Option Value
object_at s r = option_map (λ z. Pointer r 0) (shape_at s r)

-- the static objects are the first regions of the store
abbrev pub value_of_root : Activation → Objects → (term : ℕ) → Root → Option Value
value_of_root a s t (Global g) = object_at s g
value_of_root a s t (Local l) = when (nat_lt l a.objects) (object_at s (a.first + l))
value_of_root a s t (Param i) = slice_get a.arguments i
value_of_root a s t Got = Some (a.values t)
value_of_root a s t Called = Some (a.values t)

-- the number that has the bytes of these cells, the lowest first, and those of the choice where a cell is no byte
abbrev pub number_with : List Cell → (choice : ℕ) → ℕ
number_with [] n = 0
number_with (Byte b ∷ cs) n = b % 256 + 256 * number_with cs (n / 256)
number_with (Unset ∷ cs) n = n % 256 + 256 * number_with cs (n / 256)
number_with (Part k r o ∷ cs) n = n % 256 + 256 * number_with cs (n / 256)

-- what a load gives of these cells: their value where they have one, else the number of the choice
abbrev pub value_of_cells : Width → (choice : ℕ) → List Cell → Value
value_of_cells k n cs = unwrap_or (decode k cs) (Number (narrowed_to k (number_with cs n)))

-- a load that is undefined by its cells alone gives a number that the choice tells; one that may not be made has no value
abbrev pub loaded : Objects → Width → (choice : ℕ) → (pointer : Value) → Option Value
loaded s k n p = option_map (value_of_cells k n) (cells_at s k p)

-- the value of the term of a node; a phi, a byte taken and the value of a call have theirs already
abbrev pub value_of_node : Activation → Objects → (choice term : ℕ) → Node → Option Value
value_of_node a s n t (nodes.Konst k) = Some (Number k)
value_of_node a s n t (nodes.Root r) = value_of_root a s t r
value_of_node a s n t (nodes.Operate op x y) = value_of_operation s op (a.values x.0) (a.values y.0)
value_of_node a s n t (nodes.Load k p) = loaded s k n (a.values p.0)
value_of_node a s n t nodes.Phi = Some (a.values t)

-- what is there as a function is entered: constants, and addresses of objects
abbrev pub value_when_ready : Activation → Objects → (term : ℕ) → Node → Option Value
value_when_ready a s t (nodes.Konst k) = Some (Number k)
value_when_ready a s t (nodes.Root r) = value_of_root a s t r
value_when_ready a s t _ = None

abbrev pub with_ready : Objects → List Definition → Activation → Option Activation
with_ready s [] a = Some a
with_ready s (d ∷ ds) a = option_and_then (λ v. with_ready s ds (record a { values = with_value a.values d.term.0 v })) (value_when_ready a s d.term.0 d.node)

abbrev pub width_of : StoreWidth → Width
width_of stored.Byte = U8
width_of stored.Half = U16
width_of stored.Word = Word

-- ---- calls

-- local objects as a function is entered, each Unset (C11 6.2.4p6)
abbrev pub new_objects : (address : ℕ → ℕ) → (number : ℕ) → (sizes : List ℕ) → Objects
new_objects address l [] = []
new_objects address l (size ∷ sizes) = new_region false (address l) (unset_cells size) ∷ new_objects address (l + 1) sizes

abbrev pub functions_of : List Caller → List ℕ
functions_of callers = map (λ c. c.activation.function) callers

-- the activation of a function before its ready terms have values
abbrev pub activation_of : (function : ℕ) → Graph → Block → List Value → Objects → Activation
activation_of f g b arguments s = record { function = f; arguments = arguments; first = length s; objects = length g.locals; block = 0; rest = b.items; values = λ x. Number 0 }

-- a function is entered at its block 0
abbrev pub entered : Layout → (function : ℕ) → Graph → Block → List Value → List Caller → Objects → (depth : ℕ) → Outside → Run Walk (Unit {0})
entered layout f g b arguments callers s depth w =
    let t = s ++ new_objects (layout (f ∷ functions_of callers)) 0 g.locals in
    given (with_ready t g.ready (activation_of f g b arguments s)) (λ a. going (record { top = a; below = callers; store = t; depth = depth }) w)

-- a call; it is too deep where no further call may be nested
abbrev pub call : Program → Layout → (depth function : ℕ) → List Value → List Caller → Objects → Outside → Run Walk (Unit {0})
call p layout zero f arguments callers s w = Ends Deep w
call p layout (suc depth) f arguments callers s w =
    given (slice_get p f) (λ g. given (slice_get g.blocks 0) (λ b. entered layout f g b arguments callers s depth w))

-- the caller with the value that a call gave; a call that gave none has none to take
abbrev pub received : Option Term → Option Value → Activation → Option Activation
received None v a = Some a
received (Some t) None a = None
received (Some t) (Some v) a = Some (record a { values = with_value a.values t.0 v })

-- behind the end of a function: its caller goes on, or the program ends as its first call does
abbrev pub returned : Option Value → List Caller → Objects → (depth : ℕ) → Outside → Run Walk (Unit {0})
returned v [] s depth w = then_do (end_of_main (Gives s w v)) (λ t w r. Undefined)
returned v (c ∷ callers) s depth w =
    given (received c.called v c.activation) (λ a. going (record { top = a; below = callers; store = s; depth = depth + 1 }) w)

-- ---- edges

-- the values with those of the phis of an edge, all at once: the arguments have the values of before
abbrev pub with_phis : List EdgeArgument → (to : ℕ) → (before after : Values) → Values
with_phis [] to before after = after
with_phis (m ∷ ms) to before after = with_phis ms to before (if m.to == to then with_value after m.phi.0 (before m.argument.0) else after)

-- the walk at the first item of a block
abbrev pub arriving : Graph → List EdgeArgument → (to : ℕ) → Walk → Outside → Run Walk (Unit {0})
arriving g edges to s w =
    given (slice_get g.blocks to) (λ b. going (record s { top = record s.top { block = to; rest = b.items; values = with_phis edges to s.top.values s.top.values } }) w)

-- an edge, with a tick where it leads back
abbrev pub along : Graph → List EdgeArgument → (to : ℕ) → Walk → Outside → Run Walk (Unit {0})
along g edges to s w = branch (nat_le to s.top.block) (λ s w. tick w (λ w. arriving g edges to s w)) (λ s w. arriving g edges to s w) s w

-- ---- steps

-- an item; the items behind it are what is left already
abbrev pub item_step : Program → Layout → (choice : ℕ) → Item → Walk → Outside → Run Walk (Unit {0})
item_step p layout n (Define d) s w = given (value_of_node s.top s.store n d.term.0 d.node) (λ v. going (set_value s d.term v) w)
item_step p layout n (Store k address value) s w =
    given (write s.store (width_of k) (s.top.values address.0) (s.top.values value.0)) (λ t. going (record s { store = t }) w)
item_step p layout n (Call f arguments called) s w =
    tick w (λ w. call p layout s.depth f (map (λ t. s.top.values t.0) arguments) (record { activation = s.top; called = called } ∷ s.below) s.store w)
item_step p layout n (Get got) s w = get_byte w (λ b w. going (set_value s got (Number b)) w)
item_step p layout n (Put term) s w = given (number_of (s.top.values term.0)) (λ b. put_byte b w (λ w. going s w))
item_step p layout n (Exit term) s w = given (number_of (s.top.values term.0)) (λ b. exit_with b w)

-- the end of a block
abbrev pub end_step : Graph → List EdgeArgument → Ending → Walk → Outside → Run Walk (Unit {0})
end_step g edges (Jump to) s w = along g edges to s w
end_step g edges (Branch term first second) s w =
    along g edges (if word_of_value s.store (s.top.values term.0) == 0 then second else first) s w
end_step g edges (Return term) s w =
    returned (option_map (λ t. s.top.values t.0) term) s.below (end_regions s.store s.top.first s.top.objects) s.depth w
end_step g edges Stop s w = Undefined

abbrev pub step_from : Program → Layout → (choice : ℕ) → List Item → Walk → Outside → Run Walk (Unit {0})
step_from p layout n (i ∷ rest) s w = item_step p layout n i (record s { top = record s.top { rest = rest } }) w
step_from p layout n [] s w =
    given (slice_get p s.top.function) (λ g. given (slice_get g.blocks s.top.block) (λ b. end_step g b.edges b.end s w))

-- one step of the walk
abbrev pub step : Program → Layout → (choice : ℕ) → Walk → Outside → Run Walk (Unit {0})
step p layout n s w = step_from p layout n s.top.rest s w

-- as many steps as there are choices, one for each step; what is said of a walk holds whatever they are
abbrev pub walk : Program → Layout → (choices : List ℕ) → Walk → Outside → Run Walk (Unit {0})
walk p layout [] s w = going s w
walk p layout (n ∷ ns) s w = then_do (step p layout n s w) (λ s w done. walk p layout ns s w)

-- the walk of a program from the first call of its main function, which takes no tick, with the static objects as its store
abbrev pub walk_of_program : Program → Layout → (main depth : ℕ) → Objects → (choices : List ℕ) → Outside → Run Walk (Unit {0})
walk_of_program p layout main depth statics choices w =
    then_do (call p layout depth main [] [] statics w) (λ s w done. walk p layout choices s w)
