-- What acts do.
use Rattle.std.specs.Prelude.{ℕ, zero, suc, ◌+◌, List, [], ◌∷◌, Option, Some, None}
use Rattle.word_ops.specs.declared.operation.Op.{Op}
use Rattle.word_ops.specs.declared.operation.Op.TheVariants.{Add, Sub, Eq, Ltu, Leu}
use Rattle.word_ops.specs.Store.{Value, Number, Pointer, Unset, Byte, Store, refill_region}
use Rattle.word_ops.specs.Access.{load, write}
use Rattle.word_ops.specs.Values.{value_of_operation, truth, moved_pointer, pointer_difference, equal_pointers, pointer_before, pointer_at_most}
use Rattle.word_ops.specs.Run.{Outside, Run, Gives, Undefined, then_do, given, branch, tick, Turn, Again, Over, loop, put_byte, get_byte, exit_with}
use Rattle.core_lang.specs.declared.act.PointerOp.{PointerOp}
use Rattle.core_lang.specs.declared.act.PointerOp.TheVariants.{Offset, Difference, Equal, Before, AtMost}
use Rattle.core_lang.specs.declared.act.Core.{Core, Row_of-Core, end_of-Core, more_of-Core}
use Rattle.core_lang.specs.declared.act.Core.TheVariants as c
use Rattle.core_lang.specs.State.{State, Activation, value_of_atom, value_of_option, values_of_atoms, assigned}
use Rattle.core_lang.specs.Copying.{copied}

-- ---- what is called, and how acts end

-- a call: the number of the function, the arguments, where the free part of the stack ends, and the store
pub record Invocation : Type 0 where
  pub function : ℕ
  pub arguments : List Value
  pub stack : ℕ
  pub store : Store

-- what calls do. A call knows nothing of its caller's variables, so its state is the store alone; it gives the value that
-- the function gave back, where it gave one
abbrev pub Calls : Type 0
Calls = Invocation → Outside → Run Store (Option Value)

-- how acts end where they give a state: they went through; they leave so many blocks and loops further out, behind the one
-- that they stand in; or the function gives back
pub data Flow : Type 0 where
  Falls : Flow
  Leaves : (outer : ℕ) → Flow
  Returned : (value : Option Value) → Flow

-- what acts do, from a state and a moment on
abbrev pub Does : Type 0
Does = State → Outside → Run State Flow

-- ---- the parts of acts

-- assigns a value where there is one
abbrev pub assign : ℕ → Option Value → Does
assign x v s w = given v (λ v. Gives (assigned s x v) w Falls)

-- assigns the value that a call gave where one is wanted: that it gave none is then undefined (C11 6.9.1p12)
abbrev pub assign_result : Option ℕ → Option Value → Does
assign_result None v s w = Gives s w Falls
assign_result (Some x) v s w = assign x v s w

-- goes on with another store where there is one
abbrev pub with_store : Option Store → Does
with_store t s w = given t (λ t. Gives (record s { store = t }) w Falls)

-- what an operation on pointers gives (C11 6.5.6, 6.5.8, 6.5.9)
abbrev pub value_of_pointers : Store → PointerOp → Value → Value → Option Value
value_of_pointers s Offset x y = moved_pointer s x y
value_of_pointers s Difference x y = pointer_difference s x y
value_of_pointers s Equal x y = equal_pointers s x y
value_of_pointers s Before x y = pointer_before s x y
value_of_pointers s AtMost x y = pointer_at_most s x y

-- the operation on values that an operation on pointers is, where it is defined
abbrev pub operation_of : PointerOp → Op
operation_of Offset = Add
operation_of Difference = Sub
operation_of Equal = Eq
operation_of Before = Ltu
operation_of AtMost = Leu

-- only a number is put out, and only a number is a status
abbrev pub put_value : Value → Does
put_value (Number n) s w = put_byte n w (λ w. Gives s w Falls)
put_value (Pointer r o) s w = Undefined

abbrev pub exit_value : Value → Does
exit_value (Number n) s w = exit_with n w
exit_value (Pointer r o) s w = Undefined

-- goes on behind acts that went through
abbrev pub behind : Flow → Does → Does
behind Falls go s w = go s w
behind (Leaves k) go s w = Gives s w (Leaves k)
behind (Returned v) go s w = Gives s w (Returned v)

-- one after another
abbrev pub in_turn : Does → Does → Does
in_turn first second s w = then_do (first s w) (λ s w f. behind f second s w)

-- how a block ends by how the acts in it end: a break that ends here has left it
abbrev pub out_of_block : Flow → Flow
out_of_block Falls = Falls
out_of_block (Leaves zero) = Falls
out_of_block (Leaves (suc k)) = Leaves k
out_of_block (Returned v) = Returned v

abbrev pub as_block : Does → Does
as_block go s w = then_do (go s w) (λ s w f. Gives s w (out_of_block f))

-- how an iteration ends: where it went through there is another one
abbrev pub out_of_turn : Flow → Turn Flow
out_of_turn Falls = Again
out_of_turn (Leaves zero) = Over Falls
out_of_turn (Leaves (suc k)) = Over (Leaves k)
out_of_turn (Returned v) = Over (Returned v)

abbrev pub turn_of : Does → State → Outside → Run State (Turn Flow)
turn_of go s w = then_do (go s w) (λ s w f. Gives s w (out_of_turn f))

abbrev pub as_loop : Does → Does
as_loop go s w = loop (turn_of go) s w

-- one of two ways by the truth of a value
abbrev pub by_truth : Value → (first second : Does) → Does
by_truth v first second s w = given (truth s.store v) (λ b. branch b first second s w)

-- ---- acts

abbrev mutual
  -- what an act does, told from what calls do
  pub act : Calls → Activation → Core → Does
  act call e (c.Move x v) s w = Gives (assigned s x (value_of_atom e s v)) w Falls
  act call e (c.Operate x op u v) s w =
      assign x (value_of_operation s.store op (value_of_atom e s u) (value_of_atom e s v)) s w
  act call e (c.Pointer x op u v) s w =
      assign x (value_of_pointers s.store op (value_of_atom e s u) (value_of_atom e s v)) s w
  act call e (c.Load x k p) s w = assign x (load s.store k (value_of_atom e s p)) s w
  act call e (c.Store k p v) s w = with_store (write s.store k (value_of_atom e s p) (value_of_atom e s v)) s w
  act call e (c.Enter x) s w = Gives (record s { store = refill_region s.store (e.first + x) Unset }) w Falls
  act call e (c.Fill x) s w = Gives (record s { store = refill_region s.store (e.first + x) (Byte 0) }) w Falls
  act call e (c.Copy u v size alignment) s w =
      with_store (copied s.store (value_of_atom e s u) (value_of_atom e s v) size alignment) s w
  act call e (c.Call x f vs) s w =
      tick w (λ w. then_do (call (record { function = f; arguments = values_of_atoms e s vs; stack = e.stack; store = s.store }) w) (λ t w v. assign_result x v (record s { store = t }) w))
  act call e (c.Get x) s w = get_byte w (λ n w. Gives (assigned s x (Number n)) w Falls)
  act call e (c.Put v) s w = put_value (value_of_atom e s v) s w
  act call e (c.Exit v) s w = exit_value (value_of_atom e s v) s w
  act call e (c.Block' n all) s w = as_block (row call e all) s w
  act call e (c.Loop' n all) s w = as_loop (row call e all) s w
  act call e (c.Break k) s w = Gives s w (Leaves k)
  act call e (c.If' v n first m second) s w =
      by_truth (value_of_atom e s v) (row call e first) (row call e second) s w
  act call e (c.Return v) s w = Gives s w (Returned (value_of_option e s v))

  -- what the acts of a list that stands in an act do
  pub row : Calls → Activation → {n : _} → Row_of-Core n → Does
  row call e end_of-Core s w = Gives s w Falls
  row call e (more_of-Core a rest) s w = in_turn (act call e a) (row call e rest) s w

-- what acts do one after another
abbrev pub acts : Calls → Activation → List Core → Does
acts call e [] s w = Gives s w Falls
acts call e (a ∷ rest) s w = in_turn (act call e a) (acts call e rest) s w
