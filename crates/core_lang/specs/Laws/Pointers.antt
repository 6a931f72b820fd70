-- Laws of operations on pointers: each is an operation on values.
-- No contract cites this file: it holds proofs.
use Rattle.std.proofs.Common.{◌≡◌}
use Rattle.std.specs.Prelude.{Some}
use Rattle.word_ops.specs.Store.{Value, Store}
use Rattle.word_ops.specs.Values.{value_of_operation}
use Rattle.word_ops.specs.Addresses.{IsValueIn}
use Rattle.word_ops.specs.Laws.Values.{moved_pointer-operation, pointer_difference-operation, equal_pointers-operation, pointer_before-operation, pointer_at_most-operation}
use Rattle.word_ops.specs.Laws.Words.{operation-in}
use Rattle.core_lang.specs.declared.act.PointerOp.{PointerOp}
use Rattle.core_lang.specs.declared.act.PointerOp.TheVariants.{Offset, Difference, Equal, Before, AtMost}
use Rattle.core_lang.specs.Acts.{value_of_pointers, operation_of}

pub pointers-operation : (s : Store) (op : PointerOp) (x y v : Value) → value_of_pointers s op x y ≡ Some v →
    value_of_operation s (operation_of op) x y ≡ Some v
pointers-operation s Offset x y v e = moved_pointer-operation s x y v e
pointers-operation s Difference x y v e = pointer_difference-operation s x y v e
pointers-operation s Equal x y v e = equal_pointers-operation s x y v e
pointers-operation s Before x y v e = pointer_before-operation s x y v e
pointers-operation s AtMost x y v e = pointer_at_most-operation s x y v e

-- so its value is one of the store
pub pointers-in : (s : Store) (op : PointerOp) (x y v : Value) → IsValueIn s x → IsValueIn s y →
    value_of_pointers s op x y ≡ Some v → IsValueIn s v
pointers-in s op x y v h k e = operation-in s (operation_of op) x y v h k (pointers-operation s op x y v e)
