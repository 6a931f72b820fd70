-- Examples, each computed from the definitions.
use Rattle.std.specs.Prelude.{◌≡◌, ℕ, zero, suc, ◌-◌, ◌^◌, ◌==◌, Bool, true, false, pos, negsuc, [], ◌∷◌, Option, Some, None}
use Rattle.std.proofs.Common.{refl}
use Rattle.std.specs.Option.{option_and_then}
use Rattle.word_ops.specs.declared.operation.Op.TheVariants.{Add, Adds, Subs, Muls, Divs, Rems, Divu, Shl, Shls, Shru, Shrs, Lts, Ltu, And, Sext8, Zext8}
use Rattle.word_ops.specs.declared.operation.Width.TheVariants.{U8, S8, U16, S16, Word}
use Rattle.word_ops.specs.Operation.{word_of_operation, machine_word}
use Rattle.word_ops.specs.Store.{Value, Number, Pointer, Unset, Byte, Part, Store, new_region, unset_cells, zero_cells, end_region, refill_region}
use Rattle.word_ops.specs.Access.{load, load_integer, load_pointer, write, initialise, copy}
use Rattle.word_ops.specs.Values.{value_of_operation, truth, moved_pointer, pointer_difference, equal_pointers, pointer_before, pointer_plus, pointer_minus}
use Rattle.word_ops.specs.Run.{Outside, Exit, Deep, More, Run, Gives, then_do, loop, Turn, Again, Over, nested, tick, put_byte, get_byte, end_of_main}
use Rattle.word_ops.specs.Outcome.{Outcome, outcome_of, start}

-- ---- words

-- -2147483647 - 1 is the least int; one less is undefined, and -2^31 divided by -1 too
pub least : word_of_operation Subs (2 ^ 32 - (2 ^ 31 - 1)) 1 ≡ Some (2 ^ 31)
least = refl

pub below_least : word_of_operation Subs (2 ^ 31) 1 ≡ None
below_least = refl

pub least_over_minus_one : word_of_operation Divs (2 ^ 31) (2 ^ 32 - 1) ≡ None
least_over_minus_one = refl

pub machine_least_over_minus_one : machine_word Divs (2 ^ 31) (2 ^ 32 - 1) ≡ 2 ^ 31
machine_least_over_minus_one = refl

pub over_zero : word_of_operation Divu 7 0 ≡ None
over_zero = refl

-- -7 divided by 2 is -3, and the remainder -1
pub toward_zero : word_of_operation Divs (2 ^ 32 - 7) 2 ≡ Some (2 ^ 32 - 3)
toward_zero = refl

pub sign_of_dividend : word_of_operation Rems (2 ^ 32 - 7) 2 ≡ Some (2 ^ 32 - 1)
sign_of_dividend = refl

-- unsigned sums wrap, signed ones do not
pub unsigned_wraps : word_of_operation Add (2 ^ 32 - 1) 1 ≡ Some 0
unsigned_wraps = refl

pub signed_overflows : word_of_operation Adds (2 ^ 31 - 1) 1 ≡ None
signed_overflows = refl

pub product_overflows : word_of_operation Muls 46341 46341 ≡ None
product_overflows = refl

-- shifts
pub shift_to_the_top : word_of_operation Shl 1 31 ≡ Some (2 ^ 31)
shift_to_the_top = refl

pub signed_shift_to_the_top : word_of_operation Shls 1 31 ≡ None
signed_shift_to_the_top = refl

pub shift_too_far : word_of_operation Shl 1 32 ≡ None
shift_too_far = refl

pub shift_brings_sign : word_of_operation Shrs (2 ^ 31) 31 ≡ Some (2 ^ 32 - 1)
shift_brings_sign = refl

pub shift_brings_zeros : word_of_operation Shru (2 ^ 31) 31 ≡ Some 1
shift_brings_zeros = refl

-- -1 is below 0 as signed and above it as unsigned
pub signed_order : word_of_operation Lts (2 ^ 32 - 1) 0 ≡ Some 1
signed_order = refl

pub unsigned_order : word_of_operation Ltu (2 ^ 32 - 1) 0 ≡ Some 0
unsigned_order = refl

-- signed char s = 200 is -56; unsigned char c = 300 is 44
pub signed_char : word_of_operation Sext8 200 0 ≡ Some (2 ^ 32 - 56)
signed_char = refl

pub unsigned_char : word_of_operation Zext8 300 0 ≡ Some 44
unsigned_char = refl

-- ---- objects: 0 and 1 have 8 bytes each and lie 8 bytes apart, 2 is the string "hi", and the lifetime of 3 is over

abbrev objects : Store
objects = new_region false 64 (unset_cells 8) ∷ new_region false 80 (zero_cells 8) ∷ new_region true 96 (Byte 104 ∷ Byte 105 ∷ Byte 0 ∷ []) ∷ record { live = false; constant = false; address = 112; cells = zero_cells 4 } ∷ []

-- the store after the first object has the number 0x01020304, and a pointer to the last place of the second one
abbrev with_number : Store
with_number = record { live = true; constant = false; address = 64; cells = Byte 4 ∷ Byte 3 ∷ Byte 2 ∷ Byte 1 ∷ unset_cells 4 } ∷ new_region false 80 (zero_cells 8) ∷ new_region true 96 (Byte 104 ∷ Byte 105 ∷ Byte 0 ∷ []) ∷ record { live = false; constant = false; address = 112; cells = zero_cells 4 } ∷ []

abbrev with_pointer : Store
with_pointer = record { live = true; constant = false; address = 64; cells = Part 0 1 8 ∷ Part 1 1 8 ∷ Part 2 1 8 ∷ Part 3 1 8 ∷ unset_cells 4 } ∷ new_region false 80 (zero_cells 8) ∷ new_region true 96 (Byte 104 ∷ Byte 105 ∷ Byte 0 ∷ []) ∷ record { live = false; constant = false; address = 112; cells = zero_cells 4 } ∷ []

-- little-endian stores, and loads of each width
pub write_word : write objects Word (Pointer 0 0) (Number 0x01020304) ≡ Some with_number
write_word = refl

pub load_word : load with_number Word (Pointer 0 0) ≡ Some (Number 0x01020304)
load_word = refl

pub load_byte : load with_number U8 (Pointer 0 1) ≡ Some (Number 3)
load_byte = refl

pub load_half : load with_number U16 (Pointer 0 2) ≡ Some (Number 0x0102)
load_half = refl

pub load_negative : option_and_then (λ s. load s S8 (Pointer 1 3)) (write objects U8 (Pointer 1 3) (Number 200)) ≡ Some (Number (2 ^ 32 - 56))
load_negative = refl

pub load_negative_half : option_and_then (λ s. load s S16 (Pointer 1 2)) (write objects S16 (Pointer 1 2) (Number (2 ^ 32 - 2))) ≡ Some (Number (2 ^ 32 - 2))
load_negative_half = refl

-- undefined: not aligned, not inside, through the null pointer, past the lifetime, Unset in part, padding
pub unaligned : load with_number Word (Pointer 0 2) ≡ None
unaligned = refl

pub unaligned_half : load with_number U16 (Pointer 0 1) ≡ None
unaligned_half = refl

pub out_of_bounds : load objects Word (Pointer 1 8) ≡ None
out_of_bounds = refl

pub through_null : load objects U8 (Number 0) ≡ None
through_null = refl

pub after_lifetime : load objects U8 (Pointer 3 0) ≡ None
after_lifetime = refl

pub after_end : load (end_region with_number 0) Word (Pointer 0 0) ≡ None
after_end = refl

pub new_entry : load (refill_region with_number 0 Unset) Word (Pointer 0 0) ≡ None
new_entry = refl

pub unset_in_part : load with_number U8 (Pointer 0 4) ≡ None
unset_in_part = refl

-- a string literal is read and not written; an initialiser writes an object of const type
pub read_constant : load objects U8 (Pointer 2 0) ≡ Some (Number 104)
read_constant = refl

pub write_constant : write objects U8 (Pointer 2 0) (Number 72) ≡ None
write_constant = refl

pub initialise_constant : option_and_then (λ s. load s U8 (Pointer 2 0)) (initialise objects U8 (Pointer 2 0) (Number 72)) ≡ Some (Number 72)
initialise_constant = refl

-- a pointer is stored as four parts, and only the whole of it is read
pub write_pointer : write objects Word (Pointer 0 0) (Pointer 1 8) ≡ Some with_pointer
write_pointer = refl

pub read_pointer : load_pointer with_pointer (Pointer 0 0) ≡ Some (Pointer 1 8)
read_pointer = refl

pub read_pointer_as_integer : load_integer with_pointer Word (Pointer 0 0) ≡ None
read_pointer_as_integer = refl

pub read_part : load with_pointer U8 (Pointer 0 0) ≡ None
read_part = refl

pub narrow_pointer : write objects U16 (Pointer 0 0) (Pointer 1 0) ≡ None
narrow_pointer = refl

pub part_overwritten : option_and_then (λ s. load s Word (Pointer 0 0)) (write with_pointer U8 (Pointer 0 2) (Number 0)) ≡ None
part_overwritten = refl

-- four zero bytes are the null pointer, other bytes are none
pub null_pointer : load_pointer objects (Pointer 1 4) ≡ Some (Number 0)
null_pointer = refl

pub no_pointer : load_pointer with_number (Pointer 0 0) ≡ None
no_pointer = refl

-- copies take cells as they are
pub copied : option_and_then (λ s. load s Word (Pointer 1 0)) (copy with_pointer (Pointer 1 0) (Pointer 0 0) 8 4) ≡ Some (Pointer 1 8)
copied = refl

pub copied_unset : option_and_then (λ s. load s Word (Pointer 1 4)) (copy with_pointer (Pointer 1 0) (Pointer 0 0) 8 4) ≡ None
copied_unset = refl

-- ---- pointers

-- one past the end, and no further; back to the start, and no further
pub one_past_the_end : moved_pointer objects (Pointer 0 0) (Number 8) ≡ Some (Pointer 0 8)
one_past_the_end = refl

pub too_far : moved_pointer objects (Pointer 0 0) (Number 9) ≡ None
too_far = refl

pub back : moved_pointer objects (Pointer 0 8) (Number (2 ^ 32 - 8)) ≡ Some (Pointer 0 0)
back = refl

pub too_far_back : moved_pointer objects (Pointer 0 4) (Number (2 ^ 32 - 8)) ≡ None
too_far_back = refl

-- as an integer 2^32 - 8 is too far, as -8 it leads back
pub far_forward : pointer_plus objects (Pointer 0 8) (pos (2 ^ 32 - 8)) ≡ None
far_forward = refl

pub eight_back : pointer_plus objects (Pointer 0 8) (negsuc 7) ≡ Some (Pointer 0 0)
eight_back = refl

pub eight_apart : pointer_minus objects (Pointer 0 0) (Pointer 0 8) ≡ Some (negsuc 7)
eight_apart = refl

pub null_does_not_move : moved_pointer objects (Number 0) (Number 0) ≡ None
null_does_not_move = refl

-- one past the end of an object is not its neighbour
pub neighbours : equal_pointers objects (Pointer 0 8) (Pointer 1 0) ≡ Some (Number 0)
neighbours = refl

pub same_place : equal_pointers objects (Pointer 0 4) (Pointer 0 4) ≡ Some (Number 1)
same_place = refl

pub not_null : equal_pointers objects (Pointer 0 0) (Number 0) ≡ Some (Number 0)
not_null = refl

pub two_nulls : equal_pointers objects (Number 0) (Number 0) ≡ Some (Number 1)
two_nulls = refl

pub dead_is_not_compared : equal_pointers objects (Pointer 3 0) (Number 0) ≡ None
dead_is_not_compared = refl

pub difference : pointer_difference objects (Pointer 0 8) (Pointer 0 2) ≡ Some (Number 6)
difference = refl

pub negative_difference : pointer_difference objects (Pointer 0 2) (Pointer 0 8) ≡ Some (Number (2 ^ 32 - 6))
negative_difference = refl

pub no_difference : pointer_difference objects (Pointer 1 0) (Pointer 0 0) ≡ None
no_difference = refl

pub before : pointer_before objects (Pointer 0 2) (Pointer 0 8) ≡ Some (Number 1)
before = refl

pub no_order : pointer_before objects (Pointer 0 0) (Pointer 1 0) ≡ None
no_order = refl

pub no_bits : value_of_operation objects And (Pointer 0 0) (Number 1) ≡ None
no_bits = refl

pub true_pointer : truth objects (Pointer 0 8) ≡ Some true
true_pointer = refl

pub dead_has_no_truth : truth objects (Pointer 3 0) ≡ None
dead_has_no_truth = refl

-- ---- runs

-- puts what it gets until the input ends, then returns 300
abbrev pub echoed : Bool → ℕ → ℕ → Outside → Run ℕ (Turn ℕ)
echoed true b s w = Gives s w (Over s)
echoed false b s w = put_byte b w (λ w. Gives s w Again)

abbrev pub echo : Outside → Run ℕ (Option Value)
echo w = then_do (loop (λ s w. get_byte w (λ b w. echoed (b == 2 ^ 32 - 1) b s w)) 0 w) (λ s w d. Gives s w (Some (Number 300)))

abbrev echo_outcome : ℕ → Option Outcome
echo_outcome clock = outcome_of (97 ∷ 98 ∷ []) clock (end_of_main (echo (start (97 ∷ 98 ∷ []) clock)))

-- a tick for each byte got, for each byte put, for the end of the input, and before each iteration but the first
pub echo_ends : echo_outcome 7 ≡ Some (record { end = Exit 44; output = 97 ∷ 98 ∷ []; ticks = 7; taken = 2 })
echo_ends = refl

pub echo_longer : echo_outcome 1000 ≡ echo_outcome 7
echo_longer = refl

-- a byte is put before the tick that follows it
pub echo_stops : echo_outcome 1 ≡ Some (record { end = More; output = 97 ∷ []; ticks = 1; taken = 1 })
echo_stops = refl

pub echo_stops_later : echo_outcome 4 ≡ Some (record { end = More; output = 97 ∷ 98 ∷ []; ticks = 4; taken = 2 })
echo_stops_later = refl

-- a function that calls itself n times
abbrev counted : (ℕ → Outside → Run ℕ (Option Value)) → ℕ → Outside → Run ℕ (Option Value)
counted call zero w = Gives 0 w None
counted call (suc n) w = tick w (λ w. call n w)

-- its first call has depth 1, so 2 calls in it need depth 3
pub deep_enough : outcome_of [] 9 (end_of_main (nested counted 3 2 (start [] 9))) ≡ Some (record { end = Exit 0; output = []; ticks = 2; taken = 0 })
deep_enough = refl

pub too_deep : outcome_of [] 9 (end_of_main (nested counted 2 2 (start [] 9))) ≡ Some (record { end = Deep; output = []; ticks = 2; taken = 0 })
too_deep = refl
