-- Words and slots of acts by what they cost, and the limits that follow.
-- No contract cites this file: it holds proofs.
use Rattle.std.proofs.Common.{ℕ, ◌+◌, ◌*◌, ◌/◌, ◌≤◌, List, [], ◌∷◌, Option, Some, None, arith}
use Rattle.std.proofs.Math.Nat.{mul-le-mul_right}
use Rattle.word_ops.specs.Stack.{bytes_of_objects}
use Rattle.core_lang.specs.declared.act.Core.{Core, Row_of-Core, end_of-Core, more_of-Core}
use Rattle.core_lang.specs.declared.act.Core.TheVariants as c
use Rattle.core_lang.specs.declared.program.CoreFunction.{CoreFunction}
use Rattle.code_sizes.specs.Weights.{weight_of_result, weight_of_act, weight_of_row, weight_of_acts, weight_of_function}
use Rattle.code_sizes.specs.Costs.{cost_of_act, cost_of_row, cost_of_acts, cost_of_function}
use Rattle.code_sizes.specs.Sizes.{IsCounted, size_of, jumps, words, slots, text_words, frame_words, frame_bytes}

-- ---- fourteen words of text for each act

result_words : (x : Option ℕ) → weight_of_result words x ≤ 4
result_words None = omega arith
result_words (Some x) = omega arith

abbrev mutual
  words_of_act : (ls : List ℕ) (a : Core) → weight_of_act words ls a ≤ 14 * cost_of_act ls a
  words_of_act ls (c.Move x v) = omega arith
  words_of_act ls (c.Operate x op u v) = omega arith
  words_of_act ls (c.Pointer x op u v) = omega arith
  words_of_act ls (c.Load x k p) = omega arith
  words_of_act ls (c.Store k p v) = omega arith
  words_of_act ls (c.Enter x) = omega arith
  words_of_act ls (c.Fill x) = omega arith
  words_of_act ls (c.Copy u v size alignment) = omega arith
  words_of_act ls (c.Call x f vs) = let r = result_words x in omega (arith, r)
  words_of_act ls (c.Get x) = omega arith
  words_of_act ls (c.Put v) = omega arith
  words_of_act ls (c.Exit v) = omega arith
  words_of_act ls (c.Block' n all) = let h = words_of_row ls all in omega (arith, h)
  words_of_act ls (c.Loop' n all) = let h = words_of_row ls all in omega (arith, h)
  words_of_act ls (c.Break k) = omega arith
  words_of_act ls (c.If' v n first m second) = let h = words_of_row ls first in let k = words_of_row ls second in omega (arith, h, k)
  words_of_act ls (c.Return v) = omega arith

  words_of_row : (ls : List ℕ) {n : _} (r : Row_of-Core n) → weight_of_row words ls r ≤ 14 * cost_of_row ls r
  words_of_row ls end_of-Core = omega arith
  words_of_row ls (more_of-Core a rest) = let h = words_of_act ls a in let k = words_of_row ls rest in omega (arith, h, k)

words_of_acts : (ls : List ℕ) (xs : List Core) → weight_of_acts words ls xs ≤ 14 * cost_of_acts ls xs
words_of_acts ls [] = omega arith
words_of_acts ls (a ∷ rest) = let h = words_of_act ls a in let k = words_of_acts ls rest in omega (arith, h, k)

-- ---- one slot for each act

result_slots : (x : Option ℕ) → weight_of_result slots x ≤ 1
result_slots None = omega arith
result_slots (Some x) = omega arith

abbrev mutual
  slots_of_act : (ls : List ℕ) (a : Core) → weight_of_act slots ls a ≤ cost_of_act ls a
  slots_of_act ls (c.Move x v) = omega arith
  slots_of_act ls (c.Operate x op u v) = omega arith
  slots_of_act ls (c.Pointer x op u v) = omega arith
  slots_of_act ls (c.Load x k p) = omega arith
  slots_of_act ls (c.Store k p v) = omega arith
  slots_of_act ls (c.Enter x) = omega arith
  slots_of_act ls (c.Fill x) = omega arith
  slots_of_act ls (c.Copy u v size alignment) = omega arith
  slots_of_act ls (c.Call x f vs) = let r = result_slots x in omega (arith, r)
  slots_of_act ls (c.Get x) = omega arith
  slots_of_act ls (c.Put v) = omega arith
  slots_of_act ls (c.Exit v) = omega arith
  slots_of_act ls (c.Block' n all) = let h = slots_of_row ls all in omega (arith, h)
  slots_of_act ls (c.Loop' n all) = let h = slots_of_row ls all in omega (arith, h)
  slots_of_act ls (c.Break k) = omega arith
  slots_of_act ls (c.If' v n first m second) = let h = slots_of_row ls first in let k = slots_of_row ls second in omega (arith, h, k)
  slots_of_act ls (c.Return v) = omega arith

  slots_of_row : (ls : List ℕ) {n : _} (r : Row_of-Core n) → weight_of_row slots ls r ≤ cost_of_row ls r
  slots_of_row ls end_of-Core = omega arith
  slots_of_row ls (more_of-Core a rest) = let h = slots_of_act ls a in let k = slots_of_row ls rest in omega (arith, h, k)

slots_of_acts : (ls : List ℕ) (xs : List Core) → weight_of_acts slots ls xs ≤ cost_of_acts ls xs
slots_of_acts ls [] = omega arith
slots_of_acts ls (a ∷ rest) = let h = slots_of_act ls a in let k = slots_of_acts ls rest in omega (arith, h, k)

-- ---- functions

-- the entry and the last return are sixteen words: one act, and two words more
words_of_function : (g : CoreFunction) → 6 + weight_of_function words g ≤ 14 * cost_of_function g + 2
words_of_function g = let h = words_of_acts g.locals g.body in omega (arith, h)

slots_of_function : (g : CoreFunction) → 1 + weight_of_function slots g ≤ cost_of_function g
slots_of_function g = let h = slots_of_acts g.locals g.body in omega (arith, h)

-- arguments of phis, or phis, by tokens and variables
arguments_of : (j n v p : ℕ) → j ≤ 3 * (n + 1) → p ≤ j * v → p ≤ 3 * ((n + 1) * v)
arguments_of j n v p h e = let m = mul-le-mul_right v h in omega (arith, m, e)

pub text_fits : (g : CoreFunction) (n b v p : ℕ) → IsCounted g n b v → p ≤ weight_of_function jumps g * v →
    text_words g p + 4 * (n + 1) ≤ 64 * size_of n b v
text_fits g n b v p c e =
    let w = words_of_function g in let a = arguments_of (weight_of_function jumps g) n v p c.jumps e in let k = c.cost in omega (arith, w, a, k)

-- the words of the frame that hold no object
pub words_fit : (g : CoreFunction) (n b v p m : ℕ) → IsCounted g n b v → p ≤ weight_of_function jumps g * v → m ≤ v →
    frame_words g p m ≤ 4 * size_of n b v
words_fit g n b v p m c e f =
    let w = slots_of_function g in let a = arguments_of (weight_of_function jumps g) n v p c.jumps e in let k = c.cost in omega (arith, w, a, k, f)

pub frame_fits : (g : CoreFunction) (n b v p m : ℕ) → IsCounted g n b v → p ≤ weight_of_function jumps g * v → m ≤ v →
    frame_bytes g p m ≤ 16 * size_of n b v + bytes_of_objects g.locals
frame_fits g n b v p m c e f = rounded (frame_words g p m) (size_of n b v) (bytes_of_objects g.locals) (words_fit g n b v p m c e f)
  where
    rounded : (w s o : ℕ) → w ≤ 4 * s → (4 * w + 7) / 8 * 8 + o ≤ 16 * s + o
    rounded w s o h = omega (arith, h)
