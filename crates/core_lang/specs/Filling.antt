-- How an object is filled by stores: words from its beginning on, and a half word and a byte where these are left.
use Rattle.std.specs.Prelude.{ℕ, ◌+◌, ◌/◌, ◌%◌, List, [], ◌∷◌, ◌++◌, replicate, Option, Some}
use Rattle.std.specs.Option.{option_and_then}
use Rattle.word_ops.specs.declared.operation.Width.{Width}
use Rattle.word_ops.specs.declared.operation.Width.TheVariants.{U8, U16, Word}
use Rattle.word_ops.specs.Store.{Number, Pointer, Store}
use Rattle.word_ops.specs.Access.{bytes_of, write}

-- the widths of the stores that fill an object of a size
abbrev pub widths_of_fill : (size : ℕ) → List Width
widths_of_fill size = replicate (size / 4) Word ++ (replicate (size % 4 / 2) U16 ++ replicate (size % 2) U8)

-- the store after zeros of these widths were stored one behind the other, from an offset of a region on
abbrev pub store_zeros : Store → (region offset : ℕ) → List Width → Option Store
store_zeros s r o [] = Some s
store_zeros s r o (k ∷ ks) = option_and_then (λ t. store_zeros t r (o + bytes_of k) ks) (write s k (Pointer r o) (Number 0))
