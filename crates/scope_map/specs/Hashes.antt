-- The hash of a key.
use Rattle.std.specs.Prelude.{ℕ, List, fold}
use Rattle.std.specs.Hash.FoldHasher as folding

-- the number that the writes of a key's `Hash` make
unfoldable pub hash_of : List (List ℕ) → ℕ
hash_of input = folding.finish (fold folding.write folding.initial input)
