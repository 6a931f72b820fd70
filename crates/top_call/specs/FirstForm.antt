-- What a source of the first form puts out.
use Rattle.std.specs.Prelude.{ℕ, ◌%◌, List, map}

-- the bytes that are put out for constants
abbrev pub bytes_of : List ℕ → List ℕ
bytes_of puts = map (λ k. k % 256) puts
