-- The words of a function's text and the bytes of its frame at most, and the numbers of its definition by which they are limited
-- (the profile's limits).
use Rattle.std.specs.Prelude.{ℕ, ◌+◌, ◌*◌, ◌/◌, ◌≤◌}
use Rattle.word_ops.specs.Stack.{bytes_of_objects}
use Rattle.core_lang.specs.declared.program.CoreFunction.{CoreFunction}
use Rattle.code_sizes.specs.Weights.{Weights, weight_of_function}
use Rattle.code_sizes.specs.Costs.{cost_of_function}

-- jumps counted: each has one argument of a phi for each assigned variable at most
abbrev pub jumps : Weights
jumps = record { operation = 0; load = 0; param = 0; got = 0; called = 0; store = 0; call = 0; argument = 0; get = 0; put = 0; exit = 0; jump = 1; branch = 0; return = 0; stop = 0 }

-- words of text, where each operand and each result stands in a slot whose offset takes two words, and each jump is far
abbrev pub words : Weights
words = record { operation = 11; load = 7; param = 6; got = 4; called = 4; store = 7; call = 7; argument = 6; get = 2; put = 6; exit = 6; jump = 2; branch = 8; return = 10; stop = 2 }

-- words of the frame: a slot for each term that is made, and one for each argument of a call
abbrev pub slots : Weights
slots = record { operation = 1; load = 1; param = 1; got = 1; called = 1; store = 0; call = 0; argument = 1; get = 0; put = 0; exit = 0; jump = 0; branch = 0; return = 0; stop = 0 }

-- the text of a function with so many arguments of phis: its acts, six words at its entry, and twelve words for each argument
abbrev pub text_words : CoreFunction → (arguments : ℕ) → ℕ
text_words g arguments = 6 + weight_of_function words g + 12 * arguments

-- the words of its frame that hold no object: the return address, its terms, its phis, and one for each argument of the edge that
-- has the most
abbrev pub frame_words : CoreFunction → (phis most : ℕ) → ℕ
frame_words g phis most = 1 + weight_of_function slots g + phis + most

-- the bytes of its frame, a multiple of 8
abbrev pub frame_bytes : CoreFunction → (phis most : ℕ) → ℕ
frame_bytes g phis most = (4 * frame_words g phis most + 7) / 8 * 8 + bytes_of_objects g.locals

-- how acts are counted by the tokens of the function's definition, the bytes of its automatic objects with an initialiser, and
-- the variables that it assigns
pub record IsCounted (g : CoreFunction) (tokens initialised variables : ℕ) : Type 0 where
  pub cost : cost_of_function g ≤ 4 * (tokens + 1) + 4 * initialised
  pub jumps : weight_of_function jumps g ≤ 3 * (tokens + 1)

-- the size of a function, in which its limits are stated
abbrev pub size_of : (tokens initialised variables : ℕ) → ℕ
size_of tokens initialised variables = (tokens + 1) * (variables + 1) + initialised
