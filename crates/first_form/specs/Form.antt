-- Sources of the first form: `putchar` may be declared, and `main` puts constants out and returns one.
use Rattle.std.specs.Prelude.{◌≡◌, ℕ, ◌≤◌, Bool, false, List, [], ◌∷◌, ◌++◌, All, codes, decimal, cond}
use Rattle.std.specs.List.{flat_map}
use Rattle.first_form.specs.Lexemes.{lexemes}

-- what a source of the first form says: whether it declares `putchar`, the constants that it puts
-- out in order, and the constant that it returns
pub record Form : Type 0 where
  pub declared : Bool
  pub puts : List ℕ
  pub status : ℕ

-- `int putchar(int);`
abbrev pub declaration : List (List ℕ)
declaration = codes "int" ∷ codes "putchar" ∷ codes "(" ∷ codes "int" ∷ codes ")" ∷ codes ";" ∷ []

-- `int main(void) {`
abbrev pub head : List (List ℕ)
head = codes "int" ∷ codes "main" ∷ codes "(" ∷ codes "void" ∷ codes ")" ∷ codes "{" ∷ []

-- `putchar(K);`, the constant in decimal digits with no leading zero
abbrev pub put_statement : ℕ → List (List ℕ)
put_statement k = codes "putchar" ∷ codes "(" ∷ decimal k ∷ codes ")" ∷ codes ";" ∷ []

-- `return K; }`
abbrev pub last_statement : ℕ → List (List ℕ)
last_statement k = codes "return" ∷ decimal k ∷ codes ";" ∷ codes "}" ∷ []

-- the lexemes of a source that says this
abbrev pub spelling : Form → List (List ℕ)
spelling f = cond f.declared declaration [] ++ (head ++ (flat_map put_statement f.puts ++ last_statement f.status))

-- these are the lexemes of a source that says this; a constant is an `int`, and `putchar` is called
-- only where it is declared
pub record Says (ts : List (List ℕ)) (f : Form) : Type 0 where
  pub spelled : ts ≡ spelling f
  pub puts_fit : All (λ k. k ≤ 2147483647) f.puts
  pub status_fits : f.status ≤ 2147483647
  pub called : f.declared ≡ false → f.puts ≡ []

-- the bytes are a source of the first form that says this
abbrev pub IsOfFirstForm : List ℕ → Form → Type 0
IsOfFirstForm bytes f = Says (lexemes bytes) f
