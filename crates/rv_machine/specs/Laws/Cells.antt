-- Laws of cells as numbers in a machine's memory: what a store of a value puts there are its cells' bytes, and a load of
-- cells that stand there gives their value's word. They are proofs: a contract cites none of them but `cell_laws`.
use Rattle.std.proofs.Common.{◌≡◌, sym, ap, ◌∙◌, ℕ, suc, ◌+◌, ◌*◌, ◌≤◌, ◌<◌, List, [], ◌∷◌, length, subst, arith}
use Rattle.std.proofs.lemmas.Nat.{mod-pow-add}
use Rattle.std.proofs.Math.Nat.{mod-mod}
use Rattle.std.specs.Prelude.{Some, ◌/◌, ◌%◌, ◌^◌}
use Rattle.word_ops.specs.declared.operation.Width.{Width}
use Rattle.word_ops.specs.Store.{Value, Store, Cell}
use Rattle.word_ops.specs.Access.{bytes_of, narrowed_to, encode, decode}
use Rattle.word_ops.specs.Addresses.{word_of_value, byte_of_cell, IsByte, HasCells}
use Rattle.word_ops.specs.Laws.Accesses.{length-encode}
use Rattle.word_ops.specs.Laws.Bytes.{HasCells-encode, decode-HasCells}
use Rattle.rv_machine.specs.Bytes.{number_in, with_number}
use Rattle.rv_machine.specs.Laws.Bytes.{number_in-with_number}

low_byte : (n m q r : ℕ) → n % 2 ^ 8 + q * 2 ^ 8 ≡ m % 2 ^ 8 + r * 2 ^ 8 → (n % 256 ≡ m % 256) × (q ≡ r)
low_byte n m q r e = (omega (arith, e), omega (arith, e))

split : (n count : ℕ) → n % 2 ^ (8 * suc count) ≡ n % 2 ^ 8 + n / 2 ^ 8 % 2 ^ (8 * count) * 2 ^ 8
split n count =
    let more : 8 * suc count ≡ 8 * count + 8 = omega arith in
    ap (λ j. n % 2 ^ j) more ∙ mod-pow-add n (8 * count) 8 ∙ exchanged (n / 2 ^ 8 % 2 ^ (8 * count) * 2 ^ 8) (n % 2 ^ 8)
  where
    exchanged : (a b : ℕ) → a + b ≡ b + a
    exchanged a b = omega arith

-- cells see as many low bytes of a number as they are
pub HasCells-low : (s : Store) (cs : List Cell) (n m : ℕ) → n % 2 ^ (8 * length cs) ≡ m % 2 ^ (8 * length cs) → HasCells s cs n → HasCells s cs m
HasCells-low s [] n m e h = tt
HasCells-low s (c ∷ cs) n m e h =
    let both = low_byte n m (n / 2 ^ 8 % 2 ^ (8 * length cs)) (m / 2 ^ 8 % 2 ^ (8 * length cs)) (sym (split n (length cs)) ∙ e ∙ split m (length cs)) in
    (subst (IsByte (byte_of_cell s c)) both.0 h.0, HasCells-low s cs (n / 256) (m / 256) both.1 h.1)

-- where the word of a value was put, the machine has the bytes of its cells
pub HasCells-stored : (s : Store) (w : Width) (v : Value) (cs : List Cell) (bytes : List ℕ) (k : ℕ) → encode w v ≡ Some cs → k + bytes_of w ≤ length bytes → HasCells s cs (number_in (bytes_of w) (with_number (bytes_of w) (word_of_value s v) bytes k) k)
HasCells-stored s w v cs bytes k e room =
    let word : ℕ = word_of_value s v in
    let put : number_in (bytes_of w) (with_number (bytes_of w) word bytes k) k ≡ word % 2 ^ (8 * bytes_of w) = number_in-with_number (bytes_of w) word bytes k room in
    let size : 2 ^ (8 * length cs) ≡ 2 ^ (8 * bytes_of w) = ap (λ n. 2 ^ (8 * n)) (length-encode w v cs e) in
    let low : word % 2 ^ (8 * length cs) ≡ number_in (bytes_of w) (with_number (bytes_of w) word bytes k) k % 2 ^ (8 * length cs) =
    ap (λ p. word % p) size ∙ sym (mod-mod word (2 ^ (8 * bytes_of w))) ∙ ap (λ n. n % 2 ^ (8 * bytes_of w)) (sym put) ∙ ap (λ p. number_in (bytes_of w) (with_number (bytes_of w) word bytes k) k % p) (sym size) in
    HasCells-low s cs word (number_in (bytes_of w) (with_number (bytes_of w) word bytes k) k) low (HasCells-encode s w v cs e)

-- and where it has them, a load of the width gives the word of the value
pub HasCells-loaded : (s : Store) (w : Width) (v : Value) (cs : List Cell) (bytes : List ℕ) (k : ℕ) → length cs ≡ bytes_of w → word_of_value s v < 2 ^ 32 → HasCells s cs (number_in (bytes_of w) bytes k) → decode w cs ≡ Some v → narrowed_to w (number_in (bytes_of w) bytes k) ≡ word_of_value s v
HasCells-loaded s w v cs bytes k l b h e = decode-HasCells s w cs (number_in (bytes_of w) bytes k) v l b h e
