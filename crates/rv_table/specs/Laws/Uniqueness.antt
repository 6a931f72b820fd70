-- At most one row matches a word: a test over all pairs of rows, and what follows of each pair.
-- It holds proofs: no contract cites it, and the clauses of `decode` say what they come to.
use Rattle.std.proofs.Common.{◌≡◌, ℕ, ◌^◌, ◌<◌, refl, sym, ◌∙◌, ap, Bool, true, false}
use Rattle.std.specs.Prelude.{bit_and, Option, Some, None, find, slice_get, ◌==◌, ◌||◌, ◌&&◌, not, nat_lt}
use Rattle.std.specs.List.{list_all}
use Rattle.std.proofs.lemmas.Nat.{and_assoc, and_comm}
use Rattle.std.proofs.lemmas.Bool.Decides.{Decides-eqb, Decides-ltb}
use denote.Enum.Declared.{tag_of}
use denote.Enum.Bare.{tag_one}
use Rattle.rv_table.specs.contracts.row.Row.{the_type}
use Rattle.rv_table.specs.declared.row.Row.{Row}
use Rattle.rv_table.specs.declared.row.Row.TheVariants.{Lui, Auipc, Jal, Jalr, Beq, Bne, Blt, Bge, Bltu, Bgeu, Lb, Lh, Lw, Lbu, Lhu, Sb, Sh, Sw, Addi, Slti, Sltiu, Xori, Ori, Andi, Slli, Srli, Srai, Add, Sub, Sll, Slt, Sltu, Xor, Srl, Sra, Or, And, Mul, Mulh, Mulhsu, Mulhu, Div, Divu, Rem, Remu, Fence, Ecall, Ebreak}
use Rattle.rv_table.specs.Table.{format, mask, mask_of, pattern, rows, Matches, matches}
use Rattle.rv_table.specs.Instruction.{row_of}
use Rattle.rv_table.specs.Laws.Formats.{IsPattern}
use Rattle.rv_table.specs.Laws.Search.{and_left, and_right, list_all-at, find-passes, find-none, find-nowhere}

-- the place of a row among the rows
abbrev pub number : Row → ℕ
number r = tag_of the_type r

-- each row is among the rows
pub listed : (r : Row) → slice_get rows (number r) ≡ Some r
listed Lui = refl
listed Auipc = refl
listed Jal = refl
listed Jalr = refl
listed Beq = refl
listed Bne = refl
listed Blt = refl
listed Bge = refl
listed Bltu = refl
listed Bgeu = refl
listed Lb = refl
listed Lh = refl
listed Lw = refl
listed Lbu = refl
listed Lhu = refl
listed Sb = refl
listed Sh = refl
listed Sw = refl
listed Addi = refl
listed Slti = refl
listed Sltiu = refl
listed Xori = refl
listed Ori = refl
listed Andi = refl
listed Slli = refl
listed Srli = refl
listed Srai = refl
listed Add = refl
listed Sub = refl
listed Sll = refl
listed Slt = refl
listed Sltu = refl
listed Xor = refl
listed Srl = refl
listed Sra = refl
listed Or = refl
listed And = refl
listed Mul = refl
listed Mulh = refl
listed Mulhsu = refl
listed Mulhu = refl
listed Div = refl
listed Divu = refl
listed Rem = refl
listed Remu = refl
listed Fence = refl
listed Ecall = refl
listed Ebreak = refl

-- a pattern has only bits of its mask
abbrev is_pattern : Row → Bool
is_pattern r = bit_and (pattern r) (mask r) == pattern r && nat_lt (pattern r) (2 ^ 32)

all_patterns : list_all is_pattern rows ≡ true
all_patterns = refl

pub pattern_of : (r : Row) → IsPattern (format r) (pattern r)
pattern_of r =
    let both : is_pattern r ≡ true = list_all-at is_pattern rows (number r) r all_patterns (listed r) in
    record {
      masked = (Decides-eqb (bit_and (pattern r) (mask r)) (pattern r)).0 (and_left _ _ both);
      word = (Decides-ltb (pattern r) (2 ^ 32)).0 (and_right _ _ both);
    }

-- what two rows both fix differs, or they are one row
abbrev apart : Row → Row → Bool
apart r q = not (bit_and (pattern r) (mask q) == bit_and (pattern q) (mask r)) || (number r == number q)

all_apart : list_all (λ r. list_all (apart r) rows) rows ≡ true
all_apart = refl

or_cases : (a b : Bool) → (not a || b) ≡ true → a ≡ true → b ≡ true
or_cases true b h e = h
or_cases false b h e = cc

pub matched : (w : ℕ) (r : Row) → matches w r ≡ true → Matches w r
matched w r h = (Decides-eqb (bit_and w (mask r)) (pattern r)).0 h

pub matching : (w : ℕ) (r : Row) → Matches w r → matches w r ≡ true
matching w r h = (Decides-eqb (bit_and w (mask r)) (pattern r)).1 h

pub unique : (w : ℕ) (r q : Row) → Matches w r → Matches w q → r ≡ q
unique w r q a b =
    let one : bit_and (pattern r) (mask q) ≡ bit_and w (bit_and (mask r) (mask q)) = ap (λ x. bit_and x (mask q)) (sym a) ∙ and_assoc (mask q) w (mask r) in
    let two : bit_and (pattern q) (mask r) ≡ bit_and w (bit_and (mask q) (mask r)) = ap (λ x. bit_and x (mask r)) (sym b) ∙ and_assoc (mask r) w (mask q) in
    let meet : bit_and (pattern r) (mask q) ≡ bit_and (pattern q) (mask r) = one ∙ ap (bit_and w) (and_comm (mask r) (mask q)) ∙ sym two in
    let row : list_all (apart r) rows ≡ true = list_all-at (λ x. list_all (apart x) rows) rows (number r) r all_apart (listed r) in
    let pair : apart r q ≡ true = list_all-at (apart r) rows (number q) q row (listed q) in
    let equal : (number r == number q) ≡ true = or_cases (bit_and (pattern r) (mask q) == bit_and (pattern q) (mask r)) (number r == number q) pair ((Decides-eqb (bit_and (pattern r) (mask q)) (bit_and (pattern q) (mask r))).1 meet) in
    tag_one the_type tt r q ((Decides-eqb (number r) (number q)).0 equal)

-- the row that matches is the one found
found : (w : ℕ) (r : Row) (o : Option Row) → find (matches w) rows ≡ o → Matches w r → o ≡ Some r
found w r None e h =
    let a : matches w r ≡ false = find-none (matches w) rows (number r) r e (listed r) in
    let b : matches w r ≡ true = matching w r h in
    cc
found w r (Some q) e h = ap Some (unique w q r (matched w q (find-passes (matches w) rows q e)) h)

pub row_of-matches : (w : ℕ) (r : Row) → Matches w r → row_of w ≡ Some r
unfolding row_of
row_of-matches w r h = found w r (find (matches w) rows) refl h

pub matches-row_of : (w : ℕ) (r : Row) → row_of w ≡ Some r → Matches w r
unfolding row_of
matches-row_of w r e = matched w r (find-passes (matches w) rows r e)

undecided : (b : Bool) → (b ≡ true → ⊥) → b ≡ false
undecided true h = absurd (h refl)
undecided false h = refl

pub row_of-none : (w : ℕ) → ((r : Row) → ¬ Matches w r) → row_of w ≡ None
unfolding row_of
row_of-none w h = find-nowhere (matches w) rows (λ r. undecided (matches w r) (λ t. h r (matched w r t)))
