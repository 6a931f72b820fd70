-- Words and instructions undo each other.
-- It holds proofs: no contract cites it, and the clauses of `decode` say what they come to.
use Rattle.std.proofs.Common.{◌≡◌, ℕ, ◌+◌, ◌^◌, ◌<◌, refl, sym, ◌∙◌, ap, subst}
use Rattle.std.specs.Prelude.{Option, Some, None, ◌↔◌, IfSome, IsNone}
use Rattle.std.specs.Option.{option_map}
use Rattle.rv_table.specs.declared.row.Row.{Row}
use Rattle.rv_table.specs.declared.instruction.Instr.{Instr}
use Rattle.rv_table.specs.Table.{format, pattern, Matches}
use Rattle.rv_table.specs.Fields.{operands, Fits}
use Rattle.rv_table.specs.Instruction.{Valid, encode_of, row_of, read, decode_of}
use Rattle.rv_table.specs.Laws.Formats.{mask-operands, read_as-operands, operands-read_as, read_as-registers, read_as-row}
use Rattle.rv_table.specs.Laws.Uniqueness.{pattern_of, row_of-matches, matches-row_of, row_of-none}

-- the word of an instruction is decoded as that instruction
pub decode_of-encode_of : (i : Instr) → Valid i → decode_of (encode_of i) ≡ Some i
decode_of-encode_of i v =
    let m = mask-operands (format i.row) (pattern i.row) i (pattern_of i.row) v.rd v.rs1 v.rs2 v.fits in
    let r : row_of (encode_of i) ≡ Some i.row = row_of-matches (encode_of i) i.row m.0 in
    let s : read (encode_of i) i.row ≡ i = read_as-operands (format i.row) (pattern i.row) i (pattern_of i.row) v.rd v.rs1 v.rs2 v.fits in
    rw r (ap Some s)

-- a word of a row is read as a valid instruction, whose word it is
read_valid : (w : ℕ) (r : Row) → w < 2 ^ 32 → Matches w r → Valid (read w r) × (encode_of (read w r) ≡ w)
read_valid w r h m =
    let b = operands-read_as (format r) (pattern r) w r h m in
    let s = read_as-registers (format r) r w in
    let e : (read w r).row ≡ r = read_as-row (format r) r w in
    let P : Row → Type 0 = λ q. Fits (format q) (read w r) in
    let Q : Row → Type 0 = λ q. pattern q + operands (format q) (read w r) ≡ w in
    (record { rd = s.0; rs1 = s.1; rs2 = s.2; fits = subst P (sym e) b.1 }, subst Q (sym e) b.0)

decoded : (w : ℕ) (i : Instr) (o : Option Row) → w < 2 ^ 32 → row_of w ≡ o → option_map (read w) o ≡ Some i → Valid i × (encode_of i ≡ w)
decoded w i None h e d = absurd cc
decoded w i (Some r) h e d =
    let is : read w r ≡ i = cc in
    let P : Instr → Type 0 = λ j. Valid j × (encode_of j ≡ w) in
    subst P is (read_valid w r h (matches-row_of w r e))

-- what a word is decoded as is valid, and has that word
pub decode_of-valid : (w : ℕ) (i : Instr) → w < 2 ^ 32 → decode_of w ≡ Some i → Valid i × (encode_of i ≡ w)
decode_of-valid w i h d = decoded w i (row_of w) h refl d

none_matches : (w : ℕ) (r : Row) → decode_of w ≡ None → ¬ Matches w r
none_matches w r d h =
    let e : row_of w ≡ Some r = row_of-matches w r h in
    let s : option_map (read w) (Some r) ≡ None = ap (option_map (read w)) (sym e) ∙ d in
    cc

matches_none : (w : ℕ) → ((r : Row) → ¬ Matches w r) → decode_of w ≡ None
matches_none w h = ap (option_map (read w)) (row_of-none w h)

-- the same of what `decode` answered
pub found : (w : ℕ) (o : Option Instr) → w < 2 ^ 32 → o ≡ decode_of w → IfSome o (λ i. Valid i × (encode_of i ≡ w))
found w None h e = tt
found w (Some i) h e = decode_of-valid w i h (sym e)

pub none : (w : ℕ) (o : Option Instr) → o ≡ decode_of w → IsNone o ↔ ((r : Row) → ¬ Matches w r)
none w None e = (λ n r. none_matches w r (sym e), λ h. refl)
none w (Some i) e = (λ n. absurd cc, λ h. let d : decode_of w ≡ None = matches_none w h in absurd cc)

pub again : (w : ℕ) (o : Option Instr) → o ≡ decode_of w → (i : Instr) → Valid i → encode_of i ≡ w → o ≡ Some i
again w o e i v h = e ∙ ap decode_of (sym h) ∙ decode_of-encode_of i v
