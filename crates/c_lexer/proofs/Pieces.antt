-- A source is taken piece by piece: what is kept and what is left give one outcome.
use Rattle.std.proofs.Common.{◌≡◌, ℕ, zero, suc, ◌-◌, ◌<◌, ◌≤◌, Bool, true, false, eqb, List, [], ◌∷◌, ◌++◌, length, take, drop, Option, Some, None, Result, Ok, Err, ⊎_elim, refl, sym, ap, ◌∙◌, subst, arith, append_assoc}
use Rattle.std.specs.Prelude.{IfOk, IfErr}
use Rattle.std.specs.Option.{option_or}
use Rattle.std.proofs.lemmas.List.{append-nil}
use Rattle.c_tree.specs.declared.token.Pos.{Pos}
use Rattle.c_tree.specs.declared.token.Tokens.{Tokens}
use Rattle.c_lexer.specs.declared.fault.LexFault.{LexFault}
use Rattle.c_lexer.specs.declared.fault.LexFault.TheVariants as fault
use Rattle.c_lexer.specs.declared.fault.LexFault.TheVariants.{BadToken}
use Rattle.c_lexer.specs.declared.lexeme.Form.{Form}
use Rattle.c_lexer.specs.declared.lexer.Reader.{Reader}
use Rattle.c_lexer.specs.declared.reading.Reading.{Reading}
use Rattle.c_lexer.specs.Features.{has_long, feature_of}
use Rattle.c_lexer.specs.Fronts.{Text, longest}
use Rattle.c_lexer.specs.Lexemes.{is_lexeme, reading_of}
use Rattle.c_lexer.specs.Tokens.{start, place_after_byte, place_after, Front, is_unclosed, front_by, front_of, Piece, piece_of, length_of, pieces_from, bad_place, first_bad, placed, first_left_out, token_of, tokens_of_pieces, outcome, tokens_of, Refuses}
use Rattle.c_lexer.specs.Scan.{gap_len, lexeme, reading_as, long_after, left_out_in, Keeps, IsFaultOf, outcome_from, Advances}
use Rattle.c_lexer.proofs.Gaps.{longest_gap}
use Rattle.c_lexer.proofs.Found.{IsToken, NoToken, Found, found_in}

-- ---- what is left of a piece is skipped

pieces_from_skip : (left : ℕ) (place : Pos) (bytes : Text) → pieces_from left place bytes ≡ pieces_from 0 (place_after place (take left bytes)) (drop left bytes)
pieces_from_skip zero place bytes = refl
pieces_from_skip (suc left) place [] = refl
pieces_from_skip (suc left) place (b ∷ bytes) = pieces_from_skip left (place_after_byte place b) bytes

pieces_rest : (n : ℕ) (place : Pos) (b : ℕ) (bytes : Text) → 0 < n
    → pieces_from (n - 1) (place_after_byte place b) bytes ≡ pieces_from 0 (place_after place (take n (b ∷ bytes))) (drop n (b ∷ bytes))
pieces_rest zero place b bytes h = absurd (omega arith)
pieces_rest (suc n) place b bytes h =
    let e : suc n - 1 ≡ n = omega arith in
    ap (λ k. pieces_from k (place_after_byte place b) bytes) e ∙ pieces_from_skip n (place_after_byte place b) bytes

-- the pieces of a text, by what stands in front
pieces_by : (place : Pos) (bytes : Text) (front : Front) → front_of (eqb place.column 1) bytes ≡ front → 0 < length_of front → 0 < length bytes
    → pieces_from 0 place bytes ≡ piece_of place bytes front ++ pieces_from 0 (place_after place (take (length_of front) bytes)) (drop (length_of front) bytes)
pieces_by place [] front e h some = absurd (omega arith)
pieces_by place (b ∷ bytes) front e h some =
    ap (λ (f : Front). piece_of place (b ∷ bytes) f ++ pieces_from (length_of f - 1) (place_after_byte place b) bytes) e
    ∙ ap (λ ps. piece_of place (b ∷ bytes) front ++ ps) (pieces_rest (length_of front) place b bytes h)

-- ---- what stands in front, by what the scanner finds

front_gap : (s : Bool) (bytes : Text) (n : ℕ) → gap_len s bytes ≡ suc n → front_of s bytes ≡ Front.Gap (suc n)
unfolding front_of
front_gap s bytes n h = ap (λ k. front_by k (is_unclosed bytes) (longest is_lexeme bytes)) (longest_gap s bytes ∙ h)

front_token_by : (n : ℕ) → 0 < n → front_by 0 false n ≡ Front.Lexeme n
front_token_by zero h = absurd (omega arith)
front_token_by (suc n) h = refl

front_token : (s : Bool) (bytes : Text) (f : Form) (n : ℕ) → gap_len s bytes ≡ 0 → IsToken bytes f n → front_of s bytes ≡ Front.Lexeme n
unfolding front_of
front_token s bytes f n h token =
    ap (λ k. front_by k (is_unclosed bytes) (longest is_lexeme bytes)) (longest_gap s bytes ∙ h)
    ∙ ap (λ u. front_by 0 u (longest is_lexeme bytes)) token.closed
    ∙ ap (λ k. front_by 0 false k) token.length_is
    ∙ front_token_by n token.some

stray_by : (unclosed : Bool) → front_by 0 unclosed 0 ≡ Front.Stray
stray_by true = refl
stray_by false = refl

front_stray : (s : Bool) (bytes : Text) → gap_len s bytes ≡ 0 → NoToken bytes → front_of s bytes ≡ Front.Stray
unfolding front_of
front_stray s bytes h none =
    ap (λ k. front_by k (is_unclosed bytes) (longest is_lexeme bytes)) (longest_gap s bytes ∙ h)
    ∙ ⊎_elim (λ (u : is_unclosed bytes ≡ true). ap (λ t. front_by 0 t (longest is_lexeme bytes)) u)
    (λ (z : longest is_lexeme bytes ≡ 0). ap (λ k. front_by 0 (is_unclosed bytes) k) z ∙ stray_by (is_unclosed bytes)) none

-- ---- the outcome, piece by piece

option_or_assoc : {A : Type 0} (a b c : Option A) → option_or a (option_or b c) ≡ option_or (option_or a b) c
option_or_assoc None b c = refl
option_or_assoc (Some x) b c = refl

option_or_none : {A : Type 0} (a : Option A) → option_or a None ≡ a
option_or_none None = refl
option_or_none (Some x) = refl

-- a gap is no piece
pub gap_same : (reader : Reader) (place : Pos) (bytes : Text) (n : ℕ) → gap_len (eqb place.column 1) bytes ≡ n → 0 < n → n ≤ length bytes → Advances reader reader place bytes n
gap_same reader place bytes zero h some within = absurd (omega arith)
gap_same reader place bytes (suc n) h some within = record {
  some = some;
  within = within;
  same = λ end. ap (λ ps. outcome_from reader ps end) (sym (pieces_by place bytes (Front.Gap (suc n)) (front_gap (eqb place.column 1) bytes n h) some (omega arith)));
}

-- where no token begins the source is refused
pub stray_outcome : (reader : Reader) (place : Pos) (bytes : Text) → gap_len (eqb place.column 1) bytes ≡ 0 → 0 < length bytes → lexeme bytes ≡ None → (end : Pos)
    → outcome_from reader (pieces_from 0 place bytes) end ≡ Err (BadToken place)
unfolding outcome_from
stray_outcome reader place bytes h some none end =
    let no : NoToken bytes = subst (Found bytes) none (found_in bytes) in
    ap (λ ps. outcome_from reader ps end) (pieces_by place bytes Front.Stray (front_stray (eqb place.column 1) bytes h no) (omega arith) some)

-- the pieces of a text with a token in front
token_pieces : (place : Pos) (bytes : Text) (f : Form) (n : ℕ) → gap_len (eqb place.column 1) bytes ≡ 0 → IsToken bytes f n
    → pieces_from 0 place bytes ≡ Piece.Lexeme place (take n bytes) ∷ pieces_from 0 (place_after place (take n bytes)) (drop n bytes)
token_pieces place bytes f n h token =
    let some = token.some in
    let within = token.within in
    pieces_by place bytes (Front.Lexeme n) (front_token (eqb place.column 1) bytes f n h token) some (omega arith)

kept_outcome : (old new : Reader) (place : Pos) (text : Text) (r : Reading) (more : List Piece) (end : Pos) → reading_of text ≡ r → Keeps old new place r → bad_place place text r ≡ None
    → outcome_from new more end ≡ outcome_from old (Piece.Lexeme place text ∷ more) end
unfolding outcome_from
kept_outcome old new place text r more end e keeps good =
    let list = keeps.list in
    let left_out = keeps.left_out in
    let after_long = keeps.after_long in
    let fold : outcome (option_or (bad_place place text r) (first_bad more)) (option_or old.left_out (option_or (placed place (feature_of old.after_long r)) (left_out_in (long_after old.after_long r) more)))
    (record { list = old.list.items ++ (token_of place r ++ tokens_of_pieces more); end = end })
    ≡ outcome (option_or (bad_place place text (reading_of text)) (first_bad more)) (option_or old.left_out (option_or (placed place (feature_of old.after_long (reading_of text))) (left_out_in (long_after old.after_long (reading_of text)) more)))
    (record { list = old.list.items ++ (token_of place (reading_of text) ++ tokens_of_pieces more); end = end })
    = ap (λ (q : Reading). outcome (option_or (bad_place place text q) (first_bad more)) (option_or old.left_out (option_or (placed place (feature_of old.after_long q)) (left_out_in (long_after old.after_long q) more)))
    (record { list = old.list.items ++ (token_of place q ++ tokens_of_pieces more); end = end })) (sym e) in
    let now : outcome (first_bad more) (option_or new.left_out (left_out_in new.after_long more)) (record { list = new.list.items ++ tokens_of_pieces more; end = end })
    ≡ outcome (first_bad more) (option_or (option_or old.left_out (placed place (feature_of old.after_long r))) (left_out_in (long_after old.after_long r) more)) (record { list = (old.list.items ++ token_of place r) ++ tokens_of_pieces more; end = end })
    = rw (list, left_out, after_long) in
    let grouped : outcome (first_bad more) (option_or (option_or old.left_out (placed place (feature_of old.after_long r))) (left_out_in (long_after old.after_long r) more)) (record { list = (old.list.items ++ token_of place r) ++ tokens_of_pieces more; end = end })
    ≡ outcome (option_or (bad_place place text r) (first_bad more)) (option_or old.left_out (option_or (placed place (feature_of old.after_long r)) (left_out_in (long_after old.after_long r) more))) (record { list = old.list.items ++ (token_of place r ++ tokens_of_pieces more); end = end })
    = rw (good, append_assoc, option_or_assoc) in
    now ∙ grouped ∙ fold

-- a token is kept
pub token_same : (old new : Reader) (place : Pos) (bytes : Text) (f : Form) (n : ℕ) → gap_len (eqb place.column 1) bytes ≡ 0 → lexeme bytes ≡ Some (f, n)
    → (r : Reading) → r ≡ reading_as f (take n bytes) → Keeps old new place r → bad_place place (take n bytes) r ≡ None → Advances old new place bytes n
token_same old new place bytes f n h found r e keeps good =
    let token : IsToken bytes f n = subst (Found bytes) found (found_in bytes) in
    record {
      some = token.some;
      within = token.within;
      same = λ end. kept_outcome old new place (take n bytes) r (pieces_from 0 (place_after place (take n bytes)) (drop n bytes)) end (token.read ∙ sym e) keeps good
          ∙ ap (λ ps. outcome_from old ps end) (sym (token_pieces place bytes f n h token));
    }

bad_first : (reader : Reader) (place at : Pos) (text : Text) (r : Reading) (more : List Piece) (end : Pos) → reading_of text ≡ r → bad_place place text r ≡ Some at
    → outcome_from reader (Piece.Lexeme place text ∷ more) end ≡ Err (BadToken at)
unfolding outcome_from
bad_first reader place at text r more end e bad = rw (e, bad)

-- a bad token refuses the source
pub bad_outcome : (reader : Reader) (place at : Pos) (bytes : Text) (f : Form) (n : ℕ) → gap_len (eqb place.column 1) bytes ≡ 0 → lexeme bytes ≡ Some (f, n)
    → (r : Reading) → r ≡ reading_as f (take n bytes) → bad_place place (take n bytes) r ≡ Some at → (end : Pos) → outcome_from reader (pieces_from 0 place bytes) end ≡ Err (BadToken at)
bad_outcome reader place at bytes f n h found r e bad end =
    let token : IsToken bytes f n = subst (Found bytes) found (found_in bytes) in
    ap (λ ps. outcome_from reader ps end) (token_pieces place bytes f n h token)
    ∙ bad_first reader place at (take n bytes) r (pieces_from 0 (place_after place (take n bytes)) (drop n bytes)) end (token.read ∙ sym e) bad

-- ---- the beginning and the end

left_out_is : (before : List Reading) (pieces : List Piece) → left_out_in (has_long before) pieces ≡ first_left_out before pieces
left_out_is before [] = refl
left_out_is before (Piece.Stray place ∷ pieces) = refl
left_out_is before (Piece.Lexeme place text ∷ pieces) =
    ap (option_or (placed place (feature_of (has_long before) (reading_of text)))) (left_out_is (reading_of text ∷ before) pieces)

pub outcome_start : (reader : Reader) (bytes : Text) → reader.list.items ≡ [] → reader.left_out ≡ None → reader.after_long ≡ false
    → outcome_from reader (pieces_from 0 start bytes) (place_after start bytes) ≡ tokens_of bytes
unfolding outcome_from tokens_of
outcome_start reader bytes list left_out after_long = rw (list, left_out, after_long, left_out_is [] (pieces_from 0 start bytes))

pub outcome_end : (reader : Reader) (end : Pos) → outcome_from reader (pieces_from 0 end []) end ≡ outcome None reader.left_out (record { list = reader.list.items; end = end })
unfolding outcome_from
outcome_end reader end = rw (append-nil, option_or_none)

-- the place at the end does not depend on where the source is cut
pub place_after_drop : (n : ℕ) (place : Pos) (bytes : Text) → place_after (place_after place (take n bytes)) (drop n bytes) ≡ place_after place bytes
place_after_drop zero place bytes = refl
place_after_drop (suc n) place [] = refl
place_after_drop (suc n) place (b ∷ bytes) = place_after_drop n (place_after_byte place b) bytes

-- a fault of a token is the outcome of the source
pub fault_outcome : (reader : Reader) (place : Pos) (bytes : Text) (f : Form) (n : ℕ) → gap_len (eqb place.column 1) bytes ≡ 0 → lexeme bytes ≡ Some (f, n)
    → (r : Reading) → r ≡ reading_as f (take n bytes) → (refused : LexFault) → IsFaultOf (bad_place place (take n bytes) r) refused → (end : Pos)
    → Refuses refused (outcome_from reader (pieces_from 0 place bytes) end)
fault_outcome reader place bytes f n h found r e fault.Memory bad end = tt
fault_outcome reader place bytes f n h found r e (fault.BadToken at) bad end = bad_outcome reader place at bytes f n h found r e bad end
fault_outcome reader place bytes f n h found r e (fault.Unsupported left_out at) bad end = absurd bad

-- ---- the loop

-- a piece is taken
pub advanced : (old new : Reader) (place next : Pos) (rest bytes : Text) (n : ℕ) → Advances old new place rest n → next ≡ place_after place (take n rest)
    → outcome_from old (pieces_from 0 place rest) (place_after place rest) ≡ tokens_of bytes
    → outcome_from new (pieces_from 0 next (drop n rest)) (place_after next (drop n rest)) ≡ tokens_of bytes
advanced old new place next rest bytes n advances e known =
    let end : Pos = place_after (place_after place (take n rest)) (drop n rest) in
    let taken : outcome_from new (pieces_from 0 (place_after place (take n rest)) (drop n rest)) (place_after (place_after place (take n rest)) (drop n rest)) ≡ tokens_of bytes =
    advances.same (place_after (place_after place (take n rest)) (drop n rest)) ∙ ap (outcome_from old (pieces_from 0 place rest)) (place_after_drop n place rest) ∙ known in
    subst (λ (p : Pos). outcome_from new (pieces_from 0 p (drop n rest)) (place_after p (drop n rest)) ≡ tokens_of bytes) (sym e) taken

-- nothing is left
pub finished : (reader : Reader) (place : Pos) (rest bytes : Text) → length rest ≡ 0 → outcome_from reader (pieces_from 0 place rest) (place_after place rest) ≡ tokens_of bytes
    → outcome None reader.left_out (record { list = reader.list.items; end = place }) ≡ tokens_of bytes
finished reader place [] bytes none known = sym (outcome_end reader place) ∙ known
finished reader place (b ∷ rest) bytes none known = absurd (omega arith)

pub ok_outcome : (result expected : Result Tokens LexFault) → result ≡ expected → IfOk result (λ tokens. expected ≡ Ok tokens)
ok_outcome (Ok tokens) expected e = sym e
ok_outcome (Err refused) expected e = tt

pub err_outcome : (result expected : Result Tokens LexFault) → result ≡ expected → IfErr result (λ refused. Refuses refused expected)
err_outcome (Ok tokens) expected e = tt
err_outcome (Err fault.Memory) expected e = tt
err_outcome (Err (fault.BadToken place)) expected e = sym e
err_outcome (Err (fault.Unsupported left_out place)) expected e = sym e
