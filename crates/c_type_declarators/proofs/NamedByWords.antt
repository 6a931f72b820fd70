-- Words as a sign, a kind and `int` name the type that the table gives them (C11 6.7.2p2).
-- The answer of `named_by_words` cites it.
use Rattle.std.proofs.Common.{◌≡◌, ◌∙◌, ℕ, ◌+◌, ◌≤◌, Bool, true, false, ◌&&◌, ◌||◌, nat_lt, List, [], ◌∷◌, ◌++◌, Option, Some, None, refl, ap, arith}
use Rattle.std.proofs.Math.Path.{fun_ext}
use Rattle.std.specs.Prelude.{◌==◌, cond, find, if◌then◌else◌}
use Rattle.std.proofs.lemmas.Grind.{common_steps}
use Rattle.std.specs.List.{list_all, list_any}
use Rattle.std.specs.Option.{option_map, option_and_then}
use Rattle.c_tree.specs.declared.specifier.TypeWord.{TypeWord}
use Rattle.c_tree.specs.declared.specifier.TypeWord.TheVariants as word
use Rattle.c_tree.specs.declared.typed.operator.Sign.{Sign}
use Rattle.c_tree.specs.declared.typed.operator.Sign.TheVariants as sign
use Rattle.c_tree.specs.declared.typed.types.Base.{Base}
use Rattle.c_type_declarators.specs.declared.words.Kind.{Kind}
use Rattle.c_type_declarators.specs.declared.words.Kind.TheVariants as kind
use Rattle.c_type_declarators.specs.declared.words.Words.{Words}
use Rattle.c_typing.specs.Declarators.{all_words, word_table, occurrences, same_word, same_words, named_by_words}
use Rattle.c_type_declarators.specs.Words.{no_words, with_kind, with_sign, with_int, read_words, base_of}

-- ---- only how often each word stands matters

abbrev named_by : (TypeWord → ℕ) → Option Base
named_by count = option_map (λ row. row.1) (find (λ row. list_all (λ w. occurrences w row.0 == count w) all_words) word_table)

named-by-counts : (vs ws : List TypeWord) → ((w : TypeWord) → occurrences w vs ≡ occurrences w ws) → named_by_words vs ≡ named_by_words ws
named-by-counts vs ws same = ap named_by (fun_ext same)

occurrences-append : (w : TypeWord) (vs ws : List TypeWord) → occurrences w (vs ++ ws) ≡ occurrences w vs + occurrences w ws
occurrences-append w [] ws = omega arith
occurrences-append w (v ∷ vs) ws =
    elim (same_word v w) as (λ b. (if b then occurrences w (vs ++ ws) + 1 else occurrences w (vs ++ ws)) ≡ (if b then occurrences w vs + 1 else occurrences w vs) + occurrences w ws) [
      | true ↦ omega (arith, occurrences-append w vs ws)
      | false ↦ occurrences-append w vs ws
    ]

-- ---- words that stand in no row of the table together

-- some word stands more often than in a row
abbrev exceeds : List TypeWord → List TypeWord → List TypeWord → Bool
exceeds us row xs = list_any (λ w. nat_lt (occurrences w row) (occurrences w xs)) us

abbrev exceed_all : List (List TypeWord × Base) → List TypeWord → Bool
exceed_all rows xs = list_all (λ row. exceeds all_words row.0 xs) rows

differ : (r x z : ℕ) (more rest : Bool) → x ≤ z → (nat_lt r x || more) ≡ true → (more ≡ true → rest ≡ false) → ((r == z) && rest) ≡ false
differ r x z more rest within some after = grind (arith, common_steps)

not-same : (us row xs zs : List TypeWord) → ((w : TypeWord) → occurrences w xs ≤ occurrences w zs) → exceeds us row xs ≡ true →
    list_all (λ w. occurrences w row == occurrences w zs) us ≡ false
not-same [] row xs zs within more = cc
not-same (u ∷ us) row xs zs within more =
    differ (occurrences u row) (occurrences u xs) (occurrences u zs) (exceeds us row xs) (list_all (λ w. occurrences w row == occurrences w zs) us)
    (within u) more (not-same us row xs zs within)

left_true : (a b : Bool) → (a && b) ≡ true → a ≡ true
left_true true b both = refl
left_true false b both = both

right_true : (a b : Bool) → (a && b) ≡ true → b ≡ true
right_true true b both = both
right_true false b both = cc

none-found : {A : Type 0} (test : Bool) (x : A) (rest : Option A) → test ≡ false → rest ≡ None → cond test (Some x) rest ≡ None
none-found test x rest is after = rw is after

in-no-row : (rows : List (List TypeWord × Base)) (xs zs : List TypeWord) → ((w : TypeWord) → occurrences w xs ≤ occurrences w zs) →
    exceed_all rows xs ≡ true → find (λ row. same_words row.0 zs) rows ≡ None
in-no-row [] xs zs within more = refl
in-no-row (row ∷ rows) xs zs within more =
    none-found (same_words row.0 zs) row (find (λ row. same_words row.0 zs) rows)
    (not-same all_words row.0 xs zs within (left_true (exceeds all_words row.0 xs) (exceed_all rows xs) more))
    (in-no-row rows xs zs within (right_true (exceeds all_words row.0 xs) (exceed_all rows xs) more))

names-none : (xs zs : List TypeWord) → ((w : TypeWord) → occurrences w xs ≤ occurrences w zs) → exceed_all word_table xs ≡ true →
    named_by_words zs ≡ None
names-none xs zs within more = ap (option_map (λ row. row.1)) (in-no-row word_table xs zs within more)

-- ---- a sign, a kind and `int` as words

abbrev sign_word : Sign → TypeWord
sign_word sign.Signed = word.Signed
sign_word sign.Unsigned = word.Unsigned

abbrev kind_word : Kind → TypeWord
kind_word kind.Void = word.Void
kind_word kind.Bool = word.Bool
kind_word kind.Char = word.Char
kind_word kind.Short = word.Short
kind_word kind.Long = word.Long

abbrev sign_words : Option Sign → List TypeWord
sign_words None = []
sign_words (Some s) = sign_word s ∷ []

abbrev kind_words : Option Kind → List TypeWord
kind_words None = []
kind_words (Some k) = kind_word k ∷ []

abbrev int_words : Bool → List TypeWord
int_words true = word.Int ∷ []
int_words false = []

-- these words, and others behind them
abbrev spelled : Words → List TypeWord → List TypeWord
spelled s ws = sign_words s.sign ++ (kind_words s.kind ++ (int_words s.int ++ ws))

occurrences-spelled : (w : TypeWord) (s : Words) (ws : List TypeWord) →
    occurrences w (spelled s ws) ≡
    occurrences w (sign_words s.sign) + (occurrences w (kind_words s.kind) + (occurrences w (int_words s.int) + occurrences w ws))
occurrences-spelled w s ws =
    rw (occurrences-append w (sign_words s.sign), occurrences-append w (kind_words s.kind), occurrences-append w (int_words s.int)) refl

-- ---- one word more

abbrev Reads : Words → List TypeWord → Type 0
Reads s ws = named_by_words (spelled s ws) ≡ option_and_then base_of (read_words s ws)

kinds-exceed : (j k : Kind) → exceed_all word_table (kind_word j ∷ kind_word k ∷ []) ≡ true
kinds-exceed kind.Void k = elim k as (λ k. exceed_all word_table (word.Void ∷ kind_word k ∷ []) ≡ true) [ kind.Void ↦ refl | kind.Bool ↦ refl | kind.Char ↦ refl | kind.Short ↦ refl | kind.Long ↦ refl ]
kinds-exceed kind.Bool k = elim k as (λ k. exceed_all word_table (word.Bool ∷ kind_word k ∷ []) ≡ true) [ kind.Void ↦ refl | kind.Bool ↦ refl | kind.Char ↦ refl | kind.Short ↦ refl | kind.Long ↦ refl ]
kinds-exceed kind.Char k = elim k as (λ k. exceed_all word_table (word.Char ∷ kind_word k ∷ []) ≡ true) [ kind.Void ↦ refl | kind.Bool ↦ refl | kind.Char ↦ refl | kind.Short ↦ refl | kind.Long ↦ refl ]
kinds-exceed kind.Short k = elim k as (λ k. exceed_all word_table (word.Short ∷ kind_word k ∷ []) ≡ true) [ kind.Void ↦ refl | kind.Bool ↦ refl | kind.Char ↦ refl | kind.Short ↦ refl | kind.Long ↦ refl ]
kinds-exceed kind.Long k = elim k as (λ k. exceed_all word_table (word.Long ∷ kind_word k ∷ []) ≡ true) [ kind.Void ↦ refl | kind.Bool ↦ refl | kind.Char ↦ refl | kind.Short ↦ refl | kind.Long ↦ refl ]

signs-exceed : (s t : Sign) → exceed_all word_table (sign_word s ∷ sign_word t ∷ []) ≡ true
signs-exceed sign.Signed t = elim t as (λ t. exceed_all word_table (word.Signed ∷ sign_word t ∷ []) ≡ true) [ sign.Signed ↦ refl | sign.Unsigned ↦ refl ]
signs-exceed sign.Unsigned t = elim t as (λ t. exceed_all word_table (word.Unsigned ∷ sign_word t ∷ []) ≡ true) [ sign.Signed ↦ refl | sign.Unsigned ↦ refl ]

ints-exceed : exceed_all word_table (word.Int ∷ word.Int ∷ []) ≡ true
ints-exceed = refl

reads-kind : (j : Kind) (o : Option Sign) (k : Option Kind) (i : Bool) (ws : List TypeWord) →
    ((m : Option Kind) → Reads (record { sign = o; kind = m; int = i }) ws) →
    named_by_words (spelled (record { sign = o; kind = k; int = i }) (kind_word j ∷ ws)) ≡
    option_and_then base_of (option_and_then (λ us. read_words us ws) (with_kind (record { sign = o; kind = k; int = i }) j))
reads-kind j o None i ws rest =
    let s : Words = record { sign = o; kind = None; int = i } in
    let t : Words = record { sign = o; kind = Some j; int = i } in
    named-by-counts (spelled s (kind_word j ∷ ws)) (spelled t ws) (λ w.
    let more = occurrences-append w (kind_word j ∷ []) ws in
    omega (arith, occurrences-spelled w s (kind_word j ∷ ws), occurrences-spelled w t ws, more))
    ∙ rest (Some j)
reads-kind j o (Some k) i ws rest =
    let s : Words = record { sign = o; kind = Some k; int = i } in
    names-none (kind_word k ∷ kind_word j ∷ []) (spelled s (kind_word j ∷ ws)) (λ w.
    omega (arith, occurrences-spelled w s (kind_word j ∷ ws), occurrences-append w (kind_word j ∷ []) ws, occurrences-append w (kind_word k ∷ []) (kind_word j ∷ [])))
    (kinds-exceed k j)

reads-sign : (u : Sign) (o : Option Sign) (k : Option Kind) (i : Bool) (ws : List TypeWord) →
    ((m : Option Sign) → Reads (record { sign = m; kind = k; int = i }) ws) →
    named_by_words (spelled (record { sign = o; kind = k; int = i }) (sign_word u ∷ ws)) ≡
    option_and_then base_of (option_and_then (λ us. read_words us ws) (with_sign (record { sign = o; kind = k; int = i }) u))
reads-sign u None k i ws rest =
    let s : Words = record { sign = None; kind = k; int = i } in
    let t : Words = record { sign = Some u; kind = k; int = i } in
    named-by-counts (spelled s (sign_word u ∷ ws)) (spelled t ws) (λ w.
    omega (arith, occurrences-spelled w s (sign_word u ∷ ws), occurrences-spelled w t ws, occurrences-append w (sign_word u ∷ []) ws))
    ∙ rest (Some u)
reads-sign u (Some o) k i ws rest =
    let s : Words = record { sign = Some o; kind = k; int = i } in
    names-none (sign_word o ∷ sign_word u ∷ []) (spelled s (sign_word u ∷ ws)) (λ w.
    omega (arith, occurrences-spelled w s (sign_word u ∷ ws), occurrences-append w (sign_word u ∷ []) ws, occurrences-append w (sign_word o ∷ []) (sign_word u ∷ [])))
    (signs-exceed o u)

reads-int : (o : Option Sign) (k : Option Kind) (i : Bool) (ws : List TypeWord) →
    ((m : Bool) → Reads (record { sign = o; kind = k; int = m }) ws) →
    named_by_words (spelled (record { sign = o; kind = k; int = i }) (word.Int ∷ ws)) ≡
    option_and_then base_of (option_and_then (λ us. read_words us ws) (with_int (record { sign = o; kind = k; int = i })))
reads-int o k false ws rest =
    let s : Words = record { sign = o; kind = k; int = false } in
    let t : Words = record { sign = o; kind = k; int = true } in
    named-by-counts (spelled s (word.Int ∷ ws)) (spelled t ws) (λ w.
    omega (arith, occurrences-spelled w s (word.Int ∷ ws), occurrences-spelled w t ws, occurrences-append w (word.Int ∷ []) ws))
    ∙ rest true
reads-int o k true ws rest =
    let s : Words = record { sign = o; kind = k; int = true } in
    names-none (word.Int ∷ word.Int ∷ []) (spelled s (word.Int ∷ ws)) (λ w.
    omega (arith, occurrences-spelled w s (word.Int ∷ ws), occurrences-append w (word.Int ∷ []) ws, occurrences-append w (word.Int ∷ []) (word.Int ∷ [])))
    ints-exceed

each-kind : (P : Option Kind → Type 0) → P None → P (Some kind.Void) → P (Some kind.Bool) → P (Some kind.Char) → P (Some kind.Short) → P (Some kind.Long) →
    (k : Option Kind) → P k
each-kind P n v b c s l None = n
each-kind P n v b c s l (Some kind.Void) = v
each-kind P n v b c s l (Some kind.Bool) = b
each-kind P n v b c s l (Some kind.Char) = c
each-kind P n v b c s l (Some kind.Short) = s
each-kind P n v b c s l (Some kind.Long) = l

reads-none : (o : Option Sign) (k : Option Kind) (i : Bool) → Reads (record { sign = o; kind = k; int = i }) []
reads-none None k false = each-kind (λ k. Reads (record { sign = None; kind = k; int = false }) []) refl refl refl refl refl refl k
reads-none None k true = each-kind (λ k. Reads (record { sign = None; kind = k; int = true }) []) refl refl refl refl refl refl k
reads-none (Some sign.Signed) k false = each-kind (λ k. Reads (record { sign = Some sign.Signed; kind = k; int = false }) []) refl refl refl refl refl refl k
reads-none (Some sign.Signed) k true = each-kind (λ k. Reads (record { sign = Some sign.Signed; kind = k; int = true }) []) refl refl refl refl refl refl k
reads-none (Some sign.Unsigned) k false = each-kind (λ k. Reads (record { sign = Some sign.Unsigned; kind = k; int = false }) []) refl refl refl refl refl refl k
reads-none (Some sign.Unsigned) k true = each-kind (λ k. Reads (record { sign = Some sign.Unsigned; kind = k; int = true }) []) refl refl refl refl refl refl k

reads : (o : Option Sign) (k : Option Kind) (i : Bool) (ws : List TypeWord) → Reads (record { sign = o; kind = k; int = i }) ws
reads o k i [] = reads-none o k i
reads o k i (word.Void ∷ ws) = reads-kind kind.Void o k i ws (λ m. reads o m i ws)
reads o k i (word.Char ∷ ws) = reads-kind kind.Char o k i ws (λ m. reads o m i ws)
reads o k i (word.Short ∷ ws) = reads-kind kind.Short o k i ws (λ m. reads o m i ws)
reads o k i (word.Int ∷ ws) = reads-int o k i ws (λ m. reads o k m ws)
reads o k i (word.Long ∷ ws) = reads-kind kind.Long o k i ws (λ m. reads o m i ws)
reads o k i (word.Signed ∷ ws) = reads-sign sign.Signed o k i ws (λ m. reads m k i ws)
reads o k i (word.Unsigned ∷ ws) = reads-sign sign.Unsigned o k i ws (λ m. reads m k i ws)
reads o k i (word.Bool ∷ ws) = reads-kind kind.Bool o k i ws (λ m. reads o m i ws)

pub named-by-read : (ws : List TypeWord) → named_by_words ws ≡ option_and_then base_of (read_words no_words ws)
named-by-read ws = reads None None false ws
