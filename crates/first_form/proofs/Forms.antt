-- Sources of the first form by their statements.
use Rattle.std.specs.Prelude.{◌*◌}
use Rattle.std.proofs.Common.{◌≡◌, ◌≢◌, ◌≤◌, ◌<◌, ℕ, Bool, true, false, cond, List, [], ◌∷◌, ◌++◌, length, take, drop, get_or, map, All, codes, decimal, refl, sym, ap, subst, suc, Result, Ok, Err, Some, IsErrAnd, IfErr, ◌∙◌, arith, append_assoc, append-nil}
use Rattle.std.proofs.lemmas.List.{append_cancel_left, map-append, take-append-drop}
use Rattle.std.proofs.Math.Seq.{drop-cons}
use Rattle.std.proofs.lemmas.List.Elements.{recursion_from_All}
use Rattle.std.proofs.lemmas.Fmt.{decimal_is_IsNumeral, IsAscii-decimal, parse-decimal}
use Rattle.std.proofs.lemmas.Str.{IsUtf8-from_ascii}
use Rattle.std.specs.Str.{IsUtf8}
use Rattle.std.specs.Str.Parse.{digits_value, ParsesUnsigned}
use Rattle.std.specs.List.{AllByRecursion, flat_map}
use Rattle.std.specs.Result.{result_ok}
use Rattle.first_form.specs.declared.form.Stop.{Stop}
use Rattle.first_form.specs.declared.form.Stop.TheVariants as stop
use Rattle.first_form.specs.Refused.{Unfits}
use Rattle.first_form.specs.Lexemes.{lexemes}
use Rattle.first_form.proofs.Lexemes.{lexemes_few}
use Rattle.first_form.specs.Form.{Form, Says, declaration, head, last_statement, put_statement}

-- why reading stopped, in other words
pub unfits_so : {P Q : Type 0} (s : Stop) → (P → Q) → Unfits s P → Unfits s Q
unfits_so stop.Unfit f h = f h
unfits_so stop.Memory f h = tt

-- decimal digits are text
pub decimal_utf8 : (n : ℕ) → n ≤ 2147483647 → IsUtf8 (decimal n)
decimal_utf8 n h = IsUtf8-from_ascii (decimal n) (IsAscii-decimal n (omega arith))

-- a text that spells a number is read as that number
pub parsed_decimal : {E : Type 0} (n : ℕ) (bs : List ℕ) (r : Result ℕ E) → n ≤ 2147483647 → bs ≡ decimal n → ParsesUnsigned 32 10 bs r → result_ok r ≡ Some n
parsed_decimal n bs r h e p = ap result_ok (parse-decimal 32 n bs r (omega arith) (omega arith) e p)

-- an error that came through a `?`
pub if_err_so : {T E : Type 0} (r : Result T E) (e : E) (P : E → Type 0) → IsErrAnd r (λ x. x ≡ e) → P e → IfErr r P
if_err_so (Ok v) e P h p = tt
if_err_so (Err x) e P h p = subst P (sym h) p

-- a list that goes another way at one place is no longer list with what stands there
pub other_word : {A B : Type 0} (f : A → B) (words : List A) (i : ℕ) (d : A) (old now ts : List B) → i < length words → old ≡ map f (take i words) ++ now → ((us : List B) → now ≢ f (get_or words i d) ∷ us) → old ≢ map f words ++ ts
other_word f words i d old now ts inside so_far other e =
    let split : words ≡ take i words ++ (get_or words i d ∷ drop (suc i) words) = sym (take-append-drop i words) ∙ ap (λ l. take i words ++ l) (drop-cons words i d inside) in
    let spread : map f words ≡ map f (take i words) ++ (f (get_or words i d) ∷ map f (drop (suc i) words)) = ap (map f) split ∙ map-append f (take i words) (get_or words i d ∷ drop (suc i) words) in
    let joined : map f (take i words) ++ now ≡ map f (take i words) ++ (f (get_or words i d) ∷ (map f (drop (suc i) words) ++ ts)) = sym so_far ∙ e ∙ ap (λ l. l ++ ts) spread ∙ append_assoc (map f (take i words)) (f (get_or words i d) ∷ map f (drop (suc i) words)) ts in
    other (map f (drop (suc i) words) ++ ts) (append_cancel_left (map f (take i words)) _ _ joined)

-- the first byte of the first lexeme
abbrev first_byte : List (List ℕ) → ℕ
first_byte [] = 0
first_byte ([] ∷ ts) = 0
first_byte ((b ∷ bs) ∷ ts) = b

-- `p` is not `r`, and `p` is not `m`
not_same : ◌≡◌ {A = ℕ} 112 114 → ⊥
not_same h = omega arith

not_main : ◌≡◌ {A = ℕ} 112 109 → ⊥
not_main h = omega arith

-- a constant that is an `int`
abbrev Small : ℕ → Type 0
Small k = k ≤ 2147483647

-- each of these is
abbrev AreSmall : List ℕ → Type 0
AreSmall ks = AllByRecursion Small ks

are_small : (ks : List ℕ) → All (λ k. k ≤ 2147483647) ks → AreSmall ks
are_small ks h = recursion_from_All Small ks h

-- two constants of one spelling are one
same_constant : (p q : ℕ) → Small p → Small q → decimal p ≡ decimal q → p ≡ q
same_constant p q hp hq e = sym (decimal_is_IsNumeral p (omega arith)).1 ∙ ap (digits_value 10) e ∙ (decimal_is_IsNumeral q (omega arith)).1

-- what follows the statements that were taken, in a source that begins with them
record Follows (ps qs : List ℕ) (s : ℕ) (rest : List (List ℕ)) : Type 0 where
  more : List ℕ
  whole : qs ≡ ps ++ more
  small : AreSmall more
  after : rest ≡ flat_map put_statement more ++ last_statement s

starts_as : (ps qs : List ℕ) (s : ℕ) (rest : List (List ℕ)) → AreSmall ps → AreSmall qs → flat_map put_statement ps ++ rest ≡ flat_map put_statement qs ++ last_statement s → Follows ps qs s rest
starts_as [] qs s rest hp hq e = record { more = qs; whole = refl; small = hq; after = e }
starts_as (p ∷ ps) [] s rest hp hq e = absurd (not_same (ap first_byte e))
starts_as (p ∷ ps) (q ∷ qs) s rest hp hq e =
    let same : p ≡ q = same_constant p q hp.0 hq.0 (ap (λ l. get_or l 2 []) e) in
    let inner : Follows ps qs s rest = starts_as ps qs s rest hp.1 hq.1 (ap (drop 5) e) in
    let whole : qs ≡ ps ++ inner.more = inner.whole in
    record { more = inner.more; whole = cc; small = inner.small; after = inner.after }

no_more : (now : List (List ℕ)) (s : ℕ) (more : List ℕ) → AreSmall more → codes "putchar" ∷ now ≡ flat_map put_statement more ++ last_statement s → ((k : ℕ) (ts : List (List ℕ)) → k ≤ 2147483647 → codes "putchar" ∷ now ≢ put_statement k ++ ts) → ⊥
no_more now s [] h e unfit = not_same (ap first_byte e)
no_more now s (k ∷ ks) h e unfit = unfit k (flat_map put_statement ks ++ last_statement s) h.0 e

-- no source that begins with these statements and goes on like this is of the first form
pub puts_unfit : (ps : List ℕ) (old now : List (List ℕ)) → All (λ k. k ≤ 2147483647) ps → old ≡ flat_map put_statement ps ++ (codes "putchar" ∷ now) → ((k : ℕ) (ts : List (List ℕ)) → k ≤ 2147483647 → codes "putchar" ∷ now ≢ put_statement k ++ ts) → (qs : List ℕ) (s : ℕ) → All (λ k. k ≤ 2147483647) qs → old ≢ flat_map put_statement qs ++ last_statement s
puts_unfit ps old now hp so_far unfit qs s hq e =
    let follows : Follows ps qs s (codes "putchar" ∷ now) = starts_as ps qs s (codes "putchar" ∷ now) (are_small ps hp) (are_small qs hq) (sym so_far ∙ e) in
    no_more now s follows.more follows.small follows.after unfit

over_more : (now : List (List ℕ)) (s : ℕ) (more : List ℕ) → s ≤ 2147483647 → now ≡ flat_map put_statement more ++ last_statement s → ((ts : List (List ℕ)) → now ≢ codes "putchar" ∷ ts) → ((k : ℕ) → k ≤ 2147483647 → now ≢ last_statement k) → ⊥
over_more now s [] hs e over unfit = unfit s hs e
over_more now s (k ∷ ks) hs e over unfit = over _ e

-- two sources agree on whether they declare `putchar`
heads_agree : (d e : Bool) (x y : List (List ℕ)) → cond d declaration [] ++ (head ++ x) ≡ cond e declaration [] ++ (head ++ y) → (d ≡ e) × (x ≡ y)
heads_agree true true x y h = (refl, ap (drop 12) h)
heads_agree false false x y h = (refl, ap (drop 6) h)
heads_agree true false x y h = absurd (not_main (ap (λ l. first_byte (drop 1 l)) h))
heads_agree false true x y h = absurd (not_main (sym (ap (λ l. first_byte (drop 1 l)) h)))

none_more : (ps more : List ℕ) → [] ≡ ps ++ more → more ≡ []
none_more [] more e = sym e
none_more (p ∷ ps) more e = cc

rest_unfit : (declared : Bool) (ps qs : List ℕ) (now : List (List ℕ)) (s : ℕ) → Follows ps qs s now → s ≤ 2147483647 → (declared ≡ false → qs ≡ []) → (declared ≡ true → (ts : List (List ℕ)) → now ≢ codes "putchar" ∷ ts) → ((k : ℕ) → k ≤ 2147483647 → now ≢ last_statement k) → ⊥
rest_unfit true ps qs now s follows hs called over unfit = over_more now s follows.more hs follows.after (over refl) unfit
rest_unfit false ps qs now s follows hs called over unfit =
    let none : follows.more ≡ [] = none_more ps follows.more (sym (called refl) ∙ follows.whole) in
    unfit s hs (follows.after ∙ ap (λ l. flat_map put_statement l ++ last_statement s) none)

-- no source that was taken up to its last statement, which does not fit, is of the first form
pub unit_unfit : (declared : Bool) (ps : List ℕ) (old mid now : List (List ℕ)) → old ≡ cond declared declaration [] ++ (head ++ mid) → mid ≡ flat_map put_statement ps ++ now → All (λ k. k ≤ 2147483647) ps → (declared ≡ true → (ts : List (List ℕ)) → now ≢ codes "putchar" ∷ ts) → ((k : ℕ) → k ≤ 2147483647 → now ≢ last_statement k) → (f : Form) → Says old f → ⊥
unit_unfit declared ps old mid now headed bodied small over unfit f says =
    let both : (declared ≡ f.declared) × (mid ≡ flat_map put_statement f.puts ++ last_statement f.status) = heads_agree declared f.declared mid _ (sym headed ∙ says.spelled) in
    let follows : Follows ps f.puts f.status now = starts_as ps f.puts f.status now (are_small ps small) (are_small f.puts says.puts_fit) (sym bodied ∙ both.1) in
    rest_unfit declared ps f.puts now f.status follows says.status_fits (λ h. says.called (sym both.0 ∙ h)) over unfit

no_statement : (s t : ℕ) (more : List ℕ) → last_statement s ≡ flat_map put_statement more ++ last_statement t → more ≡ []
no_statement s t [] e = refl
no_statement s t (k ∷ ks) e = absurd (not_same (sym (ap first_byte e)))

abbrev form_of : Bool → List ℕ → ℕ → Form
form_of d p s = record { declared = d; puts = p; status = s }

same_form : (f g : Form) → f.declared ≡ g.declared → f.puts ≡ g.puts → f.status ≡ g.status → f ≡ g
same_form f g a b c = ap (λ (d : Bool). form_of d f.puts f.status) a ∙ ap (λ (p : List ℕ). form_of g.declared p f.status) b ∙ ap (λ (s : ℕ). form_of g.declared g.puts s) c

-- a source of the first form says one thing
pub one_form : (ts : List (List ℕ)) (f g : Form) → Says ts f → Says ts g → f ≡ g
one_form ts f g hf hg =
    let both : (f.declared ≡ g.declared) × (flat_map put_statement f.puts ++ last_statement f.status ≡ flat_map put_statement g.puts ++ last_statement g.status) = heads_agree f.declared g.declared _ _ (sym hf.spelled ∙ hg.spelled) in
    let follows : Follows f.puts g.puts g.status (last_statement f.status) = starts_as f.puts g.puts g.status (last_statement f.status) (are_small f.puts hf.puts_fit) (are_small g.puts hg.puts_fit) both.1 in
    let none : follows.more ≡ [] = no_statement f.status g.status follows.more follows.after in
    let puts : f.puts ≡ g.puts = sym (follows.whole ∙ ap (λ l. f.puts ++ l) none ∙ append-nil f.puts) in
    let last : last_statement f.status ≡ last_statement g.status = follows.after ∙ ap (λ l. flat_map put_statement l ++ last_statement g.status) none in
    same_form f g both.0 puts (same_constant f.status g.status hf.status_fits hg.status_fits (ap (λ l. get_or l 1 []) last))

statements_long : (ps : List ℕ) (rest : List (List ℕ)) → 5 * length ps ≤ length (flat_map put_statement ps ++ rest)
statements_long [] rest = omega arith
statements_long (p ∷ ps) rest = omega (arith, statements_long ps rest)

few_in : (declared : Bool) (f : Form) → 5 * length f.puts ≤ length (cond declared declaration [] ++ (head ++ (flat_map put_statement f.puts ++ last_statement f.status)))
few_in true f = omega (arith, statements_long f.puts (last_statement f.status))
few_in false f = omega (arith, statements_long f.puts (last_statement f.status))

pub says_few : (ts : List (List ℕ)) (f : Form) → Says ts f → 5 * length f.puts ≤ length ts
says_few ts f says = rw says.spelled (few_in f.declared f)

-- a source that says this has five lexemes for each constant that it puts out
pub puts_few : (bytes : List ℕ) (declared : Bool) (puts : List ℕ) (status : ℕ) → Says (lexemes bytes) (form_of declared puts status) → 5 * length puts ≤ length bytes
puts_few bytes declared puts status says = omega (arith, says_few (lexemes bytes) (form_of declared puts status) says, lexemes_few bytes)
