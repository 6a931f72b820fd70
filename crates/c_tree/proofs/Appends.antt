-- What is appended in steps is appended at once.
use Rattle.std.proofs.Common.{◌≡◌, ℕ, zero, suc, ◌+◌, ◌<◌, List, [], ◌∷◌, ◌++◌, length, get_or, take, map, refl, ap, sym, ◌∙◌, arith, append_assoc, append-nil}
use Rattle.std.proofs.lemmas.List.{map_more}
use Rattle.c_tree.specs.declared.token.TokenKind.{TokenKind}
use Rattle.c_tree.specs.Spelling.Tokens.{Spelling, joined, kinds, units, told}

pub told-append : {A : Type 0} (shown : TokenKind → A) (a b : Spelling) → told shown (a ++ b) ≡ told shown a ++ told shown b
told-append shown [] b = refl
told-append shown (t ∷ ts) b = ap (λ l. shown t.kind ∷ l) (told-append shown ts b)

-- a list keeps the kinds as they are
pub told_kinds : (s : Spelling) → told (λ k. k) s ≡ kinds s
told_kinds [] = refl
told_kinds (t ∷ ts) = ap (λ l. t.kind ∷ l) (told_kinds ts)

pub length_told : {A : Type 0} (shown : TokenKind → A) (s : Spelling) → length (told shown s) ≡ length s
length_told shown [] = refl
length_told shown (t ∷ ts) = ap suc (length_told shown ts)

length_units : (n : ℕ) → length (units n) ≡ n
length_units zero = refl
length_units (suc n) = ap suc (length_units n)

-- how many kinds a count holds
pub length_counted : (n : ℕ) (shown : TokenKind → Unit {0}) (s : Spelling) → units n ≡ told shown s → n ≡ length s
length_counted n shown s h = sym (length_units n) ∙ ap length h ∙ length_told shown s

units_suc : (n : ℕ) → units (suc n) ≡ units n ++ tt ∷ []
units_suc zero = refl
units_suc (suc n) = ap (λ l. tt ∷ l) (units_suc n)

-- one more at the end
pub units_more : (n : ℕ) → units (n + 1) ≡ units n ++ tt ∷ []
units_more n = let e : n + 1 ≡ suc n = omega arith in rw e (units_suc n)

pub joined-append : (a b : List Spelling) → joined (a ++ b) ≡ joined a ++ joined b
joined-append [] b = refl
joined-append (s ∷ ss) b = let e = joined-append ss b in rw e (simp append_assoc)

-- one more part
pub joined_more_at : {A B : Type 0} (shown : TokenKind → B) (f : A → Spelling) (xs : List A) (i : ℕ) (d : A) → i < length xs
    → told shown (joined (map f (take (i + 1) xs))) ≡ told shown (joined (map f (take i xs))) ++ told shown (f (get_or xs i d))
joined_more_at shown f xs i d below =
    ap (told shown) (ap joined (map_more f xs i d below) ∙ joined-append (map f (take i xs)) (f (get_or xs i d) ∷ []))
    ∙ told-append shown (joined (map f (take i xs))) (f (get_or xs i d) ++ [])
    ∙ ap (λ l. told shown (joined (map f (take i xs))) ++ told shown l) (append-nil (f (get_or xs i d)))

pub joined_more : {A B : Type 0} (shown : TokenKind → B) (f : A → Spelling) (xs : List A) (i : ℕ) (x : A) → i < length xs → x ≡ get_or xs i x
    → told shown (joined (map f (take (i + 1) xs))) ≡ told shown (joined (map f (take i xs))) ++ told shown (f x)
joined_more shown f xs i x below is = joined_more_at shown f xs i x below ∙ ap (λ y. told shown (joined (map f (take i xs))) ++ told shown (f y)) (sym is)
