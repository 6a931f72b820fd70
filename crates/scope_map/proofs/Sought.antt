-- Laws on a search from the end of a table, which goes from one place with the hash of a key to the one before.
use Rattle.std.proofs.Common.{◌≡◌, refl, sym, ap, subst, ◌∙◌, arith, ℕ, zero, suc, ◌+◌, ◌-◌, ◌<◌, ◌≤◌, Bool, true, false, cond, ◌⊎◌, inl, inr, List, [], ◌∷◌, ◌++◌, drop, find, length, map, reverse, take, Option, Some, None}
use Rattle.std.specs.Prelude.{slice_get, IsTrue}
use Rattle.std.specs.Option.{option_map}
use Rattle.std.proofs.lemmas.Option.{same_Some, none-some, slice_get_within, slice_get-map}
use Rattle.std.proofs.lemmas.List.{length-map, reverse-append}
use Rattle.scope_map.specs.Places.{up_to, IsLastOf}
use Rattle.scope_map.specs.Scopes.{latest}

-- ---- parts of a list

in_taken : {A : Type 0} (xs : List A) (n i : ℕ) (x : A) → slice_get (take n xs) i ≡ Some x → (i < n) × (slice_get xs i ≡ Some x)
in_taken xs zero i x e = absurd (none-some x e)
in_taken [] (suc n) i x e = absurd (none-some x e)
in_taken (y ∷ xs) (suc n) zero x e = (omega arith, e)
in_taken (y ∷ xs) (suc n) (suc i) x e = let h = in_taken xs n i x e in (omega (arith, h.0), h.1)

taken : {A : Type 0} (xs : List A) (n i : ℕ) (x : A) → i < n → slice_get xs i ≡ Some x → slice_get (take n xs) i ≡ Some x
taken [] n i x lt e = absurd (none-some x e)
taken (y ∷ xs) zero i x lt e = absurd (omega (arith, lt))
taken (y ∷ xs) (suc n) zero x lt e = e
taken (y ∷ xs) (suc n) (suc i) x lt e = taken xs n i x (omega (arith, lt)) e

dropped : {A : Type 0} (n : ℕ) (xs : List A) (i : ℕ) → slice_get (drop n xs) i ≡ slice_get xs (n + i)
dropped zero xs i = let e : i ≡ 0 + i = omega arith in ap (slice_get xs) e
dropped (suc n) [] i = refl
dropped (suc n) (x ∷ xs) i = let e : suc (n + i) ≡ suc n + i = omega arith in dropped n xs i ∙ ap (slice_get (x ∷ xs)) e

-- ---- the last pair of a key

module _ {K V : Type 0} (eq : K → K → Bool) (asked : K) where
  abbrev later : Option V → Option V → Option V
  later (Some value) other = Some value
  later None other = other

  abbrev found : List (K × V) → Option V
  found pairs = option_map (λ pair. pair.1) (find (λ pair. eq pair.0 asked) pairs)

  alone : (b : Bool) (pair : K × V) → option_map (λ p. p.1) (cond b (Some pair) None) ≡ cond b (Some pair.1) None
  alone true pair = refl
  alone false pair = refl

  behind : (b : Bool) (first : K × V) (more less : Option (K × V)) (other : Option V) → option_map (λ p. p.1) more ≡ later (option_map (λ p. p.1) less) other
      → option_map (λ p. p.1) (cond b (Some first) more) ≡ later (option_map (λ p. p.1) (cond b (Some first) less)) other
  behind true first more less other e = refl
  behind false first more less other e = e

  found-push : (pairs : List (K × V)) (pair : K × V) → found (pairs ++ pair ∷ []) ≡ later (found pairs) (cond (eq pair.0 asked) (Some pair.1) None)
  found-push [] pair = alone (eq pair.0 asked) pair
  found-push (first ∷ pairs) pair = behind (eq first.0 asked) first _ _ _ (found-push pairs pair)

  latest-cons : (first : K × V) (pairs : List (K × V)) → latest eq (first ∷ pairs) asked ≡ later (latest eq pairs asked) (cond (eq first.0 asked) (Some first.1) None)
  latest-cons first pairs = ap found (reverse-append (first ∷ []) pairs) ∙ found-push (reverse pairs) first

  latest_none : (pairs : List (K × V)) → ((i : ℕ) (pair : K × V) → slice_get pairs i ≡ Some pair → eq pair.0 asked ≡ false) → latest eq pairs asked ≡ None
  latest_none [] h = refl
  latest_none (first ∷ pairs) h =
      latest-cons first pairs
      ∙ ap (λ o. later o (cond (eq first.0 asked) (Some first.1) None)) (latest_none pairs (λ i pair e. h (suc i) pair e))
      ∙ ap (λ b. cond b (Some first.1) None) (h zero first refl)

  latest_there : (pairs : List (K × V)) (place : ℕ) (pair : K × V) → slice_get pairs place ≡ Some pair → eq pair.0 asked ≡ true
      → ((i : ℕ) (other : K × V) → place < i → slice_get pairs i ≡ Some other → eq other.0 asked ≡ false) → latest eq pairs asked ≡ Some pair.1
  latest_there [] place pair e is h = absurd (none-some pair e)
  latest_there (first ∷ pairs) zero pair e is h =
      latest-cons first pairs
      ∙ ap (λ o. later o (cond (eq first.0 asked) (Some first.1) None)) (latest_none pairs (λ i other s. h (suc i) other (omega arith) s))
      ∙ ap (λ (p : K × V). cond (eq p.0 asked) (Some p.1) None) (same_Some first pair e)
      ∙ ap (λ b. cond b (Some pair.1) None) is
  latest_there (first ∷ pairs) (suc place) pair e is h =
      latest-cons first pairs
      ∙ ap (λ o. later o (cond (eq first.0 asked) (Some first.1) None)) (latest_there pairs place pair e is (λ i other lt s. h (suc i) other (omega (arith, lt)) s))

-- ---- a search between two marks

-- a search has come to a place, or to none: there the key's hash stands, and no pair behind it has the key
pub record IsSought {K V : Type 0} (eq : K → K → Bool) (hash : K → ℕ) (pairs : List (K × V)) (mark end : ℕ) (asked : K) (next : Option ℕ) : Type 0 where
  pub within : up_to next ≤ length pairs
  pub has : (i : ℕ) → next ≡ Some i → slice_get (map (λ pair. hash pair.0) pairs) i ≡ Some (hash asked)
  pub behind : (i : ℕ) (pair : K × V) → up_to next ≤ i → mark ≤ i → i < end → slice_get pairs i ≡ Some pair → eq pair.0 asked ≡ false

module _ {K V : Type 0} (eq : K → K → Bool) (hash : K → ℕ) (respects : (x y : K) → IsTrue (eq x y) → hash x ≡ hash y) (pairs : List (K × V)) (mark end : ℕ) (asked : K) where
  -- where another hash stands, another key does
  other_key : (count : ℕ) (place : Option ℕ) → IsLastOf (slice_get (map (λ (pair : K × V). hash pair.0) pairs)) (hash asked) count place
      → (i : ℕ) (pair : K × V) → up_to place ≤ i → i < count → slice_get pairs i ≡ Some pair → eq pair.0 asked ≡ false
  other_key count place h i pair le lt e = by (eq pair.0 asked) refl
    where
      by : (b : Bool) → eq pair.0 asked ≡ b → b ≡ false
      by false is = refl
      by true is =
          absurd (h.behind i le lt (slice_get-map (λ (p : K × V). hash p.0) pairs i ∙ ap (option_map (λ (p : K × V). hash p.0)) e ∙ ap Some (respects pair.0 asked is)))

  -- a search begins at the last place of the hash
  pub begun : (hashes : List ℕ) (next : Option ℕ) → hashes ≡ map (λ pair. hash pair.0) pairs → IsLastOf (slice_get hashes) (hash asked) (length hashes) next
      → IsSought eq hash pairs mark end asked next
  begun hashes next e last =
      let h = subst (λ (hs : List ℕ). IsLastOf (slice_get hs) (hash asked) (length hs) next) e last in
      let len = length-map pairs (λ (pair : K × V). hash pair.0) in
      record {
        within = omega (arith, h.within, len);
        has = h.has;
        behind = λ i pair le from until s. other_key _ next h i pair le (omega (arith, slice_get_within pairs i pair s, len)) s;
      }

  -- it goes on at the place before, where the pair at this one is another
  pub gone_on : (hashes : List ℕ) (place : ℕ) (pair : K × V) (next : Option ℕ) → hashes ≡ map (λ pair. hash pair.0) pairs → slice_get pairs place ≡ Some pair
      → (place < end → eq pair.0 asked ≡ false) → ((number : ℕ) → slice_get hashes place ≡ Some number → IsLastOf (slice_get hashes) number place next)
      → IsSought eq hash pairs mark end asked (Some place) → IsSought eq hash pairs mark end asked next
  gone_on hashes place pair next e at other before h =
      let last = subst (λ (hs : List ℕ). (number : ℕ) → slice_get hs place ≡ Some number → IsLastOf (slice_get hs) number place next) e before (hash asked) (h.has place refl) in
      record {
        within = omega (arith, last.within, h.within);
        has = last.has;
        behind = λ i one le from until s. elim (near i) [
          | inl less ↦ other_key place next last i one le less s
          | inr rest ↦ elim rest [
            | inl same ↦ subst (λ (p : K × V). eq p.0 asked ≡ false) (same_Some pair one (sym at ∙ ap (slice_get pairs) (sym same) ∙ s)) (other (omega (arith, same, until)))
            | inr more ↦ h.behind i one (omega (arith, more)) from until s
          ]
        ];
      }
    where
      near : (i : ℕ) → (i < place) ⊎ ((i ≡ place) ⊎ (place < i))
      near i = grind arith

  -- no pair is left between the marks
  pub not_there : (next : Option ℕ) → up_to next ≤ mark → IsSought eq hash pairs mark end asked next → latest eq (drop mark (take end pairs)) asked ≡ None
  not_there next le h = latest_none eq asked (drop mark (take end pairs)) (λ i pair e.
      let p = in_taken pairs end (mark + i) pair (sym (dropped mark (take end pairs) i) ∙ e) in
      h.behind (mark + i) pair (omega (arith, le)) (omega arith) p.0 p.1)

  -- the pair at this place has the key
  pub there : (place : ℕ) (pair : K × V) → mark ≤ place → place < end → slice_get pairs place ≡ Some pair → eq pair.0 asked ≡ true
      → IsSought eq hash pairs mark end asked (Some place) → latest eq (drop mark (take end pairs)) asked ≡ Some pair.1
  there place pair from until at is h =
      let back : mark + (place - mark) ≡ place = omega (arith, from) in
      latest_there eq asked (drop mark (take end pairs)) (place - mark) pair
      (dropped mark (take end pairs) (place - mark) ∙ ap (slice_get (take end pairs)) back ∙ taken pairs end place pair until at) is
      (λ i other lt e.
      let p = in_taken pairs end (mark + i) other (sym (dropped mark (take end pairs) i) ∙ e) in
      h.behind (mark + i) other (omega (arith, lt, back)) (omega arith) p.0 p.1)
