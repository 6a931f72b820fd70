-- Laws on links: what a number put behind the others and the last one taken away leave.
use Rattle.std.proofs.Common.{◌≡◌, refl, sym, ap, subst, ◌∙◌, arith, ℕ, zero, suc, ◌+◌, ◌<◌, ◌≤◌, Bool, true, false, cond, ◌⊎◌, inl, inr, List, [], ◌∷◌, ◌++◌, length, get_or, nat_eq, take, Option, Some, None}
use Rattle.std.specs.Prelude.{slice_get, IsSome}
use Rattle.std.specs.Option.{option_flatten, option_map}
use Rattle.std.proofs.lemmas.Option.{same_Some, none-some, slice_get_read, slice_get_within, slice_get-map}
use Rattle.std.proofs.lemmas.List.{length-map, length_push, take-map, take-take, take_at}
use Rattle.word_ops.specs.Laws.Lists.{slice_get-append_keeps, slice_get-append_some}
use Rattle.scope_map.specs.declared.places.Link.{Link}
use Rattle.scope_map.specs.Places.{up_to, IsLastOf, numbers_of, IsLinked}

-- ---- numbers of links

earlier : (links : List Link) (link : Link) (i : ℕ) → i < length links → slice_get (numbers_of (links ++ link ∷ [])) i ≡ slice_get (numbers_of links) i
earlier [] link i lt = absurd (omega (arith, lt))
earlier (first ∷ links) link zero lt = refl
earlier (first ∷ links) link (suc i) lt = earlier links link i (omega (arith, lt))

newest : (links : List Link) (link : Link) → slice_get (links ++ link ∷ []) (length links) ≡ Some link
newest [] link = refl
newest (first ∷ links) link = newest links link

newest_number : (links : List Link) (link : Link) → slice_get (numbers_of (links ++ link ∷ [])) (length links) ≡ Some link.number
newest_number [] link = refl
newest_number (first ∷ links) link = newest_number links link

only : (link other : Link) (j : ℕ) → slice_get (link ∷ []) j ≡ Some other → (j ≡ 0) × (link ≡ other)
only link other zero e = (refl, same_Some link other e)
only link other (suc j) e = absurd (none-some other e)

-- ---- the last of a number

-- a place that is the last among the first `count` is one of them
below : (place : Option ℕ) (count i : ℕ) → up_to place ≤ count → place ≡ Some i → i < count
below None count i le e = absurd (none-some i e)
below (Some place) count i le e = let s = same_Some place i e in omega (arith, le, s)

-- only what stands among the first `count` tells
pub IsLastOf-agree : (at other : ℕ → Option ℕ) (number count : ℕ) (place : Option ℕ) → ((i : ℕ) → i < count → at i ≡ other i) → IsLastOf at number count place → IsLastOf other number count place
IsLastOf-agree at other number count place same h = record {
  within = h.within;
  has = λ i e. sym (same i (below place count i h.within e)) ∙ h.has i e;
  behind = λ i le lt e. h.behind i le lt (same i lt ∙ e);
}

-- another number behind the first `count` changes nothing
longer : (at : ℕ → Option ℕ) (number count : ℕ) (place : Option ℕ) → (at count ≡ Some number → ⊥) → IsLastOf at number count place → IsLastOf at number (count + 1) place
longer at number count place other h = record {
  within = omega (arith, h.within);
  has = h.has;
  behind = λ i le lt e. elim (near i lt) [ inl less ↦ h.behind i le less e | inr last ↦ other (ap at (sym last) ∙ e) ];
}
  where
    near : (i : ℕ) → i < count + 1 → (i < count) ⊎ (i ≡ count)
    near i lt = grind (arith, lt)

shorter_within : (at : ℕ → Option ℕ) (number count : ℕ) (place : Option ℕ) → (at count ≡ Some number → ⊥) → up_to place ≤ count + 1 → ((i : ℕ) → place ≡ Some i → at i ≡ Some number) → up_to place ≤ count
shorter_within at number count None other le has = omega arith
shorter_within at number count (Some place) other le has = elim (near place le) [ inl less ↦ less | inr last ↦ absurd (other (ap at (sym last) ∙ has place refl)) ]
  where
    near : (i : ℕ) → i + 1 ≤ count + 1 → (i + 1 ≤ count) ⊎ (i ≡ count)
    near i le = grind (arith, le)

shorter : (at : ℕ → Option ℕ) (number count : ℕ) (place : Option ℕ) → (at count ≡ Some number → ⊥) → IsLastOf at number (count + 1) place → IsLastOf at number count place
shorter at number count place other h = record {
  within = shorter_within at number count place other h.within h.has;
  has = h.has;
  behind = λ i le lt e. h.behind i le (omega (arith, lt)) e;
}

-- the number at the last place is the last of its kind
here : (at : ℕ → Option ℕ) (number count : ℕ) → at count ≡ Some number → IsLastOf at number (count + 1) (Some count)
here at number count is = record {
  within = omega arith;
  has = λ i e. ap at (sym (same_Some count i e)) ∙ is;
  behind = λ i le lt e. absurd (omega (arith, le, lt));
}

-- ---- links

same_number : (a b : ℕ) → nat_eq a b ≡ true → a ≡ b
same_number a b e = grind (arith, e)

other_number : (a b : ℕ) → nat_eq a b ≡ false → Some a ≡ Some b → ⊥
other_number a b e same = let s = same_Some a b same in grind (arith, e, s)

-- where numbers end elsewhere in name alone
pub IsLinked-same : (links : List Link) (ends now : ℕ → Option (Option ℕ)) → ((number : ℕ) → now number ≡ ends number) → IsLinked links ends → IsLinked links now
IsLinked-same links ends now same h = record {
  each = h.each;
  last = λ number. subst (λ place. IsLastOf (slice_get (numbers_of links)) number (length links) (option_flatten place)) (sym (same number)) (h.last number);
}

-- a link to the last place of its number is put behind the others
pub IsLinked-push : (links : List Link) (ends now : ℕ → Option (Option ℕ)) (link : Link) → IsLastOf (slice_get (numbers_of links)) link.number (length links) link.before
    → ((number : ℕ) → now number ≡ cond (nat_eq link.number number) (Some (Some (length links))) (ends number)) → IsLinked links ends → IsLinked (links ++ link ∷ []) now
IsLinked-push links ends now link before moved h = record {
  each = λ i other e. elim (slice_get-append_some links (link ∷ []) i other e) [
    | inl old ↦ kept other.number i other.before (omega (arith, slice_get_within links i other old)) (h.each i other old)
    | inr new ↦ at_end i new.0 other new.1 (only link other new.0 new.2)
  ];
  last = λ number. subst (λ n. IsLastOf at number n (option_flatten (now number))) (sym (length_push links link)) (ended number (nat_eq link.number number) refl);
}
  where
    at : ℕ → Option ℕ
    at = slice_get (numbers_of (links ++ link ∷ []))

    kept : (number count : ℕ) (place : Option ℕ) → count ≤ length links → IsLastOf (slice_get (numbers_of links)) number count place → IsLastOf at number count place
    kept number count place le old = IsLastOf-agree (slice_get (numbers_of links)) at number count place (λ i lt. sym (earlier links link i (omega (arith, lt, le)))) old

    at_end : (i j : ℕ) (other : Link) → i ≡ length links + j → (j ≡ 0) × (link ≡ other) → IsLastOf at other.number i other.before
    at_end i j other is only =
        let end : length links ≡ i = omega (arith, is, only.0) in
        subst (λ (l : Link). IsLastOf at l.number i l.before) only.1
        (subst (λ n. IsLastOf at link.number n link.before) end (kept link.number (length links) link.before (omega arith) before))

    ended : (number : ℕ) (same : Bool) → nat_eq link.number number ≡ same → IsLastOf at number (length links + 1) (option_flatten (now number))
    ended number true e =
        subst (λ place. IsLastOf at number (length links + 1) (option_flatten place)) (sym (moved number ∙ ap (λ b. cond b (Some (Some (length links))) (ends number)) e))
        (here at number (length links) (newest_number links link ∙ ap Some (same_number link.number number e)))
    ended number false e =
        subst (λ place. IsLastOf at number (length links + 1) (option_flatten place)) (sym (moved number ∙ ap (λ b. cond b (Some (Some (length links))) (ends number)) e))
        (longer at number (length links) (option_flatten (ends number)) (λ s. other_number link.number number e (sym (newest_number links link) ∙ s))
        (kept number (length links) (option_flatten (ends number)) (omega arith) (h.last number)))

-- the number of the last link stands somewhere
pub there : (links : List Link) (ends : ℕ → Option (Option ℕ)) (link : Link) → IsLinked (links ++ link ∷ []) ends → IsSome (ends link.number)
there links ends link h = by (ends link.number) refl
  where
    by : (end : Option (Option ℕ)) → ends link.number ≡ end → IsSome end
    by (Some place) e = refl
    by None e =
        let l = subst (λ place. IsLastOf (slice_get (numbers_of (links ++ link ∷ []))) link.number (length (links ++ link ∷ [])) (option_flatten place)) e (h.last link.number) in
        absurd (l.behind (length links) (omega arith) (omega (arith, length_push links link)) (newest_number links link))

-- the last link is taken away, and its number ends where it did before
pub IsLinked-pop : (links : List Link) (ends now : ℕ → Option (Option ℕ)) (link : Link) → ((number : ℕ) → now number ≡ cond (nat_eq link.number number) (Some link.before) (ends number))
    → IsLinked (links ++ link ∷ []) ends → IsLinked links now
IsLinked-pop links ends now link moved h = record {
  each = λ i other e. kept other.number i other.before (omega (arith, slice_get_within links i other e)) (h.each i other (slice_get-append_keeps links (link ∷ []) i other e));
  last = λ number. ended number (nat_eq link.number number) refl;
}
  where
    at : ℕ → Option ℕ
    at = slice_get (numbers_of (links ++ link ∷ []))

    kept : (number count : ℕ) (place : Option ℕ) → count ≤ length links → IsLastOf at number count place → IsLastOf (slice_get (numbers_of links)) number count place
    kept number count place le old = IsLastOf-agree at (slice_get (numbers_of links)) number count place (λ i lt. earlier links link i (omega (arith, lt, le))) old

    ended : (number : ℕ) (same : Bool) → nat_eq link.number number ≡ same → IsLastOf (slice_get (numbers_of links)) number (length links) (option_flatten (now number))
    ended number true e =
        subst (λ place. IsLastOf (slice_get (numbers_of links)) number (length links) (option_flatten place)) (sym (moved number ∙ ap (λ b. cond b (Some link.before) (ends number)) e))
        (kept number (length links) link.before (omega arith)
        (subst (λ n. IsLastOf at n (length links) link.before) (same_number link.number number e) (h.each (length links) link (newest links link))))
    ended number false e =
        subst (λ place. IsLastOf (slice_get (numbers_of links)) number (length links) (option_flatten place)) (sym (moved number ∙ ap (λ b. cond b (Some link.before) (ends number)) e))
        (kept number (length links) (option_flatten (ends number)) (omega arith)
        (shorter at number (length links) (option_flatten (ends number)) (λ s. other_number link.number number e (sym (newest_number links link) ∙ s))
        (subst (λ n. IsLastOf at number n (option_flatten (ends number))) (length_push links link) (h.last number))))

-- what a link tells of its number
pub told : (links : List Link) (ends : ℕ → Option (Option ℕ)) (now : List ℕ) (place : ℕ) (link : Link) → numbers_of links ≡ now → place < length now → link ≡ get_or links place link → IsLinked links ends
    → (number : ℕ) → slice_get now place ≡ Some number → IsLastOf (slice_get now) number place link.before
told links ends now place link seen lt read h number is =
    let within : place < length links = omega (arith, lt, ap length seen, length-map links (λ (l : Link). l.number)) in
    let e : slice_get links place ≡ Some link = slice_get_read links (length links) place link refl within read in
    let own : slice_get (numbers_of links) place ≡ Some link.number = slice_get-map (λ (l : Link). l.number) links place ∙ ap (option_map (λ (l : Link). l.number)) e in
    subst (λ (ns : List ℕ). IsLastOf (slice_get ns) number place link.before) seen
    (subst (λ n. IsLastOf (slice_get (numbers_of links)) n place link.before) (same_Some link.number number (sym own ∙ ap (λ ns. slice_get ns place) seen ∙ is)) (h.each place link e))

-- the same of a list that is seen as the numbers of the links
pub pushed : (links : List Link) (ends now : ℕ → Option (Option ℕ)) (link : Link) (seen : List ℕ) (place : ℕ) → numbers_of links ≡ seen → length links ≡ place
    → IsLastOf (slice_get seen) link.number (length seen) link.before → ((number : ℕ) → now number ≡ cond (nat_eq link.number number) (Some (Some place)) (ends number)) → IsLinked links ends
    → IsLinked (links ++ link ∷ []) now
pushed links ends now link seen place view len before moved h =
    IsLinked-push links ends now link
    (subst (λ n. IsLastOf (slice_get (numbers_of links)) link.number n link.before) (length-map links (λ (l : Link). l.number))
    (subst (λ (ns : List ℕ). IsLastOf (slice_get ns) link.number (length ns) link.before) (sym view) before))
    (subst (λ n. (number : ℕ) → now number ≡ cond (nat_eq link.number number) (Some (Some n)) (ends number)) (sym len) moved) h

-- ---- the first links of all

pub front : (all now rest : List Link) (link : Link) → now ≡ rest ++ link ∷ [] → now ≡ take (length now) all → rest ≡ take (length rest) all
front all now rest link e h =
    let le : length rest ≤ length now = omega (arith, ap length e, length_push rest link) in
    sym (take_at rest (link ∷ []) (length rest) refl) ∙ ap (take (length rest)) (sym e ∙ h) ∙ take-take (length rest) (length now) all le

pub first_numbers : (all now : List Link) (seen : List ℕ) (count : ℕ) → numbers_of all ≡ seen → length now ≡ count → now ≡ take (length now) all → numbers_of now ≡ take count seen
first_numbers all now seen count view len e =
    ap numbers_of (e ∙ ap (λ n. take n all) len) ∙ sym (take-map (λ (l : Link). l.number) count all) ∙ ap (take count) view
