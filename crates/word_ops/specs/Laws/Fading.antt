-- Laws of cells that are made Unset: what a load then gives, it gave before.
-- No contract cites this file: it holds proofs.
use Rattle.std.proofs.Common.{◌≡◌, refl, sym, ap, ◌∙◌, subst, ℕ, zero, suc, ◌+◌, ◌*◌, List, [], ◌∷◌, length, take, drop}
use Rattle.std.proofs.lemmas.Bool.{false≢true}
use Rattle.std.proofs.lemmas.Option.{none-some}
use Rattle.std.specs.Prelude.{Option, Some, None, true, ◌&&◌, ◌/◌, ◌%◌, ◌==◌, nat_le, slice_get}
use Rattle.std.specs.Option.{option_map, option_or, option_and_then}
use Rattle.word_ops.specs.declared.operation.Width.{Width}
use Rattle.word_ops.specs.Choice.{only_if, when}
use Rattle.word_ops.specs.Store.{Value, Number, Pointer, Cell, Unset, Byte, Part, Region, Store}
use Rattle.word_ops.specs.Access.{bytes_of, narrowed_to, holds_pointer, number_in, are_parts, pointer_in, decode, may_access, cells_in, cells_from, cells_at, load}
use Rattle.word_ops.specs.Changes.{CellsFade, RegionFades, Fades, HasBytes, HasNoByte, MayLieIn, MayLoad}
use Rattle.word_ops.specs.Addresses.{word_of_value}
use Rattle.word_ops.specs.Laws.Lists.{and_both, only_if-some, when-some}
use Rattle.word_ops.specs.Laws.Regions.{length-CellsFade}

pub CellsFade-refl : (cs : List Cell) → CellsFade cs cs
CellsFade-refl [] = tt
CellsFade-refl (Unset ∷ cs) = CellsFade-refl cs
CellsFade-refl (Byte b ∷ cs) = (refl, CellsFade-refl cs)
CellsFade-refl (Part k r o ∷ cs) = (refl, CellsFade-refl cs)

pub CellsFade-take : (n : ℕ) (cs ds : List Cell) → CellsFade cs ds → CellsFade (take n cs) (take n ds)
CellsFade-take zero cs ds h = tt
CellsFade-take (suc n) [] [] h = tt
CellsFade-take (suc n) [] (d ∷ ds) h = absurd h
CellsFade-take (suc n) (c ∷ cs) [] h = absurd h
CellsFade-take (suc n) (c ∷ cs) (Unset ∷ ds) h = CellsFade-take n cs ds h
CellsFade-take (suc n) (c ∷ cs) (Byte b ∷ ds) h = (h.0, CellsFade-take n cs ds h.1)
CellsFade-take (suc n) (c ∷ cs) (Part k r o ∷ ds) h = (h.0, CellsFade-take n cs ds h.1)

pub CellsFade-drop : (n : ℕ) (cs ds : List Cell) → CellsFade cs ds → CellsFade (drop n cs) (drop n ds)
CellsFade-drop zero cs ds h = h
CellsFade-drop (suc n) [] [] h = tt
CellsFade-drop (suc n) [] (d ∷ ds) h = absurd h
CellsFade-drop (suc n) (c ∷ cs) [] h = absurd h
CellsFade-drop (suc n) (c ∷ cs) (Unset ∷ ds) h = CellsFade-drop n cs ds h
CellsFade-drop (suc n) (c ∷ cs) (Byte b ∷ ds) h = CellsFade-drop n cs ds h.1
CellsFade-drop (suc n) (c ∷ cs) (Part k r o ∷ ds) h = CellsFade-drop n cs ds h.1

region_cells : (x y : Option Region) (n a o : ℕ) (ds : List Cell) → RegionFades x y → cells_in y n a o ≡ Some ds →
    (cs : List Cell) × (cells_in x n a o ≡ Some cs) × CellsFade cs ds
region_cells x None n a o ds h e = absurd (none-some ds e)
region_cells None (Some g) n a o ds h e = absurd h
region_cells (Some g) (Some k) n a o ds h e =
    let t = only_if-some (may_access k n a o) (take n (drop o k.cells)) ds e in
    let same : may_access g n a o ≡ may_access k n a o =
    ap (λ b. b && ((o % a == 0) && nat_le (o + n) (length g.cells))) (sym h.0)
    ∙ ap (λ m. k.live && ((o % a == 0) && nat_le (o + n) m)) (sym (length-CellsFade g.cells k.cells h.3)) in
    (take n (drop o g.cells), ap (λ b. only_if b (take n (drop o g.cells))) (same ∙ t.0), subst (CellsFade (take n (drop o g.cells))) t.1 (CellsFade-take n (drop o g.cells) (drop o k.cells) (CellsFade-drop o g.cells k.cells h.3)))

-- an access that may be made after cells faded may be made before, and its cells fade
pub Fades-cells : (s t : Store) (p : Value) (n a : ℕ) (ds : List Cell) → Fades s t → cells_from t p n a ≡ Some ds →
    (cs : List Cell) × (cells_from s p n a ≡ Some cs) × CellsFade cs ds
Fades-cells s t (Number m) n a ds h e = absurd (none-some ds e)
Fades-cells s t (Pointer r o) n a ds h e = region_cells (slice_get s r) (slice_get t r) n a o ds (h r) e

-- ---- what faded cells decode to

map_some : (b : ℕ) (x : Option ℕ) (n : ℕ) → option_map (λ n. b % 256 + 256 * n) x ≡ Some n → (m : ℕ) × (x ≡ Some m)
map_some b None n e = absurd (none-some n e)
map_some b (Some m) n e = (m, refl)

number_fades : (cs ds : List Cell) (n : ℕ) → CellsFade cs ds → number_in ds ≡ Some n → cs ≡ ds
number_fades [] [] n h e = refl
number_fades [] (d ∷ ds) n h e = absurd h
number_fades (c ∷ cs) [] n h e = absurd h
number_fades (c ∷ cs) (Unset ∷ ds) n h e = absurd (none-some n e)
number_fades (c ∷ cs) (Part k r o ∷ ds) n h e = absurd (none-some n e)
number_fades (c ∷ cs) (Byte b ∷ ds) n h e =
    let k = map_some b (number_in ds) n e in let t = number_fades cs ds k.0 h.1 k.1 in rw (h.0, t) refl

parts_fade : (k r o : ℕ) (cs ds : List Cell) → CellsFade cs ds → are_parts k r o ds ≡ true → cs ≡ ds
parts_fade k r o [] [] h e = refl
parts_fade k r o [] (d ∷ ds) h e = absurd h
parts_fade k r o (c ∷ cs) [] h e = absurd h
parts_fade k r o (c ∷ cs) (Unset ∷ ds) h e = absurd (false≢true e)
parts_fade k r o (c ∷ cs) (Byte b ∷ ds) h e = absurd (false≢true e)
parts_fade k r o (c ∷ cs) (Part j q p ∷ ds) h e =
    let x = and_both (j == k) ((q == r) && ((p == o) && are_parts (k + 1) r o ds)) e in
    let y = and_both (q == r) ((p == o) && are_parts (k + 1) r o ds) x.1 in
    let z = and_both (p == o) (are_parts (k + 1) r o ds) y.1 in
    let t = parts_fade (k + 1) r o cs ds h.1 z.1 in rw (h.0, t) refl

pointer_fades : (cs ds : List Cell) (u : Value) → CellsFade cs ds → pointer_in ds ≡ Some u → cs ≡ ds
pointer_fades cs [] u h e = absurd (none-some u e)
pointer_fades cs (Unset ∷ ds) u h e = absurd (none-some u e)
pointer_fades cs (Byte b ∷ ds) u h e = absurd (none-some u e)
pointer_fades cs (Part k r o ∷ ds) u h e =
    parts_fade 0 r o cs (Part k r o ∷ ds) h (only_if-some (are_parts 0 r o (Part k r o ∷ ds)) (Pointer r o) u e).0

value_fades : (k : Width) (cs ds : List Cell) (x : Option ℕ) (u : Value) → number_in ds ≡ x → CellsFade cs ds →
    option_or (option_map (λ n. Number (narrowed_to k n)) x) (when (holds_pointer k) (pointer_in ds)) ≡ Some u →
    cs ≡ ds
value_fades k cs ds None u q h e = pointer_fades cs ds u h (when-some (holds_pointer k) (pointer_in ds) u e).1
value_fades k cs ds (Some n) u q h e = number_fades cs ds n h q

-- cells that have a value did not fade
pub CellsFade-decode : (k : Width) (cs ds : List Cell) (u : Value) → CellsFade cs ds → decode k ds ≡ Some u → cs ≡ ds
CellsFade-decode k cs ds u h e = value_fades k cs ds (number_in ds) u refl h e

-- a load that is defined after cells faded gave the same before
pub load-Fades : (s t : Store) (k : Width) (p v : Value) → Fades s t → load t k p ≡ Some v → load s k p ≡ Some v
load-Fades s t k p v h e = go (cells_at t k p) refl e
  where
    go : (o : Option (List Cell)) → cells_at t k p ≡ o → option_and_then (decode k) o ≡ Some v → load s k p ≡ Some v
    go None q e = absurd (none-some v e)
    go (Some ds) q e =
        let c = Fades-cells s t p (bytes_of k) (bytes_of k) ds h q in
        let same = CellsFade-decode k c.0 ds v c.2 e in
        ap (option_and_then (decode k)) (c.1 ∙ ap Some same) ∙ e

bytes_fade : (cs ds : List Cell) (n : ℕ) → CellsFade cs ds → HasBytes cs n → HasBytes ds n
bytes_fade [] [] n h k = tt
bytes_fade [] (d ∷ ds) n h k = absurd h
bytes_fade (c ∷ cs) [] n h k = absurd h
bytes_fade (Unset ∷ cs) (Unset ∷ ds) n h k = bytes_fade cs ds (n / 256) h k
bytes_fade (Byte b ∷ cs) (Unset ∷ ds) n h k = bytes_fade cs ds (n / 256) h k.1
bytes_fade (Part j r o ∷ cs) (Unset ∷ ds) n h k = bytes_fade cs ds (n / 256) h k
bytes_fade (c ∷ cs) (Byte b ∷ ds) n h k =
    let K = subst (λ c. HasBytes (c ∷ cs) n) h.0 k in (K.0, bytes_fade cs ds (n / 256) h.1 K.1)
bytes_fade (c ∷ cs) (Part j r o ∷ ds) n h k =
    let K = subst (λ c. HasBytes (c ∷ cs) n) h.0 k in bytes_fade cs ds (n / 256) h.1 K

no_byte_fades : (cs ds : List Cell) → CellsFade cs ds → HasNoByte cs → HasNoByte ds
no_byte_fades [] [] h k = tt
no_byte_fades [] (d ∷ ds) h k = absurd h
no_byte_fades (c ∷ cs) [] h k = absurd h
no_byte_fades (Unset ∷ cs) (Unset ∷ ds) h k = no_byte_fades cs ds h k
no_byte_fades (Byte b ∷ cs) (Unset ∷ ds) h k = absurd k
no_byte_fades (Part j r o ∷ cs) (Unset ∷ ds) h k = no_byte_fades cs ds h k
no_byte_fades (c ∷ cs) (Byte b ∷ ds) h k = absurd (subst (λ c. HasNoByte (c ∷ cs)) h.0 k)
no_byte_fades (c ∷ cs) (Part j r o ∷ ds) h k = no_byte_fades cs ds h.1 (subst (λ c. HasNoByte (c ∷ cs)) h.0 k)

MayLieIn-fades : (k : Width) (cs ds : List Cell) (v : Value) → CellsFade cs ds → MayLieIn k cs v → MayLieIn k ds v
MayLieIn-fades k cs ds (Number n) h m = tt
MayLieIn-fades k cs ds (Pointer r o) h m = (m.0, no_byte_fades cs ds h m.1)

-- what a load may have given before, it may give after cells faded
pub MayLoad-fades : (s t : Store) (k : Width) (cs ds : List Cell) (v : Value) → CellsFade cs ds →
    word_of_value t v ≡ word_of_value s v → MayLoad s k cs v → MayLoad t k ds v
MayLoad-fades s t k cs ds v h e m = record {
  defined = λ u d. m.defined u (ap (decode k) (CellsFade-decode k cs ds u h d) ∙ d);
  bytes = subst (HasBytes ds) (sym e) (bytes_fade cs ds (word_of_value s v) h m.bytes);
  kind = MayLieIn-fades k cs ds v h m.kind;
}

-- the same cells, in a store in which the value has the same word
pub MayLoad-same : (s t : Store) (k : Width) (cs : List Cell) (v : Value) → word_of_value t v ≡ word_of_value s v →
    MayLoad s k cs v → MayLoad t k cs v
MayLoad-same s t k cs v e m =
    record { defined = m.defined; bytes = subst (HasBytes cs) (sym e) m.bytes; kind = m.kind }
