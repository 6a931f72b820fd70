-- What a look-up by key finds in a table.
use Rattle.std.proofs.Common.{◌≡◌, ◌≢◌, refl, sym, ◌∙◌, ap, subst, arith, ℕ, zero, suc, ◌<◌, Bool, true, false, true≢false, ◌⊎◌, inl, inr, [], ◌∷◌, ◌++◌, length, get_or, position, is_some, Option, Some, None}
use Rattle.std.specs.Prelude.{slice_get, IfSome}
use Rattle.std.specs.Map.{keys_of, lookup}
use Rattle.std.proofs.lemmas.Map.{NonePasses, lookup-none, none_passes_from_lookup}
use Rattle.std.specs.List.{IsDistinct}
use Rattle.std.proofs.lemmas.Bool.{cases_lt}
use Rattle.std.proofs.lemmas.Map.Keys.{apart_from_distinct}
use Rattle.std.proofs.lemmas.Map.Entries.{length-keys_of}
use Rattle.std.proofs.lemmas.List.Quantifiers.{position-Some}
use Rattle.indexmap.proofs.MapLemmas.{some_index, insert_entry-absent, absent_from_lookup}
use Rattle.indexmap.specs.IndexMap.{insert_entry}
use Rattle.word_ops.specs.Laws.Lists.{slice_get-there, slice_get-append_some}
use Rattle.term_form.specs.declared.term.Node.{Node}
use Rattle.term_form.specs.declared.term.Node.TheVariants as nodes
use Rattle.term_form.specs.declared.term.Root.TheVariants as roots
use Rattle.term_form.specs.declared.facts.Facts.{Facts}
use Rattle.domain_laws.specs.Promises.{IsOverScope}
use Rattle.term_domain.specs.declared.key.Key.{Key}
use Rattle.term_domain.specs.contracts.key.KeyPartialEq.TheImpl.{eq-value as key_eq}
use Rattle.term_domain.specs.Keys.{own_place}
use Rattle.term_domain.specs.Rows.{Rows, node_at, node_in, IsTable}
use Rattle.term_domain.proofs.Keys.{same_key, same_parts, key_self}

none-some : {A : Type 0} (x : A) → None ≡ Some x → ⊥
none-some x e = cc

same_Some : {A : Type 0} (x y : A) → Some x ≡ Some y → x ≡ y
same_Some x y e = cc

-- ---- rows whose keys pass a test

key_at : (rows : Rows) (i : ℕ) (d : Key) (row : Key × Facts) → slice_get rows i ≡ Some row → get_or (keys_of rows) i d ≡ row.0
key_at [] i d row e = absurd (none-some row e)
key_at (r ∷ rows) zero d row e = ap (λ o. row_key o d) e
  where
    row_key : Option (Key × Facts) → Key → Key
    row_key None d = d
    row_key (Some r) d = r.0
key_at (r ∷ rows) (suc i) d row e = key_at rows i d row e

-- the row at the place that is found passes
passes_at : (t : Key → Bool) (rows : Rows) (i : ℕ) → position t (keys_of rows) ≡ Some i → (row : Key × Facts) × (i < length rows) × (slice_get rows i ≡ Some row) × (t row.0 ≡ true)
passes_at t [] i e = absurd (none-some i e)
passes_at t (r ∷ rows) i e =
    let p = position-Some t (keys_of (r ∷ rows)) i r.0 e in
    let lt : i < length (r ∷ rows) = subst (λ n. i < n) (length-keys_of (r ∷ rows)) p.0 in
    let row = slice_get-there (r ∷ rows) i lt in
    (row.0, lt, row.1, ap t (sym (key_at (r ∷ rows) i r.0 row.0 row.1)) ∙ p.1)

none_at : (t : Key → Bool) (rows : Rows) → NonePasses t rows → (i : ℕ) (row : Key × Facts) → slice_get rows i ≡ Some row → t row.0 ≡ false
none_at t [] h i row e = absurd (none-some row e)
none_at t (r ∷ rows) h zero row e = subst (λ (r : Key × Facts). t r.0 ≡ false) (same_Some r row e) h.0
none_at t (r ∷ rows) h (suc i) row e = none_at t rows h.1 i row e

none_from : (t : Key → Bool) (rows : Rows) → ((i : ℕ) (row : Key × Facts) → slice_get rows i ≡ Some row → t row.0 ≡ false) → NonePasses t rows
none_from t [] h = tt
none_from t (r ∷ rows) h = (h zero r refl, none_from t rows (λ i row e. h (suc i) row e))

is_none : {A : Type 0} (o : Option A) → is_some o ≡ false → o ≡ None
is_none None e = refl
is_none (Some x) e = absurd (true≢false e)

within : (rows : Rows) (x : ℕ) (row : Key × Facts) → slice_get rows x ≡ Some row → x < length rows
within [] x row e = absurd (none-some row e)
within (r ∷ rows) zero row e = omega arith
within (r ∷ rows) (suc x) row e = let lt = within rows x row e in omega (arith, lt)

-- two places of one node tell its terms apart, or it is shared
own_apart : (n : Node) (x y : ℕ) → own_place n x ≡ own_place n y → (own_place n y ≡ None) ⊎ (x ≡ y)
own_apart (nodes.Konst k) x y e = inl refl
own_apart (nodes.Root (roots.Global g)) x y e = inl refl
own_apart (nodes.Root (roots.Local l)) x y e = inl refl
own_apart (nodes.Root (roots.Param i)) x y e = inr (same_Some x y e)
own_apart (nodes.Root roots.Got) x y e = inr (same_Some x y e)
own_apart (nodes.Root roots.Called) x y e = inr (same_Some x y e)
own_apart (nodes.Operate op a b) x y e = inl refl
own_apart (nodes.Load k p) x y e = inr (same_Some x y e)
own_apart nodes.Phi x y e = inr (same_Some x y e)

-- ---- shared nodes

-- what is found for a shared node has that node
pub found_node : (rows : Rows) (key : Key) (r : Option ℕ) → r ≡ position (key_eq.it key) (keys_of rows) → IfSome r (λ x. (x < length rows) × (node_at rows x ≡ key.node))
found_node rows key None e = tt
found_node rows key (Some x) e =
    let p = passes_at (key_eq.it key) rows x (sym e) in
    (p.1, ap node_in p.2 ∙ ap (λ k. k.node) (sym (same_key key p.0.0 p.3)))

-- the row of a shared node has its key
key_is : (rows : Rows) (key : Key) → IsTable rows → ((x : ℕ) → own_place key.node x ≡ None) → key.own ≡ None → (x : ℕ) (row : Key × Facts) →
    slice_get rows x ≡ Some row → node_at rows x ≡ key.node → key ≡ row.0
key_is rows key h shared own x row e n =
    let same : row.0.node ≡ key.node = ap node_in (sym e) ∙ n in
    let none : row.0.own ≡ None = h.keyed x row e ∙ ap (λ m. own_place m x) same ∙ shared x in
    same_parts key row.0 (sym same) (own ∙ sym none)

-- two rows with one key are one
one_place : (rows : Rows) (key : Key) → IsDistinct key_eq.it (keys_of rows) → (x y : ℕ) (row other : Key × Facts) →
    slice_get rows x ≡ Some row → slice_get rows y ≡ Some other → key ≡ row.0 → key ≡ other.0 → x < y → ⊥
one_place rows key d x y row other e f k l lt =
    let within_y : y < length (keys_of rows) = subst (λ n. y < n) (sym (length-keys_of rows)) (within rows y other f) in
    let apart = apart_from_distinct key_eq.it (keys_of rows) x y key d lt within_y in
    let first : get_or (keys_of rows) x key ≡ key = key_at rows x key row e ∙ sym k in
    let second : get_or (keys_of rows) y key ≡ key = key_at rows y key other f ∙ sym l in
    true≢false (sym (key_self key) ∙ ap (λ a. key_eq.it a key) (sym first) ∙ ap (key_eq.it (get_or (keys_of rows) x key)) (sym second) ∙ apart)

-- what is found for a shared node is the only term of the node
pub only_node : (rows : Rows) (key : Key) → IsTable rows → IsDistinct key_eq.it (keys_of rows) → ((x : ℕ) → own_place key.node x ≡ None) →
    key.own ≡ None → (r : Option ℕ) → r ≡ position (key_eq.it key) (keys_of rows) →
    IfSome r (λ x. (y : ℕ) → y < length rows → node_at rows y ≡ key.node → y ≡ x)
only_node rows key h d shared own None e = tt
only_node rows key h d shared own (Some x) e = λ y lt n.
    let p = passes_at (key_eq.it key) rows x (sym e) in
    let k = same_key key p.0.0 p.3 in
    let other = slice_get-there rows y lt in
    let l = key_is rows key h shared own y other.0 other.1 n in
    elim (cases_lt x y) [
      | inl less ↦ absurd (one_place rows key d x y p.0 other.0 p.2 other.1 k l less)
      | inr le ↦ elim (cases_lt y x) [
        | inl less ↦ absurd (one_place rows key d y x other.0 p.0 other.1 p.2 l k less)
        | inr ge ↦ omega (arith, le, ge)
      ]
    ]

-- where none is found, no term has the node
pub no_node : (rows : Rows) (key : Key) → IsTable rows → ((x : ℕ) → own_place key.node x ≡ None) → key.own ≡ None →
    None ≡ position (key_eq.it key) (keys_of rows) → (x : ℕ) → x < length rows → node_at rows x ≢ key.node
no_node rows key h shared own e x lt n =
    let row = slice_get-there rows x lt in
    let absent : lookup (key_eq.it key) rows ≡ None = is_none (lookup (key_eq.it key) rows) (sym (some_index (key_eq.it key) rows) ∙ ap is_some (sym e)) in
    let fails = none_at (key_eq.it key) rows (none_passes_from_lookup (key_eq.it key) rows absent) x row.0 row.1 in
    let is = key_is rows key h shared own x row.0 row.1 n in
    true≢false (sym (key_self key) ∙ ap (key_eq.it key) is ∙ fails)

-- a key that no row has is put behind all rows
pub pushed_rows : (rows : Rows) (key : Key) (facts : Facts) → IsTable rows → key.own ≡ own_place key.node (length rows) →
    (own_place key.node (length rows) ≡ None → (x : ℕ) → x < length rows → node_at rows x ≢ key.node) →
    insert_entry key_eq.it rows key facts ≡ rows ++ (key, facts) ∷ []
pushed_rows rows key facts h own new = insert_entry-absent key_eq.it key facts rows (absent_from_lookup (key_eq.it key) rows (lookup-none (key_eq.it key) rows (none_from (key_eq.it key) rows (λ x row e. differs x row e (key_eq.it key row.0) refl))))
  where
    differs : (x : ℕ) (row : Key × Facts) → slice_get rows x ≡ Some row → (b : Bool) → key_eq.it key row.0 ≡ b → b ≡ false
    differs x row e false q = refl
    differs x row e true q =
        let is : key ≡ row.0 = same_key key row.0 q in
        let node : row.0.node ≡ key.node = ap (λ k. k.node) (sym is) in
        let places : own_place key.node x ≡ own_place key.node (length rows) =
        ap (λ m. own_place m x) (sym node) ∙ sym (h.keyed x row e) ∙ ap (λ k. k.own) (sym is) ∙ own in
        absurd (elim (own_apart key.node x (length rows) places) [
          | inl none ↦ new none x (within rows x row e) (ap node_in e ∙ node)
          | inr same ↦ let lt = within rows x row e in omega (arith, same, lt)
        ])

only_row : {A : Type 0} (r x : A) (j : ℕ) → slice_get (r ∷ []) j ≡ Some x → (j ≡ 0) × (r ≡ x)
only_row r x zero e = (refl, same_Some r x e)
only_row r x (suc j) e = absurd (none-some x e)

-- a row of a longer table is an old one, or the last
row_of : (rows : Rows) (last row : Key × Facts) (x : ℕ) → slice_get (rows ++ last ∷ []) x ≡ Some row →
    (slice_get rows x ≡ Some row) ⊎ ((x ≡ length rows) × (last ≡ row))
row_of rows last row x e = elim (slice_get-append_some rows (last ∷ []) x row e) [
  | inl old ↦ inl old
  | inr new ↦ let o = only_row last row new.0 new.2 in inr (omega (arith, new.1, o.0), o.1)
]

-- the table of one more row
pub IsTable-push : (rows : Rows) (key : Key) (facts : Facts) → IsTable rows → key.own ≡ own_place key.node (length rows) →
    IsOverScope (λ y. y < length rows) key.node → IsTable (rows ++ (key, facts) ∷ [])
IsTable-push rows key facts h own older = record {
  keyed = λ x row e. elim (row_of rows (key, facts) row x e) [
    | inl old ↦ h.keyed x row old
    | inr new ↦ subst (λ (r : Key × Facts). r.0.own ≡ own_place r.0.node x) new.1 (own ∙ ap (own_place key.node) (sym new.0))
  ];
  older = λ x row e. elim (row_of rows (key, facts) row x e) [
    | inl old ↦ h.older x row old
    | inr new ↦ subst (λ (r : Key × Facts). IsOverScope (λ y. y < x) r.0.node) new.1 (subst (λ n. IsOverScope (λ y. y < n) key.node) (sym new.0) older)
  ];
}

-- ---- the same of a table that is seen as other rows

own_is : (rows : Rows) (key : Key) (node : Node) (place : ℕ) → place ≡ length rows → key.node ≡ node → key.own ≡ own_place node place →
    key.own ≡ own_place key.node (length rows)
own_is rows key node place p n o = o ∙ ap (own_place node) p ∙ ap (λ m. own_place m (length rows)) (sym n)

pub found_in : (rows now : Rows) (key : Key) (node : Node) (r : Option ℕ) → rows ≡ now → key.node ≡ node →
    r ≡ position (key_eq.it key) (keys_of rows) → IfSome r (λ x. (x < length now) × (node_at now x ≡ node))
found_in rows now key node r v n e =
    subst (λ (now : Rows). IfSome r (λ x. (x < length now) × (node_at now x ≡ node))) v
    (subst (λ (node : Node). IfSome r (λ x. (x < length rows) × (node_at rows x ≡ node))) n (found_node rows key r e))

pub only_in : (rows now : Rows) (key : Key) (node : Node) (r : Option ℕ) → IsTable rows → IsDistinct key_eq.it (keys_of rows) → rows ≡ now →
    key.node ≡ node → key.own ≡ own_place node 0 → ((x : ℕ) → own_place node x ≡ None) → r ≡ position (key_eq.it key) (keys_of rows) →
    IfSome r (λ x. (y : ℕ) → y < length now → node_at now y ≡ node → y ≡ x)
only_in rows now key node r h d v n o shared e =
    subst (λ (now : Rows). IfSome r (λ x. (y : ℕ) → y < length now → node_at now y ≡ node → y ≡ x)) v
    (subst (λ (node : Node). IfSome r (λ x. (y : ℕ) → y < length rows → node_at rows y ≡ node → y ≡ x)) n
    (only_node rows key h d (λ x. ap (λ m. own_place m x) n ∙ shared x) (o ∙ shared 0) r e))

pub none_in : (rows now : Rows) (key : Key) (node : Node) (r : Option ℕ) → IsTable rows → rows ≡ now → key.node ≡ node →
    key.own ≡ own_place node 0 → ((x : ℕ) → own_place node x ≡ None) → r ≡ position (key_eq.it key) (keys_of rows) →
    r ≡ None → (x : ℕ) → x < length now → node_at now x ≢ node
none_in rows now key node r h v n o shared e f =
    subst (λ (now : Rows). (x : ℕ) → x < length now → node_at now x ≢ node) v
    (subst (λ (node : Node). (x : ℕ) → x < length rows → node_at rows x ≢ node) n
    (no_node rows key h (λ x. ap (λ m. own_place m x) n ∙ shared x) (o ∙ shared 0) (sym f ∙ e)))

pub pushed_in : (rows now new : Rows) (key : Key) (node : Node) (facts : Facts) (place : ℕ) → IsTable rows → rows ≡ now →
    place ≡ length rows → key.node ≡ node → key.own ≡ own_place node place →
    (own_place node (length now) ≡ None → (x : ℕ) → x < length now → node_at now x ≢ node) →
    new ≡ insert_entry key_eq.it rows key facts → new ≡ rows ++ (key, facts) ∷ []
pushed_in rows now new key node facts place h v p n o alone e =
    e ∙ pushed_rows rows key facts h (own_is rows key node place p n o)
    (subst (λ (node : Node). own_place node (length rows) ≡ None → (x : ℕ) → x < length rows → node_at rows x ≢ node) (sym n)
    (subst (λ (now : Rows). own_place node (length now) ≡ None → (x : ℕ) → x < length now → node_at now x ≢ node) (sym v) alone))

pub table_in : (rows now new : Rows) (key : Key) (node : Node) (facts : Facts) (place : ℕ) → IsTable rows → rows ≡ now →
    place ≡ length rows → key.node ≡ node → key.own ≡ own_place node place → IsOverScope (λ y. y < length now) node →
    new ≡ rows ++ (key, facts) ∷ [] → IsTable new
table_in rows now new key node facts place h v p n o older e =
    subst IsTable (sym e)
    (IsTable-push rows key facts h (own_is rows key node place p n o)
    (subst (IsOverScope (λ y. y < length rows)) (sym n) (subst (λ (now : Rows). IsOverScope (λ y. y < length now) node) (sym v) older)))
