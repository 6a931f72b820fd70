-- Files in a list: one that is found by its name, is replaced, or is added.
use Rattle.std.proofs.Common.{◌≡◌, ℕ, zero, suc, ◌+◌, ◌<◌, Bool, true, false, cond, List, [], ◌∷◌, ◌++◌, map, length, take, set, get_or, refl, sym, ap, subst, ◌∙◌, arith, Option, Some, None, Equal, nat_cmp, nat_eq, true≢false}
use Rattle.std.proofs.lemmas.List.{map-append, take_more}
use Rattle.std.specs.Ordering.{eq_by_cmp, is_eq}
use Rattle.std.specs.Cmp.{tied_itself}
use Rattle.std.specs.Cmp.Lexicographic.{pointwise, slice_cmp, nat_list_cmp_total, nat_list_eq_equiv, texts_ties}
use Rattle.std.specs.FinMap.{find, insert, from_entries, get-insert, get-from_entries, same_map, from_entries_push, slice_cmp-IsAntisymmetric, nat_cmp-IsAntisymmetric, IsAntisymmetric}
use Rattle.ccai_io.specs.Outside.{file_of}
use Rattle.ccai_io.specs.Table.{entry_of, files_of}
use Rattle.ccai_io.specs.declared.file_table.StoredFile.{StoredFile}

-- the bytes of the first file of a name
abbrev pub found : List ℕ → List StoredFile → Option (List ℕ)
found name files = find (slice_cmp nat_cmp) name (map entry_of files)

same_name : (name : List ℕ) → eq_by_cmp (slice_cmp nat_cmp) name name ≡ true
same_name name = ap is_eq (tied_itself nat_list_cmp_total name)

names_differ : IsAntisymmetric (slice_cmp nat_cmp)
names_differ = slice_cmp-IsAntisymmetric nat_cmp-IsAntisymmetric

passed : (b : Bool) (x : List ℕ) (rest : Option (List ℕ)) → cond b (Some x) rest ≡ None → (b ≡ false) × (rest ≡ None)
passed true x rest none = cc
passed false x rest none = (refl, none)

twice : (b : Bool) (x y : List ℕ) (rest : Option (List ℕ)) → cond b (Some x) rest ≡ cond b (Some x) (cond b (Some y) rest)
twice true x y rest = refl
twice false x y rest = refl

exchanged : (a b : Bool) (x y : List ℕ) (rest : Option (List ℕ)) → (a ≡ true → b ≡ true → ⊥) → cond a (Some x) (cond b (Some y) rest) ≡ cond b (Some y) (cond a (Some x) rest)
exchanged true true x y rest apart = absurd (apart refl refl)
exchanged true false x y rest apart = refl
exchanged false b x y rest apart = refl

is_equal : (o : _) → is_eq o ≡ true → o ≡ Equal
is_equal o e = grind arith

-- a name that ties with two names makes these tie
joined : (q a b : List ℕ) → eq_by_cmp (slice_cmp nat_cmp) q a ≡ true → eq_by_cmp (slice_cmp nat_cmp) q b ≡ true → eq_by_cmp (slice_cmp nat_cmp) a b ≡ true
joined q a b qa qb =
    let same : q ≡ a = names_differ q a (is_equal _ qa) in
    subst (λ x. eq_by_cmp (slice_cmp nat_cmp) x b ≡ true) same qb

-- the first file of a name gives its bytes
found_at : (files : List StoredFile) (i : ℕ) (name : List ℕ) (d : StoredFile) → found name (take i files) ≡ None → i < length files → (get_or files i d).name ≡ name → found name files ≡ Some (get_or files i d).bytes
found_at [] i name d none within named = absurd (omega arith)
found_at (file ∷ files) zero name d none within named =
    ap (λ b. cond b (Some file.bytes) (found name files)) (subst (λ n. eq_by_cmp (slice_cmp nat_cmp) n file.name ≡ true) named (same_name file.name))
found_at (file ∷ files) (suc i) name d none within named =
    let parts = passed _ _ _ none in
    ap (λ b. cond b (Some file.bytes) (found name files)) parts.0 ∙ found_at files i name d parts.1 (omega arith) named

one_more : (files : List StoredFile) (name : List ℕ) (file : StoredFile) → found name files ≡ None → eq_by_cmp (slice_cmp nat_cmp) name file.name ≡ false → found name (files ++ file ∷ []) ≡ None
one_more [] name file none other = ap (λ b. cond b (Some file.bytes) None) other
one_more (first ∷ files) name file none other =
    let parts = passed _ _ _ none in
    ap (λ b. cond b (Some first.bytes) (found name (files ++ file ∷ []))) parts.0 ∙ one_more files name file parts.1 other

-- no file up to the next one has the name, if that has another name
pub not_found_yet : (files : List StoredFile) (i : ℕ) (name : List ℕ) (file : StoredFile) → found name (take i files) ≡ None → i < length files → file ≡ get_or files i file → pointwise nat_eq file.name name ≡ false
    → found name (take (i + 1) files) ≡ None
not_found_yet files i name file none within is other =
    let differs : eq_by_cmp (slice_cmp nat_cmp) name file.name ≡ false = sym (texts_ties name file.name) ∙ nat_list_eq_equiv.symm name file.name ∙ other in
    ap (found name) (take_more files i file within ∙ ap (λ f. take i files ++ f ∷ []) (sym is)) ∙ one_more (take i files) name file none differs

found_in_replaced : (files : List StoredFile) (i : ℕ) (name bytes q : List ℕ) (d : StoredFile) → found name (take i files) ≡ None → i < length files → (get_or files i d).name ≡ name
    → found q (set files i (record { name = name; bytes = bytes })) ≡ cond (eq_by_cmp (slice_cmp nat_cmp) q name) (Some bytes) (found q files)
found_in_replaced [] i name bytes q d none within named = absurd (omega arith)
found_in_replaced (file ∷ files) zero name bytes q d none within named =
    subst (λ n. cond (eq_by_cmp (slice_cmp nat_cmp) q name) (Some bytes) (found q files) ≡ cond (eq_by_cmp (slice_cmp nat_cmp) q name) (Some bytes) (cond (eq_by_cmp (slice_cmp nat_cmp) q n) (Some file.bytes) (found q files))) (sym named) (twice (eq_by_cmp (slice_cmp nat_cmp) q name) bytes file.bytes (found q files))
found_in_replaced (file ∷ files) (suc i) name bytes q d none within named =
    let parts = passed _ _ _ none in
    ap (cond (eq_by_cmp (slice_cmp nat_cmp) q file.name) (Some file.bytes)) (found_in_replaced files i name bytes q d parts.1 (omega arith) named)
    ∙ exchanged _ _ _ _ _ (λ first second. let tie = joined q name file.name second first in absurd (true≢false (sym tie ∙ parts.0)))

-- a file of the table is found in its list
pub file_of-files_of : (files : List StoredFile) (name : List ℕ) → file_of (files_of files) name ≡ found name files
file_of-files_of files name = get-from_entries nat_list_cmp_total (map entry_of files) name

-- the first file of a name is the one of the table
pub file_at : (files : List StoredFile) (i : ℕ) (name : List ℕ) (file : StoredFile) → file_of (files_of (take i files)) name ≡ None → i < length files → file ≡ get_or files i file → file.name ≡ name
    → file_of (files_of files) name ≡ Some file.bytes
file_at files i name file none within is named =
    file_of-files_of files name
    ∙ found_at files i name file (sym (file_of-files_of (take i files) name) ∙ none) within (ap (λ f. f.name) (sym is) ∙ named)
    ∙ ap (λ f. Some f.bytes) (sym is)

-- to replace the first file of a name is to insert it
pub replaced : (files : List StoredFile) (i : ℕ) (name bytes : List ℕ) (file : StoredFile) → file_of (files_of (take i files)) name ≡ None → i < length files → file ≡ get_or files i file → file.name ≡ name
    → files_of (set files i (record { name = file.name; bytes = bytes })) ≡ insert (files_of files) name bytes
replaced files i name bytes file none within is named =
    let absent : found name (take i files) ≡ None = sym (file_of-files_of (take i files) name) ∙ none in
    let at : (get_or files i file).name ≡ name = ap (λ f. f.name) (sym is) ∙ named in
    ap (λ n. files_of (set files i (record { name = n; bytes = bytes }))) named
    ∙ same_map nat_list_cmp_total names_differ _ _ (λ q.
    get-from_entries nat_list_cmp_total (map entry_of (set files i (record { name = name; bytes = bytes }))) q
    ∙ found_in_replaced files i name bytes q file absent within at
    ∙ sym (get-insert nat_list_cmp_total (files_of files) name bytes q ∙ ap (cond (eq_by_cmp (slice_cmp nat_cmp) q name) (Some bytes)) (get-from_entries nat_list_cmp_total (map entry_of files) q)))

-- to add a file whose name is new is to insert it
pub added : (files : List StoredFile) (name bytes : List ℕ) → file_of (files_of files) name ≡ None → files_of (files ++ record { name = name; bytes = bytes } ∷ []) ≡ insert (files_of files) name bytes
added files name bytes none =
    ap (from_entries {R = slice_cmp nat_cmp}) (map-append entry_of files (record { name = name; bytes = bytes } ∷ []))
    ∙ from_entries_push nat_list_cmp_total names_differ (map entry_of files) name bytes (sym (file_of-files_of files name) ∙ none)
