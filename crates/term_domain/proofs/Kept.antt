-- What each change of the table keeps, in the words of the trait.
use Rattle.std.proofs.Common.{◌≡◌, refl, sym, ◌∙◌, ap, subst, arith, ℕ, ◌<◌, inl, inr, [], ◌∷◌, ◌++◌, length, take, Result, Ok, Err, IfOk, OnOk}
use Rattle.std.specs.Prelude.{slice_get}
use Rattle.std.proofs.lemmas.Grind.{common_steps}
use Rattle.word_ops.specs.declared.operation.Width.{Width}
use Rattle.word_ops.specs.Laws.Lists.{slice_get-append}
use Rattle.term_form.specs.declared.term.Node.{Node}
use Rattle.term_form.specs.declared.facts.Facts.{Facts}
use Rattle.term_form.specs.Narrower.{IsNarrower}
use Rattle.term_form.proofs.Widths.{IsNarrower-refl}
use Rattle.scope_map.specs.Scopes.{Marked}
use Rattle.scope_map.proofs.Marks.{Marked-append}
use Rattle.domain_laws.specs.World.{World}
use Rattle.domain_laws.specs.Promises.{Keeps, Extends, Adds, Same, Brings, Restores}
use Rattle.term_domain.specs.declared.terms.Terms.{Terms}
use Rattle.term_domain.specs.declared.terms.TermMark.{TermMark}
use Rattle.term_domain.specs.Rows.{Rows, node_in, facts_in, node_at, facts_at, IsPushed, IsNew, IsShared, TableStands}

-- ---- what the trait speaks of

abbrev pub Stands : Terms → World → Type 0
Stands d w = TableStands d.table w

abbrev pub Has : Terms → ℕ → Type 0
Has d x = x < length d.table

abbrev pub node_of : Terms → ℕ → Node
node_of d x = node_at d.table x

abbrev pub facts_of : Terms → ℕ → Facts
facts_of d x = facts_at d.table x

abbrev pub IsMarked : Terms → TermMark → Terms → Type 0
IsMarked d m e = Marked d.table m.count e.table

abbrev pub Recalls : Terms → ℕ → Width → Type 0
Recalls d p k = ⊥

-- ---- longer tables

-- the old rows stand in front of the new ones
abbrev pub IsGrown : (old new : Rows) → Type 0
IsGrown old new = (more : Rows) × (new ≡ old ++ more)

pub grown_same : (old new : Rows) → new ≡ old → IsGrown old new
grown_same old new e = ([], grind (arith, common_steps, e))

pub grown_pushed : (old new : Rows) (node : Node) (facts : Facts) → IsPushed old node facts new → IsGrown old new
grown_pushed old new node facts p = ((p.0, facts) ∷ [], p.2)

pub grown_shared : (old new : Rows) (node : Node) (facts : Facts) (t : ℕ) → IsShared old node facts t new → IsGrown old new
grown_shared old new node facts t (inl f) = grown_same old new f.same
grown_shared old new node facts t (inr a) = grown_pushed old new node facts a.fresh.pushed

row_kept : (old new : Rows) (x : ℕ) → IsGrown old new → x < length old → slice_get new x ≡ slice_get old x
row_kept old new x g lt = ap (λ (rows : Rows). slice_get rows x) g.1 ∙ slice_get-append old g.0 x lt

longer : (old new : Rows) (x : ℕ) → IsGrown old new → x < length old → x < length new
longer old new x g lt = let e = g.1 in grind (arith, common_steps)

mark_kept : (old new at : Rows) (count : ℕ) → IsGrown old new → Marked old count at → Marked new count at
mark_kept old new at count g m = subst (λ (rows : Rows). Marked rows count at) (sym g.1) (Marked-append g.0 m)

pub grown_extends : (old new : Terms) → IsGrown old.table new.table → Extends Has node_of facts_of IsMarked old new
grown_extends old new g = record {
  scope = λ x lt. longer old.table new.table x g lt;
  nodes = λ x lt. ap node_in (row_kept old.table new.table x g lt);
  narrower = λ x lt. subst (λ (f : Facts). IsNarrower f (facts_of old x)) (ap facts_in (sym (row_kept old.table new.table x g lt))) (IsNarrower-refl (facts_of old x));
  marks = λ m d h. mark_kept old.table new.table d.table m.count g h;
}

pub grown_adds : (old new : Terms) → IsGrown old.table new.table → Adds IsMarked Recalls old new
grown_adds old new g = record { lights = λ m d h. mark_kept old.table new.table d.table m.count g h; keeps = λ p k h. h }

-- ---- the same table

pub same_state : (old new : Terms) → new.table ≡ old.table → Same Stands Has node_of facts_of IsMarked IsMarked Recalls old new
same_state old new e = record {
  stood = λ w h. subst (λ (rows : Rows). TableStands rows w) (sym e) h;
  stands_still = λ w h. subst (λ (rows : Rows). TableStands rows w) e h;
  extends = grown_extends old new (grown_same old.table new.table e);
  scope = λ x lt. subst (λ (rows : Rows). x < length rows) e lt;
  facts_stay = λ x lt. ap (λ (rows : Rows). facts_at rows x) e;
  adds = grown_adds old new (grown_same old.table new.table e);
  recalled = λ p k h. h;
}

pub same_keeps : (d : Terms) → Keeps Has node_of IsMarked d d
same_keeps d = record { scope = λ x lt. lt; nodes = λ x lt. refl; marks = λ m e h. h }

-- ---- leaving a mark

-- what is left is the table at the mark
pub left_at : (old new at : Terms) (count : ℕ) → new.table ≡ take count old.table → Marked old.table count at.table → new.table ≡ at.table
left_at old new at count e m = e ∙ m.kept

pub left_restores : (old new at : Terms) (count : ℕ) → new.table ≡ take count old.table → Marked old.table count at.table →
    Restores Stands Has node_of facts_of IsMarked at new
left_restores old new at count e m =
    let s = same_state at new (left_at old new at count e m) in
    record { stood = s.stood; extends = s.extends; scope = s.scope }

-- ---- answers

pub on_ok : {T E Q : Type 0} {P : T → Type 0} (r : Result T E) → ((x : T) → P x → Q) → IfOk r P → OnOk r Q
on_ok (Ok x) f h = f x h
on_ok (Err e) f h = tt

-- ---- scope

pub brings_new : (old new : Terms) (node : Node) (facts : Facts) (t : ℕ) → IsNew old.table node facts t new.table → Brings Has old new t
brings_new old new node facts t n =
    let e = n.number in
    let p = n.pushed.2 in
    record { answered = grind (arith, common_steps); only = λ x lt ne. grind (arith, common_steps) }
