-- Laws of regions: acts and calls leave the regions that were there, with their sizes, flags and addresses.
-- No contract cites this file: it holds proofs.
use Rattle.std.proofs.Common.{◌≡◌, refl, ℕ, zero, suc, ◌+◌, length, arith, true, false}
use Rattle.std.proofs.lemmas.Option.{none-some}
use Rattle.std.specs.Prelude.{Option, Some, None, Bool, List, not, ◌||◌, ◌/◌, ◌==◌, slice_get}
use Rattle.std.specs.Option.{option_map, option_and_then}
use Rattle.word_ops.specs.Choice.{when}
use Rattle.word_ops.specs.Store.{Value, Cell, Unset, Byte, Store, refill_region}
use Rattle.word_ops.specs.Access.{load, write, cells_from, put_cells, is_constant}
use Rattle.word_ops.specs.Values.{value_of_operation}
use Rattle.word_ops.specs.Changes.{SameRegions, SameShapes}
use Rattle.word_ops.specs.Run.{Outside, Run, branch}
use Rattle.word_ops.specs.Laws.Accesses.{Puts, put_cells-some, Puts-shapes, write-shapes}
use Rattle.word_ops.specs.Laws.Regions.{refill_region-shapes, SameRegions-refl, SameRegions-trans, SameShapes-regions, SameRegions-append, SameRegions-ends}
use Rattle.core_lang.specs.declared.act.Core.{Core}
use Rattle.core_lang.specs.declared.act.Core.TheVariants as c
use Rattle.core_lang.specs.declared.program.CoreFunction.{CoreFunction}
use Rattle.core_lang.specs.Layout.{Layout}
use Rattle.core_lang.specs.State.{State, Activation, value_of_atom}
use Rattle.core_lang.specs.Copying.{in_units, overlap_in_part, copied}
use Rattle.core_lang.specs.Acts.{Invocation, Calls, assign, with_store, value_of_pointers, act, acts}
use Rattle.core_lang.specs.Run.{activation_of, first_state, run_body, calls}
use Rattle.core_lang.specs.Following.{IsPlainAct, OnGives, KeepsState}
use Rattle.core_lang.specs.Laws.Keeping.{OnGives-then, OnGives-given, OnGives-more, Kept, assign-keeps, with_store-keeps, put_value-keeps, exit_value-keeps, get-keeps, call-keeps, each_of, acts-keep}

-- ---- copies

-- a copy that is defined puts the cells of the source, unit by unit, at the target
pub record Copies (s t : Store) (to from : Value) (size alignment : ℕ) : Type 0 where
  pub modifiable : is_constant s to ≡ false
  pub apart : overlap_in_part to from size ≡ false
  pub cells : List Cell
  pub source : cells_from s from size alignment ≡ Some cells
  pub target : Puts s t to alignment (in_units (size / alignment) alignment cells)

pub copied-some : (s t : Store) (p q : Value) (n a : ℕ) → copied s p q n a ≡ Some t → Copies s t p q n a
copied-some s t p q n a e = go (is_constant s p) (overlap_in_part p q n) refl refl e
  where
    from : (o : Option (List Cell)) → cells_from s q n a ≡ o →
        option_and_then (put_cells s p a) (option_map (in_units (n / a) a) o) ≡ Some t → is_constant s p ≡ false →
        overlap_in_part p q n ≡ false → Copies s t p q n a
    from None f h x y = absurd (none-some t h)
    from (Some cs) f h x y =
        record { modifiable = x; apart = y; cells = cs; source = f; target = put_cells-some s t p a (in_units (n / a) a cs) h }

    go : (b d : Bool) → is_constant s p ≡ b → overlap_in_part p q n ≡ d →
        when (not (b || d)) (option_and_then (put_cells s p a) (option_map (in_units (n / a) a) (cells_from s q n a))) ≡ Some t →
        Copies s t p q n a
    go true d x y h = absurd (none-some t h)
    go false true x y h = absurd (none-some t h)
    go false false x y h = from (cells_from s q n a) refl h x y

pub copied-shapes : (s t : Store) (p q : Value) (n a : ℕ) → copied s p q n a ≡ Some t → SameShapes s t
copied-shapes s t p q n a e =
    let h = copied-some s t p q n a e in Puts-shapes s t p a (in_units (n / a) a h.cells) h.target

-- ---- acts

module _ (call : Calls) (kept : (c : Invocation) (w : Outside) → OnGives (λ t v. SameRegions c.store t) (call c w)) (start : Store) where
  -- the regions of a store are in the state's, and nothing is said of what is given back
  abbrev Has : State → Type 0
  Has s = SameRegions start s.store

  abbrev Nothing : State → Option Value → Type 0
  Nothing s v = Unit {0}

  assign_has : (x : ℕ) (o : Option Value) (s : State) (w : Outside) → Has s → OnGives (Kept Has Nothing) (assign x o s w)
  assign_has x o s w h = assign-keeps Has Nothing x o s w (λ v e. h)

  store_has : (o : Option Store) (s : State) (w : Outside) → Has s →
      ((t : Store) → o ≡ Some t → SameShapes s.store t) → OnGives (Kept Has Nothing) (with_store o s w)
  store_has o s w h k =
      with_store-keeps Has Nothing o s w (λ t e. SameRegions-trans start s.store t h (SameShapes-regions s.store t (k t e)))

  refill_has : (s : State) (r : ℕ) (c : Cell) → Has s → Has (record s { store = refill_region s.store r c })
  refill_has s r c h =
      SameRegions-trans start s.store (refill_region s.store r c) h (SameShapes-regions s.store (refill_region s.store r c) (refill_region-shapes s.store r c))

  plain_has : (e : Activation) (a : Core) → IsPlainAct a → Unit {0} → KeepsState Has Nothing (act call e a)
  plain_has e (c.Move x v) p q s w h = (h, tt)
  plain_has e (c.Operate x op u v) p q s w h =
      assign_has x (value_of_operation s.store op (value_of_atom e s u) (value_of_atom e s v)) s w h
  plain_has e (c.Pointer x op u v) p q s w h =
      assign_has x (value_of_pointers s.store op (value_of_atom e s u) (value_of_atom e s v)) s w h
  plain_has e (c.Load x k v) p q s w h = assign_has x (load s.store k (value_of_atom e s v)) s w h
  plain_has e (c.Store k u v) p q s w h =
      store_has (write s.store k (value_of_atom e s u) (value_of_atom e s v)) s w h (λ t d. write-shapes s.store t k (value_of_atom e s u) (value_of_atom e s v) d)
  plain_has e (c.Enter x) p q s w h = (refill_has s (e.first + x) Unset h, tt)
  plain_has e (c.Fill x) p q s w h = (refill_has s (e.first + x) (Byte 0) h, tt)
  plain_has e (c.Copy u v n k) p q s w h =
      store_has (copied s.store (value_of_atom e s u) (value_of_atom e s v) n k) s w h (λ t d. copied-shapes s.store t (value_of_atom e s u) (value_of_atom e s v) n k d)
  plain_has e (c.Call x f vs) p q s w h =
      call-keeps Has Nothing call e x f vs s w (λ t v. SameRegions s.store t) (λ w. kept _ w) (λ t v m. SameRegions-trans start s.store t h m) (λ t y v a m i. i)
  plain_has e (c.Get x) p q s w h = get-keeps Has Nothing x s w h
  plain_has e (c.Put v) p q s w h = put_value-keeps Has Nothing (value_of_atom e s v) s w h
  plain_has e (c.Exit v) p q s w h = exit_value-keeps Has Nothing (value_of_atom e s v) s w
  plain_has e (c.Block' n all) p q s w h = absurd p
  plain_has e (c.Loop' n all) p q s w h = absurd p
  plain_has e (c.Break k) p q s w h = (h, tt)
  plain_has e (c.If' v n first m second) p q s w h = absurd p
  plain_has e (c.Return None) p q s w h = (h, tt)
  plain_has e (c.Return (Some v)) p q s w h = (h, tt)

  acts_have : (e : Activation) (xs : List Core) → KeepsState Has Nothing (acts call e xs)
  acts_have e xs = acts-keep Has Nothing call e (λ a. Unit {0}) (λ v. Unit {0}) (plain_has e) xs (each_of xs)

-- acts leave the regions of the store
pub acts-regions : (call : Calls) → ((c : Invocation) (w : Outside) → OnGives (λ t v. SameRegions c.store t) (call c w)) →
    (e : Activation) (xs : List Core) (s : State) (w : Outside) →
    OnGives (λ (t : State) f. SameRegions s.store t.store) (acts call e xs s w)
acts-regions call kept e xs s w =
    OnGives-more _ (λ (t : State) f. SameRegions s.store t.store) (acts call e xs s w) (acts_have call kept s.store e xs s w (SameRegions-refl s.store)) (λ t f h. h.0)

-- ---- calls

pub OnGives-branch : {S A : Type 0} (P : S → A → Type 0) (b : Bool) (f g : S → Outside → Run S A) (s : S) (w : Outside) →
    (b ≡ true → OnGives P (f s w)) → (b ≡ false → OnGives P (g s w)) → OnGives P (branch b f g s w)
OnGives-branch P true f g s w h k = h refl
OnGives-branch P false f g s w h k = k refl

body_regions : (l : Layout) (call : Calls) → ((c : Invocation) (w : Outside) → OnGives (λ t v. SameRegions c.store t) (call c w)) →
    (c : Invocation) (g : CoreFunction) (w : Outside) → OnGives (λ t v. SameRegions c.store t) (run_body l call c g w)
body_regions l call kept c g w =
    let first = first_state l c g in
    OnGives-then (λ (t : State) f. SameRegions first.store t.store) (λ t v. SameRegions c.store t) (acts call (activation_of l c) g.body first w) _ (acts-regions call kept (activation_of l c) g.body first w) (λ s w f h. SameRegions-ends c.store s.store (length c.store) (length g.locals) (omega arith) (SameRegions-trans c.store first.store s.store (SameRegions-append c.store _) h))

-- a call leaves the regions of its caller
pub calls-regions : (l : Layout) (gs : List CoreFunction) (depth : ℕ) (c : Invocation) (w : Outside) →
    OnGives (λ t v. SameRegions c.store t) (calls l gs depth c w)
calls-regions l gs zero c w = tt
calls-regions l gs (suc depth) c w =
    OnGives-given (λ t v. SameRegions c.store t) (slice_get gs c.function) _ (λ g e. OnGives-branch (λ t v. SameRegions c.store t) (length c.arguments == g.params) _ _ c.store w (λ q. body_regions l (calls l gs depth) (calls-regions l gs depth) c g w) (λ q. tt))
