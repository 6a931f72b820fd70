-- A listing by functions: the records behind each function record, up to the next, each kind in a list of its own (the profile's
-- rule: a record belongs to the last function record before it, and argument records to the call directly before them).
use Rattle.std.specs.Prelude.{ℕ, ◌==◌, ◌&&◌, Bool, true, false, List, [], ◌∷◌, filter, Option, Some, None}
use Rattle.term_form.specs.declared.listing.Record.{Record}
use Rattle.term_form.specs.declared.listing.Record.TheVariants as records
use Rattle.term_form.specs.declared.listing.FunctionRecord.{FunctionRecord}
use Rattle.term_form.specs.declared.listing.BlockRecord.{BlockRecord}
use Rattle.term_form.specs.declared.listing.TermRecord.{TermRecord}
use Rattle.term_form.specs.declared.listing.EffectRecord.{EffectRecord}
use Rattle.term_form.specs.declared.listing.ArgumentRecord.{ArgumentRecord}
use Rattle.term_form.specs.declared.listing.EdgeRecord.{EdgeRecord}
use Rattle.term_form.specs.declared.listing.EndRecord.{EndRecord}

-- an effect, with the argument records directly behind it
pub record ListedEffect : Type 0 where
  pub effect : EffectRecord
  pub arguments : List ArgumentRecord

-- the records that belong to one function
pub record Records : Type 0 where
  pub blocks : List BlockRecord
  pub terms : List TermRecord
  pub effects : List ListedEffect
  pub edges : List EdgeRecord
  pub ends : List EndRecord
  -- argument records at the front, which belong to an effect right before them
  pub leading : List ArgumentRecord

pub record Function : Type 0 where
  pub head : FunctionRecord
  pub records : Records

-- the records before the first function record, which belong to none, and the functions
pub record Split : Type 0 where
  pub before : Records
  pub functions : List Function

abbrev pub no_records : Records
no_records = record { blocks = []; terms = []; effects = []; edges = []; ends = []; leading = [] }

abbrev pub with_block : BlockRecord → Records → Records
with_block b r = record r { blocks = b ∷ r.blocks; leading = [] }

abbrev pub with_term : TermRecord → Records → Records
with_term t r = record r { terms = t ∷ r.terms; leading = [] }

abbrev pub with_effect : EffectRecord → Records → Records
with_effect e r = record r { effects = record { effect = e; arguments = r.leading } ∷ r.effects; leading = [] }

abbrev pub with_argument : ArgumentRecord → Records → Records
with_argument a r = record r { leading = a ∷ r.leading }

abbrev pub with_edge : EdgeRecord → Records → Records
with_edge e r = record r { edges = e ∷ r.edges; leading = [] }

abbrev pub with_end : EndRecord → Records → Records
with_end e r = record r { ends = e ∷ r.ends; leading = [] }

abbrev pub in_front : (Records → Records) → Split → Split
in_front f s = record s { before = f s.before }

abbrev pub with_function : FunctionRecord → Split → Split
with_function f s = record { before = no_records; functions = record { head = f; records = s.before } ∷ s.functions }

abbrev pub split : List Record → Split
split [] = record { before = no_records; functions = [] }
split (records.Function f ∷ rs) = with_function f (split rs)
split (records.Block b ∷ rs) = in_front (with_block b) (split rs)
split (records.Term t ∷ rs) = in_front (with_term t) (split rs)
split (records.Effect e ∷ rs) = in_front (with_effect e) (split rs)
split (records.Argument a ∷ rs) = in_front (with_argument a) (split rs)
split (records.Edge e ∷ rs) = in_front (with_edge e) (split rs)
split (records.End e ∷ rs) = in_front (with_end e) (split rs)

abbrev pub functions_of : List Record → List Function
functions_of rs = (split rs).functions

-- ---- what is found by a number or at an address

-- what a list has where it has one thing
abbrev pub the_only : {A : Type 0} → List A → Option A
the_only [] = None
the_only (x ∷ []) = Some x
the_only (x ∷ y ∷ rest) = None

abbrev pub is_one : {A : Type 0} → List A → Bool
is_one [] = false
is_one (x ∷ []) = true
is_one (x ∷ y ∷ rest) = false

abbrev pub is_none_number : Option ℕ → Bool
is_none_number None = true
is_none_number (Some n) = false

abbrev pub is_number : ℕ → Option ℕ → Bool
is_number n None = false
is_number n (Some m) = n == m

abbrev pub functions_numbered : List Function → ℕ → List Function
functions_numbered fs n = filter (λ f. f.head.number == n) fs

abbrev pub functions_entered : List Function → (address : ℕ) → List Function
functions_entered fs at = filter (λ f. f.head.entry == at) fs

abbrev pub blocks_numbered : Records → ℕ → List BlockRecord
blocks_numbered r n = filter (λ b. b.number == n) r.blocks

abbrev pub blocks_at : Records → (address : ℕ) → List BlockRecord
blocks_at r at = filter (λ b. b.address == at) r.blocks

-- the blocks that are entered first
abbrev pub blocks_without_parent : Records → List BlockRecord
blocks_without_parent r = filter (λ b. is_none_number b.parent) r.blocks

abbrev pub first_blocks_at : Records → (address : ℕ) → List BlockRecord
first_blocks_at r at = filter (λ b. b.address == at) (blocks_without_parent r)

abbrev pub terms_numbered : Records → ℕ → List TermRecord
terms_numbered r n = filter (λ t. t.term.0 == n) r.terms

abbrev pub terms_at : Records → (address : ℕ) → List TermRecord
terms_at r at = filter (λ t. t.address == at) r.terms

abbrev pub effects_at : Records → (address : ℕ) → List ListedEffect
effects_at r at = filter (λ e. e.effect.address == at) r.effects

abbrev pub edges_of_phi : Records → (from to phi : ℕ) → List EdgeRecord
edges_of_phi r from to phi = filter (λ e. (e.from == from) && ((e.to == to) && (e.phi.0 == phi))) r.edges

abbrev pub ends_of_block : Records → (block : ℕ) → List EndRecord
ends_of_block r b = filter (λ e. e.block == b) r.ends

abbrev pub ends_at : Records → (address : ℕ) → List EndRecord
ends_at r at = filter (λ e. e.address == at) r.ends

abbrev pub arguments_at : ListedEffect → (position : ℕ) → List ArgumentRecord
arguments_at e i = filter (λ a. a.position == i) e.arguments
