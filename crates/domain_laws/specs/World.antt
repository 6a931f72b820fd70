-- Worlds: what a domain may stand for (after the concrete states of abstract interpretation).
use Rattle.std.specs.Prelude.{◌≡◌, ◌≢◌, ℕ, ◌-◌, ◌^◌, ◌<◌, ◌⊎◌, Bool, true, false, Option, Some, None}
use Rattle.word_ops.specs.Store.{Value, Number, Pointer, Store, Shape, shape_at}
use Rattle.word_ops.specs.Addresses.{word_of_value, IsValueIn, IsAddressed}
use Rattle.term_form.specs.declared.term.Root.{Root}
use Rattle.term_form.specs.declared.term.Root.TheVariants.{Global, Local, Param, Got, Called}
use Rattle.term_form.specs.Walk.{Values, with_value}

-- the values of terms by their numbers, the store, and the regions of the objects whose addresses are roots; what numbers
-- that name no term have here says nothing
pub record World : Type 0 where
  pub values : Values
  pub store : Store
  pub home : Root → Option ℕ

abbrev pub with_values : World → Values → World
with_values w u = record w { values = u }

abbrev pub with_store : World → Store → World
with_store w s = record w { store = s }

-- the world in which a term has another value
abbrev pub with_term : World → (term : ℕ) → Value → World
with_term w t v = with_values w (with_value w.values t v)

-- the word of a term
abbrev pub word_of_term : World → (term : ℕ) → ℕ
word_of_term w t = word_of_value w.store (w.values t)

-- the objects of a world have addresses of their own, and those of roots are all live and different
pub record IsWorld (s : Store) (home : Root → Option ℕ) : Type 0 where
  pub addressed : IsAddressed s
  pub homes : (g : Root) (r : ℕ) → home g ≡ Some r → (z : Shape) × (shape_at s r ≡ Some z) × (z.live ≡ true)
  pub differ : (g h : Root) (r : ℕ) → home g ≡ Some r → home h ≡ Some r → g ≡ h

-- a pointer to the first place of an object that is there
abbrev pub IsAtHome : Option ℕ → Value → Type 0
IsAtHome None v = ⊥
IsAtHome (Some r) v = v ≡ Pointer r 0

-- what a read of one input byte gives: 0 to 255, or -1 at the end of the input (C11 7.21.7.1p2, p3)
abbrev pub IsByteOrEnd : Value → Type 0
IsByteOrEnd (Number n) = (n < 256) ⊎ (n ≡ 2 ^ 32 - 1)
IsByteOrEnd (Pointer r o) = ⊥

-- a value that a root may have: an object its own pointer, an argument and the value of a call any value of the store
abbrev pub IsOfRoot : World → Root → Value → Type 0
IsOfRoot w (Global g) v = IsAtHome (w.home (Global g)) v
IsOfRoot w (Local l) v = IsAtHome (w.home (Local l)) v
IsOfRoot w (Param i) v = IsValueIn w.store v
IsOfRoot w Got v = IsByteOrEnd v
IsOfRoot w Called v = IsValueIn w.store v

-- a word has a truth where it is not 0 (C11 6.8.4.1p2)
abbrev pub HasTruth : (holds : Bool) → (word : ℕ) → Type 0
HasTruth true n = n ≢ 0
HasTruth false n = n ≡ 0
