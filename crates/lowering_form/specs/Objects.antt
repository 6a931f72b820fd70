-- The automatic objects of a function: where each is kept, and how it gets its initial value (C11 6.2.4p6, 6.7.9).
use Rattle.std.specs.Prelude.{ℕ, zero, suc, ◌+◌, ◌*◌, ◌/◌, ◌%◌, ◌^◌, ◌==◌, Bool, true, false, if◌then◌else◌, List, [], ◌∷◌, ◌++◌, length, slice_index_or}
use Rattle.word_ops.specs.declared.operation.Width.{Width}
use Rattle.word_ops.specs.declared.operation.Width.TheVariants as width
use Rattle.core_lang.specs.declared.act.Atom.{Atom}
use Rattle.core_lang.specs.declared.act.Atom.TheVariants as at
use Rattle.core_lang.specs.declared.act.Core.{Core}
use Rattle.core_lang.specs.declared.act.Core.TheVariants as c
use Rattle.c_tree.specs.declared.typed.statement.Initial.{Initial}
use Rattle.c_tree.specs.declared.typed.statement.Initial.TheVariants as initial
use Rattle.c_tree.specs.declared.typed.statement.Initialiser.{Initialiser}
use Rattle.c_tree.specs.declared.typed.statement.Initialiser.TheVariants as initialiser
use Rattle.c_tree.specs.declared.typed.unit.Object.{Object}
use Rattle.c_tree.specs.TypedKinds.{is_variable}
use Rattle.c_tree.specs.TypedUnits.{kept_as}
use Rattle.lowering_form.specs.declared.place.Place.{Place}
use Rattle.lowering_form.specs.declared.place.Place.TheVariants as place
use Rattle.lowering_form.specs.Code.{Code, Valued, begun, with_act, with_list}
use Rattle.lowering_form.specs.Places.{Scope, place_in, write_code, offset_code}
use Rattle.lowering_form.specs.Expressions.{value_code}

-- what of a function is made: the acts so far, its local objects by their sizes, how many objects are kept in variables, and how
-- many words its aggregates with an initial value have
pub record Body : Type 0 where
  pub code : Code
  pub locals : List ℕ
  pub kept : ℕ
  pub words : ℕ

-- the same with other acts
abbrev pub with_code : Code → Body → Body
with_code k b = record { code = k; locals = b.locals; kept = b.kept; words = b.words }

-- no acts yet, in a list of their own
abbrev pub inside : Body → Body
inside b = with_code (begun b.code) b

-- an act with a list in it, which was begun in code
abbrev pub closed : (List Core → Core) → (outer : Code) → (inner : Body) → Body
closed act k b = with_code (with_list act k b.code) b

-- ---- declarations

-- what is in scope behind a declaration, and what is made
pub record Declared : Type 0 where
  pub scope : Scope
  pub body : Body

-- the scope with one more object (C11 6.2.1p4)
abbrev pub with_place : Place → Scope → Scope
with_place p sc = record { places = sc.places ++ p ∷ []; level = sc.level; breaks = sc.breaks; continues = sc.continues }

-- an object that is kept in the variable of its number
abbrev pub variable_declared : (number : ℕ) → Scope → Body → Declared
variable_declared n sc b =
    record { scope = with_place (place.Variable n) sc; body = record { code = b.code; locals = b.locals; kept = suc b.kept; words = b.words } }

-- an object that is a local one of its own, new where its block is entered
abbrev pub local_declared : (size : ℕ) → Scope → Body → Declared
local_declared n sc b =
    record { scope = with_place (place.Memory (at.Local (length b.locals))) sc; body = record { code = with_act (c.Enter (length b.locals)) b.code; locals = b.locals ++ n ∷ []; kept = b.kept; words = b.words } }

-- the object of this number in the function: a scalar whose address is never used is kept in a variable (C11 6.2.4p6)
abbrev pub declared : (number : ℕ) → Object → Scope → Body → Declared
declared n o sc b = if is_variable (kept_as o) then variable_declared n sc b else local_declared o.size sc b

-- the objects of a block, whose numbers follow each other
abbrev pub all_declared : (first : ℕ) → List Object → Scope → Body → Declared
all_declared n [] sc b = record { scope = sc; body = b }
all_declared n (o ∷ os) sc b = let one = declared n o sc b in all_declared (suc n) os one.scope one.body

-- ---- bytes of strings (C11 6.7.9p14)

-- what one store puts: its width, how many bytes behind the first it takes, and the number
pub record Chunk : Type 0 where
  pub width : Width
  pub behind : ℕ
  pub number : ℕ

-- one byte, and the half word of two
abbrev pub byte_unit : ℕ → Chunk
byte_unit a = record { width = width.U8; behind = 0; number = a }

abbrev pub half_unit : ℕ → ℕ → Chunk
half_unit a b = record { width = width.U16; behind = 1; number = a + 2 ^ 8 * b }

-- the word of four bytes, least first
abbrev pub word_unit : ℕ → ℕ → ℕ → ℕ → Chunk
word_unit a b d e = record { width = width.Word; behind = 3; number = a + (2 ^ 8 * b + (2 ^ 16 * d + 2 ^ 24 * e)) }

-- the widest unit that is aligned at an offset, of a byte and of those behind it
abbrev pub unit_at : (offset : ℕ) → ℕ → List ℕ → Chunk
unit_at n a [] = byte_unit a
unit_at n a (b ∷ []) = if n % 2 == 0 then half_unit a b else byte_unit a
unit_at n a (b ∷ d ∷ []) = if n % 2 == 0 then half_unit a b else byte_unit a
unit_at n a (b ∷ d ∷ e ∷ rest) =
    if n % 4 == 0 then word_unit a b d e else (if n % 2 == 0 then half_unit a b else byte_unit a)

-- a unit of an object, so many bytes from its start
abbrev pub unit_code : Atom → (offset : ℕ) → Chunk → Code → Code
unit_code p n u k =
    let address = offset_code p n k in with_act (c.Store u.width address.atom (at.Word u.number)) address.code

-- bytes of an object from an offset on, as the widest units that are aligned, behind so many bytes that stand in a unit already
abbrev pub bytes_code : Atom → (offset : ℕ) → (taken : ℕ) → List ℕ → Code → Code
bytes_code p n taken [] k = k
bytes_code p n (suc taken) (a ∷ rest) k = bytes_code p (suc n) taken rest k
bytes_code p n zero (a ∷ rest) k =
    bytes_code p (suc n) (unit_at n a rest).behind rest (unit_code p n (unit_at n a rest) k)

-- ---- initial values

-- a piece of an aggregate (C11 6.7.9p11, p14)
abbrev pub piece_code : Initial → (object : Atom) → Scope → Code → Code
piece_code (initial.Value n s e) p sc k =
    let v = value_code e sc k in let address = offset_code p n v.code in
    write_code (place.Memory address.atom) s v.atom address.code
piece_code (initial.Bytes n bytes) p sc k = bytes_code p n 0 bytes k

-- pieces in order
abbrev pub pieces_code : List Initial → (object : Atom) → Scope → Code → Code
pieces_code [] p sc k = k
pieces_code (i ∷ is) p sc k = pieces_code is p sc (piece_code i p sc k)

-- an aggregate that begins with pieces, zero but for them; its words count (C11 6.7.9p19, p21)
abbrev pub aggregate_code : List Initial → (local : ℕ) → Scope → Body → Body
aggregate_code is l sc b =
    record { code = pieces_code is (at.Local l) sc (with_act (c.Fill l) b.code); locals = b.locals; kept = b.kept; words = b.words + (slice_index_or b.locals l 0 + 3) / 4 }

-- the same by where the object is kept: one that is no local object is no aggregate
abbrev pub pieces_at : List Initial → Place → Scope → Body → Body
pieces_at is (place.Memory (at.Local l)) sc b = aggregate_code is l sc b
pieces_at is (place.Memory (at.Var x)) sc b = b
pieces_at is (place.Memory (at.Word n)) sc b = b
pieces_at is (place.Memory (at.Global x)) sc b = b
pieces_at is (place.Variable x) sc b = b

-- the initial value of an object (C11 6.7.9p11, p16)
abbrev pub initial_code : Initialiser → (object : Place) → Scope → Body → Body
initial_code (initialiser.Scalar s e) p sc b =
    let v = value_code e sc b.code in with_code (write_code p s v.atom v.code) b
initial_code (initialiser.Aggregate is) p sc b = pieces_at is p sc b
