-- What registers and slots are known to hold, told by names of words and not by the words; and what glue does to it, the
-- instructions that load constants and addresses, and bring words from one place to another.
use Rattle.std.specs.Prelude.{ℕ, ◌+◌, ◌%◌, ◌^◌, ◌==◌, Bool, true, false, ◌&&◌, ◌||◌, nat_le, nat_lt, if◌then◌else◌, ℤ, List, [], ◌∷◌, Option, Some, None}
use Rattle.std.specs.Option.{option_and_then}
use Rattle.word_ops.specs.Choice.{only_if, when}
use Rattle.term_form.specs.declared.term.Term.{Term}
use Rattle.term_form.specs.declared.term.Root.TheVariants as roots
use Rattle.term_form.specs.declared.term.Node.{Node}
use Rattle.term_form.specs.declared.term.Node.TheVariants as nodes
use Rattle.term_form.specs.declared.graph.Graph.{Graph}
use Rattle.term_form.specs.declared.graph.Definition.{Definition}
use Rattle.rv_table.specs.declared.row.Row.TheVariants as rows
use Rattle.code_form.specs.declared.code.Operand.{Operand}
use Rattle.code_form.specs.declared.code.Operand.TheVariants.{Of, Fixed}
use Rattle.code_form.specs.declared.code.Loose.{Loose}
use Rattle.code_form.specs.Registers.{is_row, is_writable, is_fixed, word_of}
use Rattle.code_form.specs.Instructions.{far}
use Rattle.code_form.specs.Frames.{slot_bytes, object_offset}

-- the name of a word
pub data Held : Type 0 where
  -- some word
  Unknown : Held
  -- this word
  Word : (word : ℕ) → Held
  -- the stack pointer plus this
  Frame : (offset : ℕ) → Held
  -- the upper part of the address of a static object, and the address
  Upper : (object : ℕ) → Held
  Object : (object : ℕ) → Held
  -- the word of the term of this number
  Value : (term : ℕ) → Held
  -- the word that was passed at this position
  Argument : (position : ℕ) → Held
  -- the address to which the function returns
  Link : Held

-- by places: a register below 32, or 32 and the offset of a slot from the stack pointer
abbrev pub Contents : Type 0
Contents = (place : ℕ) → Held

abbrev pub with_held : Contents → (place : ℕ) → Held → Contents
with_held c p h = λ q. if q == p then h else c q

-- what is the same in the whole of a function: its graph, the bytes of its frame, and the place of each term
pub record Setting : Type 0 where
  pub graph : Graph
  pub frame : ℕ
  pub places : (term : ℕ) → ℕ

abbrev pub slots_of : Setting → ℕ
slots_of s = slot_bytes s.frame s.graph.locals

-- ---- terms that are ready

-- the node of a term that is ready
abbrev pub ready_node : List Definition → (term : ℕ) → Option Node
ready_node [] t = None
ready_node (d ∷ ds) t = if d.term.0 == t then Some d.node else ready_node ds t

abbrev pub object_of_node : Option Node → Option ℕ
object_of_node (Some (nodes.Root (roots.Global g))) = Some g
object_of_node other = None

-- the static object that an operand names
abbrev pub object_of : Setting → Operand → Option ℕ
object_of s (Of t) = object_of_node (ready_node s.graph.ready t.0)
object_of s (Fixed n) = None

-- what is held is the word of a ready term of this node
abbrev pub is_ready_word : Setting → Held → Option Node → Bool
is_ready_word s (Word n) (Some (nodes.Konst k)) = n == k
is_ready_word s (Frame n) (Some (nodes.Root (roots.Local l))) = n == object_offset s.frame s.graph.locals l
is_ready_word s (Object o) (Some (nodes.Root (roots.Global g))) = o == g
is_ready_word s h n = false

abbrev pub is_value : (term : ℕ) → Held → Bool
is_value t (Value x) = x == t
is_value t h = false

-- what is held is the word of a term
abbrev pub is_word_of : Setting → (term : ℕ) → Held → Bool
is_word_of s t h = is_value t h || is_ready_word s h (ready_node s.graph.ready t)

-- ---- operands

abbrev pub held_in : Contents → (register : ℕ) → Held
held_in c n = if n == 0 then Word 0 else if n == 2 then Frame 0 else c n

abbrev pub held_by : Contents → Operand → Held
held_by c (Fixed n) = held_in c n
held_by c (Of t) = Unknown

abbrev pub write_to : Contents → Operand → Held → Option Contents
write_to c (Fixed n) h = only_if (is_writable n) (with_held c n h)
write_to c (Of t) h = None

abbrev pub is_stack_pointer : Operand → Bool
is_stack_pointer (Fixed n) = n == 2
is_stack_pointer (Of t) = false

-- ---- glue

-- a constant or an offset, and an immediate; any other word is kept where 0 is added
abbrev pub plus : Held → ℤ → Held
plus (Word n) k = Word ((n + word_of k) % 2 ^ 32)
plus (Frame n) k = Frame ((n + word_of k) % 2 ^ 32)
plus h k = if word_of k == 0 then h else Unknown

-- the upper part of an address, and the rest of it
abbrev pub completed : Held → Option ℕ → Held
completed (Upper o) (Some g) = if o == g then Object o else Unknown
completed h g = Unknown

abbrev pub plus_stack_pointer : Held → Held
plus_stack_pointer (Word n) = Frame n
plus_stack_pointer h = Unknown

-- the upper part of a constant, or of the address of an object
abbrev pub upper_of : Loose → Option ℕ → Held
upper_of i None = Word (word_of i.imm)
upper_of i (Some g) = Upper g

-- the slot at an offset from the stack pointer that is known
abbrev pub offset_of : Held → ℤ → Option ℕ
offset_of (Frame n) k = Some ((n + word_of k) % 2 ^ 32)
offset_of h k = None

abbrev pub is_known : Held → Bool
is_known Unknown = false
is_known h = true

-- a slot that may be read: one that holds something
abbrev pub read_slot : Contents → (offset : ℕ) → Option Held
read_slot c o = only_if ((o % 4 == 0) && is_known (c (32 + o))) (c (32 + o))

-- a slot that may be written: one in front of the objects
abbrev pub write_slot : Setting → Contents → Held → (offset : ℕ) → Option Contents
write_slot s c h o = only_if ((o % 4 == 0) && nat_le (o + 4) (slots_of s)) (with_held c (32 + o) h)

-- what ADDI holds: a sum, or the address that it completes
abbrev pub held_by_sum : Setting → Contents → Loose → Held
held_by_sum s c i = if is_fixed i.b then plus (held_by c i.a) i.imm else completed (held_by c i.a) (object_of s i.b)

-- what is held behind an instruction, where it is one of glue: constants and addresses into registers, moves, and loads and stores
-- of slots
abbrev pub behind_glue : Setting → Contents → Loose → Option Contents
behind_glue s c i =
    if is_row rows.Lui i.row then write_to c i.d (upper_of i (object_of s i.a))
    else if is_row rows.Addi i.row then write_to c i.d (held_by_sum s c i)
    else if is_row rows.Add i.row then when (is_stack_pointer i.b) (write_to c i.d (plus_stack_pointer (held_by c i.a)))
    else if is_row rows.Lw i.row then option_and_then (write_to c i.d) (option_and_then (read_slot c) (offset_of (held_by c i.a) i.imm))
    else if is_row rows.Sw i.row then option_and_then (write_slot s c (held_by c i.b)) (offset_of (held_by c i.a) i.imm)
    else None

abbrev pub behind_all : Setting → Contents → List Loose → Option Contents
behind_all s c [] = Some c
behind_all s c (i ∷ is) = option_and_then (λ d. behind_all s d is) (behind_glue s c i)

-- behind a jump: one that is far goes through a scratch register
abbrev pub behind_jump : Contents → Contents
behind_jump c = with_held c far Unknown

-- ---- values

-- behind a new value of a term: a place that had the one before holds some word
abbrev pub forget : Contents → (term : ℕ) → Contents
forget c t = λ p. if is_value t (c p) then Unknown else c p

-- a place gets the new value
abbrev pub with_value : Contents → (place term : ℕ) → Contents
with_value c p t = with_held (forget c t) p (Value t)

-- what a call leaves: what slots hold is as before, and of registers nothing is known
abbrev pub slots_alone : Contents → Contents
slots_alone c = λ p. if nat_lt p 32 then Unknown else c p

-- behind a call, whose value is in x10
abbrev pub behind_call : Contents → (called : Option Term) → Contents
behind_call c None = slots_alone c
behind_call c (Some t) = with_value (slots_alone c) 10 t.0
