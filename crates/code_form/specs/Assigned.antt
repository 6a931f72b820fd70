-- When the instructions of a function do, over registers and slots, what its graph does over terms: at each place it is told by
-- names what registers and slots hold, each pattern finds the words of its operands, and each edge brings what its target was told.
use Rattle.std.specs.Prelude.{◌≡◌, ◌≢◌, ℕ, zero, suc, ◌+◌, ◌*◌, ◌%◌, ◌^◌, ◌==◌, ◌≤◌, ◌⊎◌, Bool, true, false, ◌&&◌, ◌||◌, IsTrue, if◌then◌else◌, ℤ, slice_index, List, [], ◌∷◌, ◌++◌, length, Option, Some, None}
use Rattle.word_ops.specs.declared.operation.Op.{Op}
use Rattle.word_ops.specs.declared.operation.Width.{Width}
use Rattle.word_ops.specs.Stack.{bytes_of_objects}
use Rattle.term_form.specs.declared.term.Term.{Term}
use Rattle.term_form.specs.declared.term.Root.TheVariants as roots
use Rattle.term_form.specs.declared.term.Node.{Node}
use Rattle.term_form.specs.declared.term.Node.TheVariants as nodes
use Rattle.term_form.specs.declared.listing.StoreWidth.{StoreWidth}
use Rattle.term_form.specs.declared.graph.Block.{Block}
use Rattle.term_form.specs.declared.graph.Item.{Item}
use Rattle.term_form.specs.declared.graph.Item.TheVariants.{Define, Store, Call, Get, Put, Exit}
use Rattle.term_form.specs.declared.graph.Ending.{Ending}
use Rattle.term_form.specs.declared.graph.Ending.TheVariants.{Jump, Branch, Return, Stop}
use Rattle.term_form.specs.declared.graph.EdgeArgument.{EdgeArgument}
use Rattle.code_form.specs.declared.code.Operand.TheVariants.{Fixed}
use Rattle.code_form.specs.declared.code.Loose.{Loose}
use Rattle.code_form.specs.declared.code.Piece.{Piece}
use Rattle.code_form.specs.declared.code.Assigned.{Assigned}
use Rattle.code_form.specs.Registers.{is_scratch, is_writable, word_of}
use Rattle.code_form.specs.Patterns.{Second, Register, Immediate, Zero, pattern, ignores_second, one, two}
use Rattle.code_form.specs.Instructions.{load, store, environment, jump_to, branch_to, nested_call, return_to_link, add_to_stack, add_register_to_stack}
use Rattle.code_form.specs.Frames.{link_slot}
use Rattle.code_form.specs.Contents.{Held, Unknown, Word, Frame, Value, Argument, Link, Contents, with_held, with_value, Setting, is_word_of, held_in, held_by, behind_all, behind_jump, behind_call}

-- ---- operands

-- the register has the word of the term
abbrev pub HoldsTerm : Setting → Contents → (register : ℕ) → Term → Type 0
HoldsTerm s c n t = IsTrue (is_word_of s t.0 (held_in c n))

-- a second operand is right: a register, or a constant that the term is
abbrev pub is_second : Setting → Contents → Term → Second → Bool
is_second s c t (Register o) = is_word_of s t.0 (held_by c o)
is_second s c t (Immediate k) = is_word_of s t.0 (Word (word_of k))
is_second s c t Zero = is_word_of s t.0 (Word 0)

-- glue, the own words of an item from `start` on, and glue behind them; what is held before the own words and behind them is told
pub record IsFramed (s : Setting) (c : Contents) (p : Piece) (own : List Loose) (before behind after : Contents) : Type 0 where
  pub first : List Loose
  pub last : List Loose
  pub words : p.words ≡ first ++ (own ++ last)
  pub start : p.start ≡ length first
  pub to_own : behind_all s c first ≡ Some before
  pub from_own : behind_all s behind last ≡ Some after

-- ---- items

-- the pattern of an operation
pub record DoesOperation (s : Setting) (c : Contents) (p : Piece) (t : Term) (op : Op) (x y : Term) (after : Contents) : Type 0 where
  pub d : ℕ
  pub a : ℕ
  pub scratch : ℕ
  pub second : Second
  pub before : Contents
  pub writable : IsTrue (is_writable d)
  pub free : IsTrue (is_scratch scratch)
  pub framed : IsFramed s c p (pattern op (Fixed d) (Fixed a) (Fixed scratch) second) before (with_value (with_held before scratch Unknown) d t.0) after
  pub has_form : pattern op (Fixed d) (Fixed a) (Fixed scratch) second ≢ []
  pub has_first : HoldsTerm s before a x
  pub has_second : IsTrue (ignores_second op || is_second s before y second)

-- a load or a store through the register of its address, or at the offset of a local object from the stack pointer
abbrev pub accessed : Held → ℤ → Held
accessed (Frame n) k = Frame ((n + word_of k) % 2 ^ 32)
accessed h k = h

abbrev pub is_access : Setting → Contents → (register : ℕ) → ℤ → Term → Bool
is_access s c a k t = ((word_of k == 0) || (a == 2)) && is_word_of s t.0 (accessed (held_in c a) k)

pub record DoesLoad (s : Setting) (c : Contents) (p : Piece) (t : Term) (k : Width) (x : Term) (after : Contents) : Type 0 where
  pub d : ℕ
  pub a : ℕ
  pub offset : ℤ
  pub before : Contents
  pub writable : IsTrue (is_writable d)
  pub framed : IsFramed s c p (one (load k (Fixed d) (Fixed a) offset)) before (with_value before d t.0) after
  pub address : IsTrue (is_access s before a offset x)

pub record DoesStore (s : Setting) (c : Contents) (p : Piece) (k : StoreWidth) (x v : Term) (after : Contents) : Type 0 where
  pub a : ℕ
  pub b : ℕ
  pub offset : ℤ
  pub before : Contents
  pub framed : IsFramed s c p (one (store k (Fixed a) (Fixed b) offset)) before before after
  pub address : IsTrue (is_access s before a offset x)
  pub value : HoldsTerm s before b v

-- a parameter is moved to its place, and has no words of its own
pub record DoesParam (s : Setting) (c : Contents) (p : Piece) (t : Term) (i : ℕ) (after : Contents) : Type 0 where
  pub before : Contents
  pub framed : IsFramed s c p [] before before before
  pub moved : before (s.places t.0) ≡ Argument i
  pub now : after ≡ with_value before (s.places t.0) t.0

-- a term that comes with an effect, an edge or a call stands in its place already, and has no words: so the account has its word
-- as soon as it is held
pub record IsThere (s : Setting) (c : Contents) (p : Piece) (t : Term) (after : Contents) : Type 0 where
  pub words : p.words ≡ []
  pub start : p.start ≡ 0
  pub there : c (s.places t.0) ≡ Value t.0
  pub same : after ≡ c

-- each argument stands where the function that is called looks for it
abbrev pub are_passed : Setting → Contents → (position : ℕ) → List Term → Bool
are_passed s c i [] = true
are_passed s c i (t ∷ ts) = is_word_of s t.0 (c (32 + 4 * i)) && are_passed s c (i + 1) ts

pub record DoesCall (s : Setting) (c : Contents) (p : Piece) (f : ℕ) (ts : List Term) (called : Option Term) (after : Contents) : Type 0 where
  pub first : List Loose
  pub last : List Loose
  pub before : Contents
  pub words : p.words ≡ first ++ nested_call f last
  -- the jump is its own word
  pub start : p.start ≡ length first + 2
  pub to_own : behind_all s c first ≡ Some before
  pub passed : IsTrue (are_passed s before 0 ts)
  pub from_own : behind_all s (behind_call before called) last ≡ Some after

-- a call of the environment by this number, where this is so, behind which this is held
pub record DoesRequest (s : Setting) (c : Contents) (p : Piece) (number : ℕ) (asked : Contents → Bool) (behind : Contents → Contents) (after : Contents) : Type 0 where
  pub before : Contents
  pub framed : IsFramed s c p (one environment) before (behind before) after
  pub request : held_in before 17 ≡ Word number
  pub right : IsTrue (asked before)

abbrev pub anything : Contents → Bool
anything c = true

-- x10 has the word of the term
abbrev pub puts_word : Setting → Term → Contents → Bool
puts_word s t c = is_word_of s t.0 (held_in c 10)

-- x10 has the byte taken, or some word
abbrev pub behind_get : Term → Contents → Contents
behind_get t c = with_value c 10 t.0

abbrev pub behind_put : Contents → Contents
behind_put c = with_held c 10 Unknown

-- what the words of an item do, and what is held behind them; what is ready is no item
abbrev pub DoesNode : Setting → Contents → Piece → Term → Node → Contents → Type 0
DoesNode s c p t (nodes.Konst k) after = ⊥
DoesNode s c p t (nodes.Root (roots.Global g)) after = ⊥
DoesNode s c p t (nodes.Root (roots.Local l)) after = ⊥
DoesNode s c p t (nodes.Root (roots.Param i)) after = DoesParam s c p t i after
DoesNode s c p t (nodes.Root roots.Got) after = IsThere s c p t after
DoesNode s c p t (nodes.Root roots.Called) after = IsThere s c p t after
DoesNode s c p t (nodes.Operate op x y) after = DoesOperation s c p t op x y after
DoesNode s c p t (nodes.Load k x) after = DoesLoad s c p t k x after
DoesNode s c p t nodes.Phi after = IsThere s c p t after

abbrev pub DoesItem : Setting → Contents → Piece → Item → Contents → Type 0
DoesItem s c p (Define d) after = DoesNode s c p d.term d.node after
DoesItem s c p (Store k x v) after = DoesStore s c p k x v after
DoesItem s c p (Call f ts called) after = DoesCall s c p f ts called after
DoesItem s c p (Get t) after = DoesRequest s c p 1 anything (behind_get t) after
DoesItem s c p (Put t) after = DoesRequest s c p 2 (puts_word s t) behind_put after
DoesItem s c p (Exit t) after = DoesRequest s c p 3 (puts_word s t) behind_put after

-- ---- edges

-- what a place holds as a block begins; of a place that is not told nothing is known
pub record Known : Type 0 where
  pub place : ℕ
  pub held : Held

abbrev pub contents_of : List Known → Contents
contents_of [] p = Unknown
contents_of (k ∷ ks) p = if p == k.place then k.held else contents_of ks p

-- what is known as each block begins
abbrev pub Entries : Type 0
Entries = (block : ℕ) → List Known

-- the argument of a phi on an edge to a block, else the term itself
abbrev pub brought : List EdgeArgument → (to term : ℕ) → ℕ
brought [] to t = t
brought (m ∷ ms) to t = if (m.to == to) && (m.phi.0 == t) then m.argument.0 else brought ms to t

abbrev pub is_link : Held → Bool
is_link Link = true
is_link h = false

abbrev pub is_argument : (position : ℕ) → Held → Bool
is_argument i (Argument j) = i == j
is_argument i h = false

-- what a block is told of a place is so behind an edge
abbrev pub brings : Setting → Contents → List EdgeArgument → (to place : ℕ) → Held → Bool
brings s c edges to p Unknown = true
brings s c edges to p (Value t) = is_word_of s (brought edges to t) (c p)
brings s c edges to p Link = is_link (c p)
brings s c edges to p (Argument i) = is_argument i (c p)
brings s c edges to p h = false

abbrev pub brings_all : Setting → Contents → List EdgeArgument → (to : ℕ) → List Known → Bool
brings_all s c edges to [] = true
brings_all s c edges to (k ∷ ks) = brings s c edges to k.place k.held && brings_all s c edges to ks

-- a jump from here brings all that its target is told
abbrev pub Brings : Setting → Contents → List EdgeArgument → (to : ℕ) → Entries → Type 0
Brings s c edges to entries = IsTrue (brings_all s (behind_jump c) edges to (entries to))

-- ---- ends

-- glue, and then the words of an end
pub record EndsWith (s : Setting) (c : Contents) (p : Piece) (own : List Loose) (before : Contents) : Type 0 where
  pub first : List Loose
  pub words : p.words ≡ first ++ own
  pub start : p.start ≡ length first
  pub to_own : behind_all s c first ≡ Some before

pub record DoesJump (s : Setting) (entries : Entries) (c : Contents) (p : Piece) (edges : List EdgeArgument) (to : ℕ) : Type 0 where
  pub before : Contents
  pub ends : EndsWith s c p (one (jump_to to)) before
  pub brings : Brings s before edges to entries

-- no phi has an argument on the edges of a branch
pub record DoesBranch (s : Setting) (entries : Entries) (c : Contents) (p : Piece) (edges : List EdgeArgument) (t : Term) (first second : ℕ) : Type 0 where
  pub a : ℕ
  pub before : Contents
  pub ends : EndsWith s c p (two (branch_to (Fixed a) first) (jump_to second)) before
  pub none : edges ≡ []
  pub has_term : HoldsTerm s before a t
  pub brings_first : Brings s before [] first entries
  pub brings_second : Brings s before [] second entries

-- what a function gives back stands in x10; where it gives nothing, 0 does
abbrev pub is_zero : Held → Bool
is_zero (Word n) = n == 0
is_zero h = false

abbrev pub is_result : Setting → Option Term → Held → Bool
is_result s None h = is_zero h
is_result s (Some t) h = is_word_of s t.0 h

-- an instruction gives a frame of so many bytes back: it adds them to the stack pointer, as an immediate or from a register
abbrev pub GivesBack : Contents → (frame : ℕ) → Loose → Type 0
GivesBack c n i = (i ≡ add_to_stack n) ⊎ ((r : ℕ) × (i ≡ add_register_to_stack r) × (held_in c r ≡ Word n))

-- the result and the return address are in their registers, the frame is given back, and the jump is the end's own word
pub record DoesReturn (s : Setting) (c : Contents) (p : Piece) (t : Option Term) : Type 0 where
  pub before : Contents
  pub raise : Loose
  pub first : List Loose
  pub words : p.words ≡ first ++ two raise return_to_link
  pub start : p.start ≡ length first + 1
  pub to_own : behind_all s c first ≡ Some before
  pub result' : IsTrue (is_result s t (held_in before 10))
  pub link : IsTrue (is_link (held_in before 1))
  pub frame : GivesBack before s.frame raise

-- where the program has ended before there is a jump of the block to itself
pub record DoesStop (s : Setting) (c : Contents) (p : Piece) (block : ℕ) : Type 0 where
  pub before : Contents
  pub ends : EndsWith s c p (one (jump_to block)) before

abbrev pub DoesEnd : Setting → Entries → (block : ℕ) → Contents → Piece → List EdgeArgument → Ending → Type 0
DoesEnd s entries k c p edges (Jump to) = DoesJump s entries c p edges to
DoesEnd s entries k c p edges (Branch t first second) = DoesBranch s entries c p edges t first second
DoesEnd s entries k c p edges (Return t) = DoesReturn s c p t
DoesEnd s entries k c p edges Stop = DoesStop s c p k

-- ---- functions

-- what is left of a block, from the item of a number on
abbrev pub DoesRest : Setting → Entries → (block item : ℕ) → Contents → Block → List Item → List Piece → Type 0
DoesRest s entries k n c b [] (p ∷ []) = (p.item ≡ n) × DoesEnd s entries k c p b.edges b.end
DoesRest s entries k n c b (i ∷ is) (p ∷ ps) = (p.item ≡ n) × ((after : Contents) × DoesItem s c p i after × DoesRest s entries k (n + 1) after b is ps)
DoesRest s entries k n c b is ps = ⊥

-- as the first block begins: the return address in its slot, and the arguments in the caller's frame
abbrev pub arguments_known : (frame position count : ℕ) → List Known
arguments_known n i zero = []
arguments_known n i (suc count) = record { place = 32 + n + 4 * i; held = Argument i } ∷ arguments_known n (i + 1) count

abbrev pub first_known : Setting → List Known
first_known s = record { place = 32 + link_slot s.frame s.graph.locals; held = Link } ∷ arguments_known s.frame 0 s.graph.parameters

abbrev pub setting_of : Assigned → Setting
setting_of a = record { graph = a.emitted.graph; frame = a.frame; places = slice_index a.places }

-- each block does what its graph does, from what is known as it begins on
abbrev pub DoesBlocks : Assigned → Entries → (block : ℕ) → List Block → List (List Piece) → Type 0
DoesBlocks a entries k [] [] = Unit {0}
DoesBlocks a entries k (b ∷ bs) (ps ∷ pss) = DoesRest (setting_of a) entries k 0 (contents_of (entries k)) b b.items ps × DoesBlocks a entries (k + 1) bs pss
DoesBlocks a entries k bs pss = ⊥

pub record IsAssigned (a : Assigned) : Type 0 where
  pub entries : Entries
  pub first : entries 0 ≡ first_known (setting_of a)
  pub blocks : DoesBlocks a entries 0 a.emitted.graph.blocks a.blocks
  -- the frame has room for the return address in front of the objects
  pub room : bytes_of_objects a.emitted.graph.locals + 8 ≤ a.frame
  pub step : a.frame % 8 ≡ 0
