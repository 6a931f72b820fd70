-- When the instructions of a function over terms are those of its graph: for each item its pattern or its own list, with terms in
-- place of registers, and for each end its jumps.
use Rattle.std.specs.Prelude.{◌≡◌, ◌≢◌, ℕ, ◌+◌, ◌*◌, ◌==◌, ◌&&◌, ◌||◌, Bool, false, IsTrue, pos, List, [], ◌∷◌, ◌++◌, length, Option, Some, None}
use Rattle.word_ops.specs.declared.operation.Op.{Op}
use Rattle.term_form.specs.declared.term.Term.{Term}
use Rattle.term_form.specs.declared.term.Node.{Node}
use Rattle.term_form.specs.declared.term.Node.TheVariants as nodes
use Rattle.term_form.specs.declared.listing.StoreWidth.TheVariants as stores
use Rattle.term_form.specs.declared.graph.Graph.{Graph}
use Rattle.term_form.specs.declared.graph.Block.{Block}
use Rattle.term_form.specs.declared.graph.Item.{Item}
use Rattle.term_form.specs.declared.graph.Item.TheVariants.{Define, Store, Call, Get, Put, Exit}
use Rattle.term_form.specs.declared.graph.Ending.{Ending}
use Rattle.term_form.specs.declared.graph.Ending.TheVariants.{Jump, Branch, Return, Stop}
use Rattle.code_form.specs.declared.code.Operand.{Operand}
use Rattle.code_form.specs.declared.code.Operand.TheVariants.{Of, Fixed}
use Rattle.code_form.specs.declared.code.Loose.{Loose}
use Rattle.code_form.specs.declared.code.Piece.{Piece}
use Rattle.code_form.specs.declared.code.Code.{Code}
use Rattle.code_form.specs.Registers.{stack_pointer, word_of}
use Rattle.code_form.specs.Patterns.{Second, Register, Immediate, Zero, pattern, ignores_second, one, two}
use Rattle.code_form.specs.Instructions.{load, store, set, move_to, environment, jump_to, branch_to, nested_call, return_to_link}
use Rattle.code_form.specs.Contents.{ready_node}

-- ---- operands

-- the constant that a ready term is, if it is one
abbrev pub constant_of : Option Node → Option ℕ
constant_of (Some (nodes.Konst k)) = Some k
constant_of other = None

abbrev pub is_constant : Graph → Term → ℕ → Bool
is_constant g t n = elim (constant_of (ready_node g.ready t.0)) as (λ o. Bool) [ None ↦ false | Some k ↦ k == n ]

-- the operand of a term: the term itself, or x0 for the constant 0
abbrev pub stands_for : Graph → Term → Operand → Bool
stands_for g t (Of x) = x.0 == t.0
stands_for g t (Fixed n) = (n == 0) && is_constant g t 0

abbrev pub stands_for_second : Graph → Term → Second → Bool
stands_for_second g t (Register o) = stands_for g t o
stands_for_second g t (Immediate k) = is_constant g t (word_of k)
stands_for_second g t Zero = is_constant g t 0

-- with an operand that stands for a term
abbrev pub WithOperand : Graph → Term → (Operand → Type 0) → Type 0
WithOperand g t P = (o : Operand) × (IsTrue (stands_for g t o)) × P o

-- the scratch register of patterns
abbrev pub between : Operand
between = Fixed 30

-- ---- items

-- these words, the own ones of the item from this one on
abbrev pub is_piece : List Loose → (start : ℕ) → Piece → Type 0
is_piece ws n p = (p.words ≡ ws) × (p.start ≡ n)

pub record IsOperation (g : Graph) (t : Term) (op : Op) (x y : Term) (p : Piece) : Type 0 where
  pub a : Operand
  pub b : Second
  pub piece : is_piece (pattern op (Of t) a between b) 0 p
  pub has_form : pattern op (Of t) a between b ≢ []
  pub first : IsTrue (stands_for g x a)
  pub second : IsTrue (ignores_second op || stands_for_second g y b)

-- a term that comes with an effect, an edge or a call has its word, and no words
abbrev pub IsNode : Graph → Term → Node → Piece → Type 0
IsNode g t (nodes.Operate op x y) p = IsOperation g t op x y p
IsNode g t (nodes.Load k x) p = is_piece (one (load k (Of t) (Of x) (pos 0))) 0 p
IsNode g t n p = is_piece [] 0 p

-- arguments are stored where the function that is called looks for them
abbrev pub pass : (position : ℕ) → List Term → List Loose
pass i [] = []
pass i (t ∷ ts) = store stores.Word stack_pointer (Of t) (pos (4 * i)) ∷ pass (i + 1) ts

abbrev pub take_result : Option Term → List Loose
take_result None = []
take_result (Some t) = one (move_to (Of t) (Fixed 10))

abbrev pub IsItem : Graph → Item → Piece → Type 0
IsItem g (Define d) p = IsNode g d.term d.node p
IsItem g (Store k x v) p = WithOperand g v (λ o. is_piece (one (store k (Of x) o (pos 0))) 0 p)
IsItem g (Call f ts called) p = is_piece (pass 0 ts ++ nested_call f (take_result called)) (length ts + 2) p
IsItem g (Get t) p = is_piece (set 17 (pos 1) ∷ environment ∷ move_to (Of t) (Fixed 10) ∷ []) 1 p
IsItem g (Put t) p = WithOperand g t (λ o. is_piece (move_to (Fixed 10) o ∷ set 17 (pos 2) ∷ environment ∷ []) 2 p)
IsItem g (Exit t) p = WithOperand g t (λ o. is_piece (move_to (Fixed 10) o ∷ set 17 (pos 3) ∷ environment ∷ []) 2 p)

-- ---- ends

-- a function that gives no value back leaves 0, and where the program has ended before there is a jump of the block to itself
abbrev pub IsEnding : Graph → (block : ℕ) → Ending → Piece → Type 0
IsEnding g k (Jump to) p = is_piece (one (jump_to to)) 0 p
IsEnding g k (Branch t first second) p = WithOperand g t (λ o. is_piece (two (branch_to o first) (jump_to second)) 0 p)
IsEnding g k (Return None) p = is_piece (two (set 10 (pos 0)) return_to_link) 1 p
IsEnding g k (Return (Some t)) p = WithOperand g t (λ o. is_piece (two (move_to (Fixed 10) o) return_to_link) 1 p)
IsEnding g k Stop p = is_piece (one (jump_to k)) 0 p

-- ---- functions

-- what is left of a block, from the item of a number on: a piece for each item, and one for the end
abbrev pub IsRest : Graph → (block item : ℕ) → Ending → List Item → List Piece → Type 0
IsRest g k n end [] (p ∷ []) = (p.item ≡ n) × IsEnding g k end p
IsRest g k n end (i ∷ is) (p ∷ ps) = (p.item ≡ n) × (IsItem g i p × IsRest g k (n + 1) end is ps)
IsRest g k n end is ps = ⊥

abbrev pub AreBlocks : Graph → (block : ℕ) → List Block → List (List Piece) → Type 0
AreBlocks g k [] [] = Unit {0}
AreBlocks g k (b ∷ bs) (ps ∷ pss) = IsRest g k 0 b.end b.items ps × AreBlocks g (k + 1) bs pss
AreBlocks g k bs pss = ⊥

abbrev pub IsSelected : Code → Type 0
IsSelected c = AreBlocks c.emitted.graph 0 c.emitted.graph.blocks c.blocks
