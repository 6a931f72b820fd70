-- The account of a run (a notion of this project): for each call that goes on, the words that the listing says its terms have; and
-- the clauses by which it is judged.
use Rattle.std.specs.Prelude.{ℕ, ◌+◌, ◌-◌, ◌%◌, ◌^◌, ◌==◌, Bool, true, false, nat_lt, nat_le, if◌then◌else◌, List, [], ◌∷◌, Option, Some, None}
use Rattle.word_ops.specs.Choice.{when}
use Rattle.term_form.specs.declared.term.Term.{Term}
use Rattle.term_form.specs.declared.listing.TermRecord.{TermRecord}
use Rattle.rv_machine.specs.State.{Loaded, register_of}
use Rattle.rv_machine.specs.Reading.{word_at}
use Rattle.audited_machine.specs.Functions.{Records, terms_numbered, is_one}

-- ---- accounts

-- words by numbers of terms, or of arguments by position
abbrev pub Words : Type 0
Words = ℕ → Option ℕ

abbrev pub no_words : Words
no_words t = None

abbrev pub with_word : Words → ℕ → Option ℕ → Words
with_word ws t w = λ x. if x == t then w else ws x

-- a term whose pattern is being run: how many of its words are left, and the register that has the result behind them
pub record Due : Type 0 where
  pub words : ℕ
  pub term : TermRecord
  pub register : ℕ

-- the edge by which a block was entered, and the words of terms as the block before was left
pub record Entry : Type 0 where
  pub from : ℕ
  pub to : ℕ
  pub before : Words

-- a call that goes on
pub record Activation : Type 0 where
  -- the records that are read, none where no function has the entry
  pub records : Records
  -- the present block
  pub block : Option ℕ
  pub words : Words
  pub due : List Due
  pub entry : Option Entry
  -- the words that the caller's account gave the arguments
  pub arguments : Words
  -- the word of the term that the last function called gave back, where it gave one
  pub returned : Option ℕ
  -- the word that the call of each get left, by its term
  pub taken : Words

-- the calls that go on, the innermost first, and whether a jump with a link was made already
pub record Account : Type 0 where
  pub activations : List Activation
  pub linked : Bool

abbrev pub beginning : Account
beginning = record { activations = []; linked = false }

-- a call that begins
abbrev pub begun : Records → (arguments : Words) → Activation
begun r ws = record { records = r; block = None; words = no_words; due = []; entry = None; arguments = ws; returned = None; taken = no_words }

-- ---- words

-- the word of a term that is in the records once
abbrev pub word_of_term : Activation → ℕ → Option ℕ
word_of_term a t = when (is_one (terms_numbered a.records t)) (a.words t)

abbrev pub word_of_option : Activation → Option Term → Option ℕ
word_of_option a None = None
word_of_option a (Some t) = word_of_term a t.0

abbrev pub is_word : ℕ → Option ℕ → Bool
is_word w None = false
is_word w (Some v) = w == v

-- the account has this word for the term
abbrev pub has_word : Activation → Term → ℕ → Bool
has_word a t w = is_word w (word_of_term a t.0)

abbrev pub has_word_of_option : Activation → Option Term → ℕ → Bool
has_word_of_option a None w = true
has_word_of_option a (Some t) w = has_word a t w

abbrev pub register : Loaded → ℕ → ℕ
register m n = register_of m.state n

-- the word of a place: a register below 32, or 32 and the offset of a slot from the stack pointer
abbrev pub word_of_place : Loaded → ℕ → Option ℕ
word_of_place m p = if nat_lt p 32 then Some (register m p) else word_at m ((register m 2 + (p - 32)) % 2 ^ 32)

-- ---- clauses

-- what is asked of an account, in this order
pub data Clause : Type 0 where
  -- the words at a term are its pattern, on registers that hold the words of its operands
  OfPatterns : Clause
  -- a store has the words of its address and its value
  OfStores : Clause
  -- a phi has the word that its argument on the edge had as the block before was left
  OfPhis : Clause
  -- calls go to their functions with the words of their arguments, parameters have these, and results are given back
  OfCalls : Clause
  -- a byte taken is the one that its call left, and what is put out or exited with is its term's
  OfOutside : Clause
  -- blocks are entered and left as their ends say
  OfEdges : Clause
  -- each jump with a link but the first, each read and each write is that of an effect
  OfInstructions : Clause
  -- each word meets the facts of its term
  OfFacts : Clause

abbrev pub number_of : Clause → ℕ
number_of OfPatterns = 1
number_of OfStores = 2
number_of OfPhis = 3
number_of OfCalls = 4
number_of OfOutside = 5
number_of OfEdges = 6
number_of OfInstructions = 7
number_of OfFacts = 8

abbrev pub unless : Clause → Bool → Option Clause
unless c holds = if holds then None else Some c

abbrev pub lesser : Clause → Clause → Clause
lesser c d = if nat_le (number_of c) (number_of d) then c else d

-- the first of two clauses, where there are two
abbrev pub least_of : Clause → Option Clause → Option Clause
least_of c None = Some c
least_of c (Some d) = Some (lesser c d)

abbrev pub least : Option Clause → Option Clause → Option Clause
least None f = f
least (Some c) f = least_of c f

-- something with the first clause that was found false on the way
pub record Judged (A : Type 0) : Type 0 where
  pub value : A
  pub fault : Option Clause

abbrev pub judged : {A : Type 0} → A → Option Clause → Judged A
judged a f = record { value = a; fault = f }

abbrev pub then_judge : {A B : Type 0} → Judged A → (A → Judged B) → Judged B
then_judge j go = let k = go j.value in judged k.value (least j.fault k.fault)

-- over a list
abbrev pub each : {A B : Type 0} → (A → B → Judged B) → List A → B → Judged B
each f [] b = judged b None
each f (x ∷ xs) b = then_judge (f x b) (each f xs)

abbrev pub each_fault : {A : Type 0} → (A → Option Clause) → List A → Option Clause
each_fault f [] = None
each_fault f (x ∷ xs) = least (f x) (each_fault f xs)
