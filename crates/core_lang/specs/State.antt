-- The state in which acts run, and the values of atoms.
use Rattle.std.specs.Prelude.{ℕ, zero, suc, ◌+◌, ◌==◌, if◌then◌else◌, List, [], ◌∷◌, Option, Some, None}
use Rattle.word_ops.specs.Store.{Value, Number, Pointer, Store}
use Rattle.core_lang.specs.declared.act.Atom.{Atom}
use Rattle.core_lang.specs.declared.act.Atom.TheVariants as at

-- what acts change: the values of the variables and temporaries by their numbers, and the store. What is outside of the
-- program stands apart (`Outside` of word_ops)
pub record State : Type 0 where
  pub vars : ℕ → Value
  pub store : Store

-- what acts do not change: the number of the region of the first local object, behind which those of the others follow in
-- order, and where the part of the stack ends that is free for the calls that are made here
pub record Activation : Type 0 where
  pub first : ℕ
  pub stack : ℕ

-- the value of an atom; an object's address is the pointer to its first byte (C11 6.5.3.2p3)
abbrev pub value_of_atom : Activation → State → Atom → Value
value_of_atom e s (at.Var x) = s.vars x
value_of_atom e s (at.Word n) = Number n
value_of_atom e s (at.Global x) = Pointer x 0
value_of_atom e s (at.Local x) = Pointer (e.first + x) 0

abbrev pub value_of_option : Activation → State → Option Atom → Option Value
value_of_option e s None = None
value_of_option e s (Some v) = Some (value_of_atom e s v)

abbrev pub values_of_atoms : Activation → State → List Atom → List Value
values_of_atoms e s [] = []
values_of_atoms e s (v ∷ vs) = value_of_atom e s v ∷ values_of_atoms e s vs

-- the state after a variable or temporary was assigned
abbrev pub assigned : State → ℕ → Value → State
assigned s x v = record s { vars = λ y. if y == x then v else s.vars y }

-- the variables as a function begins: the parameters have the arguments, and all others are 0
abbrev pub argument : List Value → ℕ → Value
argument [] x = Number 0
argument (v ∷ vs) zero = v
argument (v ∷ vs) (suc x) = argument vs x
