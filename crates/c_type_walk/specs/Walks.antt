-- What a function that types a construct ensures.
-- The clauses of all crates that walk or have rows cite `Walks` of a walk of c_typing.
use Rattle.std.specs.Prelude.{◌≡◌, ◌++◌, Option, Result, Ok, Err}
use Rattle.word_ops.specs.declared.memory.Memory.{Memory}
use Rattle.c_typing.specs.Scopes.{Said, Walk}
use Rattle.c_typing.specs.Scopes as scopes
use Rattle.c_type_walk.specs.declared.around.Around.{Around}
use Rattle.c_type_walk.specs.declared.found.Found.{Found}

-- what is fixed around a construct, as the definitions have it
abbrev pub fixed : Around → scopes.Around
fixed a = record {
  functions = a.functions.now;
  objects = a.objects.now;
  at_file_level = a.at_file_level;
  names_from = a.names_from;
  tags_from = a.tags_from;
  own_from = a.own_from;
  inner_from = a.inner_from;
  numbers_from = a.numbers_from;
  may_break = a.may_break;
  may_continue = a.may_continue;
  result = a.result.now;
}

-- what a walk says is given, its faults stand behind those that were found before, and what it has found is kept
pub record Gave {A : Type 0} (said : Said A) (old new : Found) (given : Option A) : Type 0 where
  pub is : given ≡ said.given
  pub faults : new.faults ≡ old.faults ++ said.faults
  pub state : new.state ≡ said.state

-- unless memory is wanting
abbrev pub Walks : {A : Type 0} → Walk A → Around → Found → Result (Option A) Memory → Found → Type 0
Walks w c old (Ok given) new = Gave (w (fixed c) old.state) old new given
Walks w c old (Err e) new = Unit {0}
