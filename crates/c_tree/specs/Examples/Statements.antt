-- Examples of statements, each computed from the definitions.
use Rattle.std.specs.Prelude.{◌≡◌, true, false, [], Some, None}
use Rattle.c_tree.specs.Levels.Statements.{stmt_level}
use Rattle.c_tree.specs.Nesting.Statements.{stmt_nesting}
use Rattle.c_tree.specs.Examples.Built.{named-level, named-nesting}
use Rattle.c_tree.specs.Examples.Branching.{head, skip, skip-level, skip-nesting, empty_block, empty_block-nesting, if_alone, if_alone-level, if_alone-nesting, if_else, if_else-level, if_else-nesting, while, while-level, while-nesting}

ruleset levels = (named-level, skip-level, if_alone-level, if_else-level, while-level)

ruleset nestings = (named-nesting, skip-nesting, empty_block-nesting, if_alone-nesting, if_else-nesting, while-nesting)

-- `if (a) if (a) ; else ;` is read with the `else` at the inner `if`
pub else_at_the_inner_if : (stmt_level (if_alone (if_else skip None skip)) []).0.good ≡ true
else_at_the_inner_if = simp levels

pub no_else_at_the_outer_if : (stmt_level (if_else (if_alone skip) None skip) []).0.good ≡ false
no_else_at_the_outer_if = simp levels

-- also where the inner `if` is the body of a loop
pub no_else_past_a_loop : (stmt_level (if_else (while (if_alone skip)) None skip) []).0.good ≡ false
no_else_past_a_loop = simp levels

-- an inner `if` that has its `else` takes no other
pub else_behind_else : (stmt_level (if_else (if_else skip None skip) None skip) []).0.good ≡ true
else_behind_else = simp levels

-- `else if` is one `else` with a condition, and never a last `else` whose body is an `if`
pub else_if : (stmt_level (if_else skip (Some head) skip) []).0.good ≡ true
else_if = simp levels

pub no_if_behind_a_last_else : (stmt_level (if_else skip None (if_alone skip)) []).0.good ≡ false
no_if_behind_a_last_else = simp levels

-- what an `else` behind the statement would belong to
pub if_takes_else : (stmt_level (if_alone skip) []).0.takes_else ≡ true
if_takes_else = simp levels

pub if_with_else_takes_none : (stmt_level (if_else skip None skip) []).0.takes_else ≡ false
if_with_else_takes_none = simp levels

pub else_if_takes_else : (stmt_level (if_else skip (Some head) skip) []).0.takes_else ≡ true
else_if_takes_else = simp levels

-- ---- nesting

-- a body that is no block is one construct, a block only its brackets
pub body_without_block : (stmt_nesting (while (while skip))).alone ≡ 2
body_without_block = simp nestings

pub body_that_is_a_block : (stmt_nesting (while empty_block)).alone ≡ 1
body_that_is_a_block = simp nestings

-- an `if` right behind `else` adds none
pub else_if_adds_none : (stmt_nesting (if_else empty_block (Some head) empty_block)).alone ≡ 1
else_if_adds_none = simp nestings

pub if_in_an_else_adds_one : (stmt_nesting (if_else empty_block None (while empty_block))).alone ≡ 2
if_in_an_else_adds_one = simp nestings
