-- `beside_name` and `in_brackets` tell what the levels of the grammar tell.
-- One goal for each kind of middle, and for what that tells.
use Rattle.std.proofs.Common.{◌++◌, arith}
use Rattle.std.proofs.lemmas.Grind.{common_steps}
use Rattle.c_tree.specs.declared.declarator.Declarator.{out-Declarator}
use Rattle.c_tree.specs.Levels.Trees.{direct_level, direct_level-Nothing, direct_level-Named, direct_level-Grouped}
use Rattle.c_unit_parser.proofs.NextToName.{beside_alone, beside_other, beside_listing}
use Rattle.c_unit_parser.proofs.nodes.+beside.Goals as goal

pub beside_name-returns-in-Alone : goal.beside_name-returns-in-Alone
beside_name-returns-in-Alone t c = λ names.
    beside_alone c.args.tree.now names c.next_to.result (c.in-Alone.ensures names) (rw (c.as_slice.ensures, c.as_slice-in-Alone.ensures) at (c.next_to.ensures (names ++ (direct_level (out-Declarator c.args.tree.now).direct names).1)))

pub beside_name-returns-in-Other : goal.beside_name-returns-in-Other
beside_name-returns-in-Other t c = λ names. beside_other c.args.tree.now names (c.in-Other.ensures names)

pub beside_name-returns-in-Listing : goal.beside_name-returns-in-Listing
beside_name-returns-in-Listing t c = λ names. let inner = c.in-Listing.ensures names in (inner.0, beside_listing c.args.tree.now names _ inner.1)

pub in_brackets-returns-in-Grouped : goal.in_brackets-returns-in-Grouped
in_brackets-returns-in-Grouped t c = λ names. rw (c.in-Grouped.is, direct_level-Grouped) (rw c.get.ensures at (c.beside_name.ensures names))

pub in_brackets-returns-in-Nothing : goal.in_brackets-returns-in-Nothing
in_brackets-returns-in-Nothing t c = λ names. grind (arith, common_steps, direct_level-Nothing, direct_level-Named)
