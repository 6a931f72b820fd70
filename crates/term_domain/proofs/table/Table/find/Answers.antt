-- Proof of `find` of src/table.rt: the goals that the check leaves open,
-- by lemmas of proofs/ and of the crates below.
use Rattle.term_domain.proofs.Lookups.{found_in, only_in, none_in}
use Rattle.term_domain.proofs.table.Table.find.Goals as goal

pub returns-clause-found : goal.returns-clause-found
returns-clause-found c =
    found_in c.self.inside.rows.entries c.args.self.now c.key_of.result c.args.node c.get_index_of.result c.self.view_is
    c.key_of.ensures.node c.get_index_of.ensures.index

pub returns-clause-only : goal.returns-clause-only
returns-clause-only c =
    only_in c.self.inside.rows.entries c.args.self.now c.key_of.result c.args.node c.get_index_of.result c.self.invariant
    c.get_index_of.ensures.unique c.self.view_is c.key_of.ensures.node c.key_of.ensures.own c.requires c.get_index_of.ensures.index

pub returns-clause-none : goal.returns-clause-none
returns-clause-none c =
    none_in c.self.inside.rows.entries c.args.self.now c.key_of.result c.args.node c.get_index_of.result c.self.invariant
    c.self.view_is c.key_of.ensures.node c.key_of.ensures.own c.requires c.get_index_of.ensures.index
