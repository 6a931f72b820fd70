-- Proof of `push` of src/table.rt: the goals that the check leaves open,
-- by lemmas of proofs/ and of the crates below.
use Rattle.std.proofs.Common.{rules, ◌≡◌, ◌∷◌, [], ◌++◌, ◌∙◌, ap}
use Rattle.term_domain.specs.Rows.{Rows}
use Rattle.term_domain.proofs.Lookups.{pushed_in, table_in}
use Rattle.term_domain.proofs.table.Table.push.Goals as goal

rows_after : (c : goal.In_ok-insert) → c.insert.new.self.entries ≡ c.self.inside.rows.entries ++ (c.key_of.result, c.args.facts) ∷ []
rows_after c =
    pushed_in c.self.inside.rows.entries c.args.self.now c.insert.new.self.entries c.key_of.result c.args.node c.args.facts c.len-place.result
    c.self.invariant c.self.view_is c.len-place.ensures.len c.key_of.ensures.node c.key_of.ensures.own c.requires.new
    c.in_ok-insert.ensures.entries

pub returns-clause-ok : goal.returns-clause-ok
returns-clause-ok c = record {
  number = search rules;
  pushed = (c.key_of.result, c.key_of.ensures.node, rows_after c ∙ ap (λ (rows : Rows). rows ++ (c.key_of.result, c.args.facts) ∷ []) c.self.view_is);
}

pub invariant_of-self-2 : goal.invariant_of-self-2
invariant_of-self-2 c =
    table_in c.self.inside.rows.entries c.args.self.now c.insert.new.self.entries c.key_of.result c.args.node c.args.facts c.len-place.result
    c.self.invariant c.self.view_is c.len-place.ensures.len c.key_of.ensures.node c.key_of.ensures.own c.requires.older (rows_after c)
