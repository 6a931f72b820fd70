-- `meaning_of` of src/scopes.rt: what the check leaves open of its proof.
-- What an ordinary identifier stands for here.
use Rattle.std.proofs.Common.{◌≡◌, ◌∙◌, sym, ap, Some, None}
use Rattle.std.specs.Option.{option_copied}
use Rattle.c_typing.specs.Scopes.{latest}
use Rattle.c_type_walk.proofs.Visible.{hidden, seen}
use Rattle.c_type_walk.proofs.scopes.meaning_of.Goals as goal

pub returns-in-Some : goal.returns-in-Some
returns-in-Some c =
    let s = c.args.state.now in
    let there : latest s.names c.args.name.now ≡ Some c.in-Some.meaning.now = sym c.get.ensures.last ∙ ap option_copied c.in-Some.is in
    sym (hidden s.outer.names s.names c.args.name.now c.in-Some.meaning.now there)

pub returns-in-None : goal.returns-in-None
returns-in-None c =
    let s = c.args.state.now in
    let none : latest s.names c.args.name.now ≡ None = sym c.get.ensures.last ∙ ap option_copied c.in-None.is in
    c.get-in-None.ensures.last ∙ sym (seen s.outer.names s.names c.args.name.now none)
