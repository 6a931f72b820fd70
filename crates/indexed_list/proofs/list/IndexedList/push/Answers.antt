use Rattle.std.proofs.Common.{◌∙◌, sym, ap, Some, cond, length}
use Rattle.std.specs.List.{position_from}
use Rattle.scope_map.specs.Scopes.{latest}
use Rattle.indexed_list.proofs.First.{is_new, stood, some_of, none_of}
use Rattle.indexed_list.proofs.list.IndexedList.push.Goals as goal

pub invariant_of-self-then-is_some : goal.invariant_of-self-then-is_some
invariant_of-self-then-is_some g c asked =
    let there = some_of c.get.result (sym c.is_some.ensures ∙ c.if-is_some.true) in
    c.self.invariant asked
    ∙ sym (stood g.T.PartialEq.eq g.met.T.Eq.laws c.self.inside.values c.args.value asked there.0
    (sym (c.self.invariant c.args.value) ∙ sym c.get.ensures.last ∙ there.1))
    ∙ ap (position_from (λ one. g.T.PartialEq.eq one asked) 0) (sym c.in_ok-push.ensures.ok)

pub invariant_of-self-in-Ok-push : goal.invariant_of-self-in-Ok-push
invariant_of-self-in-Ok-push g c asked =
    let E = g.T.PartialEq.eq in
    let before = latest E c.self.inside.firsts asked in
    let none = none_of c.get.result (sym c.is_some.ensures ∙ c.if-is_some.false) in
    c.in_ok-insert.ensures.hides asked
    ∙ ap (λ key. cond (E key asked) (Some c.len.result) before) c.in-Ok.ensures
    ∙ ap (λ n. cond (E c.args.value asked) (Some n) before) c.len.ensures
    ∙ ap (cond (E c.args.value asked) (Some (length c.self.inside.values))) (c.self.invariant asked)
    ∙ is_new E g.met.T.Eq.laws c.self.inside.values c.args.value asked
    (sym (c.self.invariant c.args.value) ∙ sym c.get.ensures.last ∙ none)
    ∙ ap (position_from (λ one. E one asked) 0) (sym c.in-Ok-push.ensures.ok)
