use Rattle.std.proofs.Common.{◌+◌, ◌∷◌, drop, ap, rules}
use Rattle.std.proofs.lemmas.List.{take_rest}
use Rattle.c_lexer.specs.declared.literal.Element.{Element}
use Rattle.c_lexer.specs.Literals.{elements_from}
use Rattle.c_lexer.specs.Scan.{body_from}
use Rattle.c_lexer.proofs.Elements.{elements_from-step}
use Rattle.c_lexer.proofs.literal.body_of.Goals as goal
use Rattle.c_lexer.proofs.literal.body_of.Goals.{in-Byte+in_ok-push-in-Byte, in-Universal}

pub elements-preserved : goal.elements-preserved
elements-preserved c =
    let rest = c.elements.rest.now in
    let found = c.element_of-element.result in
    let more = elements_from 0 (c.elements.at + found.1) (drop found.1 rest) in
    let step = ap (body_from c.elements.universal c.elements.values.items) (elements_from-step c.elements.at rest found c.element_of-element.ensures.value (search rules) (search rules)) in (
      rw (take_rest rest found.1)
          (elim c.match-element.branch [
            | in-Byte+in_ok-push-in-Byte w ↦
                let known = ap (λ (e : Element). body_from c.elements.universal c.elements.values.items ((c.elements.at, e) ∷ more)) w.in-Byte.is in
                cc w.in_ok-push-in-Byte.ensures.items
            | in-Universal w ↦
                let known = ap (λ (e : Element). body_from c.elements.universal c.elements.values.items ((c.elements.at, e) ∷ more)) w.in-Universal.is in cc
          ]),
      search rules,
    )

pub returns-in-Bad : goal.returns-in-Bad
returns-in-Bad c =
    let rest = c.elements.rest.now in
    let found = c.element_of-element.result in
    let more = elements_from 0 (c.elements.at + found.1) (drop found.1 rest) in
    let step = ap (body_from c.elements.universal c.elements.values.items) (elements_from-step c.elements.at rest found c.element_of-element.ensures.value (search rules) (search rules)) in
    let known = ap (λ (e : Element). body_from c.elements.universal c.elements.values.items ((c.elements.at, e) ∷ more)) c.in-Bad.is in
    cc
