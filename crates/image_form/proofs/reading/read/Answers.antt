-- What was checked is an image, and is read as that.
use Rattle.std.proofs.Common.{sym, ◌∙◌, subst}
use Rattle.image_form.specs.declared.image.Image.{Image}
use Rattle.image_form.specs.Laws.{IsFileOf}
use Rattle.image_form.proofs.Laws.{found}
use Rattle.image_form.proofs.Written.{written, form}
use Rattle.image_form.proofs.reading.read.Goals as goal

pub returns-in-Err-clause-only : goal.returns-in-Err-clause-only
returns-in-Err-clause-only c = λ i a. let none = (written c.args.bytes.now i a).0 in let wrong = c.in-Err.ensures.value in absurd cc

pub returns-in-Err-clause-form : goal.returns-in-Err-clause-form
returns-in-Err-clause-form c = form c.args.bytes.now (λ i. (c.type_inv.bytes i).fits)

pub returns-in_err-contents-clause-form : goal.returns-in_err-contents-clause-form
returns-in_err-contents-clause-form c = form c.args.bytes.now (λ i. (c.type_inv.bytes i).fits)

pub returns-clause-found : goal.returns-clause-found
returns-clause-found c =
    subst (λ (i : Image). IsFileOf c.args.bytes.now i) (sym c.in_ok-contents.ensures) (found c.args.bytes.now (λ i. (c.type_inv.bytes i).fits) (sym c.in-Ok.ensures.value))

pub returns-clause-only : goal.returns-clause-only
returns-clause-only c = λ i a. c.in_ok-contents.ensures ∙ (written c.args.bytes.now i a).1

pub returns-clause-form : goal.returns-clause-form
returns-clause-form c = form c.args.bytes.now (λ i. (c.type_inv.bytes i).fits)
