-- The audited machine without its account is the machine, as long as nothing is false.
-- No contract cites this file: it holds proofs.
use Rattle.std.proofs.Common.{◌≡◌, refl, sym, ◌∙◌, ap, ℕ, zero, suc, ◌+◌, List, Option, Some, None}
use Rattle.std.proofs.lemmas.Option.{none-some}
use Rattle.image_form.specs.declared.image.Image.{Image}
use Rattle.rv_machine.specs.declared.answer.Stepped.{Stepped}
use Rattle.rv_machine.specs.declared.answer.Stepped.TheVariants.{Going, Exit, Deep, Trap, ReadFault, WriteFault}
use Rattle.rv_machine.specs.After.{Moment, next, after, goes_on, machine_after}
use Rattle.audited_machine.specs.Account.{Account, Clause}
use Rattle.audited_machine.specs.Audit.{Audited, behind_step, step_from, go_on, audit_next, audit_from, audit_after, IsAccounted}

-- behind a step the moment is the machine's
moment-behind_step : (image : Image) (w v : Moment) (n : ℕ) (a : Account) (r : Stepped) → (behind_step image w v n a r).moment ≡ v
moment-behind_step image w v n a Going = refl
moment-behind_step image w v n a (Exit status) = refl
moment-behind_step image w v n a Deep = refl
moment-behind_step image w v n a (Trap pc) = refl
moment-behind_step image w v n a ReadFault = refl
moment-behind_step image w v n a WriteFault = refl

moment-step_from : (image : Image) (x : Audited) (r : Stepped) → x.moment.answer ≡ r → (step_from image x r).moment ≡ next image.text x.moment
unfolding next
moment-step_from image x Going e = moment-behind_step image x.moment (next image.text x.moment) (x.steps + 1) x.account (next image.text x.moment).answer
moment-step_from image x (Exit status) e = sym (ap (goes_on image.text x.moment) e)
moment-step_from image x Deep e = sym (ap (goes_on image.text x.moment) e)
moment-step_from image x (Trap pc) e = sym (ap (goes_on image.text x.moment) e)
moment-step_from image x ReadFault e = sym (ap (goes_on image.text x.moment) e)
moment-step_from image x WriteFault e = sym (ap (goes_on image.text x.moment) e)

-- a clause that is false stays so
stays : (image : Image) (x : Audited) (f : Option Clause) → x.fault ≡ f → (go_on image x f).fault ≡ None → f ≡ None
stays image x None e h = refl
stays image x (Some clause) e h = sym e ∙ h

goes : (image : Image) (x : Audited) (f : Option Clause) → f ≡ None → (go_on image x f).moment ≡ next image.text x.moment
goes image x None e = moment-step_from image x x.moment.answer refl
goes image x (Some clause) e = absurd (none-some clause (sym e))

-- what is true after n + 1 steps was true after n
pub accounted-before : (image : Image) (input : List ℕ) (n : ℕ) → IsAccounted image input (suc n) → IsAccounted image input n
unfolding audit_from audit_next
accounted-before image input n h = let x = audit_after image input n in stays image x x.fault refl h

-- while the account is true the moment is that of the machine
pub erased : (image : Image) (input : List ℕ) (n : ℕ) → IsAccounted image input n → (audit_after image input n).moment ≡ machine_after image input n
unfolding audit_from audit_next after
erased image input zero h = refl
erased image input (suc n) h =
    let x = audit_after image input n in
    let before = accounted-before image input n h in
    goes image x x.fault before ∙ ap (next image.text) (erased image input n before)
