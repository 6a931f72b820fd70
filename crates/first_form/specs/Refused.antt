-- Why a source is refused.
use Rattle.std.specs.Prelude.{ℕ, List}
use Rattle.first_form.specs.declared.form.FormFault.{FormFault}
use Rattle.first_form.specs.declared.form.FormFault.TheVariants.{NotYet, Memory}
use Rattle.first_form.specs.declared.form.Stop.{Stop}
use Rattle.first_form.specs.declared.form.Stop.TheVariants as stop
use Rattle.first_form.specs.Form.{Form, IsOfFirstForm}

-- a source is refused as not built yet only where it says nothing in the first form
abbrev pub Refuses : FormFault → List ℕ → Type 0
Refuses (NotYet place) bytes = (f : Form) → IsOfFirstForm bytes f → ⊥
Refuses Memory bytes = Unit {0}

-- reading stopped because of this, or because memory is wanting
abbrev pub Unfits : Stop → Type 0 → Type 0
Unfits stop.Unfit P = P
Unfits stop.Memory P = Unit {0}
