-- The values that contracts see of the shelves, as data.
use Rattle.std.specs.Prelude.{ℕ, List, refl}
use Rattle.std.specs.Coded.{Coded, code_by, coded×, coded_ℕ, coded_list}
use Rattle.std.specs.FinMap.{code}
use Rattle.ccai_io.specs.Outside.{Files}
use Rattle.ccai_io.specs.MemShelf.{ShelfState}
use Rattle.ccai_io.specs.Sure.{SureShelfState}

abbrev pub files_code : Coded Files
files_code = code (coded_list coded_ℕ) (coded_list coded_ℕ)

abbrev pub shelf_code : Coded ShelfState
shelf_code =
    code_by (Files × (ℕ × (List ℕ × (ℕ × ℕ)))) (coded× files_code (coded× coded_ℕ (coded× (coded_list coded_ℕ) (coded× coded_ℕ coded_ℕ))))
    (λ s. (s.files, (s.calls, (s.failing, (s.absences, s.faults)))))
    (λ p. record { files = p.0; calls = p.1.0; failing = p.1.1.0; absences = p.1.1.1.0; faults = p.1.1.1.1 })
    (λ _. refl)

abbrev pub sure_shelf_code : Coded SureShelfState
sure_shelf_code = code_by (Files × ℕ) (coded× files_code coded_ℕ) (λ s. (s.files, s.absences)) (λ p. record { files = p.0; absences = p.1 }) (λ _. refl)
