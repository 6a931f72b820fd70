-- What the outside holds, and when a count of its faults rose.
use Rattle.std.specs.Prelude.{◌≡◌, ℕ, ◌+◌, ◌-◌, ◌^◌, ◌≤◌, min, List, [], ◌∷◌, ◌++◌, Option, Some, None, Result, OnOk, OnErr}
use Rattle.std.specs.Ordering.{nat_cmp}
use Rattle.std.specs.Cmp.Lexicographic.{slice_cmp}
use Rattle.std.specs.FinMap.{FinMap, get}
use Rattle.ccai_io.specs.declared.outside.ShelfFault.{ShelfFault}
use Rattle.ccai_io.specs.declared.outside.ShelfFault.TheVariants.{Missing, Failed, Memory}

-- a count was raised, or stands at its last value
abbrev pub Rose : ℕ → ℕ → Type 0
Rose before now = min (before + 1) (2 ^ 64 - 1) ≤ now

-- a count of faults over one call: it never falls, and a refusal came only where it rose
pub record HasCause {T E : Type 0} (before now : ℕ) (result : Result T E) : Type 0 where
  pub later : before ≤ now
  pub failed : OnErr result (Rose before now)
  pub kept : OnOk result (now ≡ before)

-- the files of a shelf, by the bytes of their names
abbrev pub Files : Type 0
Files = FinMap (slice_cmp nat_cmp) (List ℕ)

-- the bytes of the file of a name, if there is one
abbrev pub file_of : Files → List ℕ → Option (List ℕ)
file_of files name = get files name

-- where a shelf tells its files, the file of this name is this, or there is none
abbrev pub Holds : Option Files → List ℕ → Option (List ℕ) → Type 0
Holds None name file = Unit {0}
Holds (Some files) name file = file_of files name ≡ file

-- why a file was not taken, with the counts of absences and of faults before and after the call
abbrev pub Refused : ShelfFault → Option Files → List ℕ → (absences faults absences' faults' : ℕ) → Type 0
Refused Missing files name absences faults absences' faults' = Holds files name None × Rose absences absences' × (absences ≤ absences') × (faults' ≡ faults)
Refused Failed files name absences faults absences' faults' = Rose faults faults' × (faults ≤ faults') × (absences' ≡ absences)
Refused Memory files name absences faults absences' faults' = (absences' ≡ absences) × (faults' ≡ faults)

-- the next byte is taken, or the end is met; where nothing is told, any byte or the end
abbrev pub Takes : Option (List ℕ) → Option (List ℕ) → Option ℕ → Type 0
Takes None after byte = after ≡ None
Takes (Some []) after byte = (after ≡ Some []) × (byte ≡ None)
Takes (Some (x ∷ xs)) after byte = (after ≡ Some xs) × (byte ≡ Some x)

-- a piece is put behind what is held
abbrev pub Appends : Option (List ℕ) → Option (List ℕ) → List ℕ → Type 0
Appends None after piece = after ≡ None
Appends (Some held) after piece = after ≡ Some (held ++ piece)

-- a prefix of a piece is put behind what is held
abbrev pub AppendsPrefix : Option (List ℕ) → Option (List ℕ) → List ℕ → Type 0
AppendsPrefix held after piece = (kept : List ℕ) × (rest : List ℕ) × (piece ≡ kept ++ rest) × Appends held after kept
