-- A function over registers laid out behind the start of a program, with the records that tell of it: an audit of its image.
use Rattle.std.specs.Prelude.{◌≡◌, ℕ, List, [], ◌∷◌, None, Some, slice_get, slice_index}
use Rattle.image_form.specs.declared.image.Image.{Image}
use Rattle.rv_machine.specs.declared.answer.End.TheVariants as ended
use Rattle.code_form.specs.Examples.{swapped}
use Rattle.audited_machine.specs.Audit.{Holds, audit}
use Rattle.laid_program.specs.Addresses.{Addresses}
use Rattle.laid_program.specs.Text.{LiesFunction}
use Rattle.laid_program.specs.Records.{all_records}

-- where items and their own words stand, by blocks; behind the last item its end, and behind that the end of the block
abbrev pub items : List (List ℕ)
items =
    (0x10020 ∷ 0x10030 ∷ [])
    ∷ (0x10030 ∷ 0x10030 ∷ 0x10030 ∷ 0x10030 ∷ 0x10038 ∷ [])
    ∷ (0x10038 ∷ 0x1003c ∷ 0x10050 ∷ [])
    ∷ (0x10050 ∷ 0x10060 ∷ [])
    ∷ []

abbrev pub own_words : List (List ℕ)
own_words = (0x1002c ∷ []) ∷ (0x10030 ∷ 0x10030 ∷ 0x10030 ∷ 0x10034 ∷ []) ∷ (0x10038 ∷ 0x1004c ∷ []) ∷ (0x1005c ∷ []) ∷ []

abbrev pub looked_up : List (List ℕ) → (block item : ℕ) → ℕ
looked_up table k n = elim (slice_get table k) as (λ o. ℕ) [ None ↦ 0 | Some row ↦ slice_index row n ]

abbrev pub addresses : Addresses
addresses = record { entry = λ f. 0x10018; item = λ f k n. looked_up items k n; own = λ f k n. looked_up own_words k n; deep = 0x10060; object = λ g. 0 }

abbrev pub text : List ℕ
text =
    -- the stack ends at 0x100a8, no further call may be nested but that of the function, and its value is the status
    0x00010137 ∷ 0x0a810113 ∷ 0x00100193 ∷ 0x00c000ef ∷ 0x00300893 ∷ 0x00000073
    -- the frame is taken, and the link is kept
    ∷ 0xff810113 ∷ 0x00112223
    -- block 0: the phis have 1, 2 and 3
    ∷ 0x00100413 ∷ 0x00200493 ∷ 0x00300593 ∷ 0x0040006f
    -- block 1: on to block 2 while the third is not 0
    ∷ 0x00059463 ∷ 0x01c0006f
    -- block 2: it counts down, and the others change places
    ∷ 0xfff58613 ∷ 0x00040f13 ∷ 0x00048413 ∷ 0x000f0493 ∷ 0x00060593 ∷ 0xfe5ff06f
    -- block 3: the first is given back
    ∷ 0x00040513 ∷ 0x00412083 ∷ 0x00810113 ∷ 0x00008067
    -- the end of runs that nest too deep
    ∷ 0x00400893 ∷ 0x00000073
    ∷ []

abbrev pub image : Image
image = record { text = text; statics = []; stack = 64; entry = 0x10000; listing = record { records = all_records addresses 0 (swapped ∷ []) } }

-- the function lies there
abbrev pub Lies : Type 0
Lies = LiesFunction text addresses 0 swapped

-- and its records are true of its run, in which 1 and 2 change places three times
abbrev pub AllTrue : Type 0
AllTrue = audit image [] 100 ≡ Holds (ended.Exit 2) 39
