-- Words read anywhere in a machine, computed: a text of 12 bytes at 0x10000, data of 5 bytes at 0x10010, and a stack of 8
-- bytes at 0x10018.
use Rattle.std.specs.Prelude.{◌≡◌, ℕ, List, [], ◌∷◌, map, Option, Some, None, refl}
use Rattle.rv_machine.specs.State.{Loaded}
use Rattle.rv_machine.specs.Start.{loaded}
use Rattle.rv_machine.specs.Reading.{word_at}

abbrev pub machine : Loaded
machine = loaded (record { text = 0x3020100 ∷ 0x7060504 ∷ 0xb0a0908 ∷ []; statics = 97 ∷ 98 ∷ 99 ∷ 100 ∷ 101 ∷ []; stack = 8; entry = 0x10000; listing = record { records = [] } })

abbrev pub WordsRead : Type 0
WordsRead =
    map (word_at machine) (0x10000 ∷ 0x10003 ∷ 0x10008 ∷ 0x10009 ∷ 0xffff ∷ 0x1000f ∷ 0x10010 ∷ 0x10012 ∷ 0x1001c ∷ 0x1001d ∷ 0xffffffff ∷ 0 ∷ [])
    ≡ Some 0x3020100 ∷ Some 0x6050403 ∷ Some 0xb0a0908 ∷ None ∷ None ∷ None ∷ Some 0x64636261 ∷ Some 0x656463 ∷ Some 0 ∷ None ∷ None ∷ None ∷ []

pub words_read : WordsRead
words_read = refl
