-- Offsets at which bytes are wrong, computed: files and records written out by hand, and a file that ends early.
use Rattle.std.specs.Prelude.{◌≡◌, ℕ, zero, suc, ◌-◌, List, [], ◌∷◌, ◌++◌, map, length, take, slice_index, Option, Some, None, refl}
use Rattle.std.specs.List.{flat_map}
use Rattle.image_form.specs.Bytes.{magic, number_bytes}
use Rattle.image_form.specs.Form.{first_wrong, header_wrong, records_wrong, word_at, words_wrong}

-- the magic, and then words
abbrev pub file : List ℕ → List ℕ
file words = magic ++ flat_map number_bytes words

-- as many words, of which those that are not given are 0
abbrev pub filled : (count : ℕ) → List ℕ → List ℕ
filled zero words = []
filled (suc count) [] = 0 ∷ filled count []
filled (suc count) (w ∷ words) = w ∷ filled count words

-- one word of text, 8 bytes of data, and a record that begins with these words
abbrev pub with_record : List ℕ → List ℕ
with_record words = file ((1 ∷ 8 ∷ 16 ∷ 0x10000 ∷ 1 ∷ 115 ∷ 0x4030201 ∷ 0x8070605 ∷ []) ++ filled 16 words)

-- words behind the magic, and the first offset at which the file is wrong
pub record Case : Type 0 where
  pub words : List ℕ
  pub wrong : Option ℕ

abbrev pub case : List ℕ → Option ℕ → Case
case words wrong = record { words = words; wrong = wrong }

abbrev pub files : List Case
files =
    case (3 ∷ 0 ∷ 0 ∷ 0x10000 ∷ 0 ∷ 0x308893 ∷ 0x12c00513 ∷ 115 ∷ []) None
    ∷ case ([]) (Some 4)
    ∷ case (1 ∷ []) (Some 8)
    ∷ case (0x10000001 ∷ 0 ∷ 0 ∷ 0x10000 ∷ 0 ∷ []) (Some 4)
    ∷ case (0x10000000 ∷ 0 ∷ 0 ∷ 0x10000 ∷ 0 ∷ []) (Some 24)
    ∷ case (1 ∷ 0x1000001 ∷ 0 ∷ 0x10000 ∷ 0 ∷ []) (Some 8)
    ∷ case (1 ∷ 0x1000000 ∷ 0 ∷ 0x10000 ∷ 0 ∷ []) (Some 24)
    ∷ case (1 ∷ 0 ∷ 7 ∷ 0x10000 ∷ 0 ∷ 0 ∷ []) (Some 12)
    ∷ case (1 ∷ 0 ∷ 0x40000008 ∷ 0x10000 ∷ 0 ∷ 0 ∷ []) (Some 12)
    ∷ case (1 ∷ 0 ∷ 0x40000000 ∷ 0x10000 ∷ 0 ∷ 0 ∷ []) None
    ∷ case (1 ∷ 0 ∷ 0 ∷ 0x10002 ∷ 0 ∷ 0 ∷ []) (Some 16)
    ∷ case (1 ∷ 0 ∷ 0 ∷ 0xfffc ∷ 0 ∷ 0 ∷ []) (Some 16)
    ∷ case (1 ∷ 0 ∷ 0 ∷ 0x10004 ∷ 0 ∷ 0 ∷ []) (Some 16)
    ∷ case (2 ∷ 0 ∷ 0 ∷ 0x10004 ∷ 0 ∷ 0 ∷ 0 ∷ []) None
    ∷ case (0 ∷ 0 ∷ 0 ∷ 0x10000 ∷ 0 ∷ []) (Some 16)
    ∷ case (0x10000001 ∷ 0 ∷ 7 ∷ 0 ∷ 0 ∷ []) (Some 4)
    ∷ case (1 ∷ 0 ∷ 0 ∷ 0x10000 ∷ 0 ∷ 0 ∷ 0 ∷ []) (Some 28)
    ∷ case (1 ∷ 4 ∷ 0 ∷ 0x10000 ∷ 0 ∷ 0 ∷ 9 ∷ 0 ∷ []) (Some 32)
    ∷ case (1 ∷ 0 ∷ 0 ∷ 0x10000 ∷ 2 ∷ 0 ∷ []) (Some 28)
    ∷ case (1 ∷ 0 ∷ 0 ∷ 0x10000 ∷ 1 ∷ 0 ∷ 9 ∷ []) (Some 28)
    ∷ []

abbrev pub FilesWrong : Type 0
FilesWrong = map (λ (c : Case). first_wrong (file c.words)) files ≡ map (λ (c : Case). c.wrong) files

pub files_wrong : FilesWrong
unfolding first_wrong header_wrong records_wrong words_wrong word_at
files_wrong = refl

-- another magic, one byte, and none
abbrev pub MagicWrong : Type 0
MagicWrong = map first_wrong ((82 ∷ 86 ∷ 73 ∷ 50 ∷ []) ∷ (114 ∷ []) ∷ [] ∷ []) ≡ Some 3 ∷ Some 0 ∷ Some 0 ∷ []

pub magic_wrong : MagicWrong
unfolding first_wrong header_wrong
magic_wrong = refl

-- the first words of a record, and the first offset at which a file with it is wrong
abbrev pub records : List Case
records =
    case (0 ∷ []) (Some 36)
    ∷ case (8 ∷ []) (Some 36)
    ∷ case (1 ∷ 5 ∷ 0x10000 ∷ 48 ∷ 2 ∷ 2 ∷ []) (Some 56)
    ∷ case (1 ∷ 5 ∷ 0x10000 ∷ 48 ∷ 2 ∷ 1 ∷ 1 ∷ []) (Some 60)
    ∷ case (1 ∷ 5 ∷ 0x10000 ∷ 48 ∷ 2 ∷ 1 ∷ 0 ∷ 0 ∷ 0 ∷ 0 ∷ 0 ∷ 0 ∷ 0 ∷ 0 ∷ 0 ∷ 1 ∷ []) (Some 96)
    ∷ case (2 ∷ 1 ∷ 5 ∷ 0 ∷ 0x10004 ∷ 1 ∷ []) (Some 56)
    ∷ case (3 ∷ 7 ∷ 1 ∷ 4 ∷ []) (Some 48)
    ∷ case (3 ∷ 7 ∷ 1 ∷ 0x40004 ∷ []) (Some 48)
    ∷ case (3 ∷ 7 ∷ 1 ∷ 0x10000 ∷ []) (Some 48)
    ∷ case (3 ∷ 7 ∷ 1 ∷ 0x1001c ∷ []) (Some 48)
    ∷ case (3 ∷ 7 ∷ 1 ∷ 0x10063 ∷ []) (Some 48)
    ∷ case (3 ∷ 7 ∷ 1 ∷ 0x1006b ∷ []) (Some 48)
    ∷ case (3 ∷ 7 ∷ 1 ∷ 0x10073 ∷ []) (Some 48)
    ∷ case (4 ∷ 1 ∷ 0 ∷ []) (Some 44)
    ∷ case (4 ∷ 1 ∷ 8 ∷ []) (Some 44)
    ∷ case (4 ∷ 1 ∷ 2 ∷ 0x10008 ∷ 7 ∷ 8 ∷ 0 ∷ []) (Some 60)
    ∷ case (4 ∷ 1 ∷ 2 ∷ 0x10008 ∷ 7 ∷ 8 ∷ 0xffffffff ∷ 0xffffffff ∷ []) (Some 64)
    ∷ case (4 ∷ 1 ∷ 6 ∷ 0x10008 ∷ 9 ∷ 0 ∷ 0xffffffff ∷ []) (Some 56)
    ∷ case (4 ∷ 1 ∷ 6 ∷ 0x10008 ∷ 9 ∷ 0xffffffff ∷ 11 ∷ []) (Some 60)
    ∷ case (5 ∷ 1 ∷ 8 ∷ 1 ∷ []) (Some 48)
    ∷ case (6 ∷ 0 ∷ 1 ∷ 5 ∷ 2 ∷ 1 ∷ []) (Some 56)
    ∷ case (7 ∷ 1 ∷ 0 ∷ []) (Some 44)
    ∷ case (7 ∷ 1 ∷ 5 ∷ []) (Some 44)
    ∷ case (7 ∷ 1 ∷ 2 ∷ 7 ∷ 1 ∷ 0xffffffff ∷ 0x1000c ∷ 1 ∷ []) (Some 64)
    ∷ []

abbrev pub RecordsWrong : Type 0
RecordsWrong = map (λ (c : Case). first_wrong (with_record c.words)) records ≡ map (λ (c : Case). c.wrong) records

pub records_wrong_at : RecordsWrong
unfolding first_wrong header_wrong records_wrong words_wrong word_at
records_wrong_at = refl

-- the numbers below one
abbrev pub below : ℕ → List ℕ
below zero = []
below (suc n) = below n ++ n ∷ []

-- a whole file is right, and is wrong at its end wherever it is cut
abbrev pub whole : List ℕ
whole = with_record (1 ∷ 5 ∷ 0x10000 ∷ 48 ∷ 2 ∷ 1 ∷ [])

abbrev pub EarlyEnds : Type 0
EarlyEnds = map (λ n. first_wrong (take n whole)) (below 100) ++ first_wrong whole ∷ [] ≡ map Some (below 100) ++ None ∷ []

pub early_ends : EarlyEnds
unfolding first_wrong header_wrong records_wrong words_wrong word_at
early_ends = refl
