-- A list of files, seen as the map from their names to their bytes.
use Rattle.std.specs.Prelude.{ℕ, List, map}
use Rattle.std.specs.FinMap.{from_entries}
use Rattle.ccai_io.specs.Outside.{Files}
use Rattle.ccai_io.specs.declared.file_table.StoredFile.{StoredFile}

-- a file as a name with its bytes
abbrev pub entry_of : StoredFile → List ℕ × List ℕ
entry_of file = (file.name, file.bytes)

-- the files of a list by name
abbrev pub files_of : List StoredFile → Files
files_of files = from_entries (map entry_of files)
