-- The laws of cells as bytes of memory.
use Rattle.rv_machine.specs.Laws.Cells.{HasCells-stored, HasCells-loaded}
use Rattle.rv_machine.proofs.laws.cell_laws.Goals as goal

pub returns-clause-stored : goal.returns-clause-stored
returns-clause-stored c = HasCells-stored

pub returns-clause-loaded : goal.returns-clause-loaded
returns-clause-loaded c = HasCells-loaded
