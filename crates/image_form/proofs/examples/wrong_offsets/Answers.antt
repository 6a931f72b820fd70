-- The examples, each by computation.
use Rattle.image_form.specs.Examples.{early_ends, files_wrong, magic_wrong, records_wrong_at}
use Rattle.image_form.proofs.examples.wrong_offsets.Goals as goal

pub returns-clause-files : goal.returns-clause-files
returns-clause-files c = files_wrong

pub returns-clause-magic : goal.returns-clause-magic
returns-clause-magic c = magic_wrong

pub returns-clause-records : goal.returns-clause-records
returns-clause-records c = records_wrong_at

pub returns-clause-early_ends : goal.returns-clause-early_ends
returns-clause-early_ends c = early_ends
