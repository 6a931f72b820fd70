-- A file that the search passed over does not have the name, so none has it where the search ends.
use Rattle.std.proofs.Common.{◌<◌, ◌≤◌, length, sym, ◌∙◌, ap, arith, take_all}
use Rattle.ccai_io.proofs.Tables.{found, file_of-files_of, not_found_yet}
use Rattle.ccai_io.proofs.file_table.position_of.Goals as goal

pub returns-then-eq-clause-first : goal.returns-then-eq-clause-first
returns-then-eq-clause-first c = file_of-files_of _ _ ∙ c.loop-i.invariant

pub loop-i-preserved : goal.loop-i-preserved
loop-i-preserved c =
    let within : c.loop-i.i < length c.args.files.now = omega arith in
    not_found_yet c.args.files.now c.loop-i.i c.args.name.now c.index-files-i.result c.loop-i.invariant within c.index-files-i.is (cc)

pub returns-clause-absent : goal.returns-clause-absent
returns-clause-absent c =
    let all : length c.args.files.now ≤ c.loop-i.i = omega arith in
    file_of-files_of _ _ ∙ sym (ap (found c.args.name.now) (take_all _ _ all)) ∙ c.loop-i.invariant
