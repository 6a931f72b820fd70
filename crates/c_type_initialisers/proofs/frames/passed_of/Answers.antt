-- `passed_of` of src/frames.rt: what the check leaves open of its proof.
-- How many parts of the outermost aggregate were passed.
use Rattle.std.proofs.Common.{sym}
use Rattle.c_type_initialisers.proofs.Turned.{outermost, none_open}
use Rattle.c_type_initialisers.proofs.frames.passed_of.Goals as goal

pub returns-in-Some : goal.returns-in-Some
returns-in-Some c = sym (outermost c.args.frames.now c.in-Some.outermost.now (sym c.in-Some.ensures.value))

pub returns-in-None : goal.returns-in-None
returns-in-None c = sym (none_open c.args.frames.now (sym c.in-None.ensures.value))
