-- `add` of src/counting.rt: what the check leaves open of its proof.
-- One name more, and whether it is one of a function type.
use Rattle.std.specs.Option.{option_copied}
use Rattle.c_type_declarations.specs.Counting.{names_in}
use Rattle.c_type_declarations.proofs.Names.{hides, where_ok}
use Rattle.c_type_declarations.proofs.counting.FunctionNames.add.Goals as goal

pub returns : goal.returns
returns c =
    where_ok c.insert.result
    (hides c.args.self.now.since c.insert.new.self (names_in (option_copied c.args.self.now.visible)) c.args.name c.args.is_function)
    c.insert.ensures.hides
