-- `count_items` of src/blocks.rt: what the check leaves open of its proof.
-- How many automatic objects a block declares itself.
use Rattle.std.proofs.Common.{◌≡◌, subst, IfOk, map}
use Rattle.c_typing.specs.Declarations.{FunctionNames}
use Rattle.c_typing.specs.OfStatements as spec
use Rattle.c_typing.specs.Statements.{block_item_typing}
use Rattle.c_type_statements.proofs.blocks.count_items.Goals as goal

pub returns : goal.returns
returns c =
    let P : FunctionNames → Type 0 = λ names. IfOk c.count_behind-count.result (λ n. n ≡ spec.count_items names (map block_item_typing c.args.items.now)) in
    subst P c.new-names.ensures c.count_behind-count.ensures
