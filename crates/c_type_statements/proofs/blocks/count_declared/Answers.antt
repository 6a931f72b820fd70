-- `count_declared` of src/blocks.rt: what the check leaves open of its proof.
-- How many automatic objects the declaration in the head of a `for` declares.
use Rattle.std.proofs.Common.{◌≡◌, subst, IfOk}
use Rattle.c_typing.specs.Declarations.{FunctionNames, automatic_count, declared_of}
use Rattle.c_type_statements.proofs.blocks.count_declared.Goals as goal

pub returns : goal.returns
returns c =
    let P : FunctionNames → Type 0 = λ names. IfOk c.automatic_count-count.result (λ n. n ≡ (automatic_count names (declared_of c.args.tree.now)).0) in
    subst P c.new-names.ensures c.automatic_count-count.ensures.count
