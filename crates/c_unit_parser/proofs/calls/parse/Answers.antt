-- `parse` asks of its function value what it is, and ensures what the laws of the grammar give.
-- A refusal is that of the function on lists.
use Rattle.std.proofs.Common.{◌≡◌, ◌≢◌, [], Ok, Err, arith}
use Rattle.std.proofs.lemmas.Result.{err_from_is_err_and}
use Rattle.c_tree.specs.Levelled.{nesting_limit}
use Rattle.c_expr_parser.specs.declared.fault.ParseFault.TheVariants as fault
use Rattle.c_unit_parser.specs.Reads.{answer}
use Rattle.c_unit_parser.specs.Parts as parts
use Rattle.c_unit_parser.proofs.Whole.{read_whole, refused_whole}
use Rattle.c_unit_parser.proofs.calls.parse.Goals as goal

pub externals-requires : goal.externals-requires
externals-requires c = record {
  within = omega arith;
  callable = λ alloc old wanted. omega arith;
  reads = λ alloc old new wanted r post. post.2.0;
  keeps = λ alloc old new wanted r post. post.2.1.0;
  ends = λ alloc old new wanted r post. post.2.1.1;
}

pub returns-in_err-items : goal.returns-in_err-items
returns-in_err-items c =
    let p = err_from_is_err_and c.from_residual.result c.from_residual.ensures.1 in
    let refuses : c.in_err-items.field-0.0 ≢ fault.Memory → answer c.args.tokens.now.end (parts.externals nesting_limit ([], c.args.tokens.now.list)) ≡ Err c.in_err-items.field-0.0 = rw c.new-input.ensures at c.in_err-items.ensures.reads in
    let k = refused_whole c.args.tokens.now.list c.args.tokens.now.end c.in_err-items.field-0.0 refuses in
    rw (p.1, p.2) (record { levelled = k.levelled; spelt = k.spelt; only = k.only; comes = k.comes; refused = k.refused })

pub returns : goal.returns
returns c =
    let reads : parts.externals nesting_limit ([], c.args.tokens.now.list) ≡ Ok (c.in_ok-items.items, c.externals.new.input.state) = rw c.new-input.ensures at c.in_ok-items.ensures.reads in
    let k = read_whole c.args.tokens.now.list c.args.tokens.now.end c.in_ok-items.items c.externals.new.input.state reads in
    record { levelled = k.levelled; spelt = k.spelt; only = k.only; comes = k.comes; refused = k.refused }
