-- `inside` hands itself on as what each production asks of its function value.
-- One fewer may be nested in it.
use Rattle.std.proofs.Common.{◌-◌, ◌<◌, ◌≤◌, arith}
use Rattle.c_unit_parser.proofs.inside.+inside.Goals as goal

pub read-requires : goal.read-requires
read-requires t c = record {
  within = omega arith;
  callable = λ alloc old wanted. let less : c.args.more - 1 < t = omega (arith, c.decreases) in let fits : c.args.more - 1 ≤ 256 = omega arith in (less, fits);
  reads = λ alloc old new wanted r post. post.2.0;
  keeps = λ alloc old new wanted r post. post.2.1.0;
  ends = λ alloc old new wanted r post. post.2.1.1;
}
