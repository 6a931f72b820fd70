-- What a put that fails kept is a prefix of the piece.
use Rattle.std.proofs.Common.{take, drop, sym, take-append-drop, arith}
use Rattle.std.proofs.lemmas.Grind.{common_steps}
use Rattle.ccai_io.proofs.mem_sink.MemSinkSink.put.Goals as goal

pub returns-then-is_some-clause-partly : goal.returns-then-is_some-clause-partly
returns-then-is_some-clause-partly c =
    let n = c.map_or-kept.result in
    (take n c.args.piece.now, drop n c.args.piece.now, sym (take-append-drop n c.args.piece.now), grind (arith, common_steps))
