-- `descend` of src/descent.rt: what the check leaves open of its proof.
-- The part of a part that an expression initialises: the first one of it that the expression takes as a whole, or that has no parts itself.
use Rattle.std.proofs.Common.{◌≡◌, ◌∙◌, sym, ap, suc, ◌+◌, ◌-◌, List, Some, None, arith}
use Rattle.c_typing.specs.declared.initialiser.Frame.{Frame}
use Rattle.c_typing.specs.declared.initialiser.Piece.{Piece}
use Rattle.c_typing.specs.OfInitialisers.{greatest_depth, takes_whole, part_by}
use Rattle.c_typing.specs.Types.{shape}
use Rattle.c_type_initialisers.specs.Stacks.{stack}
use Rattle.c_type_initialisers.proofs.Turned.{reverse-last}
use Rattle.c_type_initialisers.proofs.Depth.{descend-here, descend-closed, descend-further, descend-no_further}
use Rattle.c_type_initialisers.proofs.descent.descend.Goals as goal

pub returns-then-takes-clause-piece : goal.returns-then-takes-clause-piece
returns-then-takes-clause-piece c =
    ap (λ (r : List Frame × Piece). r.1) (sym (descend-here _ c.args.tags.now _ (stack c.loop-depth.frames) c.loop-depth.piece (sym c.takes.ensures ∙ c.if-takes.true)) ∙ c.loop-depth.invariant)

pub returns-then-takes-clause-open : goal.returns-then-takes-clause-open
returns-then-takes-clause-open c =
    ap (λ (r : List Frame × Piece). r.0) (sym (descend-here _ c.args.tags.now _ (stack c.loop-depth.frames) c.loop-depth.piece (sym c.takes.ensures ∙ c.if-takes.true)) ∙ c.loop-depth.invariant)

pub returns-in_default-part-clause-piece : goal.returns-in_default-part-clause-piece
returns-in_default-part-clause-piece c =
    let none : part_by c.args.tags.now (shape c.loop-depth.piece.ctype) c.loop-depth.piece.offset 0 ≡ None = sym c.in-Ok.ensures ∙ c.in_default-part.is in
    ap (λ (r : List Frame × Piece). r.1) (sym (descend-closed _ c.args.tags.now _ (stack c.loop-depth.frames) c.loop-depth.piece (sym c.takes.ensures ∙ c.if-takes.false) none) ∙ c.loop-depth.invariant)

pub returns-in_default-part-clause-open : goal.returns-in_default-part-clause-open
returns-in_default-part-clause-open c =
    let none : part_by c.args.tags.now (shape c.loop-depth.piece.ctype) c.loop-depth.piece.offset 0 ≡ None = sym c.in-Ok.ensures ∙ c.in_default-part.is in
    ap (λ (r : List Frame × Piece). r.0) (sym (descend-closed _ c.args.tags.now _ (stack c.loop-depth.frames) c.loop-depth.piece (sym c.takes.ensures ∙ c.if-takes.false) none) ∙ c.loop-depth.invariant)

pub loop-depth-preserved : goal.loop-depth-preserved
loop-depth-preserved c =
    let less : greatest_depth - c.loop-depth._depth ≡ suc (greatest_depth - (c.loop-depth._depth + 1)) = omega arith in
    let some : part_by c.args.tags.now (shape c.loop-depth.piece.ctype) c.loop-depth.piece.offset 0 ≡ Some c.in-Some.first = sym c.in-Ok.ensures ∙ c.in-Some.is in
    let one = descend-further (greatest_depth - (c.loop-depth._depth + 1)) c.args.tags.now (takes_whole c.args.whole.is_string c.args.whole.is_structure) (stack c.loop-depth.frames) c.loop-depth.piece c.in-Some.first (sym c.takes.ensures ∙ c.if-takes.false) some in
    rw (c.in-Ok-push.ensures.ok, reverse-last) (sym one ∙ rw less at c.loop-depth.invariant)

pub returns-clause-piece : goal.returns-clause-piece
returns-clause-piece c =
    let end : greatest_depth - c.loop-depth._depth ≡ 0 = omega arith in
    ap (λ (r : List Frame × Piece). r.1) (sym (descend-no_further c.args.tags.now _ (stack c.loop-depth.frames) c.loop-depth.piece) ∙ rw end at c.loop-depth.invariant)

pub returns-clause-open : goal.returns-clause-open
returns-clause-open c =
    let end : greatest_depth - c.loop-depth._depth ≡ 0 = omega arith in
    ap (λ (r : List Frame × Piece). r.0) (sym (descend-no_further c.args.tags.now _ (stack c.loop-depth.frames) c.loop-depth.piece) ∙ rw end at c.loop-depth.invariant)
