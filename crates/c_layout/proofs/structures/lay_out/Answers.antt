use Rattle.std.proofs.Common.{◌≡◌, ◌∷◌, ◌∙◌, [], sym, max, arith, append_assoc, refl}
use Rattle.std.proofs.lemmas.Grind.{common_steps}
use Rattle.c_layout.specs.Sizes.{capped}
use Rattle.c_layout.specs.Structures.{Declared, start_behind, end_of, bytes_of, strictness_of}
use Rattle.c_layout.proofs.Members.{end_of-more, placed-more, strictest-more, next_multiple_capped, sum_capped, is_alignment-positive, is_alignment-max}
use Rattle.c_layout.proofs.structures.lay_out.Goals as goal

pub loop-name-preserved : goal.loop-name-preserved
loop-name-preserved c =
    let tags = c.args.tags.now in
    let ms = c.loop-name.yielded in
    let m : Declared = (c.in-Some.name, c.in-Some.ctype) in
    let before = end_of tags 0 ms in
    let start : c.next_multiple-offset.result ≡ capped (start_behind tags before m) =
    rw (c.next_multiple-offset.ensures, c.strictness-strictness.ensures.strictness, c.loop-name.invariant.end)
    (next_multiple_capped before (strictness_of tags m.1)) in
    let greater : c.max-alignment.result ≡ max c.loop-name.alignment c.strictness-strictness.result = grind (arith, common_steps) in
    record {
      can_next = tt;
      is_finite = tt;
      rest = append_assoc ms (m ∷ []) c.next.new.self.rest.items ∙ (rw c.in-Some.ensures.steps.0 at c.loop-name.invariant.rest);
      end = rw (c.saturating_add-end.ensures, c.bytes.ensures, start, end_of-more tags 0 ms m) (sum_capped (start_behind tags before m) (bytes_of tags m.1));
      alignment = greater ∙ rw (c.loop-name.invariant.alignment, c.strictness-strictness.ensures.strictness) (sym (strictest-more tags ms m));
      aligned = rw greater (is_alignment-max c.loop-name.alignment c.strictness-strictness.result c.loop-name.invariant.aligned c.strictness-strictness.ensures.aligned);
      placed = rw (c.in_ok-push.ensures.items, c.loop-name.invariant.placed, placed-more tags 0 ms m, start) refl;
    }

pub next_multiple-requires : goal.next_multiple-requires
next_multiple-requires c = is_alignment-positive c.loop-name.alignment c.loop-name.invariant.aligned

pub next_multiple-offset-requires : goal.next_multiple-offset-requires
next_multiple-offset-requires c = is_alignment-positive c.strictness-strictness.result c.strictness-strictness.ensures.aligned
