use Rattle.std.proofs.Common.{◌≡◌, false, ◌&&◌, rules}
use Rattle.std.proofs.lemmas.Bool.{and_left, and_right, ne_eqb}
use Rattle.c_lexer.specs.Fronts.{is_empty}
use Rattle.c_lexer.specs.Literals.{is_single_quote, elements_of}
use Rattle.c_lexer.proofs.Elements.{elements_from-nonempty, reading_of_gathered}
use Rattle.c_lexer.proofs.literal.literal_reading.Goals as goal
use Rattle.c_lexer.proofs.literal.literal_reading.Goals.{else-opening-eq39-via-then-opening-eq39+else-is_empty, else-opening-eq39-via-else-opening-eq39}

pub returns : goal.returns
returns c =
    let o = c.args.opening in
    let elements = elements_of c.args.text.now o in
    let some : (is_single_quote o.quote && is_empty elements) ≡ false =
    elim c.else-opening-eq39.branch [
      | else-opening-eq39-via-then-opening-eq39+else-is_empty w ↦ and_right (is_single_quote o.quote) (is_empty elements) (elements_from-nonempty o.length _ (search rules))
      | else-opening-eq39-via-else-opening-eq39 w ↦ and_left (is_single_quote o.quote) (is_empty elements) (ne_eqb o.quote 39 w.if-opening-eq39.false)
    ] in
    let read = reading_of_gathered o elements some in
    let gathered = c.in_ok-body.ensures in
    cc
