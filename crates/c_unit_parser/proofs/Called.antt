-- What a call of the crate below reads, from what it ensures.
-- The call ensures the tree of the longest front, and the grammar reads just that front.
use Rattle.std.specs.Prelude.{◌≡◌, ℕ, ◌+◌, ◌-◌, ◌≤◌, ◌++◌, length, drop, Ok}
use Rattle.std.proofs.Common.{ap, sym, ◌∙◌, arith, length-append}
use Rattle.std.proofs.Math.Seq.{drop-append_seam}
use Rattle.std.proofs.lemmas.List.{drop-drop, length-drop}
use Rattle.c_tree.specs.Levelled.{nesting_limit}
use Rattle.c_tree.specs.Levels.Names.{Names}
use Rattle.c_grammar.specs.Input.{Tokens, Outcome, Parser}
use Rattle.c_grammar.specs.Fronts.{Trees, OkAtFront}
use Rattle.c_expr_parser.specs.Calls as call

-- the place behind the tree is one of the tokens, and what is left there
pub record Behind (tokens : Tokens) (behind : ℕ) (rest : Tokens) : Type 0 where
  pub within : behind ≤ length tokens
  pub left : drop behind tokens ≡ rest

behind_front : (tokens front rest : Tokens) (at : ℕ) → at ≤ length tokens → drop at tokens ≡ front ++ rest → Behind tokens (at + length front) rest
behind_front tokens front rest at fits whole = record {
  within = omega (arith, ap length whole, length-append front rest, length-drop at tokens);
  left = sym (drop-drop (length front) at tokens) ∙ ap (λ (l : Tokens). drop (length front) l) whole ∙ drop-append_seam front rest;
}

abbrev read_of : {A : Type 0} → A → Names → Tokens → Outcome A
read_of a names left = Ok (a, (names, left))

-- what a call reads: the tree, with the place behind it
pub record Went {A : Type 0} (outcome : Outcome A) (old new : Names) (tokens : Tokens) (tree : A) (behind : ℕ) : Type 0 where
  pub reads : outcome ≡ Ok (tree, (new, drop behind tokens))
  pub within : behind ≤ length tokens

module _ {A : Type 0} (t : Trees A) (reads : ℕ → Parser A) (at_front : (more : ℕ) → OkAtFront t more (reads more)) (old new : Names) (tokens : Tokens) (at depth more : ℕ) (fits : at ≤ length tokens) (small : more ≤ nesting_limit) (is : depth ≡ nesting_limit - more) where
  pub went : (tree : A) (behind : ℕ) → call.IsRead t old (drop at tokens) depth tree → behind ≡ at + length (t.spelling tree) → new ≡ old ++ t.declares old tree → Went (reads more (old, drop at tokens)) old new tokens tree behind
  went tree behind r place names =
      let b = behind_front tokens (t.spelling tree) r.rest at fits r.front.whole in
      let n : depth + t.nesting tree ≤ nesting_limit = r.nested in
      record {
        reads = (at_front more).comes old (drop at tokens) r.rest tree r.levelled (omega arith) r.front
            ∙ ap (λ (l : Names). read_of tree l r.rest) (sym names) ∙ ap (λ (l : Tokens). read_of tree new l) (sym b.left ∙ ap (λ (n : ℕ). drop n tokens) (sym place));
        within = let w = b.within in omega (arith, w, place);
      }
