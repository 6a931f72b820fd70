-- One turn of each loop that takes from the right end of a list, and what is left behind it.
-- The answers of `prefixed_by`, `chosen_by` and `assigned_by` cite these lemmas.
use Rattle.std.specs.Prelude.{◌≡◌, List, [], ◌∷◌, ◌++◌, Option, map}
use Rattle.std.specs.Option.{option_map}
use Rattle.std.proofs.Common.{ap, ◌∙◌}
use Rattle.std.proofs.lemmas.List.{map-append}
use Rattle.c_typing.specs.declared.operand.Operand.{Operand}
use Rattle.c_typing.specs.Scopes.{both_asked}
use Rattle.c_typing.specs.Expressions as rows
use Rattle.c_typing.specs.OfTrees.{prefix_row, prefixes_row}
use Rattle.c_type_walk.specs.declared.around.Around.{Around}
use Rattle.c_type_walk.specs.declared.found.Found.{Found}
use Rattle.c_type_walk.specs.Walks.{Gave, fixed}
use Rattle.c_type_expressions.specs.declared.prefixes.Prefixing.{Prefixing}
use Rattle.c_type_expressions.specs.Prefixes.{prefixing}
use Rattle.c_type_trees.specs.declared.sequences.Choice.{Choice}
use Rattle.c_type_trees.specs.declared.sequences.LeftSide.{LeftSide}
use Rattle.c_type_trees.proofs.After.{after, after_same, step}
use Rattle.c_type_trees.proofs.Turns.{prefixes_back, chosen, chosen_next, assigned, assigned_next}

pub prefix_popped : (run rest : List (Option Prefixing)) (q : Option Prefixing) (o v : Option Operand) (c : Around) (old new : Found)
    → run ≡ rest ++ q ∷ [] → Gave (both_asked (option_map prefixing q) o prefix_row (fixed c) old.state) old new v
    → after (prefixes_row (map (option_map prefixing) run) o) c old ≡ after (prefixes_row (map (option_map prefixing) rest) v) c new
prefix_popped run rest q o v c old new e g =
    ap (λ all. after (prefixes_row (map (option_map prefixing) all) o) c old) e
    ∙ ap (λ all. after (prefixes_row all o) c old) (map-append (option_map prefixing) rest (q ∷ []))
    ∙ after_same _ _ c old (prefixes_back (map (option_map prefixing) rest) (option_map prefixing q) o)
    ∙ step (both_asked (option_map prefixing q) o prefix_row) (prefixes_row (map (option_map prefixing) rest)) c old new v g

pub choice_popped : (all rest : List Choice) (x : Choice) (r v : Option rows.Chain) (c : Around) (old new : Found)
    → all ≡ rest ++ x ∷ [] → Gave (rows.conditional_row x.question x.condition x.gives r (fixed c) old.state) old new v
    → after (chosen all r) c old ≡ after (chosen rest v) c new
choice_popped all rest x r v c old new e g =
    ap (λ cs. after (chosen cs r) c old) e
    ∙ after_same _ _ c old (chosen_next rest x r)
    ∙ step (rows.conditional_row x.question x.condition x.gives r) (chosen rest) c old new v g

pub side_popped : (all rest : List LeftSide) (x : LeftSide) (r v : Option rows.Assigned) (c : Around) (old new : Found)
    → all ≡ rest ++ x ∷ [] → Gave (rows.assign_row x.operator x.operand r (fixed c) old.state) old new v
    → after (assigned all r) c old ≡ after (assigned rest v) c new
side_popped all rest x r v c old new e g =
    ap (λ ls. after (assigned ls r) c old) e
    ∙ after_same _ _ c old (assigned_next rest x r)
    ∙ step (rows.assign_row x.operator x.operand r) (assigned rest) c old new v g
