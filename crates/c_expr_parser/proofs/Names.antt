-- The name that a declarator declares stands in its middle.
-- Each lemma is one kind of middle, as the function `declared_name` meets it.
use Rattle.std.specs.Prelude.{◌≡◌, Some, None}
use Rattle.std.proofs.Common.{ap, sym, ◌∙◌}
use Rattle.c_tree.specs.declared.token.Pos.{Pos}
use Rattle.c_tree.specs.declared.expression.Identifier.{Identifier}
use Rattle.c_tree.specs.declared.declarator.Declarator.{Declarator, out-Declarator}
use Rattle.c_tree.specs.declared.declarator.Direct.{Direct}
use Rattle.c_tree.specs.declared.declarator.Direct.TheVariants as direct
use Rattle.c_tree.specs.Levels.Names.{Names}
use Rattle.c_tree.specs.Levels.Trees.{declarator_level, direct_level}
use Rattle.c_grammar.specs.Laws.Told.{declarator_level-is, direct_level-Nothing, direct_level-Named, direct_level-Grouped}

in_the_middle : (d : Declarator) (middle : Direct) (names : Names) → (out-Declarator d).direct ≡ middle → (declarator_level d names).0.name ≡ (direct_level middle names).0.name
in_the_middle d middle names e = ap (λ f. (f names).0.name) (declarator_level-is d) ∙ ap (λ m. (direct_level m names).0.name) e

pub name_of_nothing : (d : Declarator) (names : Names) → (out-Declarator d).direct ≡ direct.Nothing → None ≡ (declarator_level d names).0.name
name_of_nothing d names e = sym (in_the_middle d direct.Nothing names e ∙ ap (λ f. (f names).0.name) direct_level-Nothing)

pub name_of_named : (d : Declarator) (id : Identifier) (names : Names) → (out-Declarator d).direct ≡ direct.Named id → Some id.text ≡ (declarator_level d names).0.name
name_of_named d id names e = sym (in_the_middle d (direct.Named id) names e ∙ ap (λ f. (f names).0.name) (direct_level-Named id))

pub name_of_grouped : (d : Declarator) (from : Pos) (inner : Declarator) (to : Pos) (names : Names) → (out-Declarator d).direct ≡ direct.Grouped from inner to → (declarator_level inner names).0.name ≡ (declarator_level d names).0.name
name_of_grouped d from inner to names e = sym (in_the_middle d (direct.Grouped from inner to) names e ∙ ap (λ f. (f names).0.name) (direct_level-Grouped from inner to))
