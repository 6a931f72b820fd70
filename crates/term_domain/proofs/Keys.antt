-- Equal keys.
use Rattle.std.proofs.Common.{rules, ◌≡◌, refl, ℕ, Bool, true, false, ◌&&◌, Option, Some, None}
use Rattle.word_ops.specs.Laws.Lists.{and_both}
use Rattle.term_form.specs.declared.term.Node.{Node}
use Rattle.term_domain.specs.declared.key.Key.{Key}
use Rattle.term_domain.specs.contracts.key.KeyPartialEq.TheImpl.{eq-value}
use Rattle.term_form.specs.contracts.term.NodePartialEq.TheImpl.{eq-value as node_eq}
use Rattle.term_form.specs.contracts.term.RootPartialEq.TheImpl.{eq-value as root_eq}
use Rattle.term_form.specs.contracts.term.TermPartialEq.TheImpl.{eq-value as term_eq}
use Rattle.word_ops.specs.contracts.operation.OpPartialEq.TheImpl.{eq-value as op_eq}
use Rattle.word_ops.specs.contracts.operation.WidthPartialEq.TheImpl.{eq-value as width_eq}
use Rattle.std.specs.contracts.prelude.OptionPartialEq.TheImpl.{ghosts}
use Rattle.std.specs.contracts.prelude.UsizePartialEq.TheImpl.{ghosts as numbers, dict}
use denote.Builtin.{usize}
use Rattle.word_ops.specs.declared.operation.Width.{Width}
use Rattle.word_ops.specs.declared.operation.Op.{Op}
use Rattle.term_form.specs.declared.term.Term.{Term}
use Rattle.term_form.specs.declared.term.Root.{Root}
use Rattle.term_form.specs.declared.term.Root.TheVariants as roots
use Rattle.term_form.specs.declared.term.Node.TheVariants as nodes

same_node : (a b : Node) → node_eq.it a b ≡ true → a ≡ b
same_node a b h = search rules

pub same_parts : (a b : Key) → a.node ≡ b.node → a.own ≡ b.own → a ≡ b
same_parts a b e f = λ j. record { node = e j; own = f j }

pub same_key : (a b : Key) → eq-value.it a b ≡ true → a ≡ b
same_key a b h =
    let t = and_both _ _ h in
    let own = t.1 in
    same_parts a b (same_node a.node b.node t.0) (search rules)

both : (a b : Bool) → a ≡ true → b ≡ true → a && b ≡ true
both true b e f = f
both false b e f = e

width_self : (k : Width) → width_eq.it k k ≡ true
width_self k = search rules

term_self : (a : Term) → term_eq.it a a ≡ true
term_self a = search rules

op_self : (op : Op) → op_eq.it op op ≡ true
op_self op = search rules

root_self : (r : Root) → root_eq.it r r ≡ true
root_self r = elim r [ roots.Global g ↦ search rules | roots.Local l ↦ search rules | roots.Param i ↦ search rules | roots.Got ↦ search rules | roots.Called ↦ search rules ]

node_self : (n : Node) → node_eq.it n n ≡ true
node_self (nodes.Konst k) = search rules
node_self (nodes.Root r) = root_self r
node_self (nodes.Operate op a b) = both _ _ (op_self op) (both _ _ (term_self a) (term_self b))
node_self (nodes.Load k p) = both _ _ (width_self k) (term_self p)
node_self nodes.Phi = refl

own_self : (o : Option ℕ) → (ghosts usize numbers dict).eq o o ≡ true
own_self None = search rules
own_self (Some n) = search rules

pub key_self : (a : Key) → eq-value.it a a ≡ true
key_self a = both _ _ (node_self a.node) (own_self a.own)
