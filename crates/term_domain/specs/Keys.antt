-- Which terms are shared: those of constants, operations and objects. A term of any other node has its place as a key of its own.
use Rattle.std.specs.Prelude.{ℕ, Option, Some, None}
use Rattle.term_form.specs.declared.term.Root.{Root}
use Rattle.term_form.specs.declared.term.Root.TheVariants as roots
use Rattle.term_form.specs.declared.term.Node.{Node}
use Rattle.term_form.specs.declared.term.Node.TheVariants as nodes

abbrev pub own_place_of_root : Root → ℕ → Option ℕ
own_place_of_root (roots.Global g) x = None
own_place_of_root (roots.Local l) x = None
own_place_of_root (roots.Param i) x = Some x
own_place_of_root roots.Got x = Some x
own_place_of_root roots.Called x = Some x

-- the place that tells a term from others of its node, where it is not shared
abbrev pub own_place : Node → ℕ → Option ℕ
own_place (nodes.Konst k) x = None
own_place (nodes.Root r) x = own_place_of_root r x
own_place (nodes.Operate op a b) x = None
own_place (nodes.Load k p) x = Some x
own_place nodes.Phi x = Some x
