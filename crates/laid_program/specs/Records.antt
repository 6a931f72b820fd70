-- The records that tell of functions at their addresses, in the order of a listing: each function, its ready terms, then each block
-- with its items, its end and the arguments of its edges (the profile's listing).
use Rattle.std.specs.Prelude.{ℕ, ◌+◌, List, [], ◌∷◌, ◌++◌, length, Option, Some, None}
use Rattle.term_form.specs.declared.term.Term.{Term}
use Rattle.term_form.specs.declared.term.Root.TheVariants as roots
use Rattle.term_form.specs.declared.term.Node.{Node}
use Rattle.term_form.specs.declared.term.Node.TheVariants as nodes
use Rattle.term_form.specs.declared.graph.Block.{Block}
use Rattle.term_form.specs.declared.graph.Definition.{Definition}
use Rattle.term_form.specs.declared.graph.Item.{Item}
use Rattle.term_form.specs.declared.graph.Item.TheVariants as items
use Rattle.term_form.specs.declared.graph.Ending.{Ending}
use Rattle.term_form.specs.declared.graph.Ending.TheVariants as endings
use Rattle.term_form.specs.declared.graph.EdgeArgument.{EdgeArgument}
use Rattle.term_form.specs.declared.listing.Record.{Record}
use Rattle.term_form.specs.declared.listing.Record.TheVariants as records
use Rattle.term_form.specs.declared.listing.TermKind.{TermKind}
use Rattle.term_form.specs.declared.listing.TermKind.TheVariants as kinds
use Rattle.term_form.specs.declared.listing.Mode.{Mode}
use Rattle.term_form.specs.declared.listing.Mode.TheVariants as modes
use Rattle.term_form.specs.declared.listing.Effect.{Effect}
use Rattle.term_form.specs.declared.listing.Effect.TheVariants as effects
use Rattle.term_form.specs.declared.listing.EndKind.TheVariants as ends
use Rattle.term_form.specs.declared.listing.EndRecord.{EndRecord}
use Rattle.term_form.specs.Records.{none_word}
use Rattle.code_form.specs.declared.code.Assigned.{Assigned}
use Rattle.code_form.specs.Frames.{object_offset}
use Rattle.code_form.specs.Contents.{Setting}
use Rattle.code_form.specs.Assigned.{setting_of}
use Rattle.laid_program.specs.Addresses.{Addresses}

-- ---- terms

abbrev pub kind_of_node : Node → TermKind
kind_of_node (nodes.Konst k) = kinds.Konst
kind_of_node (nodes.Root (roots.Global g)) = kinds.Global
kind_of_node (nodes.Root (roots.Local l)) = kinds.Local
kind_of_node (nodes.Root (roots.Param i)) = kinds.Param
kind_of_node (nodes.Root roots.Got) = kinds.Got
kind_of_node (nodes.Root roots.Called) = kinds.Called
kind_of_node (nodes.Operate op x y) = kinds.Operate op
kind_of_node (nodes.Load k x) = kinds.Load k
kind_of_node nodes.Phi = kinds.Phi

abbrev pub mode_of_node : Node → Mode
mode_of_node (nodes.Konst k) = modes.Ready
mode_of_node (nodes.Root (roots.Global g)) = modes.Ready
mode_of_node (nodes.Root (roots.Local l)) = modes.Ready
mode_of_node (nodes.Root r) = modes.At
mode_of_node (nodes.Operate op x y) = modes.After
mode_of_node (nodes.Load k x) = modes.After
mode_of_node nodes.Phi = modes.At

-- what the record says of the first operand, and of the second
abbrev pub first_number : Addresses → Setting → Node → ℕ
first_number a s (nodes.Konst k) = k
first_number a s (nodes.Root (roots.Global g)) = a.object g
first_number a s (nodes.Root (roots.Local l)) = object_offset s.frame s.graph.locals l
first_number a s (nodes.Root (roots.Param i)) = i
first_number a s (nodes.Operate op x y) = x.0
first_number a s (nodes.Load k x) = x.0
first_number a s n = none_word

abbrev pub second_number : Node → ℕ
second_number (nodes.Operate op x y) = y.0
second_number n = none_word

abbrev pub term_record : Addresses → Setting → Option ℕ → (address place : ℕ) → Definition → Record
term_record a s k at p d =
    records.Term (record { term = d.term; block = k; kind = kind_of_node d.node; mode = mode_of_node d.node; a = first_number a s d.node; b = second_number d.node; address = at; place = p; facts = d.facts })

-- what is ready has no address and no place
abbrev pub ready_records : Addresses → Setting → List Definition → List Record
ready_records a s [] = []
ready_records a s (d ∷ ds) = term_record a s None 0 0 d ∷ ready_records a s ds

-- ---- items

abbrev pub effect_record : (k at : ℕ) → Effect → Record
effect_record k at e = records.Effect (record { block = k; address = at; effect = e })

abbrev pub argument_records : (position : ℕ) → List Term → List Record
argument_records i [] = []
argument_records i (t ∷ ts) = records.Argument (record { position = i; term = t }) ∷ argument_records (i + 1) ts

abbrev pub item_records : Addresses → Setting → (k at : ℕ) → Item → List Record
item_records a s k at (items.Define d) = term_record a s (Some k) at (s.places d.term.0) d ∷ []
item_records a s k at (items.Store w x v) = effect_record k at (effects.Store w x v) ∷ []
item_records a s k at (items.Call f ts called) = effect_record k at (effects.Call f (length ts) called) ∷ argument_records 0 ts
item_records a s k at (items.Get t) = effect_record k at (effects.Get t) ∷ []
item_records a s k at (items.Put t) = effect_record k at (effects.Put t) ∷ []
item_records a s k at (items.Exit t) = effect_record k at (effects.Exit t) ∷ []

abbrev pub items_records : Addresses → Setting → (f k n : ℕ) → List Item → List Record
items_records a s f k n [] = []
items_records a s f k n (i ∷ is) = item_records a s k (a.own f k n) i ++ items_records a s f k (n + 1) is

-- ---- ends

abbrev pub end_record : (k at : ℕ) → Ending → EndRecord
end_record k at (endings.Jump to) = record { block = k; kind = ends.Jump; term = None; first = Some to; second = None; address = at }
end_record k at (endings.Branch t first' second') = record { block = k; kind = ends.Branch; term = Some t; first = Some first'; second = Some second'; address = at }
end_record k at (endings.Return t) = record { block = k; kind = ends.Return; term = t; first = None; second = None; address = at }
end_record k at endings.Stop = record { block = k; kind = ends.Stop; term = None; first = None; second = None; address = at }

abbrev pub edge_records : (from : ℕ) → List EdgeArgument → List Record
edge_records k [] = []
edge_records k (m ∷ ms) = records.Edge (record { from = k; to = m.to; phi = m.phi; argument = m.argument }) ∷ edge_records k ms

-- ---- blocks and functions

abbrev pub blocks_records : Addresses → Setting → (f k : ℕ) → List Block → List Record
blocks_records a s f k [] = []
blocks_records a s f k (b ∷ bs) =
    (records.Block (record { number = k; function = f; parent = b.parent; address = a.item f k 0 }) ∷ items_records a s f k 0 b.items)
    ++ ((records.End (end_record k (a.own f k (length b.items)) b.end) ∷ edge_records k b.edges) ++ blocks_records a s f (k + 1) bs)

abbrev pub function_records : Addresses → (f : ℕ) → Assigned → List Record
function_records a f g =
    (records.Function (record { number = f; entry = a.entry f; frame = g.frame; parameters = g.emitted.graph.parameters; value = g.emitted.graph.value }) ∷ ready_records a (setting_of g) g.emitted.graph.ready)
    ++ blocks_records a (setting_of g) f 0 g.emitted.graph.blocks

abbrev pub all_records : Addresses → (f : ℕ) → List Assigned → List Record
all_records a f [] = []
all_records a f (g ∷ gs) = function_records a f g ++ all_records a (f + 1) gs
