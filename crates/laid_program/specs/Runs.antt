-- What an image of laid functions is to do: for each number of steps of the walk there are choices with which the audited machine
-- goes where the walk goes.
use Rattle.std.specs.Prelude.{◌≡◌, ℕ, ◌+◌, ◌-◌, ◌*◌, ◌^◌, ◌<◌, ◌≤◌, List, ◌∷◌, length, All, Some, slice_get}
use Rattle.word_ops.specs.Store.{Value, Store as Objects}
use Rattle.word_ops.specs.Addresses.{word_of_value}
use Rattle.word_ops.specs.Run.{Outside, End, Exit, Deep, More, Run, Gives, Ends, Undefined}
use Rattle.word_ops.specs.Outcome.{start as first_moment}
use Rattle.term_form.specs.declared.graph.Graph.{Graph}
use Rattle.term_form.specs.declared.graph.Definition.{Definition}
use Rattle.term_form.specs.declared.graph.Item.{Item}
use Rattle.term_form.specs.declared.graph.Item.TheVariants as items
use Rattle.term_form.specs.Meets.{Meets}
use Rattle.term_form.specs.Walk.{Program, Layout, Walk, walk_of_program, value_of_node}
use Rattle.image_form.specs.declared.image.Image.{Image}
use Rattle.rv_machine.specs.declared.answer.Stepped.{Stepped}
use Rattle.rv_machine.specs.declared.answer.Stepped.TheVariants as stepped
use Rattle.audited_machine.specs.Audit.{audit_after, IsAccounted}

-- the facts of each definition hold of each value that a walk gives it, and those of terms that are ready of theirs
pub record MeetFacts (p : Program) (layout : Layout) (main depth : ℕ) (statics : Objects) (input : List ℕ) (clock : ℕ) : Type 0 where
  pub defined : (ns : List ℕ) (n : ℕ) (s : Walk) (w : Outside) (d : Definition) (is : List Item) (v : Value) →
      walk_of_program p layout main depth statics ns (first_moment input clock) ≡ Gives s w tt → s.top.rest ≡ items.Define d ∷ is →
      value_of_node s.top s.store n d.term.0 d.node ≡ Some v → Meets d.facts (word_of_value s.store v)
  pub ready : (ns : List ℕ) (s : Walk) (w : Outside) (g : Graph) (i : ℕ) (d : Definition) →
      walk_of_program p layout main depth statics ns (first_moment input clock) ≡ Gives s w tt → slice_get p s.top.function ≡ Some g →
      slice_get g.ready i ≡ Some d → Meets d.facts (word_of_value s.store (s.top.values d.term.0))

abbrev pub answer_of : End → Stepped
answer_of (Exit n) = stepped.Exit n
answer_of Deep = stepped.Deep
answer_of More = stepped.Going

-- a run of the machine has come to where a walk is: the same output and as much input, at least one step for each tick, and at
-- most as many as the text has words for each of these, twice more; and its account is true
pub record Reaches (image : Image) (input : List ℕ) (clock : ℕ) (w : Outside) (answer : Stepped) : Type 0 where
  pub steps : ℕ
  pub least : clock - w.left ≤ steps
  pub most : steps ≤ length image.text * (clock - w.left + 2)
  pub answer_is : (audit_after image input steps).moment.answer ≡ answer
  pub output : (audit_after image input steps).moment.out ≡ w.output
  pub left : (audit_after image input steps).moment.left ≡ w.input
  pub accounted : IsAccounted image input steps

-- what is said of where a walk came to
abbrev pub IsReached : Image → (input : List ℕ) → (clock : ℕ) → Run Walk (Unit {0}) → Type 0
IsReached image input clock (Gives s w done) = Reaches image input clock w stepped.Going
IsReached image input clock (Ends e w) = Reaches image input clock w (answer_of e)
IsReached image input clock Undefined = Unit {0}

-- for each number of steps of the walk there are choices with which the machine goes where the walk goes
abbrev pub RunsAsWalk : Image → Program → Layout → (main depth : ℕ) → Objects → Type 0
RunsAsWalk image p layout main depth statics =
    (input : List ℕ) (clock n : ℕ) → All (λ b. b < 2 ^ 8) input → MeetFacts p layout main depth statics input clock →
    (ns : List ℕ) × (length ns ≡ n) × IsReached image input clock (walk_of_program p layout main depth statics ns (first_moment input clock))
