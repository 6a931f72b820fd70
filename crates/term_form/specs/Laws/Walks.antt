-- Laws of walks.
-- No contract cites this file: it holds proofs.
use Rattle.std.proofs.Common.{◌≡◌, refl, ℕ, zero, suc, List, [], ◌∷◌, ◌++◌, Option}
use Rattle.std.specs.Prelude.{nat_le, slice_get}
use Rattle.word_ops.specs.Store.{Value, Number, number_of, Store as Objects}
use Rattle.word_ops.specs.Run.{Outside, Run, Gives, Ends, Undefined, then_do, given, tick, put_byte, exit_with, end_of_main}
use Rattle.word_ops.specs.Access.{write}
use Rattle.word_ops.specs.Clock.{IsTimed}
use Rattle.word_ops.specs.Laws.Clock.{IsTimed-Gives, IsTimed-exit, IsTimed-deep, IsTimed-undefined, IsTimed-given, IsTimed-branch, IsTimed-then, IsTimed-tick, IsTimed-put_byte, IsTimed-get_byte, IsTimed-main}
use Rattle.term_form.specs.declared.graph.Graph.{Graph}
use Rattle.term_form.specs.declared.graph.Block.{Block}
use Rattle.term_form.specs.declared.graph.Item.{Item}
use Rattle.term_form.specs.declared.graph.Item.TheVariants.{Define, Store, Call, Get, Put, Exit}
use Rattle.term_form.specs.declared.graph.Ending.{Ending}
use Rattle.term_form.specs.declared.graph.Ending.TheVariants.{Jump, Branch, Return, Stop}
use Rattle.term_form.specs.declared.graph.EdgeArgument.{EdgeArgument}
use Rattle.term_form.specs.Walk.{Program, Layout, Caller, Walk, walk, walk_of_program, going, step, step_from, item_step, end_step, call, entered, returned, along, arriving, value_of_node, set_value, width_of}

-- ---- walks one behind the other

-- the steps of two lists of choices are those of the first and then those of the second
pub walk-append : (p : Program) (layout : Layout) (ns ms : List ℕ) (s : Walk) (w : Outside) →
    walk p layout (ns ++ ms) s w ≡ then_do (walk p layout ns s w) (λ s w done. walk p layout ms s w)
walk-append p layout [] ms s w = refl
walk-append p layout (n ∷ ns) ms s w = behind (λ t u. walk-append p layout ns ms t u) (step p layout n s w)
  where
    behind : ((t : Walk) (u : Outside) → walk p layout (ns ++ ms) t u ≡ then_do (walk p layout ns t u) (λ s w done. walk p layout ms s w)) →
        (r : Run Walk (Unit {0})) → then_do r (λ s w done. walk p layout (ns ++ ms) s w) ≡ then_do (then_do r (λ s w done. walk p layout ns s w)) (λ s w done. walk p layout ms s w)
    behind same (Gives t u done) = same t u
    behind same (Ends e u) = refl
    behind same Undefined = refl

-- ---- a longer clock: with more ticks a walk does the same, and goes on where it ended for want of them

entered-timed : (layout : Layout) (f : ℕ) (g : Graph) (b : Block) (arguments : List Value) (callers : List Caller) (s : Objects) (depth : ℕ) →
    IsTimed (λ w. entered layout f g b arguments callers s depth w)
entered-timed layout f g b arguments callers s depth = IsTimed-given _ _ (λ a. IsTimed-Gives _ tt)

call-timed : (p : Program) (layout : Layout) (depth f : ℕ) (arguments : List Value) (callers : List Caller) (s : Objects) →
    IsTimed (λ w. call p layout depth f arguments callers s w)
call-timed p layout zero f arguments callers s = IsTimed-deep
call-timed p layout (suc depth) f arguments callers s =
    IsTimed-given (slice_get p f) (λ g w. given (slice_get g.blocks 0) (λ b. entered layout f g b arguments callers s depth w))
    (λ g. IsTimed-given (slice_get g.blocks 0) (λ b w. entered layout f g b arguments callers s depth w) (λ b. entered-timed layout f g b arguments callers s depth))

returned-timed : (v : Option Value) (callers : List Caller) (s : Objects) (depth : ℕ) → IsTimed (λ w. returned v callers s depth w)
returned-timed v [] s depth =
    IsTimed-then (λ w. end_of_main (Gives s w v)) (λ t w r. Undefined) (IsTimed-main (λ w. Gives s w v) (IsTimed-Gives s v)) (λ t r. IsTimed-undefined)
returned-timed v (c ∷ callers) s depth = IsTimed-given _ _ (λ a. IsTimed-Gives _ tt)

along-timed : (g : Graph) (edges : List EdgeArgument) (to : ℕ) (s : Walk) → IsTimed (λ w. along g edges to s w)
along-timed g edges to s =
    IsTimed-branch (nat_le to s.top.block) (λ s w. tick w (λ w. arriving g edges to s w)) (λ s w. arriving g edges to s w) s
    (IsTimed-tick (λ w. arriving g edges to s w) (arriving-timed s)) (arriving-timed s)
  where
    arriving-timed : (s : Walk) → IsTimed (λ w. arriving g edges to s w)
    arriving-timed s = IsTimed-given _ _ (λ b. IsTimed-Gives _ tt)

item-timed : (p : Program) (layout : Layout) (n : ℕ) (i : Item) (s : Walk) → IsTimed (λ w. item_step p layout n i s w)
item-timed p layout n (Define d) s = IsTimed-given (value_of_node s.top s.store n d.term.0 d.node) (λ v w. going (set_value s d.term v) w) (λ v. IsTimed-Gives (set_value s d.term v) tt)
item-timed p layout n (Store k address value) s = IsTimed-given (write s.store (width_of k) (s.top.values address.0) (s.top.values value.0)) (λ t w. going (record s { store = t }) w) (λ t. IsTimed-Gives (record s { store = t }) tt)
item-timed p layout n (Call f arguments called) s = IsTimed-tick _ (call-timed p layout s.depth f _ _ s.store)
item-timed p layout n (Get got) s = IsTimed-get_byte (λ b w. going (set_value s got (Number b)) w) (λ b. IsTimed-Gives (set_value s got (Number b)) tt)
item-timed p layout n (Put term) s = IsTimed-given (number_of (s.top.values term.0)) (λ b w. put_byte b w (λ w. going s w)) (λ b. IsTimed-put_byte b (λ w. going s w) (IsTimed-Gives s tt))
item-timed p layout n (Exit term) s = IsTimed-given (number_of (s.top.values term.0)) (λ b w. exit_with b w) (λ b. IsTimed-exit b)

end-timed : (g : Graph) (edges : List EdgeArgument) (e : Ending) (s : Walk) → IsTimed (λ w. end_step g edges e s w)
end-timed g edges (Jump to) s = along-timed g edges to s
end-timed g edges (Branch term first second) s = along-timed g edges _ s
end-timed g edges (Return term) s = returned-timed _ s.below _ s.depth
end-timed g edges Stop s = IsTimed-undefined

step-timed : (p : Program) (layout : Layout) (n : ℕ) (rest : List Item) (s : Walk) → IsTimed (λ w. step_from p layout n rest s w)
step-timed p layout n (i ∷ rest) s = item-timed p layout n i (record s { top = record s.top { rest = rest } })
step-timed p layout n [] s =
    IsTimed-given (slice_get p s.top.function) (λ g w. given (slice_get g.blocks s.top.block) (λ b. end_step g b.edges b.end s w))
    (λ g. IsTimed-given (slice_get g.blocks s.top.block) (λ b w. end_step g b.edges b.end s w) (λ b. end-timed g b.edges b.end s))

pub walk-timed : (p : Program) (layout : Layout) (ns : List ℕ) (s : Walk) → IsTimed (λ w. walk p layout ns s w)
walk-timed p layout [] s = IsTimed-Gives s tt
walk-timed p layout (n ∷ ns) s =
    IsTimed-then (λ w. step p layout n s w) (λ s w done. walk p layout ns s w) (step-timed p layout n s.top.rest s) (λ s done. walk-timed p layout ns s)

pub program-timed : (p : Program) (layout : Layout) (main depth : ℕ) (statics : Objects) (ns : List ℕ) →
    IsTimed (λ w. walk_of_program p layout main depth statics ns w)
program-timed p layout main depth statics ns =
    IsTimed-then (λ w. call p layout depth main [] [] statics w) (λ s w done. walk p layout ns s w) (call-timed p layout depth main [] [] statics) (λ s done. walk-timed p layout ns s)
