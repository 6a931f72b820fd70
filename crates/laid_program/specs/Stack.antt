-- Where the frames of calls lie, each below that of its caller, and the local objects in them (the profile's choice).
use Rattle.std.specs.Prelude.{ℕ, ◌+◌, ◌-◌, List, [], ◌∷◌, Some, None, slice_get}
use Rattle.term_form.specs.Walk.{Layout}
use Rattle.code_form.specs.declared.code.Assigned.{Assigned}
use Rattle.code_form.specs.Frames.{object_offset}

-- what a function has, if it is there
abbrev pub frame_of : List Assigned → (function : ℕ) → ℕ
frame_of gs f = elim (slice_get gs f) as (λ o. ℕ) [ None ↦ 0 | Some g ↦ g.frame ]

abbrev pub locals_of : List Assigned → (function : ℕ) → List ℕ
locals_of gs f = elim (slice_get gs f) as (λ o. List ℕ) [ None ↦ [] | Some g ↦ g.emitted.graph.locals ]

-- the stack pointer of the innermost of these functions, the innermost first
abbrev pub stack_pointer : List Assigned → (top : ℕ) → (functions : List ℕ) → ℕ
stack_pointer gs top [] = top
stack_pointer gs top (f ∷ fs) = stack_pointer gs top fs - frame_of gs f

-- the layout of a walk: that of the frames
abbrev pub layout_in : List Assigned → (top : ℕ) → Layout
layout_in gs top [] l = 0
layout_in gs top (f ∷ fs) l = stack_pointer gs top (f ∷ fs) + object_offset (frame_of gs f) (locals_of gs f) l
