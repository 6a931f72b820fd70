-- What the account learns of a step that went on, and what is asked of it: patterns that have run, the byte that a get took, where
-- a jump went, and calls and returns.
use Rattle.std.specs.Prelude.{ℕ, ◌-◌, ◌==◌, Bool, true, false, ◌&&◌, ◌||◌, nat_le, if◌then◌else◌, List, [], ◌∷◌, filter, length, Option, Some, None}
use Rattle.std.specs.List.{list_any}
use Rattle.term_form.specs.declared.listing.EndKind.{EndKind}
use Rattle.term_form.specs.declared.listing.EndKind.TheVariants as ends
use Rattle.term_form.specs.declared.listing.Effect.{Effect}
use Rattle.term_form.specs.declared.listing.Effect.TheVariants as effects
use Rattle.term_form.specs.declared.listing.BlockRecord.{BlockRecord}
use Rattle.term_form.specs.declared.listing.EndRecord.{EndRecord}
use Rattle.term_form.specs.declared.listing.ArgumentRecord.{ArgumentRecord}
use Rattle.rv_table.specs.declared.instruction.Instr.{Instr}
use Rattle.rv_machine.specs.State.{State, Loaded, register_of}
use Rattle.rv_machine.specs.Step.{instruction_at}
use Rattle.audited_machine.specs.Functions.{Records, no_records, ListedEffect, Function, is_one, the_only, blocks_numbered, blocks_without_parent, effects_at, ends_at, arguments_at, functions_numbered, functions_entered}
use Rattle.audited_machine.specs.Account.{Words, no_words, with_word, Due, Activation, Account, begun, word_of_term, word_of_option, has_word_of_option, Clause, OfCalls, OfEdges, unless, least, Judged, judged, then_judge, each, each_fault}
use Rattle.audited_machine.specs.Blocks.{receive, targets}
use Rattle.audited_machine.specs.Effects.{is_link, is_return, is_environment_call, is_call}

-- ---- patterns that were run to their end

abbrev pub count_down : Due → Due
count_down d = record d { words = d.words - 1 }

-- a word of the pattern was run; behind the last one the term has the word of its register
abbrev pub run_due : State → Due → Activation → Judged Activation
run_due s d a = if d.words == 1 then receive d.term (register_of s d.register) a else judged (record a { due = count_down d ∷ a.due }) None

abbrev pub run_all_due : State → Activation → Judged Activation
run_all_due s a = each (run_due s) a.due (record a { due = [] })

-- ---- the byte that a get took

abbrev pub note_get : State → ListedEffect → Effect → Activation → Activation
note_get s e (effects.Get t) a = record a { taken = with_word a.taken t.0 (Some (register_of s 10)) }
note_get s e other a = a

abbrev pub note_gets : State → List ListedEffect → Activation → Activation
note_gets s [] a = a
note_gets s (e ∷ es) a = note_gets s es (note_get s e e.effect.effect a)

abbrev pub note_call : Loaded → State → Option Instr → Activation → Activation
note_call m s None a = a
note_call m s (Some i) a = if is_environment_call i then note_gets s (effects_at a.records m.state.pc) a else a

-- ---- ends of blocks

abbrev pub is_addressed : Option BlockRecord → (address : ℕ) → Bool
is_addressed None at = false
is_addressed (Some b) at = b.address == at

-- the step of the last word of a jump or a branch led to one of its targets
abbrev pub asked_of_end : Records → State → EndRecord → EndKind → Option Clause
asked_of_end r s e ends.Jump = unless OfEdges (list_any (λ t. is_addressed (the_only (blocks_numbered r t)) s.pc) (targets ends.Jump e))
asked_of_end r s e ends.Branch = unless OfEdges (list_any (λ t. is_addressed (the_only (blocks_numbered r t)) s.pc) (targets ends.Branch e))
asked_of_end r s e ends.Return = None
asked_of_end r s e ends.Stop = None

abbrev pub asked_of_ends : Loaded → State → Activation → Option Clause
asked_of_ends m s a = each_fault (λ e. asked_of_end a.records s e e.kind) (ends_at a.records m.state.pc)

-- ---- calls

abbrev pub is_call_to : List Function → (entry : ℕ) → Effect → Bool
is_call_to fs at (effects.Call f count called) = list_any (λ g. g.head.entry == at) (functions_numbered fs f) && is_one (functions_numbered fs f)
is_call_to fs at other = true

-- each call effect at the jump names the function to whose entry it went
abbrev pub asked_of_calls : List Function → Loaded → State → Activation → Option Clause
asked_of_calls fs m s a = each_fault (λ e. unless OfCalls (is_call_to fs s.pc e.effect.effect)) (effects_at a.records m.state.pc)

abbrev pub word_of_argument : Activation → Option ArgumentRecord → Option ℕ
word_of_argument a None = None
word_of_argument a (Some r) = word_of_term a r.term.0

abbrev pub argument_words : Activation → List ListedEffect → Words
argument_words a [] i = None
argument_words a (e ∷ es) i = word_of_argument a (the_only (arguments_at e i))

abbrev pub words_passed : Loaded → List Activation → Words
words_passed m [] = no_words
words_passed m (a ∷ rest) = argument_words a (filter (λ e. is_call e.effect.effect) (effects_at a.records m.state.pc))

-- the functions whose entry was jumped to: none, or one without two first blocks
abbrev pub begin_call : List Function → Words → Judged Activation
begin_call [] ws = judged (begun no_records ws) None
begin_call (f ∷ []) ws = judged (begun f.records ws) (unless OfCalls (nat_le (length (blocks_without_parent f.records)) 1))
begin_call (f ∷ g ∷ fs) ws = judged (begun no_records ws) (Some OfCalls)

abbrev pub asked_of_caller : List Function → Loaded → State → List Activation → Option Clause
asked_of_caller fs m s [] = None
asked_of_caller fs m s (a ∷ rest) = asked_of_calls fs m s a

abbrev pub push : List Function → Loaded → State → List Activation → Judged (List Activation)
push fs m s l =
    let j = begin_call (functions_entered fs s.pc) (words_passed m l) in
    judged (j.value ∷ l) (least (asked_of_caller fs m s l) j.fault)

-- ---- returns

abbrev pub is_return_end : EndKind → Bool
is_return_end ends.Return = true
is_return_end other = false

abbrev pub returns_at : Activation → (address : ℕ) → List EndRecord
returns_at a at = filter (λ e. is_return_end e.kind) (ends_at a.records at)

-- as a return leaves its function, x10 holds the word of its term
abbrev pub asked_of_returns : Loaded → State → Activation → Option Clause
asked_of_returns m s a = each_fault (λ e. unless OfEdges (has_word_of_option a e.term (register_of s 10))) (returns_at a m.state.pc)

abbrev pub word_returned : Activation → List EndRecord → Option ℕ
word_returned a [] = None
word_returned a (e ∷ es) = word_of_option a e.term

abbrev pub resume : Option ℕ → List Activation → List Activation
resume w [] = []
resume w (c ∷ rest) = record c { returned = w } ∷ rest

abbrev pub pop : Loaded → State → List Activation → Judged (List Activation)
pop m s [] = judged [] (Some OfCalls)
pop m s (a ∷ rest) = judged (resume (word_returned a (returns_at a m.state.pc)) rest) (asked_of_returns m s a)

-- ---- a step

abbrev pub settle_in : Loaded → State → Option Instr → Activation → Judged Activation
settle_in m s i a = then_judge (run_all_due s a) (λ a. judged (note_call m s i a) (asked_of_ends m s a))

-- in the innermost call
abbrev pub settle_among : Loaded → State → Option Instr → List Activation → Judged (List Activation)
settle_among m s i [] = judged [] None
settle_among m s i (a ∷ rest) = let j = settle_in m s i a in judged (j.value ∷ rest) j.fault

-- a jump with a link begins a call, and a jump to the link ends one
abbrev pub follow_jump : List Function → Loaded → State → Option Instr → List Activation → Judged (List Activation)
follow_jump fs m s None l = judged l None
follow_jump fs m s (Some i) l = if is_link i then push fs m s l else if is_return i then pop m s l else judged l None

abbrev pub was_link : Option Instr → Bool
was_link None = false
was_link (Some i) = is_link i

-- from a loaded machine, before the step, to the state behind it
abbrev pub settle : List Function → Loaded → State → Account → Judged Account
settle fs m s a =
    let i = instruction_at m.text m.state.pc in
    then_judge (settle_among m s i a.activations) (λ l. then_judge (follow_jump fs m s i l) (λ l. judged (record { activations = l; linked = a.linked || was_link i }) None))
