-- Terms as the machine arrives at their addresses: those that have the word of a place there, and those whose pattern begins.
use Rattle.std.specs.Prelude.{ℕ, ◌+◌, ◌==◌, Bool, true, false, ◌&&◌, ◌∷◌, filter, Option, Some, None}
use Rattle.std.specs.Option.{option_and_then}
use Rattle.word_ops.specs.declared.operation.Width.{Width}
use Rattle.term_form.specs.declared.listing.TermKind.{TermKind}
use Rattle.term_form.specs.declared.listing.TermKind.TheVariants as kinds
use Rattle.term_form.specs.declared.listing.Mode.{Mode}
use Rattle.term_form.specs.declared.listing.Mode.TheVariants as modes
use Rattle.term_form.specs.declared.listing.TermRecord.{TermRecord}
use Rattle.term_form.specs.declared.listing.EdgeRecord.{EdgeRecord}
use Rattle.rv_table.specs.declared.instruction.Instr.{Instr}
use Rattle.rv_machine.specs.State.{Loaded}
use Rattle.rv_machine.specs.Arithmetic.{sum}
use Rattle.rv_machine.specs.Step.{instruction_at}
use Rattle.code_form.specs.Registers.{word_of}
use Rattle.code_form.specs.Recognition.{SecondRead, InRegister, Constant, Ignored, Shape, is_load, pattern_from}
use Rattle.audited_machine.specs.Functions.{is_one, the_only, terms_numbered, terms_at, edges_of_phi}
use Rattle.audited_machine.specs.Account.{Words, with_word, Entry, Activation, word_of_term, is_word, register, word_of_place, Clause, OfPatterns, OfPhis, OfCalls, OfOutside, unless, Judged, judged, then_judge, each}
use Rattle.audited_machine.specs.Blocks.{receive}

-- the records have no second term of this number
abbrev pub is_once : Activation → TermRecord → Bool
is_once a t = is_one (terms_numbered a.records t.term.0)

-- ---- terms that have the word of a place

abbrev pub is_at : Mode → Bool
is_at modes.After = false
is_at modes.At = true
is_at modes.Ready = false

abbrev pub word_before : Activation → (before : Words) → Option EdgeRecord → Option ℕ
word_before a before None = None
word_before a before (Some e) = word_of_term (record a { words = before }) e.argument.0

-- the word of the argument of a phi on the edge taken, as the block before was left
abbrev pub word_by_entry : Activation → (phi : ℕ) → Option Entry → Option ℕ
word_by_entry a t None = None
word_by_entry a t (Some e) = word_before a e.before (the_only (edges_of_phi a.records e.from e.to t))

abbrev pub agrees : ℕ → Option ℕ → Bool
agrees w None = true
agrees w (Some v) = w == v

-- what is asked of the word of a place
abbrev pub asked_at : Activation → TermRecord → (word : ℕ) → TermKind → Option Clause
asked_at a t w kinds.Phi = unless OfPhis (is_once a t && is_word w (word_by_entry a t.term.0 a.entry))
asked_at a t w kinds.Param = unless OfCalls (is_once a t && is_word w (a.arguments t.a))
asked_at a t w kinds.Called = unless OfCalls (is_once a t && agrees w a.returned)
asked_at a t w kinds.Got = unless OfOutside (is_once a t && is_word w (a.taken t.term.0))
asked_at a t w other = None

-- a place that has no word takes away the one that the term had
abbrev pub receive_place : TermRecord → Option ℕ → Activation → Judged Activation
receive_place t None a = judged (record a { words = with_word a.words t.term.0 None }) None
receive_place t (Some w) a = then_judge (judged a (asked_at a t w t.kind)) (receive t w)

abbrev pub receive_at : Loaded → TermRecord → Activation → Judged Activation
receive_at m t a = receive_place t (word_of_place m t.place) a

abbrev pub receive_places : Loaded → Activation → Judged Activation
receive_places m a = each (receive_at m) (filter (λ t. is_at t.mode) (terms_at a.records m.state.pc)) a

-- ---- terms whose pattern begins

abbrev pub is_after : Mode → Bool
is_after modes.After = true
is_after modes.At = false
is_after modes.Ready = false

-- the address of a load or a store
abbrev pub access_of : Loaded → Instr → ℕ
access_of m i = sum (register m i.rs1) (word_of i.imm)

abbrev pub is_second : Loaded → Option ℕ → SecondRead → Bool
is_second m w (InRegister n) = is_word (register m n) w
is_second m w (Constant k) = is_word k w
is_second m w Ignored = true

abbrev pub with_due : (words : ℕ) → TermRecord → (register : ℕ) → Activation → Activation
with_due n t d a = record a { due = record { words = n; term = t; register = d } ∷ a.due }

-- a pattern of the operation is there, and its registers and constants are the words of the operands
abbrev pub begin_operation : Loaded → TermRecord → Option Shape → Activation → Judged Activation
begin_operation m t None a = judged a (Some OfPatterns)
begin_operation m t (Some s) a =
    judged (with_due s.words t s.result a) (unless OfPatterns (is_once a t && (is_word (register m s.first) (word_of_term a t.a) && is_second m (word_of_term a t.b) s.second)))

abbrev pub begin_load : Loaded → TermRecord → Width → Option Instr → Activation → Judged Activation
begin_load m t k None a = judged a (Some OfPatterns)
begin_load m t k (Some i) a = judged (with_due 1 t i.rd a) (unless OfPatterns (is_once a t && (is_load k i && is_word (access_of m i) (word_of_term a t.a))))

abbrev pub begin_pattern : Loaded → TermRecord → (this next : Option Instr) → TermKind → Activation → Judged Activation
begin_pattern m t i j (kinds.Operate op) a = begin_operation m t (option_and_then (pattern_from op j) i) a
begin_pattern m t i j (kinds.Load k) a = begin_load m t k i a
begin_pattern m t i j other a = judged a (Some OfPatterns)

abbrev pub begin_term : Loaded → TermRecord → Activation → Judged Activation
begin_term m t a = begin_pattern m t (instruction_at m.text m.state.pc) (instruction_at m.text (m.state.pc + 4)) t.kind a

abbrev pub begin_terms : Loaded → Activation → Judged Activation
begin_terms m a = each (begin_term m) (filter (λ t. is_after t.mode) (terms_at a.records m.state.pc)) a
