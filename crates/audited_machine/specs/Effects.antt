-- What is asked as the machine arrives at the address of an effect, and at a jump with a link or a call of the environment.
use Rattle.std.specs.Prelude.{ℕ, ◌+◌, ◌*◌, ◌%◌, ◌^◌, ◌==◌, Bool, true, false, not, ◌&&◌, ◌||◌, Option, Some, None}
use Rattle.std.specs.List.{list_all, list_any}
use Rattle.word_ops.specs.Store.{in_a_row}
use Rattle.term_form.specs.declared.term.Term.{Term}
use Rattle.term_form.specs.declared.listing.StoreWidth.{StoreWidth}
use Rattle.term_form.specs.declared.listing.StoreWidth.TheVariants as stores
use Rattle.term_form.specs.declared.listing.Effect.{Effect}
use Rattle.term_form.specs.declared.listing.Effect.TheVariants as effects
use Rattle.term_form.specs.declared.listing.ArgumentRecord.{ArgumentRecord}
use Rattle.rv_table.specs.declared.row.Row.TheVariants as rows
use Rattle.rv_table.specs.declared.instruction.Instr.{Instr}
use Rattle.rv_machine.specs.State.{Loaded}
use Rattle.rv_machine.specs.Step.{instruction_at}
use Rattle.rv_machine.specs.Reading.{word_at}
use Rattle.code_form.specs.Registers.{is_row, word_of}
use Rattle.code_form.specs.Recognition.{is_store}
use Rattle.audited_machine.specs.Functions.{Records, ListedEffect, the_only, effects_at, arguments_at}
use Rattle.audited_machine.specs.Account.{Activation, word_of_term, has_word, register, Clause, OfStores, OfCalls, OfOutside, OfInstructions, unless, each_fault}
use Rattle.audited_machine.specs.Terms.{access_of}

-- ---- effects

abbrev pub bits_of_store : StoreWidth → ℕ
bits_of_store stores.Byte = 8
bits_of_store stores.Half = 16
bits_of_store stores.Word = 32

-- two words are one where they are cut to so many bits
abbrev pub is_cut : (bits : ℕ) → ℕ → Option ℕ → Bool
is_cut n w None = false
is_cut n w (Some v) = w % 2 ^ n == v % 2 ^ n

abbrev pub stores_right : Loaded → Activation → StoreWidth → (address value : Term) → Option Instr → Bool
stores_right m a k p v None = false
stores_right m a k p v (Some i) =
    is_store k i && (has_word a p (access_of m i) && is_cut (bits_of_store k) (register m i.rs2) (word_of_term a v.0))

abbrev pub passes : Activation → Option ArgumentRecord → Option ℕ → Bool
passes a None w = false
passes a (Some r) None = false
passes a (Some r) (Some w) = has_word a r.term w

-- the word at this place of the caller's frame is that of the argument
abbrev pub passes_at : Loaded → Activation → ListedEffect → (position : ℕ) → Bool
passes_at m a e i = passes a (the_only (arguments_at e i)) (word_at m ((register m 2 + 4 * i) % 2 ^ 32))

abbrev pub asked_of_effect : Loaded → Activation → ListedEffect → Effect → Option Clause
asked_of_effect m a e (effects.Store k p v) = unless OfStores (stores_right m a k p v (instruction_at m.text m.state.pc))
asked_of_effect m a e (effects.Call f count called) = unless OfCalls (list_all (passes_at m a e) (in_a_row 0 count))
asked_of_effect m a e (effects.Get t) = None
asked_of_effect m a e (effects.Put t) = unless OfOutside (has_word a t (register m 10))
asked_of_effect m a e (effects.Exit t) = unless OfOutside (has_word a t (register m 10))

abbrev pub asked_of_effects : Loaded → Activation → Option Clause
asked_of_effects m a = each_fault (λ e. asked_of_effect m a e e.effect.effect) (effects_at a.records m.state.pc)

-- ---- instructions that only effects may have

abbrev pub is_link : Instr → Bool
is_link i = (is_row rows.Jal i.row || is_row rows.Jalr i.row) && (i.rd == 1)

abbrev pub is_return : Instr → Bool
is_return i = is_row rows.Jalr i.row && ((i.rd == 0) && ((i.rs1 == 1) && (word_of i.imm == 0)))

abbrev pub is_environment_call : Instr → Bool
is_environment_call i = is_row rows.Ecall i.row

abbrev pub is_request : Loaded → (number : ℕ) → Instr → Bool
is_request m n i = is_environment_call i && (register m 17 == n)

abbrev pub is_call : Effect → Bool
is_call (effects.Call f count called) = true
is_call other = false

abbrev pub is_get : Effect → Bool
is_get (effects.Get t) = true
is_get other = false

abbrev pub is_put : Effect → Bool
is_put (effects.Put t) = true
is_put other = false

abbrev pub has_effect : Records → (address : ℕ) → (Effect → Bool) → Bool
has_effect r at p = list_any (λ e. p e.effect.effect) (effects_at r at)

-- each jump with a link but the first is a call, each read a get and each write a put
abbrev pub is_recorded : Loaded → (linked : Bool) → Records → Instr → Bool
is_recorded m linked r i =
    (not (is_link i && linked) || has_effect r m.state.pc is_call)
    && ((not (is_request m 1 i) || has_effect r m.state.pc is_get) && (not (is_request m 2 i) || has_effect r m.state.pc is_put))

abbrev pub asked_of_instruction : Loaded → (linked : Bool) → Records → Option Instr → Option Clause
asked_of_instruction m linked r None = None
asked_of_instruction m linked r (Some i) = unless OfInstructions (is_recorded m linked r i)
