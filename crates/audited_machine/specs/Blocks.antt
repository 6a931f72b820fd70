-- Blocks as the machine arrives at their addresses: the first one, with the terms that are ready, and the others, by the end of the
-- block before.
use Rattle.std.specs.Prelude.{ℕ, ◌==◌, Bool, true, false, not, ◌&&◌, if◌then◌else◌, List, [], ◌∷◌, ◌++◌, filter, Option, Some, None}
use Rattle.std.specs.List.{list_any}
use Rattle.term_form.specs.declared.listing.TermKind.{TermKind}
use Rattle.term_form.specs.declared.listing.TermKind.TheVariants as kinds
use Rattle.term_form.specs.declared.listing.Mode.{Mode}
use Rattle.term_form.specs.declared.listing.Mode.TheVariants as modes
use Rattle.term_form.specs.declared.listing.EndKind.{EndKind}
use Rattle.term_form.specs.declared.listing.EndKind.TheVariants as ends
use Rattle.term_form.specs.declared.listing.BlockRecord.{BlockRecord}
use Rattle.term_form.specs.declared.listing.TermRecord.{TermRecord}
use Rattle.term_form.specs.declared.listing.EndRecord.{EndRecord}
use Rattle.term_form.specs.Meets.{meets}
use Rattle.rv_machine.specs.State.{Loaded}
use Rattle.rv_machine.specs.Arithmetic.{sum}
use Rattle.audited_machine.specs.Functions.{Records, is_one, the_only, is_number, blocks_numbered, blocks_at, first_blocks_at, ends_of_block}
use Rattle.audited_machine.specs.Account.{Words, with_word, Activation, word_of_option, register, OfEdges, OfFacts, unless, Judged, judged, then_judge, each}

-- a term gets a word, which has to meet its facts
abbrev pub receive : TermRecord → (word : ℕ) → Activation → Judged Activation
receive t w a = judged (record a { words = with_word a.words t.term.0 (Some w) }) (unless OfFacts (meets t.facts w))

abbrev pub receive_option : TermRecord → Option ℕ → Activation → Judged Activation
receive_option t None a = judged a None
receive_option t (Some w) a = receive t w a

-- ---- the first block

abbrev pub is_ready : Mode → Bool
is_ready modes.After = false
is_ready modes.At = false
is_ready modes.Ready = true

abbrev pub ready_terms : Records → List TermRecord
ready_terms r = filter (λ t. is_ready t.mode) r.terms

-- the word of a term that is there as its function begins
abbrev pub ready_word : Loaded → TermKind → ℕ → Option ℕ
ready_word m kinds.Konst n = Some n
ready_word m kinds.Global n = Some n
ready_word m kinds.Local n = Some (sum (register m 2) n)
ready_word m other n = None

abbrev pub receive_ready : Loaded → TermRecord → Activation → Judged Activation
receive_ready m t a = receive_option t (ready_word m t.kind t.a) a

-- a block without a parent is at this address: it is the present one, and all terms that are ready have their words
abbrev pub begin_at : Loaded → BlockRecord → Activation → Judged Activation
begin_at m b a =
    then_judge (judged (record a { block = Some b.number }) (unless OfEdges (is_one (blocks_at a.records b.address)))) (each (receive_ready m) (ready_terms a.records))

abbrev pub begin_blocks : Loaded → Activation → Judged Activation
begin_blocks m a = each (begin_at m) (first_blocks_at a.records m.state.pc) a

-- ---- the others

abbrev pub option_list : Option ℕ → List ℕ
option_list None = []
option_list (Some n) = n ∷ []

-- the blocks to which an end leads
abbrev pub targets : EndKind → EndRecord → List ℕ
targets ends.Jump e = option_list e.first
targets ends.Branch e = option_list e.first ++ option_list e.second
targets ends.Return e = []
targets ends.Stop e = []

-- whether a truth is that of a word which is there
abbrev pub is_truth_of : Bool → Option ℕ → Bool
is_truth_of b None = false
is_truth_of b (Some w) = if w == 0 then not b else b

-- a branch goes to its first target exactly where its term's word is not 0
abbrev pub goes_right : Activation → EndKind → EndRecord → (target : ℕ) → Bool
goes_right a ends.Branch e t = is_truth_of (is_number t e.first) (word_of_option a e.term)
goes_right a other e t = true

abbrev pub is_block_at : Records → (number address : ℕ) → Bool
is_block_at r n at = list_any (λ b. b.address == at) (blocks_numbered r n)

-- the target is told once, and so is the block at its address, and it is the right one
abbrev pub asked_of_target : Loaded → EndRecord → (target : ℕ) → Activation → Bool
asked_of_target m e t a = is_one (blocks_numbered a.records t) && (is_one (blocks_at a.records m.state.pc) && goes_right a e.kind e t)

abbrev pub entered_by : (from to : ℕ) → (before : Words) → Activation → Activation
entered_by from to before a = record a { block = Some to; entry = Some (record { from = from; to = to; before = before }) }

-- where a target of the end of the present block stands at this address, it is entered
abbrev pub enter_target : Loaded → (from : ℕ) → EndRecord → (before : Words) → (target : ℕ) → Activation → Judged Activation
enter_target m from e before t a =
    if is_block_at a.records t m.state.pc then judged (entered_by from t before a) (unless OfEdges (asked_of_target m e t a)) else judged a None

abbrev pub enter_by : Loaded → (from : ℕ) → Option EndRecord → Activation → Judged Activation
enter_by m from None a = judged a None
enter_by m from (Some e) a = each (enter_target m from e a.words) (targets e.kind e) a

abbrev pub enter_from : Loaded → (present : Option ℕ) → Activation → Judged Activation
enter_from m None a = judged a None
enter_from m (Some from) a = enter_by m from (the_only (ends_of_block a.records from)) a

-- no edge leads to a block that is begun otherwise
abbrev pub forget_entry : Loaded → Activation → Activation
forget_entry m a = if list_any (λ b. true) (first_blocks_at a.records m.state.pc) then record a { entry = None } else a

abbrev pub enter_blocks : Loaded → Activation → Judged Activation
enter_blocks m a = then_judge (enter_from m a.block (forget_entry m a)) (begin_blocks m)
