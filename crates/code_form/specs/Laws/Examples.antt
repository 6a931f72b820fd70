-- The examples do what their graphs do: what is held at each place, and each piece by itself.
-- No contract cites this file: it holds proofs.
use Rattle.std.proofs.Common.{◌≡◌, ◌≢◌, refl, inl, arith, ℕ, List, [], ◌∷◌, Some}
use Rattle.std.specs.Prelude.{pos}
use Rattle.word_ops.specs.declared.operation.Op.TheVariants as op
use Rattle.term_form.specs.Examples.{t}
use Rattle.code_form.specs.declared.code.Operand.TheVariants.{Of}
use Rattle.code_form.specs.declared.code.Loose.{Loose}
use Rattle.code_form.specs.Patterns.{Immediate}
use Rattle.code_form.specs.Instructions.{set, add_to_stack}
use Rattle.code_form.specs.Contents.{Contents, Unknown, Word, Value, Argument, Link, with_held, with_value, Setting}
use Rattle.code_form.specs.Selected.{IsOperation, IsSelected}
use Rattle.code_form.specs.Assigned.{IsAssigned, DoesParam, DoesOperation, DoesReturn, DoesJump, DoesBranch, IsThere, contents_of, first_known, setting_of}
use Rattle.code_form.specs.Examples.{get, put, copy, piece, sum_graph, sum_of_terms, sum_of_slots, takes, adds, returns, swapped, into_loop, exchange, moves, sets, branches, subtracts, swaps, gives_back, entries, phis_known, counted_down}

not_empty : (i : Loose) (is : List Loose) → i ∷ is ≢ []
not_empty i is e = cc

-- ---- over slots

abbrev sum_setting : Setting
sum_setting = setting_of sum_of_slots

abbrev entered : Contents
entered = contents_of (first_known sum_setting)

abbrev loaded : Contents
loaded = with_held (with_held entered 5 (Argument 0)) 32 (Argument 0)

abbrev taken : Contents
taken = with_value loaded 32 0

abbrev fetched : Contents
fetched = with_held taken 5 (Value 0)

abbrev added : Contents
added = with_value (with_held fetched 30 Unknown) 7 1

abbrev kept : Contents
kept = with_held added 36 (Value 1)

abbrev leaving : Contents
leaving = with_held (with_held kept 10 (Value 1)) 1 Link

takes-param : DoesParam sum_setting entered takes (t 0) 0 taken
takes-param = record { before = loaded; framed = record { first = get 5 (pos 16) ∷ put 5 (pos 0) ∷ []; last = []; words = refl; start = refl; to_own = refl; from_own = refl }; moved = refl; now = refl }

adds-five : DoesOperation sum_setting taken adds (t 1) op.Adds (t 0) (t 2) kept
adds-five = record { d = 7; a = 5; scratch = 30; second = Immediate (pos 5); before = fetched; writable = refl; free = refl; framed = record { first = get 5 (pos 0) ∷ []; last = put 7 (pos 4) ∷ []; words = refl; start = refl; to_own = refl; from_own = refl }; has_form = λ e. not_empty _ _ e; has_first = refl; has_second = refl }

returns-sum : DoesReturn sum_setting kept returns (Some (t 1))
returns-sum = record { first = get 10 (pos 4) ∷ get 1 (pos 12) ∷ []; before = leaving; raise = add_to_stack 16; frame = inl refl; words = refl; start = refl; to_own = refl; result' = refl; link = refl }

pub slots-assigned : IsAssigned sum_of_slots
slots-assigned = record { entries = λ k. first_known sum_setting; first = refl; blocks = ((refl, (taken, takes-param, (refl, (kept, adds-five, (refl, returns-sum))))), tt); room = omega arith; step = refl }

-- ---- over terms

pub terms-selected : IsSelected sum_of_terms
terms-selected =
    let sum : IsOperation sum_graph (t 1) op.Adds (t 0) (t 2) _ = record { a = Of (t 0); b = Immediate (pos 5); piece = (refl, refl); has_form = λ e. not_empty _ _ e; first = refl; second = refl } in
    ((refl, ((refl, refl), (refl, (sum, (refl, (Of (t 1), refl, (refl, refl))))))), tt)

-- ---- over registers

abbrev setting : Setting
setting = setting_of swapped

abbrev begin : Contents
begin = contents_of (entries 0)

abbrev head : Contents
head = contents_of phis_known

abbrev set_up : Contents
set_up = with_held (with_held (with_held begin 8 (Word 1)) 9 (Word 2)) 11 (Word 3)

abbrev moved : Contents
moved = with_held (with_held (with_held (with_held counted_down 30 (Value 4)) 8 (Value 5)) 9 (Value 4)) 11 (Value 7)

sets-phis : DoesJump setting entries begin sets into_loop 1
sets-phis = record { before = set_up; ends = record { first = set 8 (pos 1) ∷ set 9 (pos 2) ∷ set 11 (pos 3) ∷ []; words = refl; start = refl; to_own = refl }; brings = refl }

phi-there : (n k : ℕ) → head (setting.places k) ≡ Value k → IsThere setting head (piece n 0 []) (t k) head
phi-there n k e = record { words = refl; start = refl; there = e; same = refl }

branches-by-count : DoesBranch setting entries head branches [] (t 6) 2 3
branches-by-count = record { a = 11; before = head; ends = record { first = []; words = refl; start = refl; to_own = refl }; none = refl; has_term = refl; brings_first = refl; brings_second = refl }

subtracts-one : DoesOperation setting head subtracts (t 7) op.Subs (t 6) (t 0) counted_down
subtracts-one = record { d = 12; a = 11; scratch = 30; second = Immediate (pos 1); before = head; writable = refl; free = refl; framed = record { first = []; last = []; words = refl; start = refl; to_own = refl; from_own = refl }; has_form = λ e. not_empty _ _ e; has_first = refl; has_second = refl }

swaps-phis : DoesJump setting entries counted_down swaps exchange 1
swaps-phis = record { before = moved; ends = record { first = moves; words = refl; start = refl; to_own = refl }; brings = refl }

gives-phi-back : DoesReturn setting head gives_back (Some (t 4))
gives-phi-back = record { first = copy 10 8 ∷ get 1 (pos 4) ∷ []; before = with_held (with_held head 10 (Value 4)) 1 Link; raise = add_to_stack 8; frame = inl refl; words = refl; start = refl; to_own = refl; result' = refl; link = refl }

pub swap-assigned : IsAssigned swapped
swap-assigned = record {
  entries = entries;
  first = refl;
  blocks = ((refl, sets-phis), ((refl, (head, phi-there 0 4 refl, (refl, (head, phi-there 1 5 refl, (refl, (head, phi-there 2 6 refl, (refl, branches-by-count))))))), ((refl, (counted_down, subtracts-one, (refl, swaps-phis))), ((refl, gives-phi-back), tt))));
  room = omega arith;
  step = refl;
}
