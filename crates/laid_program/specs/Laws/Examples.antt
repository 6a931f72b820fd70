-- The function of the example lies in its text.
-- No contract cites this file: it holds proofs.
use Rattle.std.proofs.Common.{◌≡◌, refl, subst, ℕ, zero, suc, ◌<◌, ◌≤◌, List, Some, arith}
use Rattle.std.specs.Prelude.{slice_get}
use Rattle.std.proofs.Math.Nat.{le_trans}
use Rattle.std.proofs.lemmas.Option.{none-some, same_Some}
use Rattle.term_form.specs.declared.graph.Block.{Block}
use Rattle.rv_table.specs.Instruction.{row_of}
use Rattle.rv_machine.specs.Sound.{AreWords}
use Rattle.code_form.specs.declared.code.Loose.{Loose}
use Rattle.code_form.specs.declared.code.Piece.{Piece}
use Rattle.code_form.specs.Instructions.{entry_words}
use Rattle.code_form.specs.Contents.{Setting}
use Rattle.code_form.specs.Assigned.{setting_of}
use Rattle.code_form.specs.Examples.{swapped, swap_graph, sets, branches, subtracts, swaps, gives_back}
use Rattle.laid_program.specs.Text.{Lie, LieItems, LiesFunction, end_of_block}
use Rattle.laid_program.specs.Examples.{addresses, text}
use Rattle.laid_program.specs.Laws.Near.{DecodeNear, end_of_near, lie-near, words-from_test}

abbrev setting : Setting
setting = setting_of swapped

text-words : AreWords text
text-words = words-from_test text refl

-- words of the function lie where they decode
lies : (pc : ℕ) (is : List Loose) → DecodeNear text addresses setting 0 pc is → Lie text addresses setting 0 pc is (end_of_near addresses setting 0 pc is)
lies pc is d = lie-near text addresses setting 0 pc is text-words d

entry-lies : Lie text addresses setting 0 0x10018 (entry_words 8 4) 0x10020
unfolding row_of
entry-lies = lies 0x10018 (entry_words 8 4) ((refl, tt), ((refl, tt), tt))

sets-lie : Lie text addresses setting 0 0x10020 sets.words 0x10030
unfolding row_of
sets-lie = lies 0x10020 sets.words ((refl, tt), ((refl, tt), ((refl, tt), ((refl, tt), tt))))

branches-lie : Lie text addresses setting 0 0x10030 branches.words 0x10038
unfolding row_of
branches-lie = lies 0x10030 branches.words ((refl, tt), ((refl, tt), tt))

subtracts-lies : Lie text addresses setting 0 0x10038 subtracts.words 0x1003c
unfolding row_of
subtracts-lies = lies 0x10038 subtracts.words ((refl, tt), tt)

swaps-lie : Lie text addresses setting 0 0x1003c swaps.words 0x10050
unfolding row_of
swaps-lie = lies 0x1003c swaps.words ((refl, tt), ((refl, tt), ((refl, tt), ((refl, tt), ((refl, tt), tt)))))

gives_back-lies : Lie text addresses setting 0 0x10050 gives_back.words 0x10060
unfolding row_of
gives_back-lies = lies 0x10050 gives_back.words ((refl, tt), ((refl, tt), ((refl, tt), ((refl, tt), tt))))

-- ---- blocks

here : (k : ℕ) (b c : Block) (ps qs : List Piece) → Some b ≡ Some c → Some ps ≡ Some qs → LieItems text addresses setting 0 k 0 b.items ps →
    LieItems text addresses setting 0 k 0 c.items qs
here k b c ps qs e f h =
    subst (λ (c : Block). LieItems text addresses setting 0 k 0 c.items qs) (same_Some b c e) (subst (λ (qs : List Piece). LieItems text addresses setting 0 k 0 b.items qs) (same_Some ps qs f) h)

blocks-lie : (k : ℕ) (b : Block) (ps : List Piece) → slice_get swap_graph.blocks k ≡ Some b → slice_get swapped.blocks k ≡ Some ps →
    LieItems text addresses setting 0 k 0 b.items ps
blocks-lie zero b ps e f = here 0 _ b _ ps e f (sets-lie, refl)
blocks-lie (suc zero) b ps e f = here 1 _ b _ ps e f ((refl, refl), ((refl, refl), ((refl, refl), (branches-lie, refl))))
blocks-lie (suc (suc zero)) b ps e f = here 2 _ b _ ps e f ((refl, subtracts-lies), (swaps-lie, refl))
blocks-lie (suc (suc (suc zero))) b ps e f = here 3 _ b _ ps e f (gives_back-lies, refl)
blocks-lie (suc (suc (suc (suc k)))) b ps e f = absurd (none-some b e)

-- each ends before the next
block-ends : (j : ℕ) (b : Block) → slice_get swap_graph.blocks j ≡ Some b → j < 3 → end_of_block addresses 0 j b ≤ addresses.item 0 (suc j) 0
block-ends zero b e h = subst (λ (b : Block). end_of_block addresses 0 0 b ≤ 0x10030) (same_Some _ b e) (omega arith)
block-ends (suc zero) b e h = subst (λ (b : Block). end_of_block addresses 0 1 b ≤ 0x10038) (same_Some _ b e) (omega arith)
block-ends (suc (suc zero)) b e h = subst (λ (b : Block). end_of_block addresses 0 2 b ≤ 0x10050) (same_Some _ b e) (omega arith)
block-ends (suc (suc (suc j))) b e h = absurd (omega (arith, h))

starts : (j k : ℕ) → j < k → k < 4 → addresses.item 0 (suc j) 0 ≤ addresses.item 0 k 0
starts j zero h g = absurd (omega (arith, h))
starts zero (suc zero) h g = omega arith
starts zero (suc (suc zero)) h g = omega arith
starts zero (suc (suc (suc zero))) h g = omega arith
starts zero (suc (suc (suc (suc k)))) h g = absurd (omega (arith, g))
starts (suc j) (suc zero) h g = absurd (omega (arith, h))
starts (suc zero) (suc (suc zero)) h g = omega arith
starts (suc zero) (suc (suc (suc zero))) h g = omega arith
starts (suc zero) (suc (suc (suc (suc k)))) h g = absurd (omega (arith, g))
starts (suc (suc j)) (suc (suc zero)) h g = absurd (omega (arith, h))
starts (suc (suc zero)) (suc (suc (suc zero))) h g = omega arith
starts (suc (suc zero)) (suc (suc (suc (suc k)))) h g = absurd (omega (arith, g))
starts (suc (suc (suc j))) (suc (suc (suc k))) h g = absurd (omega (arith, h, g))

block-order : (j k : ℕ) (b : Block) → slice_get swap_graph.blocks j ≡ Some b → j < k → k < 4 → end_of_block addresses 0 j b ≤ addresses.item 0 k 0
block-order j k b e h g =
    let first : end_of_block addresses 0 j b ≤ addresses.item 0 (suc j) 0 = block-ends j b e (omega (arith, h, g)) in
    let then' : addresses.item 0 (suc j) 0 ≤ addresses.item 0 k 0 = starts j k h g in
    le_trans first then'

pub swapped-lies : LiesFunction text addresses 0 swapped
swapped-lies = record { entry = entry-lies; blocks = blocks-lie; order = block-order }
