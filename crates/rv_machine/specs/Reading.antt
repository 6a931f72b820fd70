-- A word anywhere in a machine's text, or in its data, gap and stack.
use Rattle.std.specs.Prelude.{ℕ, ◌+◌, ◌-◌, ◌*◌, ◌/◌, ◌%◌, ◌^◌, ◌&&◌, nat_le, if◌then◌else◌, List, length, slice_index, Option, Some, None}
use Rattle.rv_machine.specs.State.{Loaded}
use Rattle.rv_machine.specs.Bytes.{word_in}

-- byte k of the text, whose words have their lowest byte first
abbrev pub text_byte : List ℕ → ℕ → ℕ
text_byte text k = slice_index text (k / 4) / 2 ^ (8 * (k % 4)) % 2 ^ 8

abbrev pub text_word : List ℕ → ℕ → ℕ
text_word text k = text_byte text k + text_byte text (k + 1) * 2 ^ 8 + text_byte text (k + 2) * 2 ^ 16 + text_byte text (k + 3) * 2 ^ 24

-- the word in the four bytes at an address, which lie wholly in the text, or wholly in data, gap and stack
abbrev pub word_at : Loaded → ℕ → Option ℕ
word_at m at =
    if nat_le 0x10000 at && nat_le (at + 4) (0x10000 + 4 * length m.text) then Some (text_word m.text (at - 0x10000))
    else if nat_le m.state.base at && nat_le (at + 4) (m.state.base + length m.state.memory) then Some (word_in m.state.memory (at - m.state.base))
    else None
