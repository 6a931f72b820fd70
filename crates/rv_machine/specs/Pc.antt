-- Addresses that are multiples of 4, counted in words from the start of the text at 0x10000.
use Rattle.std.specs.Prelude.{ℕ, ◌+◌, ◌-◌, ◌*◌, ◌/◌, ◌%◌, ◌^◌}

abbrev pub address_of : ℕ → ℕ
address_of index = (0x10000 + 4 * index) % 2 ^ 32

abbrev pub index_of : ℕ → ℕ
index_of address = (address + (2 ^ 32 - 0x10000)) % 2 ^ 32 / 4
