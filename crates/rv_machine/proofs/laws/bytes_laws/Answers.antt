-- The laws of numbers in bytes of memory.
use Rattle.rv_machine.specs.Laws.Bytes.{number_in-with_number, number_in-elsewhere, length-with_number, AreBytes-with_number, byte_in-number, half_in-number, word_in-number, with_byte-number, with_half-number, with_word-number, byte_in-narrowed, half_in-narrowed, word_in-narrowed, signed_byte_in-narrowed, signed_half_in-narrowed}
use Rattle.rv_machine.proofs.laws.bytes_laws.Goals as goal

pub returns-clause-read : goal.returns-clause-read
returns-clause-read c = number_in-with_number

pub returns-clause-elsewhere : goal.returns-clause-elsewhere
returns-clause-elsewhere c = number_in-elsewhere

pub returns-clause-size : goal.returns-clause-size
returns-clause-size c = length-with_number

pub returns-clause-bytes : goal.returns-clause-bytes
returns-clause-bytes c = AreBytes-with_number

pub returns-clause-byte : goal.returns-clause-byte
returns-clause-byte c = λ word bytes k. (byte_in-number bytes k, with_byte-number word bytes k)

pub returns-clause-half : goal.returns-clause-half
returns-clause-half c = λ word bytes k. (half_in-number bytes k, with_half-number word bytes k)

pub returns-clause-word : goal.returns-clause-word
returns-clause-word c = λ word bytes k. (word_in-number bytes k, with_word-number word bytes k)

pub returns-clause-narrowed : goal.returns-clause-narrowed
returns-clause-narrowed c = λ bytes k h. (byte_in-narrowed bytes k h, signed_byte_in-narrowed bytes k h, half_in-narrowed bytes k h, signed_half_in-narrowed bytes k h, word_in-narrowed bytes k h)
