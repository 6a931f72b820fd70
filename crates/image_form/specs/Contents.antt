-- What bytes of the form hold.
use Rattle.std.specs.Prelude.{ℕ, zero, suc, ◌+◌, ◌*◌, ◌-◌, ◌/◌, ◌%◌, ◌==◌, nat_lt, if◌then◌else◌, List, [], ◌∷◌, take, drop, slice_index_or, Option, Some, None}
use Rattle.std.specs.Int.{w32, cast_signed}
use Rattle.word_ops.specs.declared.operation.Op.{Op}
use Rattle.word_ops.specs.declared.operation.Op.TheVariants as ops
use Rattle.word_ops.specs.declared.operation.Width.TheVariants as widths
use Rattle.term_form.specs.declared.term.Term.{Term}
use Rattle.term_form.specs.declared.facts.Facts.{Facts}
use Rattle.term_form.specs.declared.listing.TermKind.{TermKind}
use Rattle.term_form.specs.declared.listing.TermKind.TheVariants as kinds
use Rattle.term_form.specs.declared.listing.Mode.{Mode}
use Rattle.term_form.specs.declared.listing.Mode.TheVariants as modes
use Rattle.term_form.specs.declared.listing.StoreWidth.TheVariants as stores
use Rattle.term_form.specs.declared.listing.EndKind.{EndKind}
use Rattle.term_form.specs.declared.listing.EndKind.TheVariants as ends
use Rattle.term_form.specs.declared.listing.Effect.{Effect}
use Rattle.term_form.specs.declared.listing.Effect.TheVariants as effects
use Rattle.term_form.specs.declared.listing.Record.{Record}
use Rattle.term_form.specs.declared.listing.Record.TheVariants as records
use Rattle.term_form.specs.Records.{none_word}
use Rattle.image_form.specs.declared.image.Image.{Image}
use Rattle.image_form.specs.Codes.{call_code, get_code, put_code}
use Rattle.image_form.specs.Form.{word_at, records_start}

-- the operations in the order of their codes
abbrev pub operations : List Op
operations =
    ops.Add ∷ ops.Sub ∷ ops.Mul ∷ ops.Adds ∷ ops.Subs ∷ ops.Muls ∷ ops.Divs ∷ ops.Rems ∷ ops.Divu ∷ ops.Remu ∷ ops.And ∷ ops.Or ∷ ops.Xor ∷ ops.Shl
    ∷ ops.Shls ∷ ops.Shru ∷ ops.Shrs ∷ ops.Eq ∷ ops.Ne ∷ ops.Lts ∷ ops.Les ∷ ops.Ltu ∷ ops.Leu ∷ ops.Zext8 ∷ ops.Sext8 ∷ ops.Zext16 ∷ ops.Sext16 ∷ []

-- the kind of term of an op code
abbrev pub kind_of : ℕ → TermKind
kind_of code =
    if nat_lt code 100 then kinds.Operate (slice_index_or operations (code - 1) ops.Add)
    else if code == 100 then kinds.Konst
    else if code == 101 then kinds.Global
    else if code == 102 then kinds.Local
    else if code == 103 then kinds.Param
    else if code == 104 then kinds.Phi
    else if code == 105 then kinds.Got
    else if code == 106 then kinds.Called
    else if code == 110 then kinds.Load widths.U8
    else if code == 111 then kinds.Load widths.S8
    else if code == 112 then kinds.Load widths.U16
    else if code == 113 then kinds.Load widths.S16
    else kinds.Load widths.Word

abbrev pub mode_of : ℕ → Mode
mode_of code = if code == 1 then modes.After else if code == 2 then modes.At else modes.Ready

abbrev pub option_of : ℕ → Option ℕ
option_of word = if word == none_word then None else Some word

abbrev pub term_of : ℕ → Term
term_of word = record { 0 = word }

abbrev pub option_term_of : ℕ → Option Term
option_term_of word = if word == none_word then None else Some (term_of word)

abbrev pub facts_at : List ℕ → ℕ → Facts
facts_at b at = record {
  low = cast_signed w32 (word_at b (at + 32));
  high = cast_signed w32 (word_at b (at + 36));
  least = word_at b (at + 40);
  most = word_at b (at + 44);
  zeros = word_at b (at + 48);
  ones = word_at b (at + 52);
  modulus = word_at b (at + 56);
  rest = word_at b (at + 60);
}

-- the effect of a code, with its three words
abbrev pub effect_of : (code a b c : ℕ) → Effect
effect_of code a b c =
    if code == 1 then effects.Store stores.Byte (term_of a) (term_of b)
    else if code == 2 then effects.Store stores.Half (term_of a) (term_of b)
    else if code == 3 then effects.Store stores.Word (term_of a) (term_of b)
    else if code == call_code then effects.Call a b (option_term_of c)
    else if code == get_code then effects.Get (term_of a)
    else if code == put_code then effects.Put (term_of a)
    else effects.Exit (term_of a)

abbrev pub end_of : ℕ → EndKind
end_of code = if code == 1 then ends.Jump else if code == 2 then ends.Branch else if code == 3 then ends.Return else ends.Stop

-- the record of a kind at an offset
abbrev pub record_of : ℕ → List ℕ → ℕ → Record
record_of kind b at =
    if kind == 1 then records.Function (record { number = word_at b (at + 4); entry = word_at b (at + 8); frame = word_at b (at + 12); parameters = word_at b (at + 16); value = word_at b (at + 20) == 1 })
    else if kind == 2 then records.Block (record { number = word_at b (at + 4); function = word_at b (at + 8); parent = option_of (word_at b (at + 12)); address = word_at b (at + 16) })
    else if kind == 3 then records.Term (record {
      term = term_of (word_at b (at + 4));
      block = option_of (word_at b (at + 8));
      kind = kind_of (word_at b (at + 12) % 65536);
      mode = mode_of (word_at b (at + 12) / 65536);
      a = word_at b (at + 16);
      b = word_at b (at + 20);
      address = word_at b (at + 24);
      place = word_at b (at + 28);
      facts = facts_at b at;
    })
    else if kind == 4 then records.Effect (record { block = word_at b (at + 4); address = word_at b (at + 12); effect = effect_of (word_at b (at + 8)) (word_at b (at + 16)) (word_at b (at + 20)) (word_at b (at + 24)) })
    else if kind == 5 then records.Argument (record { position = word_at b (at + 4); term = term_of (word_at b (at + 8)) })
    else if kind == 6 then records.Edge (record { from = word_at b (at + 4); to = word_at b (at + 8); phi = term_of (word_at b (at + 12)); argument = term_of (word_at b (at + 16)) })
    else records.End (record {
      block = word_at b (at + 4);
      kind = end_of (word_at b (at + 8));
      term = option_term_of (word_at b (at + 12));
      first = option_of (word_at b (at + 16));
      second = option_of (word_at b (at + 20));
      address = word_at b (at + 24);
    })

-- so many numbers from an offset on
unfoldable pub words_at : List ℕ → (at count : ℕ) → List ℕ
words_at b at zero = []
words_at b at (suc count) = word_at b at ∷ words_at b (at + 4) count

-- so many records from an offset on
unfoldable pub records_at : List ℕ → (at count : ℕ) → List Record
records_at b at zero = []
records_at b at (suc count) = record_of (word_at b at) b at ∷ records_at b (at + 64) count

-- the image that bytes of the form are
abbrev pub image_at : List ℕ → Image
image_at b = record {
  text = words_at b 24 (word_at b 4);
  statics = take (word_at b 8) (drop (24 + 4 * word_at b 4) b);
  stack = word_at b 12;
  entry = word_at b 16;
  listing = record { records = records_at b (records_start b) (word_at b 20) };
}
