-- Which records can be told by the words of a listing.
use Rattle.std.specs.Prelude.{ℕ, ◌-◌, ◌<◌, ◌^◌, Option, Some, None}
use Rattle.term_form.specs.declared.term.Term.{Term}
use Rattle.term_form.specs.declared.listing.Record.{Record}
use Rattle.term_form.specs.declared.listing.Record.TheVariants as records
use Rattle.term_form.specs.declared.listing.Effect.{Effect}
use Rattle.term_form.specs.declared.listing.Effect.TheVariants.{Store, Call, Get, Put, Exit}

-- the word that says that there is no number
abbrev pub none_word : ℕ
none_word = 2 ^ 32 - 1

-- a number where there may be none has a word of its own
abbrev pub IsTold : Option ℕ → Type 0
IsTold None = Unit {0}
IsTold (Some n) = n < none_word

abbrev pub IsToldTerm : Option Term → Type 0
IsToldTerm None = Unit {0}
IsToldTerm (Some t) = t.0 < none_word

abbrev pub IsToldEffect : Effect → Type 0
IsToldEffect (Store width address value) = Unit {0}
IsToldEffect (Call function arguments called) = IsToldTerm called
IsToldEffect (Get got) = Unit {0}
IsToldEffect (Put term) = Unit {0}
IsToldEffect (Exit term) = Unit {0}

-- each number of the record that may be missing has a word of its own; all other records are told by their words
abbrev pub IsToldRecord : Record → Type 0
IsToldRecord (records.Function f) = Unit {0}
IsToldRecord (records.Block b) = IsTold b.parent
IsToldRecord (records.Term t) = IsTold t.block
IsToldRecord (records.Effect e) = IsToldEffect e.effect
IsToldRecord (records.Argument a) = Unit {0}
IsToldRecord (records.Edge e) = Unit {0}
IsToldRecord (records.End e) = IsToldTerm e.term × IsTold e.first × IsTold e.second
