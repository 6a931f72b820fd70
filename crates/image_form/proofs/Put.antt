-- One record more is written.
use Rattle.std.proofs.Common.{◌≡◌, ℕ, ◌+◌, ◌<◌, length, get_or, take, List, ◌++◌, sym, ap, ◌∙◌}
use Rattle.std.specs.List.{flat_map}
use Rattle.std.proofs.lemmas.List.{take_more, flat_map_more}
use Rattle.term_form.specs.declared.listing.Record.{Record}
use Rattle.image_form.specs.Words.{words_of}
use Rattle.image_form.specs.Bytes.{number_bytes, record_bytes}

pub put_on : (first out new ws : List ℕ) (rs : List Record) (i : ℕ) (d : Record) → i < length rs → ws ≡ words_of (get_or rs i d)
    → out ≡ first ++ flat_map record_bytes (take i rs) → new ≡ out ++ flat_map number_bytes ws → new ≡ first ++ flat_map record_bytes (take (i + 1) rs)
put_on first out new ws rs i d lt words so_far more =
    more ∙ ap (λ t. t ++ flat_map number_bytes ws) so_far ∙ ap (λ l. (first ++ flat_map record_bytes (take i rs)) ++ flat_map number_bytes l) words
    ∙ flat_map_more record_bytes first (take i rs) (get_or rs i d) ∙ ap (λ l. first ++ flat_map record_bytes l) (sym (take_more rs i d lt))
