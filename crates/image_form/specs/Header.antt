-- The numbers before the text.
use Rattle.std.specs.Prelude.{◌≡◌, ℕ, List}
use Rattle.image_form.specs.declared.check.Header.{Header}
use Rattle.image_form.specs.Form.{word_at}

pub record IsHeader (b : List ℕ) (h : Header) : Type 0 where
  pub words : h.words ≡ word_at b 4
  pub statics : h.statics ≡ word_at b 8
  pub stack : h.stack ≡ word_at b 12
  pub entry : h.entry ≡ word_at b 16
  pub records : h.records ≡ word_at b 20
