-- What reading answers, and which bytes are an image. These are definitions, which the contracts of `read` and `write` cite.
use Rattle.std.specs.Prelude.{◌≡◌, ℕ, List, Some, None}
use Rattle.image_form.specs.declared.image.Image.{Image}
use Rattle.image_form.specs.declared.fault.ImageFault.{ImageFault}
use Rattle.image_form.specs.declared.fault.ImageFault.TheVariants.{BadImage, Memory}
use Rattle.image_form.specs.Limits.{IsWithinLimits, IsImage}
use Rattle.image_form.specs.Bytes.{bytes_of}
use Rattle.image_form.specs.Form.{first_wrong}

-- the bytes are those of an image within the limits
pub record IsFileOf (bytes : List ℕ) (i : Image) : Type 0 where
  pub image : IsImage i
  pub limits : IsWithinLimits i
  pub same : bytes ≡ bytes_of i

-- some image within the limits has these bytes
abbrev pub IsImageFile : List ℕ → Type 0
IsImageFile bytes = (i : Image) × IsFileOf bytes i

-- why bytes are refused: at the first wrong offset, or, where none is wrong, for want of memory
abbrev pub IsCause : ImageFault → List ℕ → Type 0
IsCause (BadImage at) bytes = first_wrong bytes ≡ Some at
IsCause Memory bytes = first_wrong bytes ≡ None
