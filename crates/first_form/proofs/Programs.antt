-- The program of a source of the first form is within the limits of an image.
use Rattle.std.specs.Prelude.{◌*◌}
use Rattle.std.proofs.Common.{◌≡◌, ◌≤◌, ◌<◌, ◌+◌, ◌^◌, ◌%◌, ℕ, List, [], ◌∷◌, ◌++◌, length, All, arith, rules}
use Rattle.std.specs.List.{flat_map}
use Rattle.image_form.specs.Limits.{IsWithinLimits}
use Rattle.first_form.specs.Code.{call_words, image_of, put_words, text_of}

-- three words for each constant
pub text_length : (puts : List ℕ) (status : ℕ) → length (text_of puts status) ≡ 3 * length puts + 3
text_length [] status = omega arith
text_length (k ∷ ks) status = omega (arith, text_length ks status)

pub image_fits : (puts : List ℕ) (status : ℕ) → 5 * length puts ≤ 2 ^ 24 → IsWithinLimits (image_of puts status)
image_fits puts status few = record {
  text = omega (arith, text_length puts status);
  statics = omega arith;
  stack = omega arith;
  stack_step = omega arith;
  entry_low = omega arith;
  entry_high = omega (arith, text_length puts status);
  entry_step = omega arith;
  records = omega arith;
  told = search rules;
}
