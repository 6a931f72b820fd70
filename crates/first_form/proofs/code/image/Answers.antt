-- The image is within the limits.
use Rattle.first_form.proofs.Programs.{image_fits}
use Rattle.first_form.proofs.code.image.Goals as goal

pub returns-clause-limits : goal.returns-clause-limits
returns-clause-limits c =
    rw (c.from_vec.ensures, c.in_ok-text.ensures, c.new.ensures, c.new-2.ensures) (image_fits c.args.form.now.puts c.args.form.now.status c.requires)
