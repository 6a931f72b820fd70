use Rattle.c_layout.proofs.Between.{next_multiple-multiple, next_multiple-above, next_multiple-least}
use Rattle.c_layout.proofs.laws.next_multiple_is_the_least.Goals as goal

pub returns : goal.returns
returns c = record {
  multiple = next_multiple-multiple;
  above = next_multiple-above;
  least = next_multiple-least;
}
