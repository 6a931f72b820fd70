-- x0 reads 0 since its place is never written.
use Rattle.std.proofs.Common.{arith}
use Rattle.rv_machine.proofs.Slots.{register_in-take}
use Rattle.rv_machine.proofs.registers.Registers.get.Goals as goal

pub returns : goal.returns
returns c = register_in-take c.self.inside.words c.args.self.now c.args.number c.self.view_is c.self.invariant c.requires
