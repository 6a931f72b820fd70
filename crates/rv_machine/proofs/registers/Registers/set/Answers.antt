-- A slot is the number of a register, or the place for x0.
use Rattle.rv_machine.proofs.Slots.{take-with_register}
use Rattle.rv_machine.proofs.registers.Registers.set.Goals as goal

pub returns : goal.returns
returns c = take-with_register c.self.inside.words c.args.self.now c.args.slot c.args.word c.self.view_is c.requires.low c.requires.high
