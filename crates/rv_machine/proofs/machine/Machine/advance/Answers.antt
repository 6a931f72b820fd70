-- A stretch of the decoded text is steps of the machine.
use Rattle.std.proofs.Common.{◌≡◌, sym, ◌∙◌, ap, arith, length, take, drop, ◌++◌}
use Rattle.rv_machine.specs.State.{State, Loaded, state}
use Rattle.rv_machine.specs.Decoded.{program}
use Rattle.rv_machine.proofs.Program.{written_back, machine_moves, machine_stops}
use Rattle.rv_machine.proofs.machine.Machine.advance.Goals as goal

pub returns-clause-moves : goal.returns-clause-moves
returns-clause-moves c =
    let code : c.as_slice.result.now ≡ program c.self.inside.text.items = c.as_slice.ensures.value ∙ c.self.invariant.decoded in
    let kept = written_back c.self.inside.memory.len c.run_stretch-stretch.new.memory (drop (length c.run_stretch-stretch.new.memory) c.self.inside.memory.items) (omega arith) in
    machine_moves c.args.self.now c.self.inside.text.items c.as_slice.result.now c.self.inside.registers c.run_stretch-stretch.new.registers c.self.inside.memory.items c.run_stretch-stretch.new.memory _ c.self.inside.pc c.run_stretch-stretch.result.pc c.self.inside.base c.run_stretch-stretch.result.steps c.self.view_is code kept (rw c.as_mut_slice.ensures.value at c.run_stretch-stretch.ensures.moves)

pub returns-clause-stop : goal.returns-clause-stop
returns-clause-stop c =
    let code : c.as_slice.result.now ≡ program c.self.inside.text.items = c.as_slice.ensures.value ∙ c.self.invariant.decoded in
    let kept = written_back c.self.inside.memory.len c.run_stretch-stretch.new.memory (drop (length c.run_stretch-stretch.new.memory) c.self.inside.memory.items) (omega arith) in
    machine_stops c.self.inside.text.items c.as_slice.result.now (state c.run_stretch-stretch.new.registers c.run_stretch-stretch.result.pc c.self.inside.base c.run_stretch-stretch.new.memory) _ c.run_stretch-stretch.result.stop code (ap (state c.run_stretch-stretch.new.registers c.run_stretch-stretch.result.pc c.self.inside.base) kept) c.run_stretch-stretch.ensures.stop
