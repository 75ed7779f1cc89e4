use Rattle.std.proofs.Common.{rules}
use Rattle.tests_machine.proofs.Shelves.{next_of}
use Rattle.tests_machine.proofs.reads.ShelfInputs.read.Goals as goal

pub returns-clause-bytes : goal.returns-clause-bytes
returns-clause-bytes g c = next_of c.args.path.now c.args.self.now.name.now c.args.self.now.bytes.now c.args.self.now.rest.now c.rest_behind-self.result.now c.copy_from_slice.new.self c.args.buf.now c.min-n.result (search rules) c.min-n.ensures c.copy_from_slice.ensures.after c.rest_behind-self.ensures
