use Rattle.std.proofs.Common.{ap}
use Rattle.p4_program.specs.declared.typed.types.Scalar.TheVariants.{Members}
use Rattle.p4_consts.proofs.operands.scalar_of.Goals as goal

pub returns-in-Enumeration : goal.returns-in-Enumeration
returns-in-Enumeration c = λ pass. rw c.in-Enumeration.is (ap Members (c.member_count.ensures pass))
