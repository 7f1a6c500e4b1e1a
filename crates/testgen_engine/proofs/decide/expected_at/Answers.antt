use Rattle.std.proofs.Common.{◌≤◌, IsTrue, subst, sym, arith}
use Rattle.p4_program.specs.declared.input.TheConstants.{MAX_PORT}
use Rattle.p4_meaning.specs.declared.test.Expected.TheVariants.{Packet}
use Rattle.p4_meaning.specs.Expected.{is_printable}
use Rattle.testgen_engine.proofs.DigitLemmas.{printable}
use Rattle.testgen_engine.proofs.decide.expected_at.Goals as goal

pub returns-clause-printable : goal.returns-clause-printable
returns-clause-printable c =
    let other = c.if-port-eq-DROP_PORT.false in
    let low : c.value-port.result ≤ MAX_PORT = omega (arith, c.value-port.ensures.nine_bits) in
    subst (λ nibbles. IsTrue (is_printable (Packet c.value-port.result nibbles))) (sym c.in_ok-nibbles.ensures)
    (printable c.value-port.result c.args.packet.now low (λ i. omega (arith, c.type_inv.packet i)))
