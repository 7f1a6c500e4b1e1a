-- The next bit is the lowest of what is left.
use Rattle.bit_blaster.proofs.TermWordLemmas.{next_known, known_done}
use Rattle.bit_blaster.proofs.term_words.constant_word.Goals as goal

pub loop-preserved : goal.loop-preserved
loop-preserved c =
    next_known c.args.bits.width c.loop.counter c.args.bits.value c.loop.rest c.loop.word.items c.push.new.self.items c.loop-test.true
    c.loop.invariant c.in_ok-push.ensures.items

pub returns : goal.returns
returns c = known_done c.args.bits.width c.loop.counter c.args.bits.value c.loop.rest c.loop.word.items c.loop-test.false c.loop.invariant
