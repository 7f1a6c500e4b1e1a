-- The status with which a call ends that nothing cuts short.
use Rattle.std.specs.Prelude.{ℕ}
use Rattle.testgen_engine.specs.declared.status.Status.{Status}
use Rattle.testgen_engine.specs.declared.status.Status.TheVariants.{Done, WrongWords, Refused, ReadFault}
use Rattle.testgen_engine.specs.declared.status.TheConstants.{DONE, WRONG_WORDS, REFUSED, READ_FAULT}

abbrev pub status_of : Status → ℕ
status_of Done = DONE
status_of WrongWords = WRONG_WORDS
status_of Refused = REFUSED
status_of ReadFault = READ_FAULT
