use Rattle.p4_meaning.proofs.ForwarderExample as example
use Rattle.p4_meaning.proofs.run_examples.forwarder.Goals as goal

pub returns-clause-ethernet_short : goal.returns-clause-ethernet_short
returns-clause-ethernet_short c = example.ethernet_short

pub returns-clause-ipv4_short : goal.returns-clause-ipv4_short
returns-clause-ipv4_short c = example.ipv4_short

pub returns-clause-dropped_by_default : goal.returns-clause-dropped_by_default
returns-clause-dropped_by_default c = example.dropped_by_default

pub returns-clause-forwarded : goal.returns-clause-forwarded
returns-clause-forwarded c = example.forwarded
