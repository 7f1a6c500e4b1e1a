use Rattle.value_domain.proofs.ExtendsLaws.{extends_refl, extends_trans}
use Rattle.value_domain.proofs.laws.steps_compose.Goals as goal

pub returns-clause-none : goal.returns-clause-none
returns-clause-none g c = λ d. extends_refl _

pub returns-clause-two : goal.returns-clause-two
returns-clause-two g c = λ old mid new first second. extends_trans first second
