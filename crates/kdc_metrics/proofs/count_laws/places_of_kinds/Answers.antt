use Rattle.kdc_metrics.proofs.Found.{found, one_place}
use Rattle.kdc_metrics.proofs.count_laws.places_of_kinds.Goals as goal

pub returns-clause-found : goal.returns-clause-found
returns-clause-found c = found

pub returns-clause-distinct : goal.returns-clause-distinct
returns-clause-distinct c = one_place
