-- Where a search stood at the end of a sitting, and what was made on it up to there.
use Rattle.search.specs.declared.held.Counts.{Counts}
use Rattle.search.specs.declared.held.Progress.{Progress}
use Rattle.search.specs.declared.held.Sat.{Sat}
use Rattle.search.specs.declared.held.Sat.TheVariants.{Plan, None, Open}

abbrev pub came_to : Sat → Progress
came_to (Plan d) = d.at
came_to (None d) = d.at
came_to (Open t) = t.at

abbrev pub counted : Sat → Counts
counted (Plan d) = d.at.counts
counted (None d) = d.at.counts
counted (Open t) = t.at.counts
