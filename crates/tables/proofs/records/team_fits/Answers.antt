-- `team_fits`: no above the last team, yes off the map, and on it by the team held.
use Rattle.tables.specs.SlotLaws.{team-none, team-free, team-held}
use Rattle.tables.proofs.records.team_fits.Goals as goal

pub returns-then-team-gt-LAST_TEAM : goal.returns-then-team-gt-LAST_TEAM
returns-then-team-gt-LAST_TEAM c = team-none _ _ _ c.if-team-gt-LAST_TEAM.true

pub returns-then-car-eq0 : goal.returns-then-car-eq0
returns-then-car-eq0 c = team-free _ _ _ c.if-team-gt-LAST_TEAM.false c.if-car-eq0.true

pub returns : goal.returns
returns c = team-held _ _ _ c.if-team-gt-LAST_TEAM.false c.if-car-eq0.false
