use Rattle.schedule_rules.proofs.TurnRoom.{few-turns, room-running, room-taken}
use Rattle.schedule_rules.proofs.exit_laws.turns_have_room.Goals as goal

pub returns-clause-all : goal.returns-clause-all
returns-clause-all g = few-turns

pub returns-clause-runs : goal.returns-clause-runs
returns-clause-runs g = λ cells h p s k. room-running cells h k p s

pub returns-clause-taken : goal.returns-clause-taken
returns-clause-taken g = λ cells h s c k. room-taken cells h k s c
