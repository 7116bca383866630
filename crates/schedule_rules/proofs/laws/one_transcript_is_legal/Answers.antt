use Rattle.schedule_rules.proofs.OneTranscript.{lines_of_legal, finals_of_legal, exits_of_legal}
use Rattle.schedule_rules.proofs.laws.one_transcript_is_legal.Goals as goal

pub returns-clause-lines : goal.returns-clause-lines
returns-clause-lines c = lines_of_legal

pub returns-clause-finals : goal.returns-clause-finals
returns-clause-finals c = finals_of_legal

pub returns-clause-exits : goal.returns-clause-exits
returns-clause-exits c = exits_of_legal
