-- The text of a transcript.
use Rattle.std.specs.Prelude.{ℕ, ◌+◌, List, [], ◌∷◌, ◌++◌, map, codes}
use Rattle.std.specs.declared.option.Option.{Option}
use Rattle.std.specs.declared.option.Option.TheVariants.{None, Some}
use Rattle.std.specs.Fmt.{decimal}
use Rattle.phase_bits.specs.Number.{number}
use Rattle.phase_bits.specs.Text.{phase_text}
use Rattle.phase_locker.specs.declared.ways.How.{How}
use Rattle.phase_locker.specs.declared.ways.How.TheVariants as how
use Rattle.phase_locker.specs.declared.ways.Given.{Given}
use Rattle.phase_locker.specs.declared.ways.Given.TheVariants as given
use Rattle.exit_registry.specs.declared.turns.Turn.{Turn}
use Rattle.exit_registry.specs.declared.turns.Turn.TheVariants as turn
use Rattle.exit_registry.specs.declared.turns.Turned.{Turned}
use Rattle.schedule_rules.specs.declared.line.Refusal.{Refusal}
use Rattle.schedule_rules.specs.declared.line.Refusal.TheVariants as refused
use Rattle.schedule_rules.specs.declared.line.Answer.{Answer}
use Rattle.schedule_rules.specs.declared.line.Answer.TheVariants as answer
use Rattle.schedule_rules.specs.declared.line.Line.{Line}
use Rattle.schedule_rules.specs.declared.transcript.Final.{Final}
use Rattle.schedule_rules.specs.Transcripts.{Account}
use Rattle.schedule_text.specs.Lines.{Word, lines_text}

-- the name of a way to wait
abbrev pub way_name : How → Word
way_name how.Spin = codes "spin"
way_name how.ParkedRead = codes "read"
way_name how.ParkedWrite = codes "write"
way_name how.Drain = codes "drain"

-- the number and the name of a reason to refuse
abbrev pub refusal_words : Refusal → List Word
refusal_words refused.Waits = codes "1" ∷ codes "Waits" ∷ []
refusal_words refused.NotWaiting = codes "2" ∷ codes "NotWaiting" ∷ []
refusal_words refused.NotOwner = codes "3" ∷ codes "NotOwner" ∷ []
refusal_words refused.NoSuchCall = codes "4" ∷ codes "NoSuchCall" ∷ []
refusal_words refused.NoGuard = codes "5" ∷ codes "NoGuard" ∷ []
refusal_words refused.NotWriter = codes "6" ∷ codes "NotWriter" ∷ []
refusal_words refused.NoSection = codes "7" ∷ codes "NoSection" ∷ []
refusal_words refused.NoOutcome = codes "8" ∷ codes "NoOutcome" ∷ []
refusal_words refused.InUse = codes "9" ∷ codes "InUse" ∷ []
refusal_words refused.ExitBegun = codes "10" ∷ codes "ExitBegun" ∷ []
refusal_words refused.Inside = codes "11" ∷ codes "Inside" ∷ []

-- the words of an answer
abbrev pub answer_words : Answer → List Word
answer_words (answer.Phase p) = codes "phase" ∷ phase_text (number p) ∷ []
answer_words (answer.Value v) = codes "value" ∷ decimal v ∷ []
answer_words answer.ReadGuard = codes "read-guard" ∷ []
answer_words answer.ErrGuard = codes "err-guard" ∷ []
answer_words answer.WriteGuard = codes "write-guard" ∷ []
answer_words answer.Running = codes "running" ∷ []
answer_words (answer.Finalizing c) = codes "finalizing" ∷ decimal c ∷ []
answer_words (answer.Skipped c) = codes "skipped" ∷ decimal c ∷ []
answer_words (answer.Round n) = codes "round" ∷ decimal n ∷ []
answer_words answer.Closed = codes "closed" ∷ []
answer_words answer.Done = codes "done" ∷ []
answer_words (answer.Access p) = codes "access" ∷ phase_text (number p) ∷ []
answer_words answer.Failed = codes "failed" ∷ []
answer_words answer.Cyclic = codes "cyclic" ∷ []
answer_words answer.Borrowed = codes "borrowed" ∷ []
answer_words answer.Missed = codes "none" ∷ []
answer_words (answer.Waiting w) = codes "waiting" ∷ way_name w ∷ []
answer_words (answer.Refused r) = codes "refused" ∷ refusal_words r

-- the words of a gift, behind those of the answer
abbrev pub given_words : Given → List Word
given_words given.Nobody = []
given_words (given.Writer p) = codes "gives" ∷ codes "writer" ∷ decimal p ∷ []
given_words given.Readers = codes "gives" ∷ codes "readers" ∷ []

-- the line of the step with this number
abbrev pub step_words : ℕ → Line → List Word
step_words n l = decimal n ∷ (answer_words l.answer ++ given_words l.given)

-- the lines of steps, numbered from n
abbrev pub step_lines : ℕ → List Line → List (List Word)
step_lines n [] = []
step_lines n (l ∷ ls) = step_words n l ∷ step_lines (n + 1) ls

-- a value, or that there is none
abbrev pub value_word : Option ℕ → Word
value_word None = codes "none"
value_word (Some v) = decimal v

-- the line of the cell with this number, by what it is left with
abbrev pub final_words : ℕ → Final → List Word
final_words c f = codes "cell" ∷ decimal c ∷ phase_text (number f.phase) ∷ value_word f.value ∷ []

-- the lines of cells, numbered from c
abbrev pub final_lines : ℕ → List Final → List (List Word)
final_lines c [] = []
final_lines c (f ∷ fs) = final_words c f ∷ final_lines (c + 1) fs

-- how a turn of the exit ended. Busy, of an object that is held, has no word
abbrev pub turn_words : Turn → List Word
turn_words turn.Done = codes "done" ∷ []
turn_words turn.Skipped = codes "skipped" ∷ []
turn_words turn.Failed = codes "failed" ∷ []
turn_words turn.Busy = []

-- the line of a turn of the exit that ended
abbrev pub exit_words : Turned → List Word
exit_words t = codes "exit" ∷ decimal t.cell ∷ turn_words t.turn

-- the lines of the turns of the exit that ended, in order
abbrev pub exit_lines : List Turned → List (List Word)
exit_lines ts = map exit_words ts

-- the first line: the version
abbrev pub title_words : List Word
title_words = codes "transcript" ∷ codes "1" ∷ []

-- the last line
abbrev pub end_words : List Word
end_words = codes "end" ∷ []

-- the lines of a transcript: its version, the steps, what the cells are left with, and the turns of the exit that ended
abbrev pub transcript_lines : Account → List (List Word)
transcript_lines t =
    title_words ∷ (step_lines 0 t.lines ++ (final_lines 0 t.finals ++ (exit_lines t.exits ++ (end_words ∷ []))))

-- the text of a transcript
abbrev pub transcript_text : Account → List ℕ
transcript_text t = lines_text (transcript_lines t)
