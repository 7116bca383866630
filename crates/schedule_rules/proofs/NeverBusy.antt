-- No turn of the exit that ended is Busy.
use Rattle.schedule_rules.proofs.Words.{ℕ, arith, List, Bool, ◌∷◌, [], ◌≢◌, ◌++◌, All-nil, All-cons, All-append, Option, Turn, Turned, Deed, Event, deed_of, sections, Section}
use Rattle.schedule_rules.proofs.Words.{ended_turns, turn_of, turn_of_section, turns_by, NoneBusy, Account, Schedule, IsLegalTranscript, told}

-- behind turns of which none is Busy, one more that is not
one_more : (ts : List Turned) (c : ℕ) (t : Turn) → t ≢ Turn.Busy → NoneBusy ts → NoneBusy (ts ++ record { cell = c; turn = t } ∷ [])
one_more ts c t other before =
    let NotBusy : Turned → Type 0 = λ t. t.turn ≢ Turn.Busy in
    All-append NotBusy ts _ before (All-cons NotBusy (record { cell = c; turn = t }) [] other (All-nil NotBusy))

of_section : (t : Turn) (s : Option Section) (ts : List Turned) → t ≢ Turn.Busy → NoneBusy ts → NoneBusy (turn_of_section t s ts)
of_section t s ts other before = grind (arith, one_more)

not_busy : (fine : Bool) → turn_of fine ≢ Turn.Busy
not_busy fine = grind arith

after : (p : ℕ) (d : Deed) (ss : List Section) (ts : List Turned) → NoneBusy ts → NoneBusy (turns_by p d ss ts)
after p d ss ts before = grind (arith, one_more, of_section, not_busy)

ended : (h : List Event) → NoneBusy (ended_turns h)
ended [] = All-nil (λ t. t.turn ≢ Turn.Busy)
ended (e ∷ h) = after e.step.party (deed_of h e.step e.line.answer) (sections h) (ended_turns h) (ended h)

-- so a legal transcript has a text
pub none_busy : (x : Schedule) (t : Account) → IsLegalTranscript x t → NoneBusy t.exits
none_busy x t legal = rw legal.exits (ended (told [] x.steps t.lines))
