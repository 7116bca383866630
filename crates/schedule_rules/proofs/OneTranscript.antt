-- A schedule of cells that do not park has at most one legal transcript.
use Rattle.schedule_rules.proofs.Words.{ℕ, arith, List, ◌≡◌, Bool, true, refl, Some, false, ◌∷◌, [], ◌∙◌, sym, ap, None, subst, ◌<◌, length, get_or_past, same_lists, Option, Given}
use Rattle.schedule_rules.proofs.Words.{Answer, Line, Refusal, CellPlan, Act, Step, Want, cell_at, is_parking, Event, ended_turns, Wait, Attempt, other_waits, refusal, Meeting}
use Rattle.schedule_rules.proofs.Words.{answer_of_attempt, due_answer, due_tried, meeting, may_give_on, may_give_first, may_give_last, is_nobody, IsLegal, IsLegalLine, answer_of}
use Rattle.schedule_rules.proofs.Words.{due_at, Moment, may_give, Last, Account, Schedule, IsLegalTranscript, told, final_of, AreFinals, NoneParks}
use Rattle.std.proofs.lemmas.Option.{get_or_from_slice_get}
use Rattle.schedule_rules.specs.declared.transcript.Final.{Final}

-- what a legal history goes on from is legal
legal-behind : (cells : List CellPlan) (ss : List Step) (ls : List Line) (h : List Event) → IsLegal cells (told h ss ls) → IsLegal cells h
legal-behind cells [] ls h k = k
legal-behind cells (s ∷ ss) [] h k = k
legal-behind cells (s ∷ ss) (l ∷ ls) h k = (legal-behind cells ss ls (record { step = s; line = l } ∷ h) k).2

-- a line of an answer and a gift
abbrev line : Answer → Given → Line
line a g = record { answer = a; given = g }

-- lines with the same answer and the same gift are the same
line_by_answer : (a b : Answer) (g k : Given) → a ≡ b → g ≡ k → line a g ≡ line b k
line_by_answer a b g k e f = ap (λ x. line x g) e ∙ ap (λ x. line b x) f

-- so an attempt there has one answer
one_answer : (x : CellPlan) (w : Want) (m : Meeting) (b d : Bool) → is_parking x.place ≡ false → answer_of_attempt x w m b ≡ answer_of_attempt x w m d
one_answer x w m b d e = grind arith

module _ (cells : List CellPlan) (spins : NoneParks cells) where
  -- no cell parks, also none that no plan has
  never_parks : (c : ℕ) → is_parking (cell_at cells c).place ≡ false
  never_parks c = grind (arith, get_or_past)

  module _ (h : List Event) (s : Step) where
    -- a step has no choice how it waits
    tried_alike : (p : ℕ) (o : Option Attempt) (ws : List Wait) (b d : Bool) → due_tried cells h p o ws b ≡ due_tried cells h p o ws d
    tried_alike p None ws b d = refl
    tried_alike p (Some a) ws b d =
        one_answer (cell_at cells a.cell) a.want (meeting cells h p a ws) b d (never_parks a.cell)

    due_alike : (p : ℕ) (a : Act) (ws : List Wait) (b d : Bool) → due_answer cells h (record { party = p; act = a }) ws b ≡ due_answer cells h (record { party = p; act = a }) ws d
    due_alike p a ws b d = grind (arith, tried_alike)

    -- nothing may be given at the first moment
    never_first : (o : Option Attempt) (g : Given) → may_give_first cells h s o g ≡ false
    never_first o g = grind (arith, never_parks)

    -- nor at the last
    never_on : (o : Option ℕ) (a : Answer) (g : Given) → may_give_on cells h s o a g ≡ false
    never_on o a g = grind (arith, never_parks)

    nothing_last : (a : Answer) (g : Given) → may_give_last cells h s a g ≡ true → g ≡ Given.Nobody
    nothing_last a g d = grind (arith, never_on)

    nobody : (g : Given) → is_nobody g ≡ true → g ≡ Given.Nobody
    nobody g d = grind arith

    -- a legal line gives nothing, and its answer is the due one
    just_one : (l : Line) → IsLegalLine cells h s l → (l.answer ≡ answer_of (refusal cells h s) (due_answer cells h s (other_waits cells h s) false)) × (l.given ≡ Given.Nobody)
    just_one l k = by (refusal cells h s) k.moment k.answered k.gave
      where
        by : (o : Option Refusal) (m : Moment) → l.answer ≡ answer_of o (due_at cells m h s l.given k.chosen) → may_give cells o m h s l ≡ true
            → (l.answer ≡ answer_of o (due_answer cells h s (other_waits cells h s) false)) × (l.given ≡ Given.Nobody)
        by None Last e d = (e ∙ due_alike s.party s.act (other_waits cells h s) k.chosen false, nothing_last l.answer l.given d)
        by o m x y = grind (arith, nobody, never_first)

    -- two legal lines of one step are the same
    same_line : (l m : Line) → IsLegalLine cells h s l → IsLegalLine cells h s m → l ≡ m
    same_line l m a b =
        let x : _ = just_one l a in let y : _ = just_one m b in
        line_by_answer l.answer m.answer l.given m.given (x.0 ∙ sym y.0) (x.1 ∙ sym y.1)

-- lists with the same heads and rests are the same
joined : (l m : Line) (ls ms : List Line) → l ≡ m → ls ≡ ms → (l ∷ ls) ≡ (m ∷ ms)
joined l m ls ms e f = ap (λ x. x ∷ ls) e ∙ ap (λ xs. m ∷ xs) f

-- as many lines as steps that make a legal history are the same
pub same_lines : (cells : List CellPlan) → NoneParks cells → (ss : List Step) (ls ms : List Line) (h : List Event) → length ls ≡ length ss → length ms ≡ length ss
    → IsLegal cells (told h ss ls) → IsLegal cells (told h ss ms) → ls ≡ ms
same_lines cells spins [] [] [] h a b k j = refl
same_lines cells spins [] [] (m ∷ ms) h a b k j = absurd (omega arith)
same_lines cells spins [] (l ∷ ls) ms h a b k j = absurd (omega arith)
same_lines cells spins (s ∷ ss) [] ms h a b k j = absurd (omega arith)
same_lines cells spins (s ∷ ss) (l ∷ ls) [] h a b k j = absurd (omega arith)
same_lines cells spins (s ∷ ss) (l ∷ ls) (m ∷ ms) h a b k j =
    let heads : l ≡ m =
    same_line cells spins h s l m (legal-behind cells ss ls (record { step = s; line = l } ∷ h) k).0 (legal-behind cells ss ms (record { step = s; line = m } ∷ h) j).0
    in let P : Line → Type 0 = λ x. IsLegal cells (told (record { step = s; line = x } ∷ h) ss ms)
    in let rests : ls ≡ ms = same_lines cells spins ss ls ms (record { step = s; line = l } ∷ h) (omega arith) (omega arith) k (subst P (sym heads) j)
    in joined l m ls ms heads rests

-- the finals of one history are the same
pub same_finals : (xs ys : List Final) (cells : List CellPlan) (h : List Event) → AreFinals xs cells h → AreFinals ys cells h → xs ≡ ys
same_finals xs ys cells h a b =
    same_lists xs ys (a.count ∙ sym b.count)
    (λ k d p. let q : k < length cells = omega (arith, a.count) in
    get_or_from_slice_get xs k (final_of cells k h) d (a.each k q) ∙ sym (get_or_from_slice_get ys k (final_of cells k h) d (b.each k q)))

-- the lines of two legal transcripts
pub lines_of_legal : (x : Schedule) (t u : Account) → NoneParks x.cells → IsLegalTranscript x t → IsLegalTranscript x u → t.lines ≡ u.lines
lines_of_legal x t u spins a b = same_lines x.cells spins x.steps t.lines u.lines [] a.lines b.lines a.legal b.legal

-- the finals of two legal transcripts
pub finals_of_legal : (x : Schedule) (t u : Account) → NoneParks x.cells → IsLegalTranscript x t → IsLegalTranscript x u → t.finals ≡ u.finals
finals_of_legal x t u spins a b =
    let P : List Line → Type 0 = λ ls. AreFinals t.finals x.cells (told [] x.steps ls) in
    same_finals t.finals u.finals x.cells (told [] x.steps u.lines) (subst P (lines_of_legal x t u spins a b) a.finals) b.finals

-- the turns of the exit of two legal transcripts
pub exits_of_legal : (x : Schedule) (t u : Account) → NoneParks x.cells → IsLegalTranscript x t → IsLegalTranscript x u → t.exits ≡ u.exits
exits_of_legal x t u spins a b = a.exits ∙ ap (λ ls. ended_turns (told [] x.steps ls)) (lines_of_legal x t u spins a b) ∙ sym b.exits
