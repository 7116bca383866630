-- The words of answers and of gifts.
use Rattle.std.specs.Prelude.{ℕ, ◌-◌, List, [], ◌∷◌, ◌++◌, ◌≡◌, length, take, codes}
use Rattle.std.specs.Fmt.{decimal}
use Rattle.std.proofs.Common.{zero, suc, refl, sym, ap, ◌∙◌, append_assoc, arith}
use Rattle.std.proofs.lemmas.List.{append-nil, length-append}
use Rattle.phase_bits.specs.Number.{number}
use Rattle.phase_bits.specs.Text.{phase_text}
use Rattle.schedule_rules.specs.declared.line.Answer.{Answer}
use Rattle.schedule_rules.specs.declared.line.Answer.TheVariants as answer
use Rattle.phase_locker.specs.declared.ways.Given.{Given}
use Rattle.schedule_text.specs.Lines.{Word, line_rest, line_text}
use Rattle.schedule_text.specs.TranscriptText.{way_name, refusal_words, answer_words, given_words}

-- each word behind one space
abbrev behind : List Word → List ℕ
behind [] = []
behind (w ∷ ws) = 32 ∷ (w ++ behind ws)

-- the words of a line that goes on
abbrev pub front : List Word → List ℕ
front [] = []
front (w ∷ ws) = w ++ behind ws

line_rest-more : (ws vs : List Word) → line_rest (ws ++ vs) ≡ behind ws ++ line_rest vs
line_rest-more [] vs = refl
line_rest-more (w ∷ ws) vs =
    ap (λ (x : List ℕ). 32 ∷ (w ++ x)) (line_rest-more ws vs) ∙ ap (λ (x : List ℕ). 32 ∷ x) (sym (append_assoc w (behind ws) (line_rest vs)))

line_text-more : (w : Word) (ws vs : List Word) → line_text (w ∷ (ws ++ vs)) ≡ front (w ∷ ws) ++ line_rest vs
line_text-more w ws vs = ap (λ (x : List ℕ). w ++ x) (line_rest-more ws vs) ∙ sym (append_assoc w (behind ws) (line_rest vs))

-- behind an answer its line goes on
pub answer_goes_on : (a : Answer) (vs : List Word) → line_text (answer_words a ++ vs) ≡ front (answer_words a) ++ line_rest vs
answer_goes_on (answer.Phase p) vs = line_text-more (codes "phase") (phase_text (number p) ∷ []) vs
answer_goes_on (answer.Value v) vs = line_text-more (codes "value") (decimal v ∷ []) vs
answer_goes_on answer.ReadGuard vs = line_text-more (codes "read-guard") [] vs
answer_goes_on answer.ErrGuard vs = line_text-more (codes "err-guard") [] vs
answer_goes_on answer.WriteGuard vs = line_text-more (codes "write-guard") [] vs
answer_goes_on answer.Running vs = line_text-more (codes "running") [] vs
answer_goes_on (answer.Finalizing c) vs = line_text-more (codes "finalizing") (decimal c ∷ []) vs
answer_goes_on (answer.Skipped c) vs = line_text-more (codes "skipped") (decimal c ∷ []) vs
answer_goes_on (answer.Round n) vs = line_text-more (codes "round") (decimal n ∷ []) vs
answer_goes_on answer.Closed vs = line_text-more (codes "closed") [] vs
answer_goes_on answer.Done vs = line_text-more (codes "done") [] vs
answer_goes_on (answer.Access p) vs = line_text-more (codes "access") (phase_text (number p) ∷ []) vs
answer_goes_on answer.Failed vs = line_text-more (codes "failed") [] vs
answer_goes_on answer.Cyclic vs = line_text-more (codes "cyclic") [] vs
answer_goes_on answer.Borrowed vs = line_text-more (codes "borrowed") [] vs
answer_goes_on answer.Missed vs = line_text-more (codes "none") [] vs
answer_goes_on (answer.Waiting w) vs = line_text-more (codes "waiting") (way_name w ∷ []) vs
answer_goes_on (answer.Refused r) vs = line_text-more (codes "refused") (refusal_words r) vs

-- or ends
pub answer_ends : (a : Answer) → line_text (answer_words a) ≡ front (answer_words a) ++ (10 ∷ [])
answer_ends a = sym (ap line_text (append-nil (answer_words a))) ∙ answer_goes_on a []

-- the text before the line feed that was taken off
without_last : (xs : List ℕ) (x : ℕ) (k : ℕ) → k ≡ length xs → take k (xs ++ (x ∷ [])) ≡ xs
without_last [] x zero e = refl
without_last (y ∷ ys) x (suc k) e = ap (λ (t : List ℕ). y ∷ t) (without_last ys x k (omega arith))
without_last [] x (suc k) e = absurd (omega arith)
without_last (y ∷ ys) x zero e = absurd (omega arith)

-- the page before the line feed that was taken off
taken_off : (before new xs : List ℕ) → before ≡ xs ++ (10 ∷ []) → new ≡ take (length before - 1) before → new ≡ xs
taken_off before new xs e t =
    let short : length before - 1 ≡ length xs = omega (arith, ap length e, length-append xs (10 ∷ [])) in
    t ∙ ap (take (length before - 1)) e ∙ without_last xs 10 (length before - 1) short

-- a gift takes the place of the line feed behind an answer
pub gift_behind : (old before popped new piece : List ℕ) (a : Answer) (g : Given) → before ≡ old ++ line_text (answer_words a) → popped ≡ take (length before - 1) before → new ≡ popped ++ piece → piece ≡ line_rest (given_words g) → new ≡ old ++ line_text (answer_words a ++ given_words g)
gift_behind old before popped new piece a g printed t put e =
    let ends : before ≡ (old ++ front (answer_words a)) ++ (10 ∷ []) =
    printed ∙ ap (λ (x : List ℕ). old ++ x) (answer_ends a) ∙ sym (append_assoc old (front (answer_words a)) (10 ∷ [])) in
    let off = taken_off before popped (old ++ front (answer_words a)) ends t in
    put ∙ ap (λ (x : List ℕ). x ++ piece) off ∙ ap (λ (x : List ℕ). (old ++ front (answer_words a)) ++ x) e
    ∙ append_assoc old (front (answer_words a)) (line_rest (given_words g))
    ∙ ap (λ (x : List ℕ). old ++ x) (sym (answer_goes_on a (given_words g)))
