-- A run that is told step by step.
use Rattle.std.specs.Prelude.{ℕ, List, [], ◌∷◌, ◌++◌, ◌+◌, ◌<◌, ◌≡◌, OnOk, OnErr, length, take}
use Rattle.std.proofs.Common.{refl, sym, ap, subst, ◌∙◌, arith, length-append, append-nil, append_assoc, get_or, zero, suc}
use Rattle.std.proofs.Math.Seq.{take-append_seam}
use Rattle.std.specs.declared.option.Option.{Option}
use Rattle.std.specs.declared.option.Option.TheVariants.{None, Some}
use Rattle.std.specs.declared.result.Result.{Result}
use Rattle.std.specs.declared.result.Result.TheVariants.{Ok, Err}
use Rattle.std.specs.Io.KnownBytes.{Appends}
use Rattle.phase_schedule.specs.declared.ending.Ending.{Ending}
use Rattle.phase_schedule.specs.declared.running.Run.{Run}
use Rattle.phase_schedule.specs.Running.{EndsSo, GoesOn, IsEnd, account_with}
use Rattle.schedule_rules.specs.declared.line.Line.{Line}
use Rattle.schedule_rules.specs.declared.transcript.Final.{Final}
use Rattle.exit_registry.specs.declared.turns.Turned.{Turned}
use Rattle.schedule_rules.specs.Transcripts.{IsLegalTranscript, Schedule}
use Rattle.schedule_text.specs.Lines.{line_text, lines_text}
use Rattle.schedule_text.specs.TranscriptText.{step_words, step_lines, final_words, final_lines, exit_lines, end_words, title_words, transcript_text}
use Rattle.schedule_text.proofs.PrintPieces.{transcript_printed}
use Rattle.phase_run.specs.declared.failed.Failed.{Failed}
use Rattle.phase_run.specs.Telling.{HasTold, HasToldFirst, IsToldOf, Teller, Tells, teller}
use Rattle.phase_run.proofs.Telling.{tells-two}

-- the line of one step more
step_lines_more : (n : ℕ) (ls : List Line) (l : Line) → lines_text (step_lines n (ls ++ (l ∷ []))) ≡ lines_text (step_lines n ls) ++ line_text (step_words (n + length ls) l)
step_lines_more n [] l = append-nil (line_text (step_words n l)) ∙ ap (λ k. line_text (step_words k l)) (omega arith)
step_lines_more n (k ∷ ks) l =
    let rest = step_lines_more (n + 1) ks l in
    let count : (n + 1) + length ks ≡ n + length (k ∷ ks) = omega arith in
    ap (λ bytes. line_text (step_words n k) ++ bytes) (rest ∙ ap (λ m. lines_text (step_lines (n + 1) ks) ++ line_text (step_words m l)) count)
    ∙ sym (append_assoc (line_text (step_words n k)) (lines_text (step_lines (n + 1) ks)) (line_text (step_words (n + length (k ∷ ks)) l)))

-- one step more was made and told
pub told_next : (x : Schedule) (count : ℕ) (old now new : Teller) (before after : Run) (line : Option Line) (l : Line) → HasToldFirst x count old now before → GoesOn before line after → line ≡ Some l → Tells (line_text (step_words count l)) now new → HasToldFirst x (count + 1) old new after
told_next x count old now new before after line l so_far goes is tells =
    let made = subst (λ o. GoesOn before o after) is goes x so_far.lines so_far.made in
    let counted : count ≡ 0 + length so_far.lines = omega (arith, so_far.many) in
    record {
      lines = so_far.lines ++ (l ∷ []);
      made = made.0;
      many = omega (arith, length-append so_far.lines (l ∷ []), so_far.many);
      tells = subst (λ bytes. Tells bytes old new)
          (ap (λ n. lines_text (step_lines 0 so_far.lines) ++ line_text (step_words n l)) counted ∙ sym (step_lines_more 0 so_far.lines l))
          (tells-two (lines_text (step_lines 0 so_far.lines)) (line_text (step_words count l)) old now new so_far.tells tells);
    }

-- no step was left
pub told_last : (x : Schedule) (count : ℕ) (old now : Teller) (before after : Run) (line : Option Line) → HasToldFirst x count old now before → GoesOn before line after → line ≡ None → HasToldFirst x (length x.steps) old now after
told_last x count old now before after line so_far goes is =
    let made = subst (λ o. GoesOn before o after) is goes x so_far.lines so_far.made in
    record { lines = so_far.lines; made = made.0; many = made.1; tells = so_far.tells }

-- the line of one cell more
final_lines_more : (n k : ℕ) (fs : List Final) (d : Final) → k < length fs → lines_text (final_lines n (take (suc k) fs)) ≡ lines_text (final_lines n (take k fs)) ++ line_text (final_words (n + k) (get_or fs k d))
final_lines_more n k [] d inside = absurd (omega (arith, inside))
final_lines_more n zero (f ∷ fs) d inside = append-nil (line_text (final_words n f)) ∙ ap (λ m. line_text (final_words m f)) (omega arith)
final_lines_more n (suc k) (f ∷ fs) d inside =
    let count : (n + 1) + k ≡ n + suc k = omega arith in
    let front = lines_text (final_lines (n + 1) (take k fs)) in
    ap (λ bytes. line_text (final_words n f) ++ bytes)
    (final_lines_more (n + 1) k fs d (omega (arith, inside)) ∙ ap (λ m. front ++ line_text (final_words m (get_or fs k d))) count)
    ∙ sym (append_assoc (line_text (final_words n f)) front (line_text (final_words (n + suc k) (get_or fs k d))))

-- one cell more was told
pub cell_next : (fs : List Final) (k : ℕ) (d f : Final) (old now new : Teller) → k < length fs → f ≡ get_or fs k d → Tells (lines_text (final_lines 0 (take k fs))) old now → Tells (line_text (final_words k f)) now new → Tells (lines_text (final_lines 0 (take (k + 1) fs))) old new
cell_next fs k d f old now new inside is so_far tells =
    let count : k ≡ 0 + k = omega arith in
    let after : suc k ≡ k + 1 = omega arith in
    subst (λ bytes. Tells bytes old new)
    (ap (λ g. lines_text (final_lines 0 (take k fs)) ++ line_text (final_words k g)) is ∙ ap (λ m. lines_text (final_lines 0 (take k fs)) ++ line_text (final_words m (get_or fs k d))) count ∙ sym (final_lines_more 0 k fs d inside) ∙ ap (λ m. lines_text (final_lines 0 (take m fs))) after)
    (tells-two (lines_text (final_lines 0 (take k fs))) (line_text (final_words k f)) old now new so_far tells)

-- nothing was given
Appends-nothing : (o : Option (List ℕ)) → Appends o o []
Appends-nothing None = tt
Appends-nothing (Some xs) = sym (append-nil xs)

-- the first line stands on the page, which was clear
titled : (given : Option (List ℕ)) (faults : ℕ) (clear page : List ℕ) → clear ≡ [] → page ≡ clear ++ line_text title_words → HasTold given faults (line_text title_words) (teller given faults page (Ok tt))
titled given faults clear page none put =
    record {
      written = [];
      rest = line_text title_words;
      appended = Appends-nothing given;
      parts = refl;
      on_page = sym (put ∙ ap (λ bytes. bytes ++ line_text title_words) none);
      failed = tt;
      steady = omega arith;
    }

-- a text was told whose page was written last
told_whole : (given : Option (List ℕ)) (faults : ℕ) (text : List ℕ) (t : Teller) (h : HasTold given faults text t) → t.page ≡ [] → OnOk t.told (Appends given t.given text)
told_whole given faults text t h clear = by t.told h.on_page
  where
    by : (r : Result (Unit {0}) Failed) → OnOk r (h.rest ≡ t.page) → OnOk r (Appends given t.given text)
    by (Ok x) e =
        subst (λ bytes. Appends given t.given bytes) (sym (append-nil h.written) ∙ ap (λ bytes. h.written ++ bytes) (sym (e ∙ clear)) ∙ h.parts) h.appended
    by (Err x) e = tt

told_part : (given : Option (List ℕ)) (faults : ℕ) (text : List ℕ) (t : Teller) → HasTold given faults text t → OnErr t.told ((k : ℕ) × Appends given t.given (take k text))
told_part given faults text t h = by t.told
  where
    front : h.written ≡ take (length h.written) text
    front = sym (take-append_seam h.written h.rest) ∙ ap (take (length h.written)) h.parts

    by : (r : Result (Unit {0}) Failed) → OnErr r ((k : ℕ) × Appends given t.given (take k text))
    by (Ok x) = tt
    by (Err x) = (length h.written, subst (λ bytes. Appends given t.given bytes) front h.appended)

-- the transcript of a run that told all its steps is legal
pub end_of : (x : Schedule) (old new : Teller) (run : Run) (e : Ending) (first : HasToldFirst x (length x.steps) old new run) → EndsSo run e → IsLegalTranscript x (account_with first.lines e)
end_of x old new run e first ends = (ends x first.lines first.made).whole first.many

-- all was told
pub told_all : (x : Schedule) (given : Option (List ℕ)) (faults : ℕ) (clear page : List ℕ) (stepped left ended done : Teller) (run : Run) (e : Ending) (finals : List Final) (exits : List Turned) → clear ≡ [] → page ≡ clear ++ line_text title_words → (first : HasToldFirst x (length x.steps) (teller given faults page (Ok tt)) stepped run)
    → IsEnd x first.lines e → finals ≡ e.finals.items → exits ≡ e.exits.items → Tells (lines_text (final_lines 0 finals)) stepped left → Tells (lines_text (exit_lines exits)) left ended → Tells (line_text end_words) ended done → done.page ≡ []
    → IsToldOf x given done.given faults done.faults done.told
told_all x given faults clear page stepped left ended done run e finals exits none put first end fs xs told_finals told_exits told_end empty =
    let account = account_with first.lines e in
    let steps = lines_text (step_lines 0 first.lines) in
    let cells = lines_text (final_lines 0 finals) in
    let turns = lines_text (exit_lines exits) in
    let title = line_text title_words in
    let text = (((title ++ steps) ++ cells) ++ turns) ++ line_text end_words in
    let all : HasTold given faults text done =
    told_end given faults _ (told_exits given faults _ (told_finals given faults _ (first.tells given faults title (titled given faults clear page none put)))) in
    let same : text ≡ transcript_text account =
    transcript_printed title (title ++ steps) ((title ++ steps) ++ cells) (((title ++ steps) ++ cells) ++ turns) text (step_lines 0 first.lines) (final_lines 0 finals) (exit_lines exits) refl refl refl refl refl ∙ rw (fs, xs) refl in
    record {
      account = account;
      legal = end.whole first.many;
      whole = subst (λ bytes. OnOk done.told (Appends given done.given bytes)) same (told_whole given faults text done all empty);
      part = subst (λ bytes. OnErr done.told ((k : ℕ) × Appends given done.given (take k bytes))) same (told_part given faults text done all);
      failed = all.failed;
      steady = all.steady;
    }
