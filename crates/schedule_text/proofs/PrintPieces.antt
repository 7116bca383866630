-- Pieces that are put on a page.
use Rattle.std.specs.Prelude.{ℕ, List, [], ◌∷◌, ◌++◌, ◌≡◌}
use Rattle.std.proofs.Common.{ap, sym, ◌∙◌, append_assoc}
use Rattle.std.proofs.lemmas.Grind.{flat_map-append}
use Rattle.schedule_text.specs.Lines.{Word, line_text, lines_text}
use Rattle.schedule_text.specs.TranscriptText.{end_words, title_words}

-- a piece was put, which is equal to the one that is wanted
pub put-as : (old new piece wanted : List ℕ) → new ≡ old ++ piece → wanted ≡ piece → new ≡ old ++ wanted
put-as old new piece wanted h e = h ∙ ap (λ bytes. old ++ bytes) (sym e)

-- what was put of a thing is what is put of one that is equal to it
pub put-same : {X : Type 0} (f : X → List ℕ) (old new : List ℕ) (x y : X) → new ≡ old ++ f x → x ≡ y → new ≡ old ++ f y
put-same f old new x y h e = h ∙ ap (λ z. old ++ f z) e

-- two pieces, one after the other
pub put-two : (old first new a b : List ℕ) → first ≡ old ++ a → new ≡ first ++ b → new ≡ old ++ (a ++ b)
put-two old first new a b g h = h ∙ ap (λ bytes. bytes ++ b) g ∙ append_assoc old a b

-- four pieces
pub put-four : (old x y z new a b c d : List ℕ) → x ≡ old ++ a → y ≡ x ++ b → z ≡ y ++ c → new ≡ z ++ d → new ≡ old ++ (a ++ (b ++ (c ++ d)))
put-four old x y z new a b c d f g h i =
    put-two old x new a (b ++ (c ++ d)) f (put-two x y new b (c ++ d) g (put-two y z new c d h i))

-- the lines of a transcript, put in their order
pub transcript_printed : (first second third fourth result : List ℕ) (steps finals exits : List (List Word)) → first ≡ line_text title_words → second ≡ first ++ lines_text steps → third ≡ second ++ lines_text finals → fourth ≡ third ++ lines_text exits → result ≡ fourth ++ line_text end_words → result ≡ lines_text (title_words ∷ (steps ++ (finals ++ (exits ++ (end_words ∷ [])))))
transcript_printed first second third fourth result steps finals exits titled stepped left ended end =
    let rest = lines_text steps ++ (lines_text finals ++ (lines_text exits ++ line_text end_words)) in
    let parts : lines_text (steps ++ (finals ++ (exits ++ (end_words ∷ [])))) ≡ rest =
    flat_map-append line_text steps (finals ++ (exits ++ (end_words ∷ [])))
    ∙ ap (λ (x : List ℕ). lines_text steps ++ x)
    (flat_map-append line_text finals (exits ++ (end_words ∷ []))
    ∙ ap (λ (x : List ℕ). lines_text finals ++ x) (flat_map-append line_text exits (end_words ∷ []))) in
    put-four first second third fourth result (lines_text steps) (lines_text finals) (lines_text exits) (line_text end_words) stepped left ended end
    ∙ ap (λ (x : List ℕ). x ++ rest) titled ∙ ap (λ (x : List ℕ). line_text title_words ++ x) (sym parts)
