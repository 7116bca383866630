-- A word that is read is the one that stands at the front.
use Rattle.std.proofs.Common.{◌≡◌, ◌≢◌, ℕ, Bool, true, false, cond, eqb, List, [], ◌∷◌, ◌++◌, Option, Some, None, refl, subst, ap, ◌∙◌, ◌⊎◌, inl, inr}
use denote.Ref.{Bor}
use Rattle.std.specs.Option.{MatchOption}
use Rattle.std.proofs.lemmas.Bool.{eqb-true, eq-eqb}
use Rattle.std.proofs.lemmas.Option.{some_pair_parts}
use Rattle.schedule_text.specs.Lines.{Word}
use Rattle.std.specs.List.{AllByRecursion}
use Rattle.schedule_text.specs.ReadFields.{Gives, bytes_after, ◌>>=◌}
use Rattle.schedule_text.specs.ReadSteps.{word_else, first_word}

-- which way a test went
pub went : {A : Type 0} (b : Bool) (x y z : A) → cond b x y ≡ z → ((b ≡ true) × (x ≡ z)) ⊎ ((b ≡ false) × (y ≡ z))
went true x y z e = inl (refl, e)
went false x y z e = inr (refl, e)

-- the value of a step that found one
pub bind_some : {A B : Type 0} (o : Option A) (f : A → Option B) (y : B) → (o >>= f) ≡ Some y → (x : A) × (o ≡ Some x) × (f x ≡ Some y)
bind_some (Some x) f y e = (x, refl, e)
bind_some None f y e = absurd cc

-- what holds of what was found holds of the answer
pub carry : {A : Type 0} (P : A → List ℕ → Type 0) (x y : A) (m n : List ℕ) → ◌≡◌ {A = Option (A × List ℕ)} (Some (x, m)) (Some (y, n)) → P x m → P y n
carry P x y m n e h =
    let q = some_pair_parts x y m n e in
    subst (λ (r : List ℕ). P y r) q.1 (subst (λ (z : _). P z m) q.0 h)

-- a test that let a value through
pub chosen : {A : Type 0} (b : Bool) (x : Option A) (y : A) → cond b x None ≡ Some y → (b ≡ true) × (x ≡ Some y)
chosen true x y e = (refl, e)
chosen false x y e = absurd cc

-- a test that stopped none
pub unchosen : {A : Type 0} (b : Bool) (x y : A) → cond b None (Some x) ≡ Some y → (b ≡ false) × (◌≡◌ {A = Option A} (Some x) (Some y))
unchosen false x y e = (refl, e)
unchosen true x y e = absurd cc

pub word_takes : (word : Word) (bytes rest : List ℕ) → bytes_after word bytes ≡ Some rest → bytes ≡ word ++ rest
unfolding bytes_after
word_takes [] bytes rest e = cc
word_takes (c ∷ word) [] rest e = absurd cc
word_takes (c ∷ word) (b ∷ bytes) rest e =
    let p = chosen (eqb b c) (bytes_after word bytes) rest e in
    let h = eqb-true b c p.0 in
    let t = word_takes word bytes rest p.1 in
    cc

pub word_again : (word : Word) (rest : List ℕ) → bytes_after word (word ++ rest) ≡ Some rest
unfolding bytes_after
word_again [] rest = refl
word_again (c ∷ word) rest = rw (eq-eqb c c refl) (word_again word rest)

absent : (word : Word) (bytes : List ℕ) (o : Option (List ℕ)) → bytes_after word bytes ≡ o → ((rest : List ℕ) → bytes ≢ word ++ rest) → o ≡ None
absent word bytes None e none = refl
absent word bytes (Some rest) e none = absurd (none rest (word_takes word bytes rest e))

-- what `strip_prefix` answers
pub strip_gives : (bytes word : List ℕ) (r : Option (Bor (List ℕ))) → MatchOption r ((rest : List ℕ) → bytes ≢ word ++ rest) (λ x. bytes ≡ word ++ x.now) → Gives (λ rest. rest.now) r (bytes_after word bytes)
strip_gives bytes word None h = absent word bytes (bytes_after word bytes) refl h
strip_gives bytes word (Some x) h = rw h (word_again word x.now)

-- each row of a table has the text of what it stands for
abbrev pub IsTable : {A : Type 0} → (A → List ℕ) → List (Word × A) → Type 0
IsTable text rows = AllByRecursion (λ row. row.0 ≡ text row.1) rows

-- the word that was found is that of what it stands for
pub row_takes : {A : Type 0} (text : A → List ℕ) (rows : List (Word × A)) (bytes : List ℕ) (x : A) (rest : List ℕ) → IsTable text rows → first_word rows bytes ≡ Some (x, rest) → bytes ≡ text x ++ rest
row_takes text [] bytes x rest names e = absurd cc
row_takes text (row ∷ rows) bytes x rest names e = by (bytes_after row.0 bytes) refl e (λ g. row_takes text rows bytes x rest names.1 g)
  where
    by : (o : Option (List ℕ)) → bytes_after row.0 bytes ≡ o → word_else o row.1 (first_word rows bytes) ≡ Some (x, rest) → (first_word rows bytes ≡ Some (x, rest) → bytes ≡ text x ++ rest) → bytes ≡ text x ++ rest
    by None f g other = other g
    by (Some after) f g other =
        carry (λ (y : _) (rest : List ℕ). bytes ≡ text y ++ rest) row.1 x after rest g
        (word_takes row.0 bytes after f ∙ ap (λ (w : List ℕ). w ++ after) names.0)
