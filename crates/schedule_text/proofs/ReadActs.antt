-- An act that is read is spelled so, and what spells an act is read as that one.
use Rattle.std.proofs.Common.{◌≡◌, ℕ, ◌^◌, ◌<◌, Bool, true, false, cond, eqb, List, [], ◌∷◌, ◌++◌, Option, Some, None, refl, sym, ap, ◌∙◌, append_assoc, arith}
use Rattle.std.specs.Prelude.{codes}
use Rattle.std.specs.Fmt.{decimal}
use Rattle.lazy_cells.specs.declared.call.Call.{Call}
use Rattle.lazy_cells.specs.declared.call.Call.TheVariants as call
use Rattle.schedule_rules.specs.declared.step.Act.{Act}
use Rattle.schedule_rules.specs.declared.step.Act.TheVariants as act
use Rattle.schedule_text.specs.Lines.{Word, line_rest}
use Rattle.schedule_text.specs.ScheduleText.{call_name, left_words, outcome_word, ValueFits, ActFits}
use Rattle.schedule_text.specs.ReadFields.{Field, ◌>>=◌, bytes_after, number_at, name_at}
use Rattle.schedule_text.specs.ReadSteps.{act_text, last_number_at, last_name_at, call_at, plain_calls, try_calls, fast_calls, phase_calls, first_word, call_else, called_at, called_or_release_at, called_or_finished_at, left_value_at, left_none_at, left_else, left_at, fine_at, release_at, made_failed_at, value_at, made_else, look_at, set_at, downgrade_at, clone_at, again_at, made_at, finish_failed_at, finished_else, finished_at, outcome_else, outcome_at, get_mut_at, try_get_mut_at, called_or_get_mut_at, called_or_try_get_mut_at, exit_at, act_at}
use Rattle.schedule_text.proofs.ReadWords.{bind_some, carry, word_takes, IsTable, row_takes}
use Rattle.schedule_text.proofs.ReadNumbers.{number_takes, number_again, name_takes, name_again}

-- ---- a number that ends a line

-- the digits of a number, and a line feed
abbrev ended : ℕ → List ℕ
ended n = decimal n ++ (10 ∷ [])

ended_is : (bytes after rest : List ℕ) (n : ℕ) → bytes ≡ decimal n ++ after → after ≡ codes "\n" ++ rest → bytes ≡ ended n ++ rest
ended_is bytes after rest n e f = e ∙ ap (λ (x : List ℕ). decimal n ++ x) f ∙ sym (append_assoc (decimal n) (10 ∷ []) rest)

last_number_takes : (bytes : List ℕ) (n : ℕ) (rest : List ℕ) → last_number_at bytes ≡ Some (n, rest) → (bytes ≡ ended n ++ rest) × (n < 2 ^ 64)
unfolding last_number_at
last_number_takes bytes n rest e =
    let a = bind_some (number_at bytes) (λ n. bytes_after (codes "\n") n.1 >>= λ rest. Some (n.0, rest)) (n, rest) e in
    let b = bind_some (bytes_after (codes "\n") a.0.1) (λ rest. Some (a.0.0, rest)) (n, rest) a.2 in
    let t = number_takes bytes a.0.0 a.0.1 a.1 in
    let w = word_takes (codes "\n") a.0.1 b.0 b.1 in
    carry (λ (n : ℕ) (rest : List ℕ). (bytes ≡ ended n ++ rest) × (n < 2 ^ 64)) a.0.0 n b.0 rest b.2 (ended_is bytes a.0.1 b.0 a.0.0 t.0 w, t.1)

last_number_again : (n : ℕ) (more : List ℕ) → n < 2 ^ 64 → last_number_at (ended n ++ more) ≡ Some (n, more)
unfolding last_number_at bytes_after
last_number_again n more lt =
    let low : 10 < 48 = omega arith in
    rw (append_assoc (decimal n) (10 ∷ []) more, number_again n 10 more lt low) refl

pub last_name_takes : (bytes : List ℕ) (n : ℕ) (rest : List ℕ) → last_name_at bytes ≡ Some (n, rest) → (bytes ≡ (decimal n ++ (10 ∷ [])) ++ rest) × (n < 2 ^ 32)
unfolding last_name_at
last_name_takes bytes n rest e =
    let a = bind_some (name_at bytes) (λ n. bytes_after (codes "\n") n.1 >>= λ rest. Some (n.0, rest)) (n, rest) e in
    let b = bind_some (bytes_after (codes "\n") a.0.1) (λ rest. Some (a.0.0, rest)) (n, rest) a.2 in
    let t = name_takes bytes a.0.0 a.0.1 a.1 in
    let w = word_takes (codes "\n") a.0.1 b.0 b.1 in
    carry (λ (n : ℕ) (rest : List ℕ). (bytes ≡ ended n ++ rest) × (n < 2 ^ 32)) a.0.0 n b.0 rest b.2 (ended_is bytes a.0.1 b.0 a.0.0 t.0 w, t.1)

pub last_name_again : (n : ℕ) (more : List ℕ) → n < 2 ^ 32 → last_name_at ((decimal n ++ (10 ∷ [])) ++ more) ≡ Some (n, more)
unfolding last_name_at bytes_after
last_name_again n more lt =
    let low : 10 < 48 = omega arith in
    rw (append_assoc (decimal n) (10 ∷ []) more, name_again n 10 more lt low) refl

-- ---- what is read is spelled so

-- what was read from the front
pub record TakesAct (bytes : List ℕ) (a : Act) (rest : List ℕ) : Type 0 where
  pub spelling : bytes ≡ act_text a ++ rest
  pub fits : ActFits a

behind : (word : Word) (bytes start text : List ℕ) → bytes ≡ word ++ start → start ≡ text → bytes ≡ word ++ text
behind word bytes start text e f = e ∙ ap (λ (x : List ℕ). word ++ x) f

abbrev found : (ℕ → Act) → ℕ × List ℕ → Field Act
found make n = Some (make n.0, n.1)

-- a word, and a number below 2^32 that ends the line
named : (word : Word) (make : ℕ → Act) (bytes : List ℕ) (a : Act) (rest : List ℕ)
    → ((n : ℕ) (rest : List ℕ) → n < 2 ^ 32 → bytes ≡ word ++ (ended n ++ rest) → TakesAct bytes (make n) rest)
    → (bytes_after word bytes >>= λ start. last_name_at start >>= found make) ≡ Some (a, rest) → TakesAct bytes a rest
named word make bytes a rest takes e =
    let s = bind_some (bytes_after word bytes) (λ start. last_name_at start >>= found make) (a, rest) e in
    let n = bind_some (last_name_at s.0) (found make) (a, rest) s.2 in
    let w = word_takes word bytes s.0 s.1 in
    let t = last_name_takes s.0 n.0.0 n.0.1 n.1 in
    carry (TakesAct bytes) (make n.0.0) a n.0.1 rest n.2 (takes n.0.0 n.0.1 t.1 (behind word bytes s.0 (ended n.0.0 ++ n.0.1) w t.0))

-- the name of a call, and the space behind it
abbrev call_text : Call → List ℕ
call_text k = call_name k ++ (32 ∷ [])

-- a call, and the number of its cell
called_takes : (rows : List (Word × Call)) (bytes : List ℕ) (k : Call) (start : List ℕ) (a : Act) (rest : List ℕ) → IsTable call_text rows → first_word rows bytes ≡ Some (k, start) → call_at k start ≡ Some (a, rest) → TakesAct bytes a rest
unfolding call_at act_text
called_takes rows bytes k start a rest named f e =
    let n = bind_some (last_name_at start) (found (λ c. act.Call c k)) (a, rest) e in
    let t = last_name_takes start n.0.0 n.0.1 n.1 in
    let word : bytes ≡ call_name k ++ (32 ∷ start) = row_takes call_text rows bytes k start named f ∙ append_assoc (call_name k) (32 ∷ []) start in
    carry (TakesAct bytes) (act.Call n.0.0 k) a n.0.1 rest n.2
    (record { spelling = word ∙ ap (λ (x : List ℕ). call_name k ++ (32 ∷ x)) t.0 ∙ sym (append_assoc (call_name k) (32 ∷ ended n.0.0) n.0.1); fits = t.1 })

call_takes : (rows : List (Word × Call)) (bytes : List ℕ) (a : Act) (rest : List ℕ) → IsTable call_text rows → called_at rows bytes ≡ Some (a, rest) → TakesAct bytes a rest
unfolding called_at
call_takes rows bytes a rest named e =
    let k = bind_some (first_word rows bytes) (λ k. call_at k.0 k.1) (a, rest) e in called_takes rows bytes k.0.0 k.0.1 a rest named k.1 k.2

look_takes : (bytes : List ℕ) (a : Act) (rest : List ℕ) → look_at bytes ≡ Some (a, rest) → TakesAct bytes a rest
unfolding look_at act_text
look_takes bytes a rest e = named (codes "look ") (λ g. act.Look g) bytes a rest (λ n rest lt e. record { spelling = e; fits = lt }) e

release_takes : (bytes : List ℕ) (a : Act) (rest : List ℕ) → release_at bytes ≡ Some (a, rest) → TakesAct bytes a rest
unfolding release_at act_text
release_takes bytes a rest e = named (codes "release ") (λ g. act.Release g) bytes a rest (λ n rest lt e. record { spelling = e; fits = lt }) e

downgrade_takes : (bytes : List ℕ) (a : Act) (rest : List ℕ) → downgrade_at bytes ≡ Some (a, rest) → TakesAct bytes a rest
unfolding downgrade_at act_text
downgrade_takes bytes a rest e = named (codes "downgrade ") (λ g. act.Downgrade g) bytes a rest (λ n rest lt e. record { spelling = e; fits = lt }) e

clone_takes : (bytes : List ℕ) (a : Act) (rest : List ℕ) → clone_at bytes ≡ Some (a, rest) → TakesAct bytes a rest
unfolding clone_at act_text
clone_takes bytes a rest e = named (codes "clone ") (λ g. act.Clone g) bytes a rest (λ n rest lt e. record { spelling = e; fits = lt }) e

-- a call, or else another act
call_or_takes : (rows : List (Word × Call)) (bytes : List ℕ) (o : Field Call) (other : Field Act) (a : Act) (rest : List ℕ) → IsTable call_text rows → first_word rows bytes ≡ o → (other ≡ Some (a, rest) → TakesAct bytes a rest) → call_else o other ≡ Some (a, rest) → TakesAct bytes a rest
call_or_takes rows bytes None other a rest named at takes e = takes e
call_or_takes rows bytes (Some k) other a rest named at takes e = called_takes rows bytes k.0 k.1 a rest named at e

abbrev just : Act → List ℕ → Field Act
just made rest = Some (made, rest)

-- a word alone, which ends the line
alone : (word : Word) (made : Act) (bytes : List ℕ) (a : Act) (rest : List ℕ)
    → ((rest : List ℕ) → bytes ≡ word ++ rest → TakesAct bytes made rest)
    → (bytes_after word bytes >>= just made) ≡ Some (a, rest) → TakesAct bytes a rest
alone word made bytes a rest takes e =
    let s = bind_some (bytes_after word bytes) (just made) (a, rest) e in
    carry (TakesAct bytes) made a s.0 rest s.2 (takes s.0 (word_takes word bytes s.0 s.1))

again_takes : (bytes : List ℕ) (a : Act) (rest : List ℕ) → again_at bytes ≡ Some (a, rest) → TakesAct bytes a rest
unfolding again_at act_text
again_takes bytes a rest e = alone (codes "again\n") act.Again bytes a rest (λ rest e. record { spelling = e; fits = tt }) e

exit_takes : (bytes : List ℕ) (a : Act) (rest : List ℕ) → exit_at bytes ≡ Some (a, rest) → TakesAct bytes a rest
unfolding exit_at act_text
exit_takes bytes a rest e = alone (codes "exit\n") act.Exit bytes a rest (λ rest e. record { spelling = e; fits = tt }) e

-- the text of what a finalizer left, up to the end of its line
abbrev left_text : Option ℕ → List ℕ
left_text left = line_rest (left_words left)

left_takes : (bytes : List ℕ) (left : Option ℕ) (rest : List ℕ) → left_at bytes ≡ Some (left, rest) → (bytes ≡ left_text left ++ rest) × ValueFits left
unfolding left_at left_value_at left_none_at
left_takes bytes left rest e = by (bytes_after (codes " ") bytes) refl e
  where
    by : (o : Option (List ℕ)) → bytes_after (codes " ") bytes ≡ o → left_else o bytes ≡ Some (left, rest) → (bytes ≡ left_text left ++ rest) × ValueFits left
    by None at e =
        let s = bind_some (bytes_after (codes "\n") bytes) (λ rest. Some (None, rest)) (left, rest) e in
        carry (λ (x : Option ℕ) (rest : List ℕ). (bytes ≡ left_text x ++ rest) × ValueFits x) None left s.0 rest s.2 (word_takes (codes "\n") bytes s.0 s.1, tt)
    by (Some start) at e =
        let v = bind_some (last_number_at start) (λ v. Some (Some v.0, v.1)) (left, rest) e in
        let w = word_takes (codes " ") bytes start at in
        let t = last_number_takes start v.0.0 v.0.1 v.1 in
        carry (λ (x : Option ℕ) (rest : List ℕ). (bytes ≡ left_text x ++ rest) × ValueFits x) (Some v.0.0) left v.0.1 rest v.2
        (behind (codes " ") bytes start (ended v.0.0 ++ v.0.1) w t.0, t.1)

abbrev made_of : (Option ℕ → Act) → Option ℕ × List ℕ → Field Act
made_of make left = Some (make left.0, left.1)

-- a word, and what the finalizer left behind it
finish_takes : (word : Word) (make : Option ℕ → Act) (bytes start : List ℕ) (a : Act) (rest : List ℕ)
    → bytes_after word bytes ≡ Some start
    → ((left : Option ℕ) (rest : List ℕ) → ValueFits left → bytes ≡ word ++ (left_text left ++ rest) → TakesAct bytes (make left) rest)
    → (left_at start >>= made_of make) ≡ Some (a, rest) → TakesAct bytes a rest
finish_takes word make bytes start a rest at takes e =
    let l = bind_some (left_at start) (made_of make) (a, rest) e in
    let w = word_takes word bytes start at in
    let t = left_takes start l.0.0 l.0.1 l.1 in
    carry (TakesAct bytes) (make l.0.0) a l.0.1 rest l.2 (takes l.0.0 l.0.1 t.1 (behind word bytes start (left_text l.0.0 ++ l.0.1) w t.0))

finished_takes : (bytes : List ℕ) (a : Act) (rest : List ℕ) → finished_at bytes ≡ Some (a, rest) → TakesAct bytes a rest
unfolding finished_at fine_at finish_failed_at act_text
finished_takes bytes a rest e = by (bytes_after (codes "finished") bytes) refl e
  where
    by : (o : Option (List ℕ)) → bytes_after (codes "finished") bytes ≡ o → finished_else o bytes ≡ Some (a, rest) → TakesAct bytes a rest
    by (Some start) at e = finish_takes (codes "finished") (λ left. act.Finished left) bytes start a rest at (λ left rest fits e. record { spelling = e; fits = fits }) e
    by None at e =
        let s = bind_some (bytes_after (codes "finish_failed") bytes) (λ start. left_at start >>= made_of (λ left. act.FinishFailed left)) (a, rest) e in
        finish_takes (codes "finish_failed") (λ left. act.FinishFailed left) bytes s.0 a rest s.1 (λ left rest fits e. record { spelling = e; fits = fits }) s.2

made_takes : (bytes : List ℕ) (o : Option (List ℕ)) (a : Act) (rest : List ℕ) → bytes_after (codes "made ") bytes ≡ o → made_else o bytes ≡ Some (a, rest) → TakesAct bytes a rest
unfolding value_at made_failed_at act_text
made_takes bytes None a rest at e =
    alone (codes "made_failed\n") act.MadeFailed bytes a rest (λ rest e. record { spelling = e; fits = tt }) e
made_takes bytes (Some start) a rest at e =
    let v = bind_some (last_number_at start) (λ v. Some (act.Made v.0, v.1)) (a, rest) e in
    let w = word_takes (codes "made ") bytes start at in
    let t = last_number_takes start v.0.0 v.0.1 v.1 in
    carry (TakesAct bytes) (act.Made v.0.0) a v.0.1 rest v.2 (record { spelling = behind (codes "made ") bytes start (ended v.0.0 ++ v.0.1) w t.0; fits = t.1 })

-- a piece, a space, and what stands behind that
then_space : (bytes piece after last text rest : List ℕ) → bytes ≡ piece ++ after → after ≡ codes " " ++ last → last ≡ text ++ rest → bytes ≡ (piece ++ (32 ∷ text)) ++ rest
then_space bytes piece after last text rest e f h =
    e ∙ ap (λ (x : List ℕ). piece ++ x) (behind (codes " ") after last (text ++ rest) f h) ∙ sym (append_assoc piece (32 ∷ text) rest)

-- a word, a number below 2^32, a space, and a number below 2^64 that ends the line
valued : (word : Word) (make : ℕ → ℕ → Act) (bytes : List ℕ) (a : Act) (rest : List ℕ)
    → ((n v : ℕ) (rest : List ℕ) → (n < 2 ^ 32) × (v < 2 ^ 64) → bytes ≡ word ++ ((decimal n ++ (32 ∷ ended v)) ++ rest) → TakesAct bytes (make n v) rest)
    → (bytes_after word bytes >>= λ start. name_at start >>= λ n. bytes_after (codes " ") n.1 >>= λ last. last_number_at last >>= found (make n.0)) ≡ Some (a, rest) → TakesAct bytes a rest
valued word make bytes a rest takes e =
    let s = bind_some (bytes_after word bytes) (λ start. name_at start >>= λ n. bytes_after (codes " ") n.1 >>= λ last. last_number_at last >>= found (make n.0)) (a, rest) e in
    let n = bind_some (name_at s.0) (λ n. bytes_after (codes " ") n.1 >>= λ last. last_number_at last >>= found (make n.0)) (a, rest) s.2 in
    let m = bind_some (bytes_after (codes " ") n.0.1) (λ last. last_number_at last >>= found (make n.0.0)) (a, rest) n.2 in
    let v = bind_some (last_number_at m.0) (found (make n.0.0)) (a, rest) m.2 in
    let first = word_takes word bytes s.0 s.1 in
    let name = name_takes s.0 n.0.0 n.0.1 n.1 in
    let space = word_takes (codes " ") n.0.1 m.0 m.1 in
    let value = last_number_takes m.0 v.0.0 v.0.1 v.1 in
    let line = then_space s.0 (decimal n.0.0) n.0.1 m.0 (ended v.0.0) v.0.1 name.0 space value.0 in
    carry (TakesAct bytes) (make n.0.0 v.0.0) a v.0.1 rest v.2
    (takes n.0.0 v.0.0 v.0.1 (name.1, value.1) (behind word bytes s.0 ((decimal n.0.0 ++ (32 ∷ ended v.0.0)) ++ v.0.1) first line))

set_takes : (bytes : List ℕ) (a : Act) (rest : List ℕ) → set_at bytes ≡ Some (a, rest) → TakesAct bytes a rest
unfolding set_at act_text
set_takes bytes a rest e = valued (codes "set ") (λ g v. act.Set g v) bytes a rest (λ n v rest fits e. record { spelling = e; fits = fits }) e

try_get_mut_takes : (bytes : List ℕ) (a : Act) (rest : List ℕ) → try_get_mut_at bytes ≡ Some (a, rest) → TakesAct bytes a rest
unfolding try_get_mut_at act_text
try_get_mut_takes bytes a rest e = valued (codes "try_get_mut ") (λ c v. act.TryGetMut c v) bytes a rest (λ n v rest fits e. record { spelling = e; fits = fits }) e

outcome_takes : (bytes : List ℕ) (made : Option ℕ) (rest : List ℕ) → outcome_at bytes ≡ Some (made, rest) → (bytes ≡ outcome_word made ++ rest) × ValueFits made
unfolding outcome_at
outcome_takes bytes made rest e = by (number_at bytes) refl e
  where
    by : (o : Field ℕ) → number_at bytes ≡ o → outcome_else o bytes ≡ Some (made, rest) → (bytes ≡ outcome_word made ++ rest) × ValueFits made
    by (Some v) at e = carry (λ (made : Option ℕ) (rest : List ℕ). (bytes ≡ outcome_word made ++ rest) × ValueFits made) (Some v.0) made v.1 rest e (number_takes bytes v.0 v.1 at)
    by None at e =
        let s = bind_some (bytes_after (codes "fail") bytes) (λ rest. Some (None, rest)) (made, rest) e in
        carry (λ (made : Option ℕ) (rest : List ℕ). (bytes ≡ outcome_word made ++ rest) × ValueFits made) None made s.0 rest s.2 (word_takes (codes "fail") bytes s.0 s.1, tt)

get_mut_takes : (bytes : List ℕ) (a : Act) (rest : List ℕ) → get_mut_at bytes ≡ Some (a, rest) → TakesAct bytes a rest
unfolding get_mut_at act_text
get_mut_takes bytes a rest e =
    let s = bind_some (bytes_after (codes "get_mut ") bytes) (λ start. name_at start >>= λ c. bytes_after (codes " ") c.1 >>= λ middle. outcome_at middle >>= λ made. bytes_after (codes " ") made.1 >>= λ last. last_number_at last >>= found (act.GetMut c.0 made.0)) (a, rest) e in
    let c = bind_some (name_at s.0) (λ c. bytes_after (codes " ") c.1 >>= λ middle. outcome_at middle >>= λ made. bytes_after (codes " ") made.1 >>= λ last. last_number_at last >>= found (act.GetMut c.0 made.0)) (a, rest) s.2 in
    let m = bind_some (bytes_after (codes " ") c.0.1) (λ middle. outcome_at middle >>= λ made. bytes_after (codes " ") made.1 >>= λ last. last_number_at last >>= found (act.GetMut c.0.0 made.0)) (a, rest) c.2 in
    let o = bind_some (outcome_at m.0) (λ made. bytes_after (codes " ") made.1 >>= λ last. last_number_at last >>= found (act.GetMut c.0.0 made.0)) (a, rest) m.2 in
    let l = bind_some (bytes_after (codes " ") o.0.1) (λ last. last_number_at last >>= found (act.GetMut c.0.0 o.0.0)) (a, rest) o.2 in
    let v = bind_some (last_number_at l.0) (found (act.GetMut c.0.0 o.0.0)) (a, rest) l.2 in
    let word = word_takes (codes "get_mut ") bytes s.0 s.1 in
    let cell = name_takes s.0 c.0.0 c.0.1 c.1 in
    let made = outcome_takes m.0 o.0.0 o.0.1 o.1 in
    let left = last_number_takes l.0 v.0.0 v.0.1 v.1 in
    let tail = then_space m.0 (outcome_word o.0.0) o.0.1 l.0 (ended v.0.0) v.0.1 made.0 (word_takes (codes " ") o.0.1 l.0 l.1) left.0 in
    let line = then_space s.0 (decimal c.0.0) c.0.1 m.0 (outcome_word o.0.0 ++ (32 ∷ ended v.0.0)) v.0.1 cell.0 (word_takes (codes " ") c.0.1 m.0 m.1) tail in
    carry (TakesAct bytes) (act.GetMut c.0.0 o.0.0 v.0.0) a v.0.1 rest v.2
    (record { spelling = behind (codes "get_mut ") bytes s.0 ((decimal c.0.0 ++ (32 ∷ (outcome_word o.0.0 ++ (32 ∷ ended v.0.0)))) ++ v.0.1) word line; fits = (cell.1, made.1, left.1) })

-- one of two readings
pick : {A : Type 0} (b : Bool) (x y : Option A) (z : A) (P : Type 0) → cond b x y ≡ Some z → (x ≡ Some z → P) → (y ≡ Some z → P) → P
pick true x y z P e f g = f e
pick false x y z P e f g = g e

pub act_takes : (bytes : List ℕ) (a : Act) (rest : List ℕ) → act_at bytes ≡ Some (a, rest) → TakesAct bytes a rest
unfolding act_at called_or_release_at called_or_finished_at called_or_get_mut_at called_or_try_get_mut_at made_at
act_takes [] a rest e = absurd cc
act_takes (b ∷ bs) a rest e =
    let bytes : List ℕ = b ∷ bs in
    let P : Type 0 = TakesAct bytes a rest in
    pick (eqb b 114) (called_or_release_at bytes) _ (a, rest) P e (call_or_takes plain_calls bytes (first_word plain_calls bytes) (release_at bytes) a rest (refl, (refl, (refl, (refl, tt)))) refl (release_takes bytes a rest)) (λ e.
    pick (eqb b 97) (again_at bytes) _ (a, rest) P e (again_takes bytes a rest) (λ e.
    pick (eqb b 109) (made_at bytes) _ (a, rest) P e (made_takes bytes (bytes_after (codes "made ") bytes) a rest refl) (λ e.
    pick (eqb b 108) (look_at bytes) _ (a, rest) P e (look_takes bytes a rest) (λ e.
    pick (eqb b 115) (set_at bytes) _ (a, rest) P e (set_takes bytes a rest) (λ e.
    pick (eqb b 100) (downgrade_at bytes) _ (a, rest) P e (downgrade_takes bytes a rest) (λ e.
    pick (eqb b 99) (clone_at bytes) _ (a, rest) P e (clone_takes bytes a rest) (λ e.
    pick (eqb b 101) (exit_at bytes) _ (a, rest) P e (exit_takes bytes a rest) (λ e.
    pick (eqb b 102) (called_or_finished_at bytes) _ (a, rest) P e (call_or_takes fast_calls bytes (first_word fast_calls bytes) (finished_at bytes) a rest (refl, (refl, (refl, (refl, tt)))) refl (finished_takes bytes a rest)) (λ e.
    pick (eqb b 103) (called_or_get_mut_at bytes) _ (a, rest) P e (call_or_takes plain_calls bytes (first_word plain_calls bytes) (get_mut_at bytes) a rest (refl, (refl, (refl, (refl, tt)))) refl (get_mut_takes bytes a rest)) (λ e.
    pick (eqb b 116) (called_or_try_get_mut_at bytes) _ (a, rest) P e (call_or_takes try_calls bytes (first_word try_calls bytes) (try_get_mut_at bytes) a rest (refl, (refl, (refl, tt))) refl (try_get_mut_takes bytes a rest)) (λ e.
    pick (eqb b 112) (called_at phase_calls bytes) _ (a, rest) P e (call_takes phase_calls bytes a rest (refl, (refl, (refl, (refl, (refl, tt))))))
    (call_takes plain_calls bytes a rest (refl, (refl, (refl, (refl, tt))))))))))))))))

-- ---- what is spelled is read

outcome_again : (made : Option ℕ) (more : List ℕ) → ValueFits made → outcome_at (outcome_word made ++ (32 ∷ more)) ≡ Some (made, 32 ∷ more)
unfolding outcome_at number_at bytes_after
outcome_again None more fits = refl
outcome_again (Some v) more fits = let low : 32 < 48 = omega arith in rw (number_again v 32 more fits low) refl

pub act_again : (a : Act) (more : List ℕ) → ActFits a → act_at (act_text a ++ more) ≡ Some (a, more)
unfolding act_at act_text bytes_after called_at call_at called_or_release_at release_at again_at made_at value_at made_failed_at look_at set_at downgrade_at clone_at called_or_finished_at finished_at fine_at finish_failed_at left_at left_value_at left_none_at exit_at called_or_get_mut_at get_mut_at called_or_try_get_mut_at try_get_mut_at
act_again (act.Call c call.Phase) more fits = rw (last_name_again c more fits) refl
act_again (act.Call c call.Read) more fits = rw (last_name_again c more fits) refl
act_again (act.Call c call.Write) more fits = rw (last_name_again c more fits) refl
act_again (act.Call c call.TryRead) more fits = rw (last_name_again c more fits) refl
act_again (act.Call c call.TryWrite) more fits = rw (last_name_again c more fits) refl
act_again (act.Call c call.FastRead) more fits = rw (last_name_again c more fits) refl
act_again (act.Call c call.FastWrite) more fits = rw (last_name_again c more fits) refl
act_again (act.Call c call.FastTryRead) more fits = rw (last_name_again c more fits) refl
act_again (act.Call c call.FastTryWrite) more fits = rw (last_name_again c more fits) refl
act_again (act.Call c call.Get) more fits = rw (last_name_again c more fits) refl
act_again (act.Call c call.TryGet) more fits = rw (last_name_again c more fits) refl
act_again (act.Call c call.Init) more fits = rw (last_name_again c more fits) refl
act_again (act.Call c call.PrimedRead) more fits = rw (last_name_again c more fits) refl
act_again (act.Call c call.PrimedWrite) more fits = rw (last_name_again c more fits) refl
act_again (act.Call c call.PrimedReadNonInitializing) more fits = rw (last_name_again c more fits) refl
act_again (act.Call c call.PrimedWriteNonInitializing) more fits = rw (last_name_again c more fits) refl
act_again act.Again more fits = refl
act_again (act.Made v) more fits = rw (last_number_again v more fits) refl
act_again act.MadeFailed more fits = refl
act_again (act.Look g) more fits = rw (last_name_again g more fits) refl
act_again (act.Set g v) more fits =
    let value : List ℕ = decimal v ++ (10 ∷ []) in
    let low : 32 < 48 = omega arith in
    rw (append_assoc (decimal g) (32 ∷ value) more, name_again g 32 (value ++ more) fits.0 low, last_number_again v more fits.1) refl
act_again (act.Release g) more fits = rw (last_name_again g more fits) refl
act_again (act.Downgrade g) more fits = rw (last_name_again g more fits) refl
act_again (act.Clone g) more fits = rw (last_name_again g more fits) refl
act_again (act.Finished None) more fits = refl
act_again (act.Finished (Some v)) more fits = rw (last_number_again v more fits) refl
act_again (act.FinishFailed None) more fits = refl
act_again (act.FinishFailed (Some v)) more fits = rw (last_number_again v more fits) refl
act_again (act.GetMut c made left) more fits =
    let value : List ℕ = decimal left ++ (10 ∷ []) in
    let tail : List ℕ = outcome_word made ++ (32 ∷ value) in
    let low : 32 < 48 = omega arith in
    rw (append_assoc (decimal c) (32 ∷ tail) more, name_again c 32 (tail ++ more) fits.0 low, append_assoc (outcome_word made) (32 ∷ value) more, outcome_again made (value ++ more) fits.1, last_number_again left more fits.2) refl
act_again (act.TryGetMut c left) more fits =
    let value : List ℕ = decimal left ++ (10 ∷ []) in
    let low : 32 < 48 = omega arith in
    rw (append_assoc (decimal c) (32 ∷ value) more, name_again c 32 (value ++ more) fits.0 low, last_number_again left more fits.1) refl
act_again act.Exit more fits = refl
